use Rattle.std.proofs.Common.{◌≡◌, map, take}
use Rattle.column_codec.specs.Column.{int_of}
use Rattle.column_codec.proofs.column.numbers_of.Given as goal

abbrev pub invariant-loop-value : goal.invariant-loop-value
invariant-loop-value l = map int_of l.numbers.items ≡ take l.value-index l.values
