use Rattle.std.proofs.Common.{◌≡◌, ◌++◌}
use Rattle.std.specs.Prelude.{replicate}
use Rattle.feed_text.proofs.hex.put_times.Given as goal

abbrev pub invariant-loop : goal.invariant-loop
invariant-loop l = l.bytes.items ≡ l.initial.bytes.items ++ replicate l.counter l.byte
