use Rattle.std.proofs.Common.{◌≡◌, take}
use Rattle.std.specs.List.{flat_map, AllByRecursion}
use Rattle.adg_model.specs.Records.{record_bytes, IsRecord}
use Rattle.feed_text.proofs.bytes.records_bytes.Given as goal

abbrev pub invariant-loop-redo : goal.invariant-loop-redo
invariant-loop-redo l = record {
  written : l.bytes.items ≡ flat_map record_bytes (take l.redo-index l.records);
  good : AllByRecursion IsRecord (take l.redo-index l.records);
}
