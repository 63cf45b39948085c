use Rattle.std.proofs.Common.{◌≡◌, ◌++◌, take, codes}
use Rattle.std.specs.List.{flat_map}
use Rattle.feed_text.specs.Words.{record_text}
use Rattle.feed_text.proofs.text.put_other_records.Given as goal

abbrev pub invariant-loop-redo : goal.invariant-loop-redo
invariant-loop-redo l = l.out.items ≡ l.initial.out.items ++ flat_map (λ s. codes " | @" ++ record_text s) (take l.redo-index l.records)
