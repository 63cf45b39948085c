use Rattle.std.proofs.Common.{◌≡◌, drop, take}
use Rattle.feed_text.specs.Reading.{cut}
use Rattle.feed_text.proofs.Cuts.{onto}
use Rattle.feed_text.proofs.word.cut.Given as goal

abbrev pub invariant-loop-at : goal.invariant-loop-at
invariant-loop-at l = onto (take l.at l.text) (cut l.separator (drop l.at l.text)) ≡ cut l.separator l.text
