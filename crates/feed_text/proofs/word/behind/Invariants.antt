use Rattle.std.proofs.Common.{◌≡◌, drop}
use Rattle.feed_text.specs.Reading.{behind}
use Rattle.feed_text.proofs.word.behind.Given as goal

abbrev pub invariant-loop-expected : goal.invariant-loop-expected
invariant-loop-expected l = behind (drop l.expected-index l.word) l.rest ≡ behind l.word l.text
