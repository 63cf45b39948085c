use Rattle.std.proofs.Common.{◌≡◌, drop}
use Rattle.query_text.specs.Words.{strip}
use Rattle.query_text.proofs.word.after.Given as goal

abbrev pub invariant-loop-expected : goal.invariant-loop-expected
invariant-loop-expected l = strip (drop l.expected-index l.word) l.rest ≡ strip l.word l.bytes
