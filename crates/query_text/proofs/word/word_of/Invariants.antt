use Rattle.std.proofs.Common.{◌≡◌, drop, length}
use Rattle.query_text.proofs.Words.{found}
use Rattle.query_text.proofs.word.word_of.Given as goal

abbrev pub invariant-loop-word : goal.invariant-loop-word
invariant-loop-word g l = found (λ w. w.now) (drop l.word-index l.words) l.bytes l.left ≡ found (λ w. w.now) l.words l.bytes (length l.bytes)
