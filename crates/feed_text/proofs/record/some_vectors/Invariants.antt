use Rattle.std.proofs.Common.{◌≡◌, ◌-◌, codes}
use Rattle.feed_text.specs.Reading.{more_at, list_at, vector_at}
use Rattle.feed_text.proofs.Many.{with_front}
use Rattle.feed_text.proofs.record.some_vectors.Given as goal

abbrev pub invariant-loop : goal.invariant-loop
invariant-loop l = with_front l.vectors.items (more_at vector_at (codes "; ") (254 - l.counter) l.rest) ≡ list_at vector_at (codes "; ") 254 l.text
