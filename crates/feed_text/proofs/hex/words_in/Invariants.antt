use Rattle.std.proofs.Common.{◌≡◌, length}
use Rattle.feed_text.specs.LineReading.{runs_of, split}
use Rattle.feed_text.proofs.Cuts.{with_bytes}
use Rattle.feed_text.proofs.hex.words_in.Given as goal

abbrev pub invariant-loop-bytes : goal.invariant-loop-bytes
invariant-loop-bytes l = with_bytes l.bytes.items (runs_of (split 32 l.rest)) ≡ runs_of (split 32 l.text)

abbrev pub decreases-loop-bytes : goal.decreases-loop-bytes
decreases-loop-bytes l = length l.rest
