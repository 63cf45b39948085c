use Rattle.std.proofs.Common.{length}
use Rattle.feed_text.specs.Shown.{ShowsFront}
use Rattle.feed_text.proofs.show.put_frames.Given as goal

abbrev pub invariant-loop-frame : goal.invariant-loop-frame
invariant-loop-frame l = ShowsFront l.initial.out.items l.out.items l.bytes l.rest

abbrev pub decreases-loop-frame : goal.decreases-loop-frame
decreases-loop-frame l = length l.rest
