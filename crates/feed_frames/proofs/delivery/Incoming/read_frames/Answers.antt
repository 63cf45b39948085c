use Rattle.std.proofs.Common.{◌≡◌, [], ◌∷◌, ◌++◌, ◌+◌, ◌≤◌, Ok, arith, sym, subst, ap, ◌∙◌}
use Rattle.adg_model.specs.Feed.{IsItem, item_bytes, items_bytes, most_payload}
use Rattle.feed_frames.specs.Intake.{Took}
use Rattle.feed_frames.specs.Counts.{standing_of}
use Rattle.feed_frames.proofs.Frames.{length_end, length_stop}
use Rattle.feed_frames.proofs.IntakeLaws.{took_both}
use Rattle.feed_frames.proofs.Items.{items_push, bytes_push}
use Rattle.feed_frames.proofs.delivery.Incoming.read_frames.Goals as goal

pub loop-kind-preserved : goal.loop-kind-preserved
loop-kind-preserved g c =
    let so_far = c.loop-kind.invariant.read in
    let frame = rw c.in-Ok-Item.field-0-is at c.in-Ok-Item.ensures.frame so_far.0 so_far.1 in
    let st = standing_of c.args.self.now.counts.standing in
    let follows : IsItem st so_far.0 frame.0 = rw (← c.loop-kind.invariant.standing) frame.2 in
    let left = g.R.Source.left in
    let took : Took (left c.args.source.now) (left c.read_frame.new.source) c.args.taken.now c.read_frame.new.taken (items_bytes so_far.0 ++ item_bytes frame.0) =
    took_both _ _ _ _ _ _ (items_bytes so_far.0) (item_bytes frame.0) so_far.3 frame.1 in
    let counted = c.in-Ok-Item.ensures.counted (ap Ok c.in-Ok-Item.field-0-is) in
    record {
      standing = c.in-Ok-Item.ensures.standing ∙ c.loop-kind.invariant.standing;
      counted = omega (arith, counted, c.loop-kind.invariant.counted);
      cause = c.in-Ok-Item.ensures.cause ∙ c.loop-kind.invariant.cause;
      read = (
        so_far.0 ++ frame.0 ∷ [],
        frame.3,
        items_push st [] so_far.0 frame.0 so_far.2 follows,
        subst (Took (left c.args.source.now) (left c.read_frame.new.source) c.args.taken.now c.read_frame.new.taken) (sym (bytes_push so_far.0 frame.0)) took,
      );
    }

pub returns-in-Ok-End-clause-counted : goal.returns-in-Ok-End-clause-counted
returns-in-Ok-End-clause-counted g c = λ _.
    let so_far = c.loop-kind.invariant.read in
    let frame = rw c.in-Ok-End.field-0-is at c.in-Ok-End.ensures.frame so_far.0 so_far.1 in
    let within : c.loop-kind.self.counts.payload ≤ most_payload = c.loop-kind.self.counts.within.0 in
    let more : c.read_frame.new.taken ≡ c.loop-kind.taken + 5 = frame.0.counted ∙ ap (λ n. c.loop-kind.taken + n) length_end in
    omega (arith, within, more, c.loop-kind.invariant.counted)

pub returns-in-Ok-Stop-clause-counted : goal.returns-in-Ok-Stop-clause-counted
returns-in-Ok-Stop-clause-counted g c = λ _.
    let so_far = c.loop-kind.invariant.read in
    let frame = rw c.in-Ok-Stop.field-0-is at c.in-Ok-Stop.ensures.frame so_far.0 so_far.1 in
    let within : c.loop-kind.self.counts.payload ≤ most_payload = c.loop-kind.self.counts.within.0 in
    let more : c.read_frame.new.taken ≡ c.loop-kind.taken + 5 = frame.0.counted ∙ ap (λ n. c.loop-kind.taken + n) length_stop in
    omega (arith, within, more, c.loop-kind.invariant.counted)
