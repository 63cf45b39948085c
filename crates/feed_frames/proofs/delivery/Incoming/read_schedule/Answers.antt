use Rattle.std.proofs.Common.{◌≡◌, [], None, arith, sym, ◌∙◌, refl}
use Rattle.std.proofs.lemmas.Result.{err_from_is_err_and}
use Rattle.adg_model.specs.Feed.{length_fault, schedule_tag, piece_of, command_of}
use Rattle.adg_model.specs.Feed.Item.{Schedules}
use Rattle.feed_frames.specs.Counts.{standing_of}
use Rattle.feed_frames.proofs.Items.{schedule_item, schedule_good, gives_none, gives_bytes}
use Rattle.feed_frames.proofs.Stages.{in_payload}
use Rattle.feed_frames.proofs.IntakeLaws.{took_none}
use Rattle.feed_frames.proofs.delivery.Incoming.read_schedule.Goals as goal

pub returns-in_err-take_payload-clause-item : goal.returns-in_err-take_payload-clause-item
returns-in_err-take_payload-clause-item g c = λ before holds good.
    let p = err_from_is_err_and c.from_residual.result c.from_residual.ensures.1 in
    rw (p.1, p.2) (in_payload [] (record { good_tag = good.tag; good_length = good.length; small = omega arith }) (took_none _ _) c.in_err-take_payload.ensures.took (omega arith)
    (rw c.requires.tag (schedule_good (standing_of c.args.self.now.counts.standing) before c.in_err-take_payload.ensures.took.bytes)))

pub returns-clause-item : goal.returns-clause-item
returns-clause-item g c = λ before holds good.
    let t = c.in_ok-take_payload.ensures.took in
    let good_length : length_fault (standing_of c.args.self.now.counts.standing) before schedule_tag c.args.head.len ≡ None = rw c.requires.tag at good.length in
    record {
      item = Schedules t.bytes;
      took = t.took;
      tag = rw c.requires.tag refl;
      whole = t.whole;
      follows = schedule_item _ before c.args.head.len t.bytes good_length (sym t.whole) (omega (arith, c.args.self.now.counts.within.1, holds.counts.redo));
      holds = record {
        counts = c.count_schedule.ensures.counts before t.bytes holds.counts (sym t.whole);
        pieces = gives_none piece_of before (Schedules t.bytes) _ holds.pieces refl;
        commands = gives_none command_of before (Schedules t.bytes) _ holds.commands refl;
        schedule = t.appended ∙ gives_bytes before (Schedules t.bytes) _ holds.schedule;
      };
    }
