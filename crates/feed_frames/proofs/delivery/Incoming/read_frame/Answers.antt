use Rattle.std.proofs.Common.{◌≡◌, ◌∷◌, None, refl, subst}
use Rattle.std.proofs.lemmas.Result.{err_from_is_err_and}
use Rattle.std.specs.Int.{w32, to_be_bytes}
use Rattle.adg_model.specs.Feed.{frame_fault, length_fault, end_tag, stop_tag}
use Rattle.feed_frames.specs.Intake.{Took}
use Rattle.feed_frames.specs.Counts.{standing_of}
use Rattle.feed_frames.proofs.Frames.{stops_later, item_later, end_spelled, stop_spelled, stop_first}
use Rattle.feed_frames.proofs.delivery.Incoming.read_frame.Goals as goal

pub returns-in_err-read_redo-in-Redo-clause-frame : goal.returns-in_err-read_redo-in-Redo-clause-frame
returns-in_err-read_redo-in-Redo-clause-frame g c = λ before holds.
    let p = err_from_is_err_and c.from_residual-in_err-read_redo-in-Redo.result c.from_residual-in_err-read_redo-in-Redo.ensures.1 in
    let head = c.in_ok-head.ensures.head before holds.counts in
    rw (p.1, p.2) (stops_later _ (frame_fault (standing_of c.args.self.now.counts.standing) before) head.0 (c.in_err-read_redo-in-Redo.ensures.item before holds head.1))

pub returns-in_ok-read_redo-in-Redo-clause-frame : goal.returns-in_ok-read_redo-in-Redo-clause-frame
returns-in_ok-read_redo-in-Redo-clause-frame g c = λ before holds.
    let head = c.in_ok-head.ensures.head before holds.counts in
    item_later c.args.self.now c.read_redo.new.self before c.in_ok-head.head head.0 (c.in_ok-read_redo-in-Redo.ensures.item before holds head.1)

pub returns-in_err-read_command-in-Command-clause-frame : goal.returns-in_err-read_command-in-Command-clause-frame
returns-in_err-read_command-in-Command-clause-frame g c = λ before holds.
    let p = err_from_is_err_and c.from_residual-in_err-read_command-in-Command.result c.from_residual-in_err-read_command-in-Command.ensures.1 in
    let head = c.in_ok-head.ensures.head before holds.counts in
    rw (p.1, p.2) (stops_later _ (frame_fault (standing_of c.args.self.now.counts.standing) before) head.0 (c.in_err-read_command-in-Command.ensures.item before holds head.1))

pub returns-in_ok-read_command-in-Command-clause-frame : goal.returns-in_ok-read_command-in-Command-clause-frame
returns-in_ok-read_command-in-Command-clause-frame g c = λ before holds.
    let head = c.in_ok-head.ensures.head before holds.counts in
    item_later c.args.self.now c.read_command.new.self before c.in_ok-head.head head.0 (c.in_ok-read_command-in-Command.ensures.item before holds head.1)

pub returns-in_err-read_schedule-in-Schedule-clause-frame : goal.returns-in_err-read_schedule-in-Schedule-clause-frame
returns-in_err-read_schedule-in-Schedule-clause-frame g c = λ before holds.
    let p = err_from_is_err_and c.from_residual-in_err-read_schedule-in-Schedule.result c.from_residual-in_err-read_schedule-in-Schedule.ensures.1 in
    let head = c.in_ok-head.ensures.head before holds.counts in
    rw (p.1, p.2) (stops_later _ (frame_fault (standing_of c.args.self.now.counts.standing) before) head.0 (c.in_err-read_schedule-in-Schedule.ensures.item before holds head.1))

pub returns-in_ok-read_schedule-in-Schedule-clause-frame : goal.returns-in_ok-read_schedule-in-Schedule-clause-frame
returns-in_ok-read_schedule-in-Schedule-clause-frame g c = λ before holds.
    let head = c.in_ok-head.ensures.head before holds.counts in
    item_later c.args.self.now c.read_schedule.new.self before c.in_ok-head.head head.0 (c.in_ok-read_schedule-in-Schedule.ensures.item before holds head.1)

pub returns-in-End-clause-frame : goal.returns-in-End-clause-frame
returns-in-End-clause-frame g c = λ before holds.
    let st = standing_of c.args.self.now.counts.standing in
    let head = c.in_ok-head.ensures.head before holds.counts in
    let len = c.in_ok-head.head.len in
    let good : length_fault st before end_tag len ≡ None = rw c.in-End.is at head.1.length in
    let took : Took (g.R.Source.left c.args.source.now) (g.R.Source.left c.read_head.new.source) c.args.taken.now c.read_head.new.taken (end_tag ∷ to_be_bytes w32 len) = rw c.in-End.is at head.0 in
    (subst (Took (g.R.Source.left c.args.source.now) (g.R.Source.left c.read_head.new.source) c.args.taken.now c.read_head.new.taken) (end_spelled st before len good) took, c.in_ok-head.ensures.room.ends c.in-End.is, refl)

pub returns-in-Stop-clause-frame : goal.returns-in-Stop-clause-frame
returns-in-Stop-clause-frame g c = λ before holds.
    let st = standing_of c.args.self.now.counts.standing in
    let head = c.in_ok-head.ensures.head before holds.counts in
    let len = c.in_ok-head.head.len in
    let good : length_fault st before stop_tag len ≡ None = rw c.in-Stop.is at head.1.length in
    let took : Took (g.R.Source.left c.args.source.now) (g.R.Source.left c.read_head.new.source) c.args.taken.now c.read_head.new.taken (stop_tag ∷ to_be_bytes w32 len) = rw c.in-Stop.is at head.0 in
    (subst (Took (g.R.Source.left c.args.source.now) (g.R.Source.left c.read_head.new.source) c.args.taken.now c.read_head.new.taken) (stop_spelled st before len good) took, stop_first before (rw c.in-Stop.is at head.1.tag), refl)
