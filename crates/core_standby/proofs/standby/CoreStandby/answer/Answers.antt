use Rattle.std.proofs.Common.{◌++◌, ◌∷◌, [], List, sym, subst}
use Rattle.std.specs.List.{AllByRecursion}
use Rattle.adg_base.specs.declared.command.CommandText.{CommandText}
use Rattle.adg_model.specs.declared.fault.RedoFault.{RedoFault}
use Rattle.adg_model.specs.Sound.{IsRedoFault}
use Rattle.feed_run.proofs.NextLaws.{next_sessions}
use Rattle.feed_run.specs.Standby.{deliveries_of}
use Rattle.step_driver.specs.Delivered.{IsShort}
use Rattle.core_standby.specs.Standing.{HasAnswered}
use Rattle.core_standby.proofs.OneDelivery.{may_answer, has_ready, can_deliver, run_more}
use Rattle.core_standby.proofs.standby.CoreStandby.answer.Goals as goal

pub take-requires-clause-threads : goal.take-requires-clause-threads
take-requires-clause-threads c = (may_answer c.args.self.now c.args.delivery c.requires).threads

pub take-requires-clause-room : goal.take-requires-clause-room
take-requires-clause-room c = (may_answer c.args.self.now c.args.delivery c.requires).room

pub returns-in-Err-Redo-clause-runs : goal.returns-in-Err-Redo-clause-runs
returns-in-Err-Redo-clause-runs c next =
    let h = c.in-Err-Redo.ensures.takes next.threads (deliveries_of next.before) next.has.run.taken in
    let bad : IsRedoFault next.threads (deliveries_of next.before ++ c.args.delivery ∷ []) c.in-Err-Redo.fault = rw c.in-Err-Redo.field-0-is at h in
    subst (λ (f : RedoFault). IsRedoFault next.threads (deliveries_of next.before ++ c.args.delivery ∷ []) f) (sym c.in-Err-Redo.fault-is) bad

pub run_delivery-requires-clause-ready : goal.run_delivery-requires-clause-ready
run_delivery-requires-clause-ready c =
    let s = c.args.self.now in
    let next = c.requires in
    let ds = deliveries_of next.before in
    let checks = c.in-Ok.ensures.takes next.threads ds next.has.run.taken in
    rw c.dictionary-dictionary.ensures
    (has_ready s.intake s.core next.setup next.threads next.sessions ds next.has.lines next.has.run c.args.delivery (next_sessions (HasAnswered s) c.args.delivery next) c.take.new.self c.in-Ok.checked checks)

pub run_delivery-requires-clause-short : goal.run_delivery-requires-clause-short
run_delivery-requires-clause-short c =
    let next = c.requires in
    let checks = c.in-Ok.ensures.takes next.threads (deliveries_of next.before) next.has.run.taken in
    subst (λ (cs : List CommandText). AllByRecursion IsShort cs) (sym checks.commands) (may_answer c.args.self.now c.args.delivery next).short

pub returns-clause-runs : goal.returns-clause-runs
returns-clause-runs c next =
    let s = c.args.self.now in
    let ds = deliveries_of next.before in
    let checks = c.in-Ok.ensures.takes next.threads ds next.has.run.taken in
    let own = next_sessions (HasAnswered s) c.args.delivery next in
    let ok = rw c.dictionary-dictionary.ensures at c.in_ok-lines.ensures.ok in
    run_more s.intake s.core next.setup next.threads next.sessions ds next.has.lines next.has.run c.args.delivery own c.take.new.self c.in-Ok.checked checks c.run_delivery.new.core c.in_ok-lines.lines
    (ok next.has.run.state (can_deliver s.intake s.core next.setup next.threads next.sessions ds next.has.lines next.has.run c.args.delivery own c.take.new.self c.in-Ok.checked checks))
