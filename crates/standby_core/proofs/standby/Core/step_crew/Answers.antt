use Rattle.std.specs.Prelude.{IfOk}
use Rattle.std.proofs.Common.{subst, sym}
use Rattle.standby_core.specs.Crew.{answer_of}
use Rattle.standby_core.proofs.Stepped.{KeepsCrew, crew_rested, crew_moves}
use Rattle.standby_core.proofs.standby.Core.step_crew.Goals.{in-NotReady, in-Moved}
use Rattle.standby_core.proofs.standby.Core.step_crew.Goals as goal

pub returns-clause-steps : goal.returns-clause-steps
returns-clause-steps c =
    let core = c.args.self.now in
    let new = c.take_crew.new.self in
    let known = c.args.dictionary.now in
    let event = c.args.event in
    let answer = c.in_ok-take_crew.field-0 in
    let kept : KeepsCrew core new known event answer = c.in_ok-take_crew.ensures.steps in
    elim c.match-branch-2.branch [
      | in-NotReady w ↦ subst (λ r. IfOk r (λ moved. KeepsCrew core new known event (answer_of moved))) (sym w.result-is) (crew_rested core new known event answer w.in-NotReady.is kept)
      | in-Moved w ↦ subst (λ r. IfOk r (λ moved. KeepsCrew core new known event (answer_of moved))) (sym w.result-is) (crew_moves core new known event answer w.in-Moved.is kept)
    ]
