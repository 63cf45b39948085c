use Rattle.redo_intake.proofs.NothingLaws.{nothing_taken}
use Rattle.redo_intake.proofs.intake.RedoIntake.new.Goals as goal

pub returns-clause-taken : goal.returns-clause-taken
returns-clause-taken c =
    let e = c.in_ok-new.ensures in
    nothing_taken c.in_ok-new.field-0 c.new-2.result c.args.threads e.threads e.stands e.refused c.new-2.ensures
