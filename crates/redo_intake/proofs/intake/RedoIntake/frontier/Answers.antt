use Rattle.std.proofs.Common.{◌∙◌, length, ap, sym, subst}
use Rattle.adg_model.specs.Log.{merged_log}
use Rattle.log_merger.specs.Merger.{Merging, StandsFor, texts_of}
use Rattle.log_merger.proofs.Deliveries.{records_from}
use Rattle.redo_intake.specs.Intake.{Taking}
use Rattle.redo_intake.proofs.intake.RedoIntake.frontier.Goals as goal

pub returns : goal.returns
returns c threads ds taken =
    let is = ap (λ (t : Taking). t.merger) c.self.view_is in
    c.frontier.ensures (texts_of ds) (merged_log taken.records) taken.records
    (subst (λ (m : Merging). StandsFor m (texts_of ds) (merged_log taken.records)) (sym is) taken.merged)
    (taken.all ∙ sym taken.many ∙ ap (λ (m : Merging). length m.threads) (sym is))
    (records_from 1 ds taken.records taken.received)
