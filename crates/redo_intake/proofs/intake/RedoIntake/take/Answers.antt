use Rattle.std.proofs.Common.{◌++◌, ◌∷◌, [], List, Err, refl, ap, sym, subst, ◌∙◌}
use Rattle.std.proofs.lemmas.Result.{err_from_is_err_and}
use Rattle.adg_base.specs.declared.log.LogEntry.{LogEntry}
use Rattle.adg_model.specs.Log.{merged_log}
use Rattle.log_merger.specs.Merger.{texts_of}
use Rattle.dictionary.specs.Standing.{Known, StandsFor}
use Rattle.redo_intake.specs.Intake.{Taking, FollowOn, IsUnsoundAt}
use Rattle.redo_intake.proofs.IntakeLaws.{accepted, bad_so, merged_so, entries_follow, unsound_so, checked_so}
use Rattle.redo_intake.proofs.intake.RedoIntake.take.Goals as goal

pub returns-in_err-entries-clause-takes : goal.returns-in_err-entries-clause-takes
returns-in_err-entries-clause-takes c threads ds before =
    let p = err_from_is_err_and c.from_residual-in_err-entries.result c.from_residual-in_err-entries.ensures.1 in
    let d = c.args.delivery in
    let old = c.args.self.now in
    let m = c.accept_all.new.merger in
    let n = c.drain.new.self in
    let e = c.in_ok-accept_all.ensures in
    let a = accepted old threads ds d before c.self.inside.merger m c.as_slice.result.now (ap (λ (t : Taking). t.merger) c.self.view_is) c.as_slice.ensures e.stands e.threads e.refused in
    rw p.1 (rw p.2 (bad_so old threads ds d before m n (record { merger = n; dictionary = c.self.inside.dictionary }) c.in_err-entries.field-0.0 a (c.in_err-entries.ensures.drains (texts_of (ds ++ d ∷ [])) (merged_log before.records) a.stands)))

pub returns-in_err-check_all-clause-takes : goal.returns-in_err-check_all-clause-takes
returns-in_err-check_all-clause-takes c threads ds before =
    let p = err_from_is_err_and c.from_residual-in_err-check_all.result c.from_residual-in_err-check_all.ensures.1 in
    let d = c.args.delivery in
    let old = c.args.self.now in
    let m = c.accept_all.new.merger in
    let n = c.drain.new.self in
    let e = c.in_ok-accept_all.ensures in
    let given = merged_log before.records in
    let entries = c.in_ok-entries.entries in
    let slice = c.as_slice-2.ensures in
    let a = accepted old threads ds d before c.self.inside.merger m c.as_slice.result.now (ap (λ (t : Taking). t.merger) c.self.view_is) c.as_slice.ensures e.stands e.threads e.refused in
    let merged = merged_so old threads ds d before m n entries a (c.in_ok-entries.ensures.drains (texts_of (ds ++ d ∷ [])) given a.stands) in
    let follow = subst (FollowOn given) (sym slice) (entries_follow old threads ds d before entries merged) in
    let known = subst (λ (k : Known). StandsFor k given) (sym (ap (λ (t : Taking). t.dictionary) c.self.view_is)) before.known in
    rw p.1 (rw p.2 (unsound_so old threads ds d before entries merged (record { merger = n; dictionary = c.check_all.new.dictionary }) c.in_err-check_all.field-0.0
    (λ fault is. subst (λ (l : List LogEntry). IsUnsoundAt given l fault) slice (c.in_err-check_all.ensures.bad fault (ap Err is) given known follow))))

pub returns-clause-takes : goal.returns-clause-takes
returns-clause-takes c threads ds before =
    let d = c.args.delivery in
    let old = c.args.self.now in
    let m = c.accept_all.new.merger in
    let n = c.drain.new.self in
    let e = c.in_ok-accept_all.ensures in
    let given = merged_log before.records in
    let entries = c.in_ok-entries.entries in
    let slice = c.as_slice-2.ensures in
    let a = accepted old threads ds d before c.self.inside.merger m c.as_slice.result.now (ap (λ (t : Taking). t.merger) c.self.view_is) c.as_slice.ensures e.stands e.threads e.refused in
    let goes = c.in_ok-entries.ensures.drains (texts_of (ds ++ d ∷ [])) given a.stands in
    let merged = merged_so old threads ds d before m n entries a goes in
    let follow = subst (FollowOn given) (sym slice) (entries_follow old threads ds d before entries merged) in
    let was = subst (λ (k : Known). StandsFor k given) (sym (ap (λ (t : Taking). t.dictionary) c.self.view_is)) before.known in
    let known = subst (λ (l : List LogEntry). StandsFor c.check_all.new.dictionary (given ++ l)) slice (c.in_ok-check_all.ensures.ok given was follow) in
    checked_so old threads ds d before entries merged (record { merger = n; dictionary = c.check_all.new.dictionary }) _ refl refl refl
    (c.in_ok-entries.ensures.threads ∙ a.many) c.in_ok-entries.ensures.refused goes.stands known
    (λ records many received. c.frontier.ensures (texts_of (ds ++ d ∷ [])) (given ++ entries) records goes.stands many received)
