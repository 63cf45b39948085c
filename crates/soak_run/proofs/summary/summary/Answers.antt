use Rattle.std.proofs.Common.{◌≡◌, ℕ, List, Result, Ok, Err, sym, subst}
use Rattle.std.specs.Prelude.{IfOk}
use Rattle.soak_run.specs.Summary.{IsSummary}
use Rattle.soak_run.specs.Telling.{told_of}
use Rattle.soak_run.proofs.Summed.{summed}
use Rattle.soak_run.proofs.summary.summary.Goals as goal

told_is : {T E : Type 0} (items : T → List ℕ) (seed txns : ℕ) (told : List ℕ) (r : Result T E) → IsSummary seed txns told → IfOk r (λ t. items t ≡ told) → IfOk r (λ t. IsSummary seed txns (items t))
told_is items seed txns told (Ok t) h e = subst (IsSummary seed txns) (sym e) h
told_is items seed txns told (Err e) h k = tt

pub returns : goal.returns
returns c h = told_is (λ t. t.items) c.args.seed c.args.txns (told_of c.args.seed c.args.txns c.args.transcript.now) c.told.result (summed c.args.seed c.args.txns c.requires c.args.transcript.now h) c.told.ensures
