use Rattle.std.proofs.Common.{[], ◌∷◌, ◌++◌, subst}
use Rattle.feed_run.specs.Standby.{IsNext, Responds, deliveries_of}
use Rattle.imadg_top.proofs.kept.KeptStandby.deliver.Goals as goal

-- the standby inside answers
pub returns : goal.returns
returns g c =
    subst (λ s. (next : IsNext (g.S.Standby.answered s) c.args.delivery)
    → Responds (g.S.Standby.answered c.deliver.new.self next.setup) next.threads next.sessions (deliveries_of next.before ++ c.args.delivery ∷ []) next.written c.deliver.result)
    c.deref_mut.ensures.value c.deliver.ensures
