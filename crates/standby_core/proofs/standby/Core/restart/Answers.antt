use Rattle.std.proofs.Common.{List, map, ap, ◌∙◌, subst}
use Rattle.column_units.specs.Shard.{Units}
use Rattle.standby_core.specs.declared.worker.Worker.{Worker}
use Rattle.standby_core.specs.declared.session.Session.{Session}
use Rattle.standby_core.specs.declared.session.Session.TheVariants.{Free}
use Rattle.standby_core.specs.Each.{EachAt}
use Rattle.standby_core.specs.Restarting.{GoesBack, IsEmptied}
use Rattle.standby_core.proofs.Rewound.{restart_moves}
use Rattle.standby_core.proofs.standby.Core.restart.Goals as goal

-- src/restart.rt:26:5
pub returns : goal.returns
returns c = λ c' h.
    restart_moves c.args.self.now c' h c.new.result c.forget.new.self c.rewind_all.new.workers c.drop_units.new.shards c.free_all.new.sessions
    (subst (λ (xs : List Worker). EachAt (λ n. GoesBack c.args.self.now.query) xs c.rewind_all.new.workers) c.deref_mut.ensures.value c.rewind_all.ensures)
    c.new.ensures c.forget.ensures.quiesce c.forget.ensures.links c.forget.ensures.claimed c.forget.ensures.done c.forget.ensures.held
    (subst (λ (xs : List Units). EachAt (λ n. IsEmptied) xs c.drop_units.new.shards) c.deref_mut-2.ensures.value c.drop_units.ensures)
    (c.free_all.ensures ∙ ap (map (λ (s : Session). Free)) c.deref_mut-3.ensures.value)
