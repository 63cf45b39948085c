use Rattle.std.proofs.Common.{[], refl, rules}
use Rattle.core_rules.specs.State.{opening}
use Rattle.core_rules.proofs.Whole.{runs_meet_invariant}
use Rattle.standby_core.proofs.Started.{start_shows}
use Rattle.standby_core.proofs.standby.Core.start.Goals as goal

pub returns-clause-shows : goal.returns-clause-shows
returns-clause-shows c =
    start_shows c.args.alloc c.args.workers c.args.sessions _ c.in_ok-idle_workers.field-0 c.in_ok-new_shards.field-0 _ c.in_ok-holding_nothing.field-0 c.in_ok-unit_shards.field-0 c.in_ok-free_sessions.field-0
    (search rules) c.in_ok-idle_workers.ensures c.in_ok-new_shards.ensures.count c.in_ok-new_shards.ensures.stand (c.in_ok-new_shards.ensures.settled []) (search rules) c.in_ok-holding_nothing.ensures c.in_ok-unit_shards.ensures c.in_ok-free_sessions.ensures

pub returns-clause-invariant : goal.returns-clause-invariant
returns-clause-invariant c m = (runs_meet_invariant c.args.workers c.args.sessions [] (opening c.args.workers c.args.sessions) m refl).0

pub returns-clause-precise : goal.returns-clause-precise
returns-clause-precise c m = (runs_meet_invariant c.args.workers c.args.sessions [] (opening c.args.workers c.args.sessions) m refl).1
