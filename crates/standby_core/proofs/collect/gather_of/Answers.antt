use Rattle.standby_core.proofs.Gathering.{held_taken}
use Rattle.standby_core.proofs.collect.gather_of.Goals as goal

pub returns-in-Some : goal.returns-in-Some
returns-in-Some c =
    held_taken c.args.item c.in-Change.txn c.args.area.now c.collect.new.self c.args.collected.now c.push.new.self c.in-Some.addrs c.by_unit_shard.result
    c.in-Change.is c.in-Some.ensures.area c.in-Some.ensures.gone c.in-Some.ensures.places c.by_unit_shard.ensures.same c.by_unit_shard.ensures.order c.push.ensures
