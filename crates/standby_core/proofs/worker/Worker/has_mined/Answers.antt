use Rattle.core_rules.specs.State.{At}
use Rattle.standby_core.proofs.Mined.{first_tells}
use Rattle.standby_core.proofs.Exits.{lent_at}
use Rattle.standby_core.proofs.worker.Worker.has_mined.Goals as goal

pub returns-in-Some : goal.returns-in-Some
returns-in-Some c rises =
    let x = c.args.self.now in
    let e = c.in-Some.entry.now in
    let next : At x.share x.mined e = lent_at c.as_slice.result.now x.share x.mined e c.as_slice.ensures c.in-Some.ensures.lookup.0 c.in-Some.ensures.lookup.1 in
    first_tells c.args.through x.mined x.share e rises next c.lt.result c.lt.ensures
