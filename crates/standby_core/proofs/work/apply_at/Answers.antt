use Rattle.std.proofs.Common.{ap, Ok}
use Rattle.standby_core.proofs.Shards.{takes}
use Rattle.standby_core.proofs.work.apply_at.Goals as goal

pub returns-clause-ok : goal.returns-clause-ok
returns-clause-ok c =
    takes c.args.shard.now c.apply.new.self c.args.entry.now c.in_ok-apply.field-0 c.in_ok-apply.ensures.answer
    (λ h. c.in_ok-apply.ensures.already (ap Ok h)) (λ h. c.in_ok-apply.ensures.done (ap Ok h)) (λ h. c.in_ok-apply.ensures.stands (ap Ok h)) c.apply.ensures.number c.apply.ensures.settled
