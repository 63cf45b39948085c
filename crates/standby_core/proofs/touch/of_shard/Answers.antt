use Rattle.standby_core.proofs.ShardPart.{none_between, all_between}
use Rattle.standby_core.proofs.touch.of_shard.Goals as goal

pub returns-then-highest-shard : goal.returns-then-highest-shard
returns-then-highest-shard c =
    let ends = c.in-Some-Some in
    none_between c.args.addrs.now c.args.shard ends.first.now ends.last.now c.requires ends.ensures.value ends.ensures'.value _ _ c.shard_of_addr-lowest.ensures.value c.shard_of_addr-highest.ensures.value c.if-highest-shard.either

pub returns-then-lowest-highest : goal.returns-then-lowest-highest
returns-then-lowest-highest c =
    let ends = c.in-Some-Some in
    let within = c.if-highest-shard.false in
    all_between c.args.addrs.now c.args.shard ends.first.now ends.last.now c.requires ends.ensures.value ends.ensures'.value _ _ c.shard_of_addr-lowest.ensures.value c.shard_of_addr-highest.ensures.value within.0 within.1 c.if-lowest-highest.true
