use Rattle.core_rules.proofs.Whole.{next_closes_shard}
use Rattle.core_rules.proofs.laws.next_closes_shard.Goals as goal

pub returns : goal.returns
returns c = next_closes_shard
