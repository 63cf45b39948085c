use Rattle.standby_core.proofs.Filling.{next_are}
use Rattle.standby_core.proofs.session.Population.read_next.Goals as goal

pub block-requires-clause-places : goal.block-requires-clause-places
block-requires-clause-places c = next_are c.args.shards.now c.args.self.now c.in_ok-rows.rows c.in_ok-rows.ensures c.requires.object
