use Rattle.std.proofs.Common.{arith}
use Rattle.adg_base.specs.Shard.{shard_of_block}
use Rattle.hybrid_scan.proofs.Known.{known_behind}
use Rattle.hybrid_scan.proofs.shard_reader.served_row.Goals as goal

pub known_row_at-requires-clause-settled : goal.known_row_at-requires-clause-settled
known_row_at-requires-clause-settled g c shard at =
    known_behind c.args.shards.now c.args.q c.requires c.args.addr (omega (arith, c.well_formed)) (shard_of_block c.args.addr.obj c.args.addr.block) shard at
