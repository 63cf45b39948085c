use Rattle.std.proofs.Common.{refl, ◌∙◌}
use Rattle.adg_base.specs.Address.{place}
use Rattle.row_blocks.specs.Shards.{shards_in, versions_in}
use Rattle.hybrid_scan.proofs.Known.{known_versions}
use Rattle.hybrid_scan.proofs.shard_reader.served_rows.Goals as goal

pub known_rows-requires-clause-known : goal.known_rows-requires-clause-known
known_rows-requires-clause-known g c shard is slot below =
    let a = place c.args.obj c.args.block slot in
    known_versions c.args.shards.now c.args.q c.requires a below shard (c.shard_at.ensures ∙ is) (versions_in (shards_in c.args.shards.now) a) refl
