use Rattle.row_blocks.specs.Shards.{shards_in, commits_in}
use Rattle.row_blocks.proofs.Picked.{latest_more}
use Rattle.row_blocks.proofs.shards.latest_in.Goals as goal

pub loop-version-preserved : goal.loop-version-preserved
loop-version-preserved c =
    latest_more (commits_in (shards_in c.args.shards.now) c.args.q) c.args.versions.now c.loop-version.version-index c.version-item.result _ _ _
    c.loop-version-test.true c.version-item.is c.with_version_of-best.ensures c.loop-version.invariant
