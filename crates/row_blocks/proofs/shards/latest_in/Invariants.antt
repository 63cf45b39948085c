use Rattle.std.proofs.Common.{◌≡◌, drop}
use Rattle.row_blocks.specs.Pick.{later, latest_by}
use Rattle.row_blocks.specs.Best.{shown}
use Rattle.row_blocks.specs.Shards.{shards_in, commits_in}
use Rattle.row_blocks.proofs.shards.latest_in.Given as goal

-- the best so far and the latest of the rest are the latest of all
abbrev pub invariant-loop-version : goal.invariant-loop-version
invariant-loop-version l =
    later (shown l.best) (latest_by (commits_in (shards_in l.shards) l.q) (drop l.version-index l.versions)) ≡ latest_by (commits_in (shards_in l.shards) l.q) l.versions
