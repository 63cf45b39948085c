use Rattle.std.proofs.Common.{sym, ap, ◌∙◌}
use Rattle.row_blocks.specs.Pick.{row_of}
use Rattle.row_blocks.specs.Best.{shown}
use Rattle.row_blocks.specs.Shards.{shards_in, commits_in}
use Rattle.row_blocks.proofs.Settling.{late_is_latest}
use Rattle.row_blocks.proofs.shards.pick_settled.Goals as goal

pub returns-then-is_behind-clause-row : goal.returns-then-is_behind-clause-row
returns-then-is_behind-clause-row g c =
    c.told.ensures.row ∙ ap row_of
    (late_is_latest (commits_in (shards_in c.args.shards.now) c.args.q) c.args.versions.now c.args.settled (shown c.latest_in-late.result) c.requires.settled
    c.latest_in-late.ensures (sym c.is_behind.ensures ∙ c.if-is_behind.true))
