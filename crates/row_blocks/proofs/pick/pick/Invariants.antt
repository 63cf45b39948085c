use Rattle.std.proofs.Common.{◌≡◌}
use Rattle.row_blocks.specs.Pick.{later, latest, candidates}
use Rattle.row_blocks.specs.Best.{shown}
use Rattle.row_blocks.proofs.pick.pick.Given as goal

-- the best so far and the latest of the rest are the latest of all
abbrev pub invariant-loop-version : goal.invariant-loop-version
invariant-loop-version g l =
    later (shown l.best) (latest (candidates l.q l.version-iterator.a.rest.now l.version-iterator.b.rest.now)) ≡ latest (candidates l.q l.versions l.ends)
