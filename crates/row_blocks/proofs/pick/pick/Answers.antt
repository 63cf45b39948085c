use Rattle.std.proofs.Common.{ap, ◌∙◌, inl, inr}
use Rattle.row_blocks.specs.Pick.{row_of}
use Rattle.row_blocks.proofs.Picked.{best_is_latest_versions, best_is_latest_ends}
use Rattle.row_blocks.proofs.pick.pick.Goals as goal

-- at the end of one of the lists the best so far is the latest
pub returns-clause-row : goal.returns-clause-row
returns-clause-row g c = c.told.ensures.row ∙ elim c.in-None.ensures.steps [
  | inl w ↦ ap row_of (best_is_latest_versions _ _ _ _ _ c.loop-version.invariant w.1.0)
  | inr w ↦ ap row_of (best_is_latest_ends _ _ _ _ _ c.loop-version.invariant w.1.0)
]
