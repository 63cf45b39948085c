use Rattle.std.proofs.Common.{◌≡◌, ◌+◌, ◌*◌, sym, ap₂, subst, arith}
use Rattle.adg_base.specs.Address.{block_places}
use Rattle.population.specs.Building.{AreRowsOf}
use Rattle.storage_tests.proofs.builds.built.Goals as goal

pub block-requires-clause-places : goal.block-requires-clause-places
block-requires-clause-places c =
    let inv = c.loop-index.invariant in
    let block : 16 + c.loop-index.index ≡ 16 * c.loop-index.build.extent + c.loop-index.build.blocks = omega (arith, inv.extent, inv.blocks) in
    subst (λ places. AreRowsOf places c.in_ok-rows.rows) (ap₂ block_places (sym inv.obj) block) c.in_ok-rows.ensures.places
