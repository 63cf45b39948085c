use Rattle.std.proofs.Common.{◌+◌, ◌++◌, ◌*◌, ◌<◌, sym, ap, subst, ◌∙◌}
use Rattle.adg_base.specs.Address.{block_places}
use Rattle.population.specs.Building.{Building, IsRead, AreRowsOf, Fit}
use Rattle.population.proofs.Blocks.{read_more}
use Rattle.population.proofs.build.Build.block.Goals as goal

pub invariant_of-self : goal.invariant_of-self
invariant_of-self c =
    let inside = c.self.inside in
    let b : Building = record { obj = inside.obj; extent = inside.extent; snapshot = inside.snapshot; width = inside.width; blocks = inside.blocks; rows = inside.rows.items } in
    let back = sym c.self.view_is in
    subst (λ rows. IsRead (record b { blocks = inside.blocks + 1; rows = rows })) (sym (c.in-Ok.ensures.ok ∙ ap (λ more. inside.rows.items ++ more) c.as_slice.ensures))
    (read_more b c.args.rows.now c.self.invariant
    (subst (λ v. v.blocks < 16) back c.requires.next)
    (subst (λ v. AreRowsOf (block_places v.obj (16 * v.extent + v.blocks)) c.args.rows.now) back c.requires.places)
    (subst (λ v. Fit v.width c.args.rows.now) back c.requires.fit))
