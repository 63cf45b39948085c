use Rattle.std.proofs.Common.{sym, subst}
use Rattle.population.specs.Building.{IsRead}
use Rattle.population.proofs.Blocks.{read_none}
use Rattle.population.proofs.build.Build.new.Goals as goal

pub invariant_of-result : goal.invariant_of-result
invariant_of-result c =
    subst (λ rows. IsRead (record { obj = c.args.obj; extent = c.args.extent; snapshot = c.args.snapshot; width = c.args.def.now.width; blocks = 0; rows = rows })) (sym c.new.ensures.items)
    (read_none c.args.obj c.args.extent c.args.snapshot c.args.def.now.width)
