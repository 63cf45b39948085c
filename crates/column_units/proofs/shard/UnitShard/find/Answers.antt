use Rattle.std.proofs.Common.{ap, ◌∙◌}
use Rattle.std.specs.Map.{lookup}
use Rattle.column_units.specs.Shard.{same_key}
use Rattle.column_units.proofs.Units.{found_belongs}
use Rattle.column_units.proofs.shard.UnitShard.find.Goals as goal

pub returns-clause-fits : goal.returns-clause-fits
returns-clause-fits c =
    found_belongs c.self.inside.number c.args.obj c.args.extent c.self.inside.units.entries c.self.invariant c.get-2.result
    (c.get-2.ensures.value ∙ ap (λ k. lookup (same_key (k, c.args.extent)) c.self.inside.units.entries) c.get.ensures.value)
