use Rattle.std.proofs.Common.{◌≡◌, ◌++◌, replicate}
use Rattle.adg_base.specs.declared.value.Value.TheVariants.{Null}
use Rattle.adg_model.proofs.plain.meaning.widened.Given as goal

abbrev pub invariant-loop : goal.invariant-loop
invariant-loop l = l.wide ≡ l.row ++ replicate l.counter Null
