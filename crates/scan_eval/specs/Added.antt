-- What an accumulator stands for.
use Rattle.std.specs.Prelude.{List}
use Rattle.adg_base.specs.declared.value.Value.{Value}
use Rattle.adg_base.specs.declared.command.Select.{Select}

-- a query, and the rows that were added to it, in their order
pub record Added : Type 0 where
  pub select : Select
  pub rows : List (List Value)
