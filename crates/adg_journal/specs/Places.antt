-- Addresses, each once, in the order in which they were noted first.
use Rattle.std.specs.Prelude.{Bool, ◌==◌, ◌&&◌, if◌then◌else◌, List, [], ◌∷◌, ◌++◌}
use Rattle.std.specs.List.{list_any, IsDistinct}
use Rattle.adg_base.specs.Address.{Place}

-- whether two addresses are one
abbrev pub same_place : Place → Place → Bool
same_place a b = (a.obj == b.obj) && ((a.block == b.block) && (a.slot == b.slot))

-- no address stands there twice
abbrev pub EachOnce : List Place → Type 0
EachOnce places = IsDistinct same_place places

-- the addresses with one more behind them, unless it is among them
abbrev pub with_place : Place → List Place → List Place
with_place at places = if list_any (same_place at) places then places else places ++ at ∷ []
