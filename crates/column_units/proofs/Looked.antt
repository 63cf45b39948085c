-- The rows that a look takes from a unit.
use Rattle.std.proofs.Common.{◌≡◌, ℕ, Bool, true, false, not, nat_le, ◌&&◌, if◌then◌else◌, List, filter, Option, None, option_map, refl, ap, ◌∙◌}
use Rattle.column_codec.specs.Extent.{placed_rows}
use Rattle.column_units.specs.declared.unit.Unit.{Unit as ColumnUnit}
use Rattle.column_units.specs.declared.unit.UnitState.{UnitState}
use Rattle.column_units.specs.declared.unit.UnitState.TheVariants.{Loading, Ready}
use Rattle.column_units.specs.Unit.{marks, columns_of}
use Rattle.column_units.specs.Look.{Look, clean_rows, look_in, look_at, unmarked_rows}

look_in_rows : (usable : Bool) (map : List ℕ) (state : UnitState)
    → option_map clean_rows (look_in usable map state) ≡ (if usable then option_map (λ columns. filter (λ r. not (marks map r.addr)) (placed_rows columns)) (columns_of state) else None)
look_in_rows true map Loading = refl
look_in_rows false map Loading = refl
look_in_rows true map (Ready columns) = refl
look_in_rows false map (Ready columns) = refl

pub rows_of_look : (q : ℕ) (u : ColumnUnit) (look : Option Look) → look ≡ look_at q u → option_map clean_rows look ≡ unmarked_rows q u
rows_of_look q u look is = ap (option_map clean_rows) is ∙ look_in_rows (not u.all && nat_le u.snapshot q) u.map u.state
