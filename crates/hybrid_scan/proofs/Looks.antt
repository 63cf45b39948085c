-- A look at a unit has the unit's columns.
use Rattle.std.proofs.Common.{◌≡◌, ℕ, Bool, true, false, not, nat_le, ◌&&◌, List, Option, Some, None, sym, subst}
use Rattle.std.specs.Option.{ForSome}
use Rattle.column_codec.specs.Extent.{AreColumns}
use Rattle.column_units.specs.declared.unit.Unit.{Unit as ColumnUnit}
use Rattle.column_units.specs.declared.unit.UnitState.{UnitState}
use Rattle.column_units.specs.declared.unit.UnitState.TheVariants.{Loading, Ready}
use Rattle.column_units.specs.Unit.{FitState}
use Rattle.column_units.specs.Look.{Look, look_in, look_at}

none_some : (l : Look) → None ≡ Some l → ⊥
none_some l e = cc

some_is : (k l : Look) → Some k ≡ Some l → k ≡ l
some_is k l e = cc

look_in_fits : (obj extent : ℕ) (usable : Bool) (map : List ℕ) (state : UnitState) → FitState obj extent state → ForSome (look_in usable map state) (λ l. AreColumns obj extent l.columns)
look_in_fits obj extent true map Loading fit l e = absurd (none_some l e)
look_in_fits obj extent false map Loading fit l e = absurd (none_some l e)
look_in_fits obj extent true map (Ready columns) fit l e = subst (λ x. AreColumns obj extent x.columns) (some_is (record { columns = columns; marked = map }) l e) fit
look_in_fits obj extent false map (Ready columns) fit l e = absurd (none_some l e)

-- where the columns of a unit are those of an extent, so are those of a look at it
pub look_fits : (obj extent q : ℕ) (u : ColumnUnit) (look : Option Look) → FitState obj extent u.state → look ≡ look_at q u → ForSome look (λ l. AreColumns obj extent l.columns)
look_fits obj extent q u look fit is = subst (λ l. ForSome l (λ x. AreColumns obj extent x.columns)) (sym is) (look_in_fits obj extent (not u.all && nat_le u.snapshot q) u.map u.state fit)
