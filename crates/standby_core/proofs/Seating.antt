-- A list of a vector where one place is set.
use Rattle.std.proofs.Common.{◌≡◌, ℕ, ◌<◌, List, length, Vec, Global, sym, ap, ◌∙◌, subst}
use Rattle.std.specs.Prelude.{slice_set, slice_index_or}
use Rattle.std.specs.Vec.{with_items}
use Rattle.std.proofs.lemmas.List.{length-set, with_items_is}
use Rattle.column_units.specs.Shard.{Units}
use Rattle.core_rules.specs.State.{At}
use Rattle.std.proofs.lemmas.Option.{get_or_from_slice_get}
use Rattle.core_rules.proofs.Lists.{at_within, at_exists}
use Rattle.standby_core.specs.declared.populate.Phase.{Phase}
use Rattle.standby_core.specs.declared.session.Session.{Session}
use Rattle.standby_core.specs.declared.session.Session.TheVariants.{Populating}
use Rattle.standby_core.specs.Populating.{IsSeat, IsSetIn}

pub set_left : {X : Type 0} (v : Vec X Global) (place : ℕ) (x : X) (from to : List X) → from ≡ v.items → to ≡ slice_set from place x → (with_items v to).items ≡ slice_set v.items place x
set_left v place x from to f t = with_items_is v to (ap length t ∙ length-set from place x ∙ ap length f ∙ sym v.ok.0) ∙ t ∙ ap (λ xs. slice_set xs place x) f

pub at_in : {X : Type 0} (xs ys : List X) (place : ℕ) (x : X) → xs ≡ ys → At xs place x → At ys place x
at_in xs ys place x e h = subst (λ zs. At zs place x) e h

-- what is read at a place of a list stands there
pub item_at : {X : Type 0} (xs : List X) (place : ℕ) (x d : X) → place < length xs → slice_index_or xs place d ≡ x → At xs place x
item_at xs place x d within e = let s = at_exists xs place within in subst (At xs place) (sym (get_or_from_slice_get xs place s.0 d s.1) ∙ e) s.1

-- a seat is one of the sessions
pub seat_within : (xs ys items : List Session) (session : ℕ) (phase : Phase) (place : ℕ) → xs ≡ items → ys ≡ items → IsSeat xs session phase place → place < length ys
seat_within xs ys items session phase place e f seat = at_within ys place (Populating seat.population) (at_in xs ys place (Populating seat.population) (e ∙ sym f) seat.found)

-- a list that is as it was
pub same_left : {X : Type 0} (v : Vec X Global) (from to : List X) → from ≡ v.items → to ≡ from → (with_items v to).items ≡ v.items
same_left v from to f t = with_items_is v to (ap length t ∙ ap length f ∙ sym v.ok.0) ∙ t ∙ f

-- the shards of units, one of which is set
pub set_in_left : (R : Units → Units → Type 0) (v : Vec Units Global) (place : ℕ) (from to : List Units) → from ≡ v.items → IsSetIn R place from to → IsSetIn R place v.items (with_items v to).items
set_in_left R v place from to f k = record {
  was = k.was;
  found = subst (λ zs. At zs place k.was) f k.found;
  now = k.now;
  related = k.related;
  set = set_left v place k.now from to f k.set;
}
