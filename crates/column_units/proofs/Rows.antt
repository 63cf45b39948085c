-- Two rows in the first block of an extent.
use Rattle.std.proofs.Common.{◌≡◌, ℕ, ◌==◌, ◌&&◌, nat_lt, Bool, Option, Some, IfSome, List, [], ◌∷◌, length, filter, refl, sym, ap, ap₂, subst, ◌∙◌}
use Rattle.std.specs.List.{AllByRecursion}
use Rattle.adg_base.specs.Address.{Place, place, extent_places}
use Rattle.adg_base.specs.declared.value.Value.{Value}
use Rattle.column_codec.specs.Extent.{PlacedColumns, AreColumns}

abbrev first_two : Place → Bool
first_two a = (a.block == 0) && nat_lt a.slot 2

are_first : filter first_two (extent_places 1 0) ≡ place 1 0 0 ∷ place 1 0 1 ∷ []
are_first = refl

pub two_are_columns : (obj : ℕ) (c : PlacedColumns) (a b : Place) (values : List Value) → obj ≡ 1 → c.addresses ≡ a ∷ b ∷ [] → a ≡ place obj 0 0 → b ≡ place obj 0 1 → c.columns ≡ values ∷ [] → length values ≡ 2 → AreColumns obj 0 c
two_are_columns obj c a b values one two first second columns count =
    let here : c.addresses ≡ place 1 0 0 ∷ place 1 0 1 ∷ [] = two ∙ ap₂ (λ x y. x ∷ y ∷ []) (first ∙ ap (λ o. place o 0 0) one) (second ∙ ap (λ o. place o 0 1) one) in
    subst (λ o. AreColumns o 0 c) (sym one) (record {
      kept = first_two;
      order = here ∙ sym are_first;
      values = subst (AllByRecursion (λ column. length column ≡ length c.addresses)) (sym columns) ((count ∙ sym (ap length here)), tt);
    })

pub found_is : (r : Option Place) (p q : Place) → IfSome r (λ a. a ≡ q) → r ≡ Some p → p ≡ q
found_is r p q is e = subst (λ x. IfSome x (λ a. a ≡ q)) e is
