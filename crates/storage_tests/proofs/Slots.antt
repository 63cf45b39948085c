-- Blocks with a row at each slot, and with none.
use Rattle.std.proofs.Common.{◌≡◌, ℕ, ◌+◌, true, false, List, [], ◌∷◌, ◌++◌, map, filter, Option, Some, IfSome, refl, sym, ap, ap₂, subst, ◌∙◌, arith}
use Rattle.std.specs.List.{range_with_len}
use Rattle.std.proofs.lemmas.List.{map-append}
use Rattle.std.proofs.lemmas.List.FromFn.{map-range_with_len_more}
use Rattle.adg_base.specs.Address.{Place, place, block_places}
use Rattle.adg_base.specs.declared.placed.PlacedRow.{PlacedRow}
use Rattle.population.specs.Building.{AreRowsOf, addresses_of}

filter_all : (xs : List Place) → filter (λ a. true) xs ≡ xs
filter_all [] = refl
filter_all (x ∷ xs) = ap (λ l. x ∷ l) (filter_all xs)

filter_none : (xs : List Place) → filter (λ a. false) xs ≡ []
filter_none [] = refl
filter_none (x ∷ xs) = filter_none xs

pub all_rows : (obj block : ℕ) (rows : List PlacedRow) → addresses_of rows ≡ block_places obj block → AreRowsOf (block_places obj block) rows
all_rows obj block rows e = record { kept = λ a. true; order = e ∙ sym (filter_all (block_places obj block)) }

pub no_rows : (obj block : ℕ) (rows : List PlacedRow) → rows ≡ [] → AreRowsOf (block_places obj block) rows
no_rows obj block rows e = record { kept = λ a. false; order = ap addresses_of e ∙ sym (filter_none (block_places obj block)) }

abbrev pub first_slots : ℕ → ℕ → ℕ → List Place
first_slots obj block n = map (λ slot. place obj block slot) (range_with_len 0 n)

pub slot_more : (obj block n : ℕ) (rows rows' : List PlacedRow) (r : PlacedRow) → addresses_of rows ≡ first_slots obj block n → rows' ≡ rows ++ r ∷ [] → r.addr ≡ place obj block n → addresses_of rows' ≡ first_slots obj block (n + 1)
slot_more obj block n rows rows' r e more at =
    ap addresses_of more ∙ map-append (λ r. r.addr) rows (r ∷ []) ∙ ap₂ (λ x a. x ++ a ∷ []) e at ∙ sym (map-range_with_len_more (λ slot. place obj block slot) 0 n n (omega arith))

-- what an option holds that was unwrapped
pub unwrapped : (r : Option Place) (p q : Place) → IfSome r (λ a. a ≡ q) → r ≡ Some p → p ≡ q
unwrapped r p q is e = subst (λ x. IfSome x (λ a. a ≡ q)) e is
