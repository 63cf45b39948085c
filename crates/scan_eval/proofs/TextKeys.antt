-- A map from texts, which a clause reads by their bytes.
use Rattle.std.proofs.Common.{◌≡◌, ℕ, Bool, true, false, cond, nat_eq, List, Option, Global, Vec, sym, ◌∙◌, subst, ⊎_elim}
use Rattle.std.specs.Cmp.Lexicographic.{pointwise, slice_cmp, same_text}
use Rattle.std.specs.HashMap.{HashMap, UpdatesBy, get_by}
use Rattle.std.specs.Map.{lookup, KeepsOthers, IsKeyTest, AreApart}
use Rattle.std.specs.Ordering.{nat_cmp, is_eq}
use Rattle.std.proofs.lemmas.Bool.{cases_Bool, cond-true, cond-false}
use Rattle.std.proofs.lemmas.Cmp.{nat_list_eq_equiv}
use Rattle.std.proofs.lemmas.Map.Text.{is_eq-slice_cmp}

abbrev pub Key : Type 0
Key = Vec ℕ Global

-- a key has these bytes
abbrev pub has_bytes : List ℕ → Key → Bool
has_bytes bs key = pointwise nat_eq bs key.items

abbrev pub same_bytes : Key → Key → Bool
same_bytes x y = pointwise nat_eq x.items y.items

other_entries : {X : Type 0} (test : Key → Bool) (old new : List (Key × X)) → KeepsOthers same_bytes test old new → (other : Key → Bool) → IsKeyTest same_bytes other → AreApart test other → lookup other new ≡ lookup other old
unfolding KeepsOthers
other_entries test old new h = h

apart : (bs cs ks : List ℕ) → pointwise nat_eq bs cs ≡ false → pointwise nat_eq bs ks ≡ true → pointwise nat_eq cs ks ≡ false
apart bs cs ks n y = nat_list_eq_equiv.symm cs ks ∙ sym (nat_list_eq_equiv.congr bs ks cs y) ∙ n

-- after a change at these bytes, what is at any bytes
pub after_change : {X S : Type 0} (bs : List ℕ) (m n : HashMap Key X S) (w : Option X) → UpdatesBy same_bytes (has_bytes bs) m n w → (cs : List ℕ) → get_by (has_bytes cs) n ≡ cond (is_eq (slice_cmp nat_cmp cs bs)) w (get_by (has_bytes cs) m)
after_change bs m n w h cs =
    let flipped : is_eq (slice_cmp nat_cmp cs bs) ≡ pointwise nat_eq bs cs = is_eq-slice_cmp cs bs ∙ nat_list_eq_equiv.symm cs bs in
    ⊎_elim
    (λ y. subst (λ (l : List ℕ). get_by (has_bytes l) n ≡ w) (same_text bs cs (sym y)) h.1 ∙ sym (cond-true (is_eq (slice_cmp nat_cmp cs bs)) w (get_by (has_bytes cs) m) (flipped ∙ y)))
    (λ e. other_entries (has_bytes bs) m.entries n.entries h.3 (has_bytes cs) (λ x y. nat_list_eq_equiv.congr cs x.items y.items) (λ k. apart bs cs k.items e)
    ∙ sym (cond-false (is_eq (slice_cmp nat_cmp cs bs)) w (get_by (has_bytes cs) m) (flipped ∙ e)))
    (cases_Bool (pointwise nat_eq bs cs))

-- texts are equal where neither comes first
pub equal_bytes : (bs cs : List ℕ) → pointwise nat_eq bs cs ≡ is_eq (slice_cmp nat_cmp bs cs)
equal_bytes bs cs = sym (is_eq-slice_cmp bs cs)
