-- The room that spellings leave, one after another.
use Rattle.std.proofs.Common.{◌≡◌, ℕ, suc, ◌+◌, ◌-◌, ◌<◌, ◌≤◌, Bool, true, false, cond, ltb, List, [], ◌∷◌, length, get_or, take, Some, None, refl, sym, ap, ◌∙◌, arith}
use Rattle.std.specs.List.{flat_map}
use Rattle.std.proofs.lemmas.Bool.{ltb-true, ltb-false, lt-ltb, le-ltb}
use Rattle.std.proofs.lemmas.List.Folds.{length-flat_map-take}
use Rattle.adg_base.specs.declared.value.ColKind.{ColKind}
use Rattle.adg_model.specs.Spelling.{kind_byte}
use Rattle.change_vectors.specs.Room.{room_after}

room_by : (room len : ℕ) (b : Bool) → ltb room len ≡ b → None ≡ cond b None (Some (room - len)) → room < len
room_by room len true is e = ltb-true room len is
room_by room len false is e = absurd cc

pub no_room : (room len : ℕ) → None ≡ room_after room len → room < len
no_room room len e = room_by room len (ltb room len) refl e

left_by : (room len left : ℕ) (b : Bool) → ltb room len ≡ b → Some left ≡ cond b None (Some (room - len)) → left + len ≡ room
left_by room len left true is e = absurd cc
left_by room len left false is e =
    let le : len ≤ room = ltb-false room len is in
    let same : left ≡ room - len = cc in
    omega arith

pub what_is_left : (room len left : ℕ) → Some left ≡ room_after room len → left + len ≡ room
what_is_left room len left e = left_by room len left (ltb room len) refl e

pub has_no_room : (room len : ℕ) → room < len → None ≡ room_after room len
has_no_room room len lt = rw (lt-ltb room len lt) refl

pub has_room : (room len left : ℕ) → left + len ≡ room → Some left ≡ room_after room len
has_room room len left e = rw (le-ltb room len (omega arith)) (ap (λ (n : ℕ). Some n) (omega arith))

both_by : (room a b left : ℕ) → left + a ≡ room → (t : Bool) → ltb left b ≡ t → room_after left b ≡ room_after room (a + b)
both_by room a b left sum true is =
    let lt : left < b = ltb-true left b is in
    sym (has_no_room left b lt) ∙ has_no_room room (a + b) (omega arith)
both_by room a b left sum false is =
    let le : b ≤ left = ltb-false left b is in
    sym (has_room left b (left - b) (omega arith)) ∙ has_room room (a + b) (left - b) (omega arith)

pub room_after_both : (room a b left : ℕ) → Some left ≡ room_after room a → room_after left b ≡ room_after room (a + b)
room_after_both room a b left e = both_by room a b left (what_is_left room a left e) (ltb left b) refl

-- in a loop over things with spellings, the next does not fit
pub too_small : {X : Type 0} (f : X → List ℕ) (xs : List X) (i room left len : ℕ) (x : X) → i < length xs → x ≡ get_or xs i x → left + length (flat_map f (take i xs)) ≡ room → len ≡ length (f x) → None ≡ room_after left len → None ≡ room_after room (length (flat_map f xs))
too_small {X = X} f xs i room left len x lt is so_far e full =
    let small : left < len = no_room left len full in
    let whole : length (flat_map f (take i xs)) + length (f (get_or xs i x)) ≤ length (flat_map f xs) = length-flat_map-take f xs i x lt in
    let same : length (f x) ≡ length (f (get_or xs i x)) = ap (λ (y : X). length (f y)) is in
    has_no_room room (length (flat_map f xs)) (omega arith)

pub kinds_len : (kinds : List ColKind) → length (flat_map (λ k. kind_byte k ∷ []) kinds) ≡ length kinds
kinds_len [] = refl
kinds_len (k ∷ kinds) = ap suc (kinds_len kinds)
