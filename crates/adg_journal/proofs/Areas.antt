-- What an area holds, from the map that it keeps.
use Rattle.std.proofs.Common.{◌≡◌, ℕ, ◌<◌, ◌⊎◌, inl, inr, ◌↔◌, Bool, true, false, cond, nat_eq, if◌then◌else◌, List, [], ◌∷◌, ◌++◌, length, map, Option, Some, None, Result, Ok, Err, OnOk, OnErr, IfSome, sym, ap, ◌∙◌, refl, subst, arith, true≢false, is_some, length-append}
use Rattle.std.specs.List.{list_any, IsDistinct}
use Rattle.std.specs.Map.{lookup, keys_of}
use Rattle.std.specs.Option.{option_map}
use Rattle.std.proofs.lemmas.Bool.{eqb-true}
use Rattle.adg_base.specs.Address.{Place}
use Rattle.adg_base.specs.Area.{Held}
use Rattle.adg_journal.specs.declared.noted.Noted.{Noted}
use Rattle.adg_journal.specs.Places.{same_place, EachOnce, with_place}
use Rattle.adg_journal.specs.Area.{held_of, places_in, begun_in, places_of, is_begun, Sets, HoldsSame, IsHeld, IsArea}
use Rattle.adg_journal.specs.Shown.{held_from, shown}
use Rattle.adg_journal.proofs.Once.{none_once}

-- what is held of a transaction is what the map has of it
pub held_shown : (es : List (ℕ × Noted)) (txn : ℕ) → held_of (shown es) txn ≡ option_map (held_from txn) (lookup (nat_eq txn) es)
held_shown [] txn = refl
held_shown (e ∷ es) txn = by (nat_eq txn e.0) refl (held_shown es txn)
  where
    by : (b : Bool) → nat_eq txn e.0 ≡ b → held_of (shown es) txn ≡ option_map (held_from txn) (lookup (nat_eq txn) es)
        → cond b (Some (held_from e.0 e.1)) (held_of (shown es) txn) ≡ option_map (held_from txn) (cond b (Some e.1) (lookup (nat_eq txn) es))
    by true k rest = ap (λ t. Some (held_from t e.1)) (sym (eqb-true txn e.0 k))
    by false k rest = rest

-- the same, of an area that the map shows
pub known : (area : List Held) (es : List (ℕ × Noted)) (txn : ℕ) (found : Option Noted) → shown es ≡ area → lookup (nat_eq txn) es ≡ found → held_of area txn ≡ option_map (held_from txn) found
known area es txn found shows is = ap (λ a. held_of a txn) (sym shows) ∙ held_shown es txn ∙ ap (option_map (held_from txn)) is

-- no transaction stands twice where no key does
pub shown_once : (es : List (ℕ × Noted)) → IsDistinct nat_eq (keys_of es) → IsDistinct nat_eq (map (λ (held : Held). held.txn) (shown es))
shown_once es once = subst (IsDistinct nat_eq) (sym (by es)) once
  where
    by : (es : List (ℕ × Noted)) → map (λ (held : Held). held.txn) (shown es) ≡ keys_of es
    by [] = refl
    by (e ∷ es) = ap (λ l. e.0 ∷ l) (by es)

-- a map that has something else at one key shows an area that holds something else of one transaction
pub set_by_map : (area : List Held) (es fs : List (ℕ × Noted)) (txn : ℕ) (noted : Option Noted) (held : Option Held) → shown es ≡ area
    → ((q : ℕ) → lookup (nat_eq q) fs ≡ cond (nat_eq txn q) noted (lookup (nat_eq q) es)) → option_map (held_from txn) noted ≡ held → Sets area (shown fs) txn held
set_by_map area es fs txn noted held shows is same q = held_shown fs q ∙ ap (option_map (held_from q)) (is q) ∙ by (nat_eq txn q) refl ∙ ap (λ a. if nat_eq txn q then held else held_of a q) shows
  where
    by : (b : Bool) → nat_eq txn q ≡ b → option_map (held_from q) (cond b noted (lookup (nat_eq q) es)) ≡ (if b then held else held_of (shown es) q)
    by true k = ap (λ t. option_map (held_from t) noted) (sym (eqb-true txn q k)) ∙ same
    by false k = sym (held_shown es q)

-- a map that has at one key what it had shows an area that holds the same
pub same_by_map : (area : List Held) (es fs : List (ℕ × Noted)) (txn : ℕ) (noted : Option Noted) → shown es ≡ area → lookup (nat_eq txn) es ≡ noted
    → ((q : ℕ) → lookup (nat_eq q) fs ≡ cond (nat_eq txn q) noted (lookup (nat_eq q) es)) → HoldsSame area (shown fs)
same_by_map area es fs txn noted shows had is q =
    set_by_map area es fs txn noted (option_map (held_from txn) noted) shows is refl q ∙ by (nat_eq txn q) refl
  where
    by : (b : Bool) → nat_eq txn q ≡ b → (if b then option_map (held_from txn) noted else held_of area q) ≡ held_of area q
    by true k = sym (known area es txn noted shows had) ∙ ap (held_of area) (eqb-true txn q k)
    by false k = refl

-- an area stays one where what is held of one transaction now is its beginning or an address
pub still_area : (old new : List Held) (txn : ℕ) (held : Option Held) → IsArea old → IsDistinct nat_eq (map (λ (h : Held). h.txn) new) → Sets old new txn held → IfSome held IsHeld → IsArea new
still_area old new txn held area once sets fine = record { once = once; each = λ q. subst (λ h. IfSome h IsHeld) (sym (sets q)) (by (nat_eq txn q) (held_of old q) (area.each q)) }
  where
    by : (b : Bool) (rest : Option Held) → IfSome rest IsHeld → IfSome (if b then held else rest) IsHeld
    by true rest k = fine
    by false rest k = k

pub still_same : (old new : List Held) → IsArea old → IsDistinct nat_eq (map (λ (h : Held). h.txn) new) → HoldsSame old new → IsArea new
still_same old new area once same = record { once = once; each = λ q. subst (λ h. IfSome h IsHeld) (sym (same q)) (area.each q) }

-- no address of a transaction stands twice
pub places_once : (area : List Held) (txn : ℕ) → IsArea area → EachOnce (places_of area txn)
places_once area txn is = by (held_of area txn) (is.each txn)
  where
    by : (held : Option Held) → IfSome held IsHeld → EachOnce (places_in held)
    by None k = none_once
    by (Some h) k = k.once

-- nothing is held of a transaction exactly where neither its beginning nor an address is
pub none_held : (area : List Held) (txn : ℕ) (result : Option (List Place)) → IsArea area → result ≡ option_map (λ (held : Held). held.places) (held_of area txn)
    → (result ≡ None) ↔ ((places_of area txn ≡ []) × (is_begun area txn ≡ false))
none_held area txn result is gives = subst (λ r. (r ≡ None) ↔ ((places_of area txn ≡ []) × (is_begun area txn ≡ false))) (sym gives) (by (held_of area txn) (is.each txn))
  where
    some_held : (h : Held) → (h.begun ≡ true) ⊎ (0 < length h.places) → h.places ≡ [] → h.begun ≡ false → ⊥
    some_held h (inl begun) empty not_begun = true≢false (sym begun ∙ not_begun)
    some_held h (inr some) empty not_begun = omega (arith, some, ap length empty)

    some_is_none : {X : Type 0} {x : X} → Some x ≡ None → ⊥
    some_is_none e = true≢false (ap (λ o. is_some o) e)

    by : (held : Option Held) → IfSome held IsHeld → (option_map (λ (h : Held). h.places) held ≡ None) ↔ ((places_in held ≡ []) × (begun_in held ≡ false))
    by None k = ((λ e. (refl, refl)), (λ e. refl))
    by (Some h) k = ((λ e. absurd (some_is_none e)), (λ e. absurd (some_held h k.some e.0 e.1)))

-- one more address makes at least one
pub with_place_some : (at : Place) (ps : List Place) → 0 < length (with_place at ps)
with_place_some at ps = by (list_any (same_place at) ps) refl
  where
    any_some : (ps : List Place) → list_any (same_place at) ps ≡ true → 0 < length ps
    any_some [] k = absurd (true≢false (sym k))
    any_some (p ∷ ps) k = omega arith

    by : (b : Bool) → list_any (same_place at) ps ≡ b → 0 < length (if b then ps else ps ++ at ∷ [])
    by true k = any_some ps k
    by false k = omega (arith, length-append ps (at ∷ []))

-- what follows where a call succeeds, and where it fails
pub on_ok : {X E : Type 0} {P Q : Type 0} (result : Result X E) → (P → Q) → OnOk result P → OnOk result Q
on_ok (Ok x) from p = from p
on_ok (Err e) from p = tt

pub on_err : {X E : Type 0} {P Q : Type 0} (result : Result X E) → (P → Q) → OnErr result P → OnErr result Q
on_err (Ok x) from p = tt
on_err (Err e) from p = from p

-- the addresses of what was found, and whether it has a beginning
abbrev pub places_found : Option Noted → List Place
places_found None = []
places_found (Some noted) = noted.places

abbrev pub begun_found : Option Noted → Bool
begun_found None = false
begun_found (Some noted) = noted.begun

-- they are those that the area holds
pub places_known : (area : List Held) (es : List (ℕ × Noted)) (txn : ℕ) (found : Option Noted) → shown es ≡ area → lookup (nat_eq txn) es ≡ found → places_found found ≡ places_of area txn
places_known area es txn None shows is = sym (ap places_in (known area es txn None shows is))
places_known area es txn (Some noted) shows is = sym (ap places_in (known area es txn (Some noted) shows is))

pub begun_known : (area : List Held) (es : List (ℕ × Noted)) (txn : ℕ) (found : Option Noted) → shown es ≡ area → lookup (nat_eq txn) es ≡ found → begun_found found ≡ is_begun area txn
begun_known area es txn None shows is = sym (ap begun_in (known area es txn None shows is))
begun_known area es txn (Some noted) shows is = sym (ap begun_in (known area es txn (Some noted) shows is))

-- a map that has this at one key shows an area that holds it of the transaction
pub sets_noted : (area : List Held) (es fs : List (ℕ × Noted)) (txn : ℕ) (now : Noted) (begun : Bool) (places : List Place) → shown es ≡ area
    → ((q : ℕ) → lookup (nat_eq q) fs ≡ cond (nat_eq txn q) (Some now) (lookup (nat_eq q) es)) → now.begun ≡ begun → now.places ≡ places
    → Sets area (shown fs) txn (Some (record { txn = txn; begun = begun; places = places }))
sets_noted area es fs txn now begun places shows is b p =
    set_by_map area es fs txn (Some now) (Some (record { txn = txn; begun = begun; places = places })) shows is (λ j. Some (record { txn = txn; begun = b j; places = p j }))

-- and it is an area, where that is the beginning or an address
pub area_noted : (es fs : List (ℕ × Noted)) (txn : ℕ) (now : Noted) → IsArea (shown es) → IsDistinct nat_eq (keys_of fs)
    → ((q : ℕ) → lookup (nat_eq q) fs ≡ cond (nat_eq txn q) (Some now) (lookup (nat_eq q) es)) → IsHeld (held_from txn now) → IsArea (shown fs)
area_noted es fs txn now area once is fine =
    still_area (shown es) (shown fs) txn (Some (held_from txn now)) area (shown_once fs once) (sets_noted (shown es) es fs txn now now.begun now.places refl is refl refl) fine

-- what the map has of a transaction is held
pub found_held : (es : List (ℕ × Noted)) (txn : ℕ) (noted : Noted) → IsArea (shown es) → lookup (nat_eq txn) es ≡ Some noted → IsHeld (held_from txn noted)
found_held es txn noted area had = subst (λ h. IfSome h IsHeld) (known (shown es) es txn (Some noted) refl had) (area.each txn)

-- it still is after an address was noted or found no memory
pub noted_held : {X E : Type 0} (result : Result X E) (txn : ℕ) (begun : Bool) (at : Place) (old new : List Place) → OnOk result (new ≡ with_place at old) → OnErr result (new ≡ old)
    → EachOnce new → IsHeld (record { txn = txn; begun = begun; places = old }) → IsHeld (record { txn = txn; begun = begun; places = new })
noted_held (Ok x) txn begun at old new ok err once held = record { some = inr (subst (λ ps. 0 < length ps) (sym ok) (with_place_some at old)); once = once }
noted_held (Err e) txn begun at old new ok err once held = subst (λ ps. IsHeld (record { txn = txn; begun = begun; places = ps })) (sym err) held
