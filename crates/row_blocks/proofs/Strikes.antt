-- Lemmas on the latest version of a transaction that stands.
use Rattle.std.proofs.Common.{◌≡◌, ℕ, zero, suc, ◌+◌, true, false, ◌||◌, ◌<◌, Bool, not, ◌==◌, ◌&&◌, List, [], ◌∷◌, take, drop, Option, Some, None, subst, refl, sym, ap, ◌∙◌, arith, slice_set, get_or}
use Rattle.std.specs.List.{AllByRecursion, list_any, slice_get}
use Rattle.std.proofs.lemmas.Option.{same_Some, none-some, get_or_from_slice_get}
use Rattle.std.proofs.lemmas.Bool.{or_parts, or_right}
use Rattle.row_blocks.specs.declared.version.Version.{Version}
use Rattle.row_blocks.specs.Versions.{stands, strike}
use Rattle.row_blocks.specs.Block.{IsLatest, IsStruck}

pub strike_none : (t : ℕ) (vs : List Version) → IsLatest t vs None → vs ≡ strike t vs
strike_none t [] h = refl
strike_none t (v ∷ vs) h = let p = or_parts (stands t v) (list_any (stands t) vs) h in rw (p.1, p.0) refl

any_at : (t i : ℕ) (vs : List Version) (v : Version) → slice_get vs i ≡ Some v → stands t v ≡ true → list_any (stands t) vs ≡ true
any_at t i [] v h k = absurd (none-some v h)
any_at t zero (w ∷ vs) v h k = let e : w ≡ v = same_Some w v h in ap (λ x. x || list_any (stands t) vs) (ap (stands t) e ∙ k)
any_at t (suc i) (w ∷ vs) v h k = or_right (stands t w) (list_any (stands t) vs) (any_at t i vs v h k)

pub strike_at : (t i : ℕ) (vs : List Version) (v : Version) → slice_get vs i ≡ Some v → stands t v ≡ true → list_any (stands t) (drop (i + 1) vs) ≡ false
    → slice_set vs i (record v { struck = true }) ≡ strike t vs
strike_at t i [] v h k n = absurd (none-some v h)
strike_at t zero (w ∷ vs) v h k n =
    let e : w ≡ v = same_Some w v h in
    rw (n, ap (stands t) e ∙ k) (ap (λ (x : Version). record x { struck = true } ∷ vs) (sym e))
strike_at t (suc i) (w ∷ vs) v h k n =
    let s : suc i + 1 ≡ suc (i + 1) = omega arith in
    let m : list_any (stands t) (drop (i + 1) vs) ≡ false = ap (λ j. list_any (stands t) (drop j (w ∷ vs))) (sym s) ∙ n in
    rw (any_at t i vs v h k) (ap (λ l. w ∷ l) (strike_at t i vs v h k m))

-- the version that was read at that index, struck in its place
pub strike_latest : (t i : ℕ) (vs : List Version) (w : Version) → IsLatest t vs (Some i) → w ≡ get_or vs i w → slice_set vs i (record w { struck = true }) ≡ strike t vs
strike_latest t i vs w h e =
    let same : w ≡ h.0 = e ∙ get_or_from_slice_get vs i h.0 w h.1 in
    ap (λ (x : Version). slice_set vs i (record x { struck = true })) same ∙ strike_at t i vs h.0 h.1 h.2 h.3

-- no version that is struck stands
struck_falls : (t : ℕ) (v : Version) → IsStruck v → stands t v ≡ false
struck_falls t v h = by_test (v.txn == t) v.struck h
  where
    by_test : (b c : Bool) → c ≡ true → (b && not c) ≡ false
    by_test true c h = rw h refl
    by_test false c h = refl

none_stands : (t : ℕ) (vs : List Version) → AllByRecursion IsStruck vs → list_any (stands t) vs ≡ false
none_stands t [] h = refl
none_stands t (v ∷ vs) h = rw (struck_falls t v h.0) (none_stands t vs h.1)

any_before : (t end : ℕ) (vs : List Version) → AllByRecursion IsStruck (drop end vs) → list_any (stands t) vs ≡ list_any (stands t) (take end vs)
any_before t zero vs h = none_stands t vs h
any_before t (suc end) [] h = refl
any_before t (suc end) (v ∷ vs) h = ap (λ x. stands t v || x) (any_before t end vs h)

some_before : (t end i : ℕ) (vs : List Version) (v : Version) → AllByRecursion IsStruck (drop end vs) → slice_get (take end vs) i ≡ Some v
    → list_any (stands t) (drop (i + 1) (take end vs)) ≡ false → (slice_get vs i ≡ Some v) × (list_any (stands t) (drop (i + 1) vs) ≡ false)
some_before t zero i vs v h k n = absurd (none-some v k)
some_before t (suc end) i [] v h k n = absurd (none-some v k)
some_before t (suc end) zero (w ∷ vs) v h k n = (k, any_before t end vs h ∙ n)
some_before t (suc end) (suc i) (w ∷ vs) v h k n =
    let s : suc i + 1 ≡ suc (i + 1) = omega arith in
    let m : list_any (stands t) (drop (i + 1) (take end vs)) ≡ false = ap (λ j. list_any (stands t) (drop j (w ∷ take end vs))) (sym s) ∙ n in
    let rest = some_before t end i vs v h k m in
    (rest.0, ap (λ j. list_any (stands t) (drop j (w ∷ vs))) s ∙ rest.1)

-- the latest before those that are struck is the latest of all
pub latest_before : (t end : ℕ) (vs : List Version) (found : Option ℕ) → AllByRecursion IsStruck (drop end vs) → IsLatest t (take end vs) found → IsLatest t vs found
latest_before t end vs None h k = any_before t end vs h ∙ k
latest_before t end vs (Some i) h k = let rest = some_before t end i vs k.0 h k.1 k.3 in (k.0, rest.0, k.2, rest.1)

-- where the last of those before is struck, one more is
pub struck_more : (i : ℕ) (vs : List Version) (w : Version) → AllByRecursion IsStruck (drop (i + 1) vs) → IsStruck w → AllByRecursion IsStruck (drop i (slice_set vs i w))
struck_more zero [] w h k = tt
struck_more (suc i) [] w h k = tt
struck_more zero (v ∷ vs) w h k = (k, h)
struck_more (suc i) (v ∷ vs) w h k =
    let s : suc i + 1 ≡ suc (i + 1) = omega arith in
    struck_more i vs w (subst (λ j. AllByRecursion IsStruck (drop j (v ∷ vs))) s h) k

pub struck_same : (i end : ℕ) (vs : List Version) (w : Version) → i < end → AllByRecursion IsStruck (drop end vs) → AllByRecursion IsStruck (drop end (slice_set vs i w))
struck_same i end [] w l h = h
struck_same i zero (v ∷ vs) w l h = absurd (omega arith)
struck_same zero (suc end) (v ∷ vs) w l h = h
struck_same (suc i) (suc end) (v ∷ vs) w l h = struck_same i end vs w (omega arith) h
