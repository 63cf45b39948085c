-- A pick at an SCN above a floor: an open version that counts wins, else the floor's pick stands.
use Rattle.std.proofs.Common.{◌≡◌, ℕ, ◌<◌, ◌≤◌, nat_le, Bool, true, false, not, cond, ◌&&◌, ◌||◌, List, [], ◌∷◌, ◌++◌, filter, Option, Some, None, refl, sym, ap, ap₂, ◌∙◌, arith, true≢false}
use Rattle.std.specs.List.{list_any}
use Rattle.std.proofs.lemmas.Bool.{le-leb, leb-true, ltb-true, or_parts}
use Rattle.std.proofs.lemmas.Bool.Decides.{nat_tests}
use Rattle.std.proofs.lemmas.Option.{none-some, same_Some}
use Rattle.std.proofs.lemmas.List.Elements.{filter-append}
use Rattle.row_blocks.specs.declared.version.Version.{Version}
use Rattle.row_blocks.specs.declared.version.End.{End}
use Rattle.row_blocks.specs.Pick.{Commits, counted, Candidate, candidate, is_upto, later, row_of, latest_by, picked_by}
use Rattle.row_blocks.specs.Versions.{Deed, Makes, Strikes, stands, strike, after_deed, is_late}
use Rattle.row_blocks.proofs.Picked.{later_wins, later_loses, candidate_struck, stands_parts}
use Rattle.row_blocks.proofs.Walked.{OfDeed, late_counted}

-- versions that are not struck and whose transaction has no end up to the floor
abbrev pub is_open_by : ℕ → (ℕ → Option End) → Version → Bool
is_open_by floor ends v = not v.struck && is_late floor (ends v.txn)

-- A candidate whose commit a test takes.
abbrev Takes : (ℕ → Type 0) → Option Candidate → Type 0
Takes P None = Unit {0}
Takes P (Some x) = P x.commit

takes_later : (P : ℕ → Type 0) (x y : Option Candidate) → Takes P x → Takes P y → Takes P (later x y)
takes_later P None y h k = k
takes_later P (Some x) None h k = h
takes_later P (Some x) (Some y) h k = by_test (is_upto x y)
  where
    by_test : (b : Bool) → Takes P (cond b (Some y) (Some x))
    by_test true = k
    by_test false = h

takes_candidate : (P : ℕ → Type 0) (v : Version) (o : Option ℕ) → ((p : ℕ) → o ≡ Some p → P p) → Takes P (candidate v o)
takes_candidate P v None h = tt
takes_candidate P v (Some p) h = by_test v.struck
  where
    by_test : (b : Bool) → Takes P (cond b None (Some (record { commit = p; pos = v.pos; row = v.row })))
    by_test true = tt
    by_test false = h p refl

takes_latest : (P : ℕ → Type 0) (c : Commits) (vs : List Version) → ((t p : ℕ) → c t ≡ Some p → P p) → Takes P (latest_by c vs)
takes_latest P c [] h = tt
takes_latest P c (v ∷ vs) h = takes_later P (candidate v (c v.txn)) (latest_by c vs) (takes_candidate P v (c v.txn) (h v.txn)) (takes_latest P c vs h)

-- the first if there is one, else the second
abbrev pub first_else : Option Candidate → Option Candidate → Option Candidate
first_else None y = y
first_else (Some x) y = Some x

-- Ends in their order: up to the floor they stand below a position, and above it they do not.
pub record IsParted (floor bound : ℕ) (ends : ℕ → Option End) : Type 0 where
  pub low : (t : ℕ) (e : End) → ends t ≡ Some e → e.scn ≤ floor → e.pos < bound
  pub high : (t : ℕ) (e : End) → ends t ≡ Some e → floor < e.scn → bound ≤ e.pos

counted_some : (q : ℕ) (x : Option End) (p : ℕ) → counted q x ≡ Some p → (e : End) × (x ≡ Some e) × (e.scn ≤ q) × (e.pos ≡ p)
counted_some q None p h = absurd (none-some p h)
counted_some q (Some e) p h = by_tests e.committed (nat_le e.scn q) refl h
  where
    by_tests : (b c : Bool) → nat_le e.scn q ≡ c → cond (b && c) (Some e.pos) None ≡ Some p → (x : End) × (◌≡◌ {A = Option End} (Some e) (Some x)) × (x.scn ≤ q) × (x.pos ≡ p)
    by_tests true true m k = (e, refl, leb-true e.scn q m, same_Some e.pos p k)
    by_tests true false m k = absurd (none-some p k)
    by_tests false c m k = absurd (none-some p k)

-- an end up to the floor counts alike at both
closed_same : (floor q : ℕ) (x : Option End) → floor ≤ q → is_late floor x ≡ false → counted q x ≡ counted floor x
closed_same floor q None u h = absurd (true≢false h)
closed_same floor q (Some e) u h =
    let l : e.scn ≤ floor = grind (arith, nat_tests) in
    ap (λ b. cond (e.committed && b) (Some e.pos) None) (le-leb e.scn q (omega arith) ∙ sym (le-leb e.scn floor l))

late_above : (floor : ℕ) (e : End) → is_late floor (Some e) ≡ true → floor < e.scn
late_above floor e h = ltb-true floor e.scn h

open_wins : (bound : ℕ) (c o f : Option Candidate) → Takes (λ p. bound ≤ p) c → Takes (λ p. p < bound) f → later c (first_else o f) ≡ first_else (later c o) f
open_wins bound None o f h k = refl
open_wins bound (Some x) None None h k = refl
open_wins bound (Some x) None (Some y) h k = let h' : bound ≤ x.commit = h in let k' : y.commit < bound = k in later_loses x y (omega arith)
open_wins bound (Some x) (Some o) f h k = by_test (is_upto x o)
  where
    by_test : (b : Bool) → cond b (Some o) (Some x) ≡ first_else (cond b (Some o) (Some x)) f
    by_test true = refl
    by_test false = refl

closed_loses : (bound : ℕ) (c o f : Option Candidate) → Takes (λ p. p < bound) c → Takes (λ p. bound ≤ p) o → later c (first_else o f) ≡ first_else o (later c f)
closed_loses bound c None f h k = refl
closed_loses bound None (Some o) f h k = refl
closed_loses bound (Some x) (Some o) f h k = let h' : x.commit < bound = h in let k' : bound ≤ o.commit = k in later_wins x o (omega arith)

module _ (floor q bound : ℕ) (ends : ℕ → Option End) (parted : IsParted floor bound ends) (upto : floor ≤ q) where
  high_candidate : (v : Version) → is_late floor (ends v.txn) ≡ true → Takes (λ p. bound ≤ p) (candidate v (counted q (ends v.txn)))
  high_candidate v l = takes_candidate (λ p. bound ≤ p) v (counted q (ends v.txn)) high
    where
      high : (p : ℕ) → counted q (ends v.txn) ≡ Some p → bound ≤ p
      high p k =
          let c = counted_some q (ends v.txn) p k in
          let above : floor < c.0.scn = late_above floor c.0 (ap (is_late floor) (sym c.1) ∙ l) in
          let h : bound ≤ c.0.pos = parted.high v.txn c.0 c.1 above in
          let e : c.0.pos ≡ p = c.3 in
          omega arith

  low_commit : (t p : ℕ) → counted floor (ends t) ≡ Some p → p < bound
  low_commit t p k =
      let c = counted_some floor (ends t) p k in
      let h : c.0.pos < bound = parted.low t c.0 c.1 c.2 in
      let e : c.0.pos ≡ p = c.3 in
      omega arith

  open_high : (vs : List Version) → Takes (λ p. bound ≤ p) (latest_by (λ t. counted q (ends t)) (filter (is_open_by floor ends) vs))
  open_high [] = tt
  open_high (v ∷ vs) = by_tests v.struck (is_late floor (ends v.txn)) refl (open_high vs)
    where
      by_tests : (s l : Bool) → is_late floor (ends v.txn) ≡ l → Takes (λ p. bound ≤ p) (latest_by (λ t. counted q (ends t)) (filter (is_open_by floor ends) vs))
          → Takes (λ p. bound ≤ p) (latest_by (λ t. counted q (ends t)) (cond (not s && l) (v ∷ filter (is_open_by floor ends) vs) (filter (is_open_by floor ends) vs)))
      by_tests true l k ih = ih
      by_tests false false k ih = ih
      by_tests false true k ih = takes_later (λ p. bound ≤ p) (candidate v (counted q (ends v.txn))) _ (high_candidate v k) ih

  pub latest_through : (vs : List Version)
      → latest_by (λ t. counted q (ends t)) vs ≡ first_else (latest_by (λ t. counted q (ends t)) (filter (is_open_by floor ends) vs)) (latest_by (λ t. counted floor (ends t)) vs)
  latest_through [] = refl
  latest_through (v ∷ vs) = by_tests v.struck (is_late floor (ends v.txn)) refl refl (latest_through vs)
    where
      by_tests : (s l : Bool) → v.struck ≡ s → is_late floor (ends v.txn) ≡ l
          → latest_by (λ t. counted q (ends t)) vs ≡ first_else (latest_by (λ t. counted q (ends t)) (filter (is_open_by floor ends) vs)) (latest_by (λ t. counted floor (ends t)) vs)
          → later (candidate v (counted q (ends v.txn))) (latest_by (λ t. counted q (ends t)) vs)
          ≡ first_else (latest_by (λ t. counted q (ends t)) (cond (not s && l) (v ∷ filter (is_open_by floor ends) vs) (filter (is_open_by floor ends) vs)))
          (later (candidate v (counted floor (ends v.txn))) (latest_by (λ t. counted floor (ends t)) vs))
      by_tests true l k m ih = rw (candidate_struck v (counted q (ends v.txn)) k, candidate_struck v (counted floor (ends v.txn)) k) ih
      by_tests false true k m ih =
          rw (late_counted floor (ends v.txn) m)
          (ap (later (candidate v (counted q (ends v.txn)))) ih
          ∙ open_wins bound (candidate v (counted q (ends v.txn))) _ _ (high_candidate v m) (takes_latest (λ p. p < bound) (λ t. counted floor (ends t)) vs low_commit))
      by_tests false false k m ih =
          rw (closed_same floor q (ends v.txn) upto m)
          (ap (later (candidate v (counted floor (ends v.txn)))) ih
          ∙ closed_loses bound (candidate v (counted floor (ends v.txn))) _ _ (takes_candidate (λ p. p < bound) v (counted floor (ends v.txn)) (low_commit v.txn)) (open_high vs))

  first_row : (o x y : Option Candidate) → row_of x ≡ row_of y → row_of (first_else o x) ≡ row_of (first_else o y)
  first_row None x y h = h
  first_row (Some c) x y h = refl

  -- versions with the same open ones and the same pick at the floor have the same pick
  pub picked_through : (vs ws : List Version) → filter (is_open_by floor ends) vs ≡ filter (is_open_by floor ends) ws
      → picked_by (λ t. counted floor (ends t)) vs ≡ picked_by (λ t. counted floor (ends t)) ws
      → picked_by (λ t. counted q (ends t)) vs ≡ picked_by (λ t. counted q (ends t)) ws
  picked_through vs ws e h =
      ap row_of (latest_through vs)
      ∙ first_row (latest_by (λ t. counted q (ends t)) (filter (is_open_by floor ends) vs)) _ _ h
      ∙ ap (λ l. row_of (first_else (latest_by (λ t. counted q (ends t)) l) (latest_by (λ t. counted floor (ends t)) ws))) e
      ∙ sym (ap row_of (latest_through ws))

-- a strike, seen at the open versions: the latest that stands leaves them
abbrev pub without_last : ℕ → List Version → List Version
without_last t [] = []
without_last t (v ∷ vs) = cond (list_any (stands t) vs) (v ∷ without_last t vs) (cond (stands t v) vs (v ∷ vs))

module _ (floor : ℕ) (ends : ℕ → Option End) (t : ℕ) (late : is_late floor (ends t) ≡ true) where
  open_stands : (v : Version) → stands t v ≡ true → is_open_by floor ends v ≡ true
  open_stands v h =
      let p = stands_parts t v h in
      ap₂ (λ x y. not x && is_late floor (ends y)) p.1 p.0 ∙ late

  any_open : (vs : List Version) → list_any (stands t) (filter (is_open_by floor ends) vs) ≡ list_any (stands t) vs
  any_open [] = refl
  any_open (v ∷ vs) = by_tests (is_open_by floor ends v) (stands t v) refl refl (any_open vs)
    where
      by_tests : (o s : Bool) → is_open_by floor ends v ≡ o → stands t v ≡ s → list_any (stands t) (filter (is_open_by floor ends) vs) ≡ list_any (stands t) vs
          → list_any (stands t) (cond o (v ∷ filter (is_open_by floor ends) vs) (filter (is_open_by floor ends) vs)) ≡ (s || list_any (stands t) vs)
      by_tests true s h k ih = ap₂ (λ x y. x || y) k ih
      by_tests false true h k ih = absurd (true≢false (sym (open_stands v k) ∙ h))
      by_tests false false h k ih = ih

  open_strike : (vs : List Version) → filter (is_open_by floor ends) (strike t vs) ≡ without_last t (filter (is_open_by floor ends) vs)
  open_strike [] = refl
  open_strike (v ∷ vs) = by_tests (list_any (stands t) vs) (stands t v) (is_open_by floor ends v) refl refl refl (open_strike vs)
    where
      by_tests : (x s o : Bool) → list_any (stands t) vs ≡ x → stands t v ≡ s → is_open_by floor ends v ≡ o
          → filter (is_open_by floor ends) (strike t vs) ≡ without_last t (filter (is_open_by floor ends) vs)
          → filter (is_open_by floor ends) (cond x (v ∷ strike t vs) (cond s (record v { struck = true } ∷ vs) (v ∷ vs)))
          ≡ without_last t (cond o (v ∷ filter (is_open_by floor ends) vs) (filter (is_open_by floor ends) vs))
      by_tests true s true a b c ih = rw (c, any_open vs, a) (ap (λ l. v ∷ l) ih)
      by_tests true s false a b c ih = rw c ih
      by_tests false true true a b c ih = rw (any_open vs, a, b) refl
      by_tests false true false a b c ih = absurd (true≢false (sym (open_stands v b) ∙ c))
      by_tests false false true a b c ih = rw (c, any_open vs, a, b) refl
      by_tests false false false a b c ih = rw c (none_leaves (filter (is_open_by floor ends) vs) (any_open vs ∙ a))
        where
          none_leaves : (ws : List Version) → list_any (stands t) ws ≡ false → ws ≡ without_last t ws
          none_leaves [] h = refl
          none_leaves (w ∷ ws) h = let p = or_parts (stands t w) (list_any (stands t) ws) h in rw (p.1, p.0) refl

-- a deed of a transaction that has not ended, seen at the open versions
pub open_deed : (floor : ℕ) (ends : ℕ → Option End) (vs ws : List Version) (pos : ℕ) (d : Option Deed) → OfDeed (λ t. is_late floor (ends t) ≡ true) d
    → filter (is_open_by floor ends) vs ≡ filter (is_open_by floor ends) ws
    → filter (is_open_by floor ends) (after_deed vs pos d) ≡ filter (is_open_by floor ends) (after_deed ws pos d)
open_deed floor ends vs ws pos None l e = e
open_deed floor ends vs ws pos (Some (Makes t row)) l e =
    filter-append (is_open_by floor ends) vs _ ∙ ap (λ us. us ++ filter (is_open_by floor ends) (record { pos = pos; txn = t; row = row; struck = false } ∷ [])) e ∙ sym (filter-append (is_open_by floor ends) ws _)
open_deed floor ends vs ws pos (Some (Strikes t)) l e = open_strike floor ends t l vs ∙ ap (without_last t) e ∙ sym (open_strike floor ends t l ws)
