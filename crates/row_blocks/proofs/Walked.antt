-- The walk over a log, and the versions and ends that it makes: the picked version is the committed row.
use Rattle.std.proofs.Common.{◌≡◌, ℕ, ◌+◌, ◌<◌, ◌≤◌, ◌==◌, nat_le, Bool, true, false, not, cond, ◌&&◌, ◌||◌, List, [], ◌∷◌, ◌++◌, length, Option, Some, None, refl, sym, ap, ap₂, ◌∙◌, arith, true≢false, subst}
use Rattle.std.specs.List.{list_any, AllByRecursion}
use Rattle.std.specs.Option.{is_some}
use Rattle.std.proofs.lemmas.Bool.{eqb-true, and_parts, not-true, le-leb, leb-true, leb-false, lt-ltb}
use Rattle.std.proofs.lemmas.Option.{same_Some, none-some}
use Rattle.std.proofs.lemmas.Bool.Decides.{nat_tests}
use Rattle.adg_base.specs.Address.{Place, place, same_place}
use Rattle.adg_base.specs.declared.value.Value.{Value}
use Rattle.adg_base.specs.declared.vector.Vector.{Vector}
use Rattle.adg_base.specs.declared.vector.Vector.TheVariants.{Begin, Put, Delete, Undo, Commit, Abort, Create, DropObject, AddColumn, NoInMemory, EndThread}
use Rattle.adg_base.specs.declared.log.LogEntry.{LogEntry}
use Rattle.adg_model.specs.Log.{numbered, upto}
use Rattle.adg_model.specs.Database.{Rows, Change, Database, played, struck, set_at, after, walked}
use Rattle.adg_model.specs.declared.fault.CheckKind.{CheckKind}
use Rattle.adg_model.specs.Sound.{demand, refusal, SoundFrom, ScnsWithin, is_running}
use Rattle.adg_model.proofs.LogLaws.{upto_none}
use Rattle.row_blocks.specs.declared.version.Version.{Version}
use Rattle.row_blocks.specs.declared.version.End.{End}
use Rattle.row_blocks.specs.Pick.{counted, later, row_of, latest_by}
use Rattle.row_blocks.specs.Versions.{Deed, Makes, Strikes, deed_at, stands, strike, after_deed, versions_after, end_by, earlier, end_of, is_late}
use Rattle.row_blocks.proofs.Picked.{latest_by_same, latest_by_push, latest_by_strike, standing, Rising, CommitsAt, won, first_or, won_row}

abbrev pub Row : Type 0
Row = Option (List Value)

-- the rows of pending changes at an address
abbrev pub here : Place → List Change → List Row
here a [] = []
here a (c ∷ cs) = cond (same_place a c.at) (c.row ∷ here a cs) (here a cs)

abbrev pub tail : List Row → List Row
tail [] = []
tail (r ∷ rs) = rs

pub played_here : (a : Place) (cs : List Change) (rows : Rows) → played cs rows a ≡ first_or (here a cs) (rows a)
played_here a [] rows = refl
played_here a (c ∷ cs) rows = by_test (same_place a c.at) (played_here a cs rows)
  where
    by_test : (b : Bool) → played cs rows a ≡ first_or (here a cs) (rows a) → cond b c.row (played cs rows a) ≡ first_or (cond b (c.row ∷ here a cs) (here a cs)) (rows a)
    by_test true ih = refl
    by_test false ih = ih

here_struck : (a : Place) (cs : List Change) → here a (struck a cs) ≡ tail (here a cs)
here_struck a [] = refl
here_struck a (c ∷ cs) = by_test (same_place a c.at) refl (here_struck a cs)
  where
    by_test : (b : Bool) → same_place a c.at ≡ b → here a (struck a cs) ≡ tail (here a cs) → here a (cond b cs (c ∷ struck a cs)) ≡ tail (cond b (c.row ∷ here a cs) (here a cs))
    by_test true e ih = refl
    by_test false e ih = rw e ih

-- two addresses that are the same are tested alike
same_by : (a b c : Place) → same_place a b ≡ true → same_place a c ≡ same_place b c
same_by a b c h = grind (arith, nat_tests)

here_struck_other : (a b : Place) (cs : List Change) → same_place a b ≡ false → here a (struck b cs) ≡ here a cs
here_struck_other a b [] h = refl
here_struck_other a b (c ∷ cs) h = by_tests (same_place b c.at) refl (here_struck_other a b cs h)
  where
    apart : same_place b c.at ≡ true → same_place a c.at ≡ false
    apart k = grind (arith, nat_tests)

    by_tests : (x : Bool) → same_place b c.at ≡ x → here a (struck b cs) ≡ here a cs → here a (cond x cs (c ∷ struck b cs)) ≡ here a (c ∷ cs)
    by_tests true e ih = rw (apart e) refl
    by_tests false e ih = ap (λ l. cond (same_place a c.at) (c.row ∷ l) l) ih

-- a strike at the same address
here_struck_same : (a b : Place) (cs : List Change) → same_place a b ≡ true → here a (struck b cs) ≡ tail (here a cs)
here_struck_same a b [] h = refl
here_struck_same a b (c ∷ cs) h = rw (same_by a b c.at h) (by_test (same_place b c.at) refl (here_struck_same a b cs h))
  where
    by_test : (x : Bool) → same_place b c.at ≡ x → here a (struck b cs) ≡ tail (here a cs) → here a (cond x cs (c ∷ struck b cs)) ≡ tail (cond x (c.row ∷ here a cs) (here a cs))
    by_test true e ih = refl
    by_test false e ih = rw (same_by a b c.at h ∙ e) ih

-- a version at the end
standing_push : (t : ℕ) (vs : List Version) (v : Version) → standing t (vs ++ v ∷ []) ≡ cond (stands t v) (v.row ∷ standing t vs) (standing t vs)
standing_push t [] v = by_test (stands t v)
  where
    by_test : (b : Bool) → [] ++ cond b (v.row ∷ []) [] ≡ cond b (v.row ∷ []) []
    by_test true = refl
    by_test false = refl
standing_push t (w ∷ vs) v = by_test (stands t v) (standing_push t vs v)
  where
    by_test : (b : Bool) → standing t (vs ++ v ∷ []) ≡ cond b (v.row ∷ standing t vs) (standing t vs)
        → standing t (vs ++ v ∷ []) ++ cond (stands t w) (w.row ∷ []) [] ≡ cond b (v.row ∷ standing t (w ∷ vs)) (standing t (w ∷ vs))
    by_test true ih = ap (λ l. l ++ cond (stands t w) (w.row ∷ []) []) ih
    by_test false ih = ap (λ l. l ++ cond (stands t w) (w.row ∷ []) []) ih

pub rising_push : (low : ℕ) (vs : List Version) (v : Version) → Rising low vs → AllByRecursion (λ w. w.pos < v.pos) vs → low ≤ v.pos → Rising low (vs ++ v ∷ [])
rising_push low [] v h k l = (l, tt)
rising_push low (w ∷ vs) v h k l = let m : w.pos < v.pos = k.0 in (h.0, rising_push (w.pos + 1) vs v h.1 k.1 (omega arith))

pub rising_strike : (low t : ℕ) (vs : List Version) → Rising low vs → Rising low (strike t vs)
rising_strike low t [] h = tt
rising_strike low t (v ∷ vs) h = by_tests (list_any (stands t) vs) (stands t v) (rising_strike (v.pos + 1) t vs h.1)
  where
    by_tests : (x y : Bool) → Rising (v.pos + 1) (strike t vs) → Rising low (cond x (v ∷ strike t vs) (cond y (record v { struck = true } ∷ vs) (v ∷ vs)))
    by_tests true y ih = (h.0, ih)
    by_tests false true ih = h
    by_tests false false ih = h

pub below_strike : (pos t : ℕ) (vs : List Version) → AllByRecursion (λ w. w.pos < pos) vs → AllByRecursion (λ w. w.pos < pos) (strike t vs)
below_strike pos t [] h = tt
below_strike pos t (v ∷ vs) h = by_tests (list_any (stands t) vs) (stands t v) (below_strike pos t vs h.1)
  where
    by_tests : (x y : Bool) → AllByRecursion (λ w. w.pos < pos) (strike t vs) → AllByRecursion (λ w. w.pos < pos) (cond x (v ∷ strike t vs) (cond y (record v { struck = true } ∷ vs) (v ∷ vs)))
    by_tests true y ih = (h.0, ih)
    by_tests false true ih = h
    by_tests false false ih = h

none_stands : (t : ℕ) (vs : List Version) → list_any (stands t) vs ≡ false → standing t vs ≡ []
none_stands t [] h = refl
none_stands t (v ∷ vs) h = by_test (stands t v) refl h (none_stands t vs)
  where
    by_test : (b : Bool) → stands t v ≡ b → (b || list_any (stands t) vs) ≡ false → (list_any (stands t) vs ≡ false → standing t vs ≡ []) → standing t vs ++ cond b (v.row ∷ []) [] ≡ []
    by_test true e k ih = absurd (true≢false k)
    by_test false e k ih = rw (ih k) refl

abbrev IsMore : List Row → Type 0
IsMore [] = ⊥
IsMore (r ∷ rs) = Unit {0}

more_append : (rs qs : List Row) → IsMore rs → IsMore (rs ++ qs)
more_append [] qs h = absurd h
more_append (r ∷ rs) qs h = tt

more_append_one : (rs : List Row) (r : Row) → IsMore (rs ++ r ∷ [])
more_append_one [] r = tt
more_append_one (q ∷ rs) r = tt

tail_append : (rs qs : List Row) → IsMore rs → tail (rs ++ qs) ≡ tail rs ++ qs
tail_append [] qs h = absurd h
tail_append (r ∷ rs) qs h = refl

some_stands : (t : ℕ) (vs : List Version) → list_any (stands t) vs ≡ true → IsMore (standing t vs)
some_stands t [] h = absurd (true≢false (sym h))
some_stands t (v ∷ vs) h = by_test (stands t v) h (some_stands t vs)
  where
    by_test : (b : Bool) → (b || list_any (stands t) vs) ≡ true → (list_any (stands t) vs ≡ true → IsMore (standing t vs)) → IsMore (standing t vs ++ cond b (v.row ∷ []) [])
    by_test true k ih = more_append_one (standing t vs) v.row
    by_test false k ih = more_append (standing t vs) [] (ih k)

standing_strike : (t : ℕ) (vs : List Version) → standing t (strike t vs) ≡ tail (standing t vs)
standing_strike t [] = refl
standing_strike t (v ∷ vs) = by_tests (list_any (stands t) vs) (stands t v) refl refl (standing_strike t vs)
  where
    struck_stands : stands t (record v { struck = true }) ≡ false
    struck_stands = by_test (v.txn == t)
      where
        by_test : (b : Bool) → (b && false) ≡ false
        by_test true = refl
        by_test false = refl

    by_tests : (x y : Bool) → list_any (stands t) vs ≡ x → stands t v ≡ y → standing t (strike t vs) ≡ tail (standing t vs)
        → standing t (cond x (v ∷ strike t vs) (cond y (record v { struck = true } ∷ vs) (v ∷ vs))) ≡ tail (standing t vs ++ cond y (v.row ∷ []) [])
    by_tests true y e k ih =
        ap₂ (λ l b. l ++ cond b (v.row ∷ []) []) ih k ∙ sym (tail_append (standing t vs) (cond y (v.row ∷ []) []) (some_stands t vs e))
    by_tests false true e k ih = rw (none_stands t vs e, struck_stands) refl
    by_tests false false e k ih = rw (none_stands t vs e, k) refl

standing_strike_other : (u t : ℕ) (vs : List Version) → (u == t) ≡ false → standing u (strike t vs) ≡ standing u vs
standing_strike_other u t [] h = refl
standing_strike_other u t (v ∷ vs) h = by_tests (list_any (stands t) vs) (stands t v) refl (standing_strike_other u t vs h)
  where
    apart : stands t v ≡ true → stands u v ≡ false
    apart k = grind (arith, nat_tests)

    apart_struck : stands t v ≡ true → stands u (record v { struck = true }) ≡ false
    apart_struck k = grind (arith, nat_tests)

    by_tests : (x y : Bool) → stands t v ≡ y → standing u (strike t vs) ≡ standing u vs
        → standing u (cond x (v ∷ strike t vs) (cond y (record v { struck = true } ∷ vs) (v ∷ vs))) ≡ standing u (v ∷ vs)
    by_tests true y k ih = ap (λ l. l ++ cond (stands u v) (v.row ∷ []) []) ih
    by_tests false true k ih = ap (λ a. standing u vs ++ cond a (v.row ∷ []) []) (apart_struck k ∙ sym (apart k))
    by_tests false false k ih = refl

-- What the walk over a log and its versions and ends have in common at one address, where all entries so
-- far are up to an SCN and below a position.
pub record IsTied (a : Place) (q : ℕ) (db : Database) (vs : List Version) (ends : ℕ → Option End) (pos : ℕ) : Type 0 where
  pub row : db.rows a ≡ row_of (latest_by (λ t. counted q (ends t)) vs)
  pub pending : (t : ℕ) → db.ended t ≡ false → here a (db.pending t) ≡ standing t vs
  pub ended : (t : ℕ) → db.ended t ≡ is_some (ends t)
  pub below : (t : ℕ) (e : End) → ends t ≡ Some e → e.pos < pos
  pub rising : Rising 0 vs
  pub before : AllByRecursion (λ w. w.pos < pos) vs

pub earlier_none : (x : Option End) → earlier x None ≡ x
earlier_none None = refl
earlier_none (Some e) = refl

all_below_more : (pos more : ℕ) (vs : List Version) → pos ≤ more → AllByRecursion (λ w. w.pos < pos) vs → AllByRecursion (λ w. w.pos < more) vs
all_below_more pos more [] l h = tt
all_below_more pos more (v ∷ vs) l h = let k : v.pos < pos = h.0 in (omega arith, all_below_more pos more vs l h.1)

none_of : (x : Option End) → is_some x ≡ false → x ≡ None
none_of None h = refl
none_of (Some e) h = absurd (true≢false h)

not_ended : (a : Place) (q : ℕ) (db : Database) (vs : List Version) (ends : ℕ → Option End) (pos : ℕ) → IsTied a q db vs ends pos
    → (t : ℕ) → db.ended t ≡ false → ends t ≡ None
not_ended a q db vs ends pos s t h = none_of (ends t) (sym (s.ended t) ∙ h)

-- an entry that neither changes nor ends
tied_same : (a : Place) (q : ℕ) (db next : Database) (vs : List Version) (ends more : ℕ → Option End) (pos : ℕ) → IsTied a q db vs ends pos
    → next.rows ≡ db.rows → next.pending ≡ db.pending → next.ended ≡ db.ended → ((t : ℕ) → more t ≡ ends t) → IsTied a q next vs more (pos + 1)
tied_same a q db next vs ends more pos s r p e m = record {
  row = ap (λ f. f a) r ∙ s.row ∙ ap row_of (latest_by_same (λ t. counted q (ends t)) (λ t. counted q (more t)) (λ t. ap (counted q) (sym (m t))) vs);
  pending = λ t k. ap (λ f. here a (f t)) p ∙ s.pending t (sym (ap (λ f. f t) e) ∙ k);
  ended = λ t. ap (λ f. f t) e ∙ s.ended t ∙ ap is_some (sym (m t));
  below = λ t x k. let h : x.pos < pos = s.below t x (sym (m t) ∙ k) in omega arith;
  rising = s.rising;
  before = all_below_more pos (pos + 1) vs (omega arith) s.before;
}

-- what is pending of a transaction, and what stands of it, after a change of some transaction
pending_makes : (a b : Place) (t u : ℕ) (row : Row) (pos : ℕ) (vs : List Version) (f : ℕ → List Change) (x : Bool) → same_place a b ≡ x → here a (f u) ≡ standing u vs
    → here a (set_at t (record { at = b; row = row } ∷ f t) f u) ≡ standing u (after_deed vs pos (cond x (Some (Makes t row)) None))
pending_makes a b t u row pos vs f x h s = by_tests x (u == t) h refl
  where
    flip : (y : Bool) → (u == t) ≡ y → (t == u) ≡ y
    flip y e = by_eq y e
      where
        by_eq : (z : Bool) → (u == t) ≡ z → (t == u) ≡ z
        by_eq true k = grind (arith, nat_tests)
        by_eq false k = grind (arith, nat_tests)

    pushed : (y : Bool) → (u == t) ≡ y → standing u (vs ++ record { pos = pos; txn = t; row = row; struck = false } ∷ []) ≡ cond (y && true) (row ∷ standing u vs) (standing u vs)
    pushed y e = standing_push u vs (record { pos = pos; txn = t; row = row; struck = false }) ∙ ap (λ z. cond (z && true) (row ∷ standing u vs) (standing u vs)) (flip y e)

    own : (u == t) ≡ true → here a (f t) ≡ standing u vs
    own e = ap (λ n. here a (f n)) (sym (eqb-true u t e)) ∙ s

    by_tests : (z y : Bool) → same_place a b ≡ z → (u == t) ≡ y → here a (cond y (record { at = b; row = row } ∷ f t) (f u)) ≡ standing u (after_deed vs pos (cond z (Some (Makes t row)) None))
    by_tests true true k e = rw k (ap (λ l. row ∷ l) (own e) ∙ sym (pushed true e))
    by_tests true false k e = s ∙ sym (pushed false e)
    by_tests false true k e = rw k (own e)
    by_tests false false k e = s

all_below_push : (pos : ℕ) (vs : List Version) (v : Version) → v.pos < pos → AllByRecursion (λ w. w.pos < pos) vs → AllByRecursion (λ w. w.pos < pos) (vs ++ v ∷ [])
all_below_push pos [] v k h = (k, tt)
all_below_push pos (w ∷ vs) v k h = (h.0, all_below_push pos vs v k h.1)

-- a change of a transaction that runs
tied_makes : (a : Place) (q : ℕ) (db next : Database) (vs : List Version) (ends more : ℕ → Option End) (pos : ℕ) → IsTied a q db vs ends pos
    → (t : ℕ) (b : Place) (row : Row) → db.ended t ≡ false
    → next.rows ≡ db.rows → next.pending ≡ set_at t (record { at = b; row = row } ∷ db.pending t) db.pending → next.ended ≡ db.ended → ((u : ℕ) → more u ≡ ends u)
    → IsTied a q next (after_deed vs pos (cond (same_place a b) (Some (Makes t row)) None)) more (pos + 1)
tied_makes a q db next vs ends more pos s t b row run r p e m = by_test (same_place a b) refl
  where
    pending : (x : Bool) → same_place a b ≡ x → (u : ℕ) → next.ended u ≡ false → here a (next.pending u) ≡ standing u (after_deed vs pos (cond x (Some (Makes t row)) None))
    pending x h u k = ap (λ f. here a (f u)) p ∙ pending_makes a b t u row pos vs db.pending x h (s.pending u (sym (ap (λ f. f u) e) ∙ k))

    by_test : (x : Bool) → same_place a b ≡ x → IsTied a q next (after_deed vs pos (cond x (Some (Makes t row)) None)) more (pos + 1)
    by_test true h = record {
      row = ap (λ f. f a) r ∙ s.row
          ∙ ap row_of (sym (latest_by_push (λ u. counted q (ends u)) vs (record { pos = pos; txn = t; row = row; struck = false }) (ap (counted q) (not_ended a q db vs ends pos s t run)))
          ∙ latest_by_same (λ u. counted q (ends u)) (λ u. counted q (more u)) (λ u. ap (counted q) (sym (m u))) (vs ++ record { pos = pos; txn = t; row = row; struck = false } ∷ []));
      pending = pending true h;
      ended = λ u. ap (λ f. f u) e ∙ s.ended u ∙ ap is_some (sym (m u));
      below = λ u x k. let h : x.pos < pos = s.below u x (sym (m u) ∙ k) in omega arith;
      rising = rising_push 0 vs (record { pos = pos; txn = t; row = row; struck = false }) s.rising s.before (omega arith);
      before = all_below_push (pos + 1) vs (record { pos = pos; txn = t; row = row; struck = false }) (omega arith) (all_below_more pos (pos + 1) vs (omega arith) s.before);
    }
    by_test false h = record {
      row = ap (λ f. f a) r ∙ s.row ∙ ap row_of (latest_by_same (λ u. counted q (ends u)) (λ u. counted q (more u)) (λ u. ap (counted q) (sym (m u))) vs);
      pending = pending false h;
      ended = λ u. ap (λ f. f u) e ∙ s.ended u ∙ ap is_some (sym (m u));
      below = λ u x k. let h : x.pos < pos = s.below u x (sym (m u) ∙ k) in omega arith;
      rising = s.rising;
      before = all_below_more pos (pos + 1) vs (omega arith) s.before;
    }

-- what is pending of a transaction, and what stands of it, after a strike of some transaction
pending_strikes : (a b : Place) (t u : ℕ) (pos : ℕ) (vs : List Version) (f : ℕ → List Change) (x : Bool) → same_place a b ≡ x → here a (f u) ≡ standing u vs
    → here a (set_at t (struck b (f t)) f u) ≡ standing u (after_deed vs pos (cond x (Some (Strikes t)) None))
pending_strikes a b t u pos vs f x h s = by_tests x (u == t) h refl
  where
    own : (u == t) ≡ true → here a (f t) ≡ standing t vs
    own e = ap (λ n. here a (f n)) (sym (eqb-true u t e)) ∙ s ∙ ap (λ n. standing n vs) (eqb-true u t e)

    by_tests : (z y : Bool) → same_place a b ≡ z → (u == t) ≡ y → here a (cond y (struck b (f t)) (f u)) ≡ standing u (after_deed vs pos (cond z (Some (Strikes t)) None))
    by_tests true true k e = here_struck_same a b (f t) k ∙ ap tail (own e) ∙ sym (standing_strike t vs) ∙ ap (λ n. standing n (strike t vs)) (sym (eqb-true u t e))
    by_tests true false k e = s ∙ sym (standing_strike_other u t vs e)
    by_tests false true k e = here_struck_other a b (f t) k ∙ own e ∙ ap (λ n. standing n vs) (sym (eqb-true u t e))
    by_tests false false k e = s

-- a strike of a transaction that runs
tied_strikes : (a : Place) (q : ℕ) (db next : Database) (vs : List Version) (ends more : ℕ → Option End) (pos : ℕ) → IsTied a q db vs ends pos
    → (t : ℕ) (b : Place) → db.ended t ≡ false
    → next.rows ≡ db.rows → next.pending ≡ set_at t (struck b (db.pending t)) db.pending → next.ended ≡ db.ended → ((u : ℕ) → more u ≡ ends u)
    → IsTied a q next (after_deed vs pos (cond (same_place a b) (Some (Strikes t)) None)) more (pos + 1)
tied_strikes a q db next vs ends more pos s t b run r p e m = by_test (same_place a b) refl
  where
    pending : (x : Bool) → same_place a b ≡ x → (u : ℕ) → next.ended u ≡ false → here a (next.pending u) ≡ standing u (after_deed vs pos (cond x (Some (Strikes t)) None))
    pending x h u k = ap (λ f. here a (f u)) p ∙ pending_strikes a b t u pos vs db.pending x h (s.pending u (sym (ap (λ f. f u) e) ∙ k))

    by_test : (x : Bool) → same_place a b ≡ x → IsTied a q next (after_deed vs pos (cond x (Some (Strikes t)) None)) more (pos + 1)
    by_test true h = record {
      row = ap (λ f. f a) r ∙ s.row
          ∙ ap row_of (sym (latest_by_strike (λ u. counted q (ends u)) t vs (ap (counted q) (not_ended a q db vs ends pos s t run)))
          ∙ latest_by_same (λ u. counted q (ends u)) (λ u. counted q (more u)) (λ u. ap (counted q) (sym (m u))) (strike t vs));
      pending = pending true h;
      ended = λ u. ap (λ f. f u) e ∙ s.ended u ∙ ap is_some (sym (m u));
      below = λ u x k. let h : x.pos < pos = s.below u x (sym (m u) ∙ k) in omega arith;
      rising = rising_strike 0 t vs s.rising;
      before = below_strike (pos + 1) t vs (all_below_more pos (pos + 1) vs (omega arith) s.before);
    }
    by_test false h = record {
      row = ap (λ f. f a) r ∙ s.row ∙ ap row_of (latest_by_same (λ u. counted q (ends u)) (λ u. counted q (more u)) (λ u. ap (counted q) (sym (m u))) vs);
      pending = pending false h;
      ended = λ u. ap (λ f. f u) e ∙ s.ended u ∙ ap is_some (sym (m u));
      below = λ u x k. let h : x.pos < pos = s.below u x (sym (m u) ∙ k) in omega arith;
      rising = s.rising;
      before = all_below_more pos (pos + 1) vs (omega arith) s.before;
    }

-- the end of a transaction that runs
tied_ends : (a : Place) (q : ℕ) (db next : Database) (vs : List Version) (ends more : ℕ → Option End) (pos : ℕ) → IsTied a q db vs ends pos
    → (t : ℕ) (x : End) → db.ended t ≡ false → x.pos ≡ pos
    → (next.rows a ≡ row_of (latest_by (λ u. counted q (more u)) vs))
    → next.pending ≡ set_at t [] db.pending → next.ended ≡ set_at t true db.ended → ((u : ℕ) → more u ≡ cond (u == t) (Some x) (ends u))
    → IsTied a q next vs more (pos + 1)
tied_ends a q db next vs ends more pos s t x run place row p e m = record {
  row = row;
  pending = λ u k. pending u (u == t) refl (sym (ap (λ f. f u) e) ∙ k);
  ended = λ u. ap (λ f. f u) e ∙ ended u (u == t) ∙ ap is_some (sym (m u));
  below = λ u y k. below u y (u == t) (sym (m u) ∙ k);
  rising = s.rising;
  before = all_below_more pos (pos + 1) vs (omega arith) s.before;
}
  where
    pending : (u : ℕ) (y : Bool) → (u == t) ≡ y → cond y true (db.ended u) ≡ false → here a (next.pending u) ≡ standing u vs
    pending u true h k = absurd (true≢false k)
    pending u false h k = ap (λ f. here a (f u)) p ∙ rw h (s.pending u k)

    ended : (u : ℕ) (y : Bool) → cond y true (db.ended u) ≡ is_some (cond y (Some x) (ends u))
    ended u true = refl
    ended u false = s.ended u

    below : (u : ℕ) (y : End) (z : Bool) → cond z (Some x) (ends u) ≡ Some y → y.pos < pos + 1
    below u y true k = let h : x ≡ y = same_Some x y k in let g : x.pos ≡ y.pos = ap (λ (v : End). v.pos) h in omega arith
    below u y false k = let h : y.pos < pos = s.below u y k in omega arith

-- a check that was passed
demanded : (b : Bool) (k : CheckKind) (later : Option CheckKind) → demand b k later ≡ None → b ≡ true
demanded true k later h = refl
demanded false k later h = cc

runs : (db : Database) (t : ℕ) (k : CheckKind) (later : Option CheckKind) → demand (is_running db t) k later ≡ None → db.ended t ≡ false
runs db t k later h = not-true (db.ended t) (and_parts (db.begun t) (not (db.ended t)) (demanded (is_running db t) k later h)).1

-- the ends after one more, of a transaction that had none
ends_more : (t : ℕ) (x : End) (ends : ℕ → Option End) → ends t ≡ None → (u : ℕ) → earlier (ends u) (cond (t == u) (Some x) None) ≡ cond (u == t) (Some x) (ends u)
ends_more t x ends h u = by_tests (u == t) (t == u) refl refl
  where
    by_tests : (y z : Bool) → (u == t) ≡ y → (t == u) ≡ z → earlier (ends u) (cond z (Some x) None) ≡ cond y (Some x) (ends u)
    by_tests true true e k = let g : ends u ≡ None = ap ends (eqb-true u t e) ∙ h in rw g refl
    by_tests true false e k = absurd (grind (arith, nat_tests))
    by_tests false true e k = absurd (grind (arith, nat_tests))
    by_tests false false e k = earlier_none (ends u)

counted_end : (q : ℕ) (x : Option End) (p : ℕ) → counted q x ≡ Some p → (e : End) × (x ≡ Some e) × (e.pos ≡ p)
counted_end q None p h = absurd (none-some p h)
counted_end q (Some e) p h = by_test (e.committed && nat_le e.scn q) h
  where
    by_test : (b : Bool) → cond b (Some e.pos) None ≡ Some p → (x : End) × (◌≡◌ {A = Option End} (Some e) (Some x)) × (x.pos ≡ p)
    by_test true k = (e, refl, same_Some e.pos p k)
    by_test false k = absurd (none-some p k)

module _ (a : Place) (q : ℕ) (db : Database) (vs : List Version) (ends : ℕ → Option End) (pos : ℕ) (s : IsTied a q db vs ends pos) (scn : ℕ) (upto : scn ≤ q) where
  commit_row : (t : ℕ) → db.ended t ≡ false → (more : ℕ → Option End)
      → ((u : ℕ) → more u ≡ cond (u == t) (Some (record { pos = pos; scn = scn; committed = true })) (ends u))
      → played (db.pending t) db.rows a ≡ row_of (latest_by (λ u. counted q (more u)) vs)
  commit_row t run more m =
      played_here a (db.pending t) db.rows ∙ ap₂ first_or (s.pending t run) s.row
      ∙ sym (won_row pos 0 (standing t vs) _ _ (won (λ u. counted q (ends u)) (λ u. counted q (more u)) t pos commits 0 vs s.rising))
    where
      same : (t == t) ≡ true
      same = grind (arith, nat_tests)

      commits : CommitsAt (λ u. counted q (ends u)) (λ u. counted q (more u)) t pos
      commits = record {
        none = ap (counted q) (not_ended a q db vs ends pos s t run);
        here = ap (counted q) (m t ∙ ap (λ b. cond b (Some (record { pos = pos; scn = scn; committed = true })) (ends t)) same) ∙ ap (λ b. cond b (Some pos) None) (le-leb scn q upto);
        others = λ u h. ap (counted q) (m u ∙ ap (λ b. cond b (Some (record { pos = pos; scn = scn; committed = true })) (ends u)) h);
        below = λ u p h. let c = counted_end q (ends u) p h in let k : c.0.pos < pos = s.below u c.0 c.1 in let e : c.0.pos ≡ p = c.2 in omega arith;
      }

  abort_row : (t : ℕ) → db.ended t ≡ false → (more : ℕ → Option End)
      → ((u : ℕ) → more u ≡ cond (u == t) (Some (record { pos = pos; scn = scn; committed = false })) (ends u))
      → db.rows a ≡ row_of (latest_by (λ u. counted q (more u)) vs)
  abort_row t run more m = s.row ∙ ap row_of (latest_by_same (λ u. counted q (ends u)) (λ u. counted q (more u)) (λ u. same u (u == t) refl ∙ ap (counted q) (sym (m u))) vs)
    where
      same : (u : ℕ) (b : Bool) → (u == t) ≡ b → counted q (ends u) ≡ counted q (cond b (Some (record { pos = pos; scn = scn; committed = false })) (ends u))
      same u true h = ap (counted q) (ap ends (eqb-true u t h) ∙ not_ended a q db vs ends pos s t run)
      same u false h = refl

  -- one entry more
  tied_vector : (v : Vector) → refusal db v ≡ None → IsTied a q (after db v) (after_deed vs pos (deed_at a v)) (λ t. earlier (ends t) (end_by t pos scn v)) (pos + 1)
  tied_vector (Begin t) h = tied_same a q db _ vs ends _ pos s refl refl refl (λ u. earlier_none (ends u))
  tied_vector (Put t o b n row) h = tied_makes a q db _ vs ends _ pos s t (place o b n) (Some row) (runs db t _ _ h) refl refl refl (λ u. earlier_none (ends u))
  tied_vector (Delete t o b n) h = tied_makes a q db _ vs ends _ pos s t (place o b n) None (runs db t _ _ h) refl refl refl (λ u. earlier_none (ends u))
  tied_vector (Undo t o b n) h = tied_strikes a q db _ vs ends _ pos s t (place o b n) (runs db t _ _ h) refl refl refl (λ u. earlier_none (ends u))
  tied_vector (Commit t flag) h =
      let run : db.ended t ≡ false = runs db t _ _ h in
      let x : End = record { pos = pos; scn = scn; committed = true } in
      let m : (u : ℕ) → earlier (ends u) (cond (t == u) (Some x) None) ≡ cond (u == t) (Some x) (ends u) = ends_more t x ends (not_ended a q db vs ends pos s t run) in
      tied_ends a q db _ vs ends _ pos s t x run refl (commit_row t run _ m) refl refl m
  tied_vector (Abort t) h =
      let run : db.ended t ≡ false = runs db t _ _ h in
      let x : End = record { pos = pos; scn = scn; committed = false } in
      let m : (u : ℕ) → earlier (ends u) (cond (t == u) (Some x) None) ≡ cond (u == t) (Some x) (ends u) = ends_more t x ends (not_ended a q db vs ends pos s t run) in
      tied_ends a q db _ vs ends _ pos s t x run refl (abort_row t run _ m) refl refl m
  tied_vector (Create o e f columns) h = tied_same a q db _ vs ends _ pos s refl refl refl (λ u. earlier_none (ends u))
  tied_vector (DropObject o) h = tied_same a q db _ vs ends _ pos s refl refl refl (λ u. earlier_none (ends u))
  tied_vector (AddColumn o k) h = tied_same a q db _ vs ends _ pos s refl refl refl (λ u. earlier_none (ends u))
  tied_vector (NoInMemory o) h = tied_same a q db _ vs ends _ pos s refl refl refl (λ u. earlier_none (ends u))
  tied_vector EndThread h = tied_same a q db _ vs ends _ pos s refl refl refl (λ u. earlier_none (ends u))

-- the ends after more entries
abbrev pub ends_after : (ℕ → Option End) → List LogEntry → ℕ → Option End
ends_after ends [] = ends
ends_after ends (e ∷ es) = ends_after (λ t. earlier (ends t) (end_by t e.pos e.scn e.vector)) es

earlier_assoc : (x y z : Option End) → earlier (earlier x y) z ≡ earlier x (earlier y z)
earlier_assoc None y z = refl
earlier_assoc (Some e) y z = refl

pub ends_after_is : (ends : ℕ → Option End) (es : List LogEntry) (t : ℕ) → ends_after ends es t ≡ earlier (ends t) (end_of es t)
ends_after_is ends [] t = sym (earlier_none (ends t))
ends_after_is ends (e ∷ es) t =
    ends_after_is (λ u. earlier (ends u) (end_by u e.pos e.scn e.vector)) es t ∙ earlier_assoc (ends t) (end_by t e.pos e.scn e.vector) (end_of es t)

pub end_of_append : (xs ys : List LogEntry) (t : ℕ) → end_of (xs ++ ys) t ≡ earlier (end_of xs t) (end_of ys t)
end_of_append [] ys t = refl
end_of_append (e ∷ xs) ys t =
    ap (earlier (end_by t e.pos e.scn e.vector)) (end_of_append xs ys t) ∙ sym (earlier_assoc (end_by t e.pos e.scn e.vector) (end_of xs t) (end_of ys t))

-- positions that count up from one on
abbrev pub Placed : ℕ → List LogEntry → Type 0
Placed pos [] = Unit {0}
Placed pos (e ∷ es) = (e.pos ≡ pos) × Placed (pos + 1) es

pub placed : (pos : ℕ) (es : List LogEntry) → numbered pos es ≡ es → Placed pos es
placed pos [] h = tt
placed pos (e ∷ es) h =
    let first : record e { pos = pos } ≡ e = cc in
    let rest : numbered (pos + 1) es ≡ es = cc in
    (sym (ap (λ (x : LogEntry). x.pos) first), placed (pos + 1) es rest)

pub tied_walk : (a : Place) (q : ℕ) (db : Database) (vs : List Version) (ends : ℕ → Option End) (pos : ℕ) (es : List LogEntry) → IsTied a q db vs ends pos
    → SoundFrom db es → Placed pos es → AllByRecursion (λ e. e.scn ≤ q) es
    → IsTied a q (walked db es) (versions_after a vs es) (ends_after ends es) (pos + length es)
tied_walk a q db vs ends pos [] s sound place upto = let e : pos ≡ pos + 0 = omega arith in subst (λ n. IsTied a q db vs ends n) e s
tied_walk a q db vs ends pos (e ∷ es) s sound place upto =
    let p : pos ≡ e.pos = sym place.0 in
    let s' : IsTied a q db vs ends e.pos = subst (λ n. IsTied a q db vs ends n) p s in
    let places : Placed (e.pos + 1) es = subst (λ n. Placed (n + 1) es) p place.1 in
    let next = tied_walk a q (after db e.vector) (after_deed vs e.pos (deed_at a e.vector)) (λ t. earlier (ends t) (end_by t e.pos e.scn e.vector)) (e.pos + 1) es
    (tied_vector a q db vs ends e.pos s' e.scn upto.0 e.vector sound.1) sound.2 places upto.1 in
    let sum : e.pos + 1 + length es ≡ pos + length (e ∷ es) = omega arith in
    subst (λ n. IsTied a q (walked db (e ∷ es)) (versions_after a vs (e ∷ es)) (ends_after ends (e ∷ es)) n) sum next

-- a log as the entries up to an SCN and those above it
pub record Splits (q : ℕ) (log : List LogEntry) : Type 0 where
  pub low : List LogEntry
  pub high : List LogEntry
  pub whole : log ≡ low ++ high
  pub upto : upto q log ≡ low
  pub are_low : AllByRecursion (λ e. e.scn ≤ q) low
  pub are_high : AllByRecursion (λ e. q < e.scn) high

pub all_above : (q low high : ℕ) (es : List LogEntry) → ScnsWithin low high es → q < low → AllByRecursion (λ e. q < e.scn) es
all_above q low high [] h k = tt
all_above q low high (e ∷ es) h k = let m : low ≤ e.scn = h.0 in (omega arith, all_above q e.scn high es h.2 (omega arith))

pub splits : (q low high : ℕ) (es : List LogEntry) → ScnsWithin low high es → Splits q es
splits q low high [] h = record { low = []; high = []; whole = refl; upto = refl; are_low = tt; are_high = tt }
splits q low high (e ∷ es) h = by_test (nat_le e.scn q) refl (splits q e.scn high es h.2)
  where
    by_test : (b : Bool) → nat_le e.scn q ≡ b → Splits q es → Splits q (e ∷ es)
    by_test true k s = record {
      low = e ∷ s.low;
      high = s.high;
      whole = ap (λ l. e ∷ l) s.whole;
      upto = rw k (ap (λ l. e ∷ l) s.upto);
      are_low = (leb-true e.scn q k, s.are_low);
      are_high = s.are_high;
    }
    by_test false k s =
        let above : q < e.scn = leb-false e.scn q k in
        let rest : AllByRecursion (λ x. q < x.scn) es = all_above q e.scn high es h.2 above in
        record {
          low = [];
          high = e ∷ es;
          whole = refl;
          upto = rw k (upto_none q es rest);
          are_low = tt;
          are_high = (above, rest);
        }

-- what a deed's transaction is
abbrev pub OfDeed : (ℕ → Type 0) → Option Deed → Type 0
OfDeed P None = Unit {0}
OfDeed P (Some (Makes t row)) = P t
OfDeed P (Some (Strikes t)) = P t

pub of_deed : (P Q : ℕ → Type 0) (d : Option Deed) → ((t : ℕ) → P t → Q t) → OfDeed P d → OfDeed Q d
of_deed P Q None f h = tt
of_deed P Q (Some (Makes t row)) f h = f t h
of_deed P Q (Some (Strikes t)) f h = f t h

-- a deed that passes the checks is one of a transaction that has not ended
deed_runs : (a : Place) (db : Database) (v : Vector) → refusal db v ≡ None → OfDeed (λ t. db.ended t ≡ false) (deed_at a v)
deed_runs a db (Put t o b n row) h = by_test (same_place a (place o b n))
  where
    by_test : (x : Bool) → OfDeed (λ u. db.ended u ≡ false) (cond x (Some (Makes t (Some row))) None)
    by_test true = runs db t _ _ h
    by_test false = tt
deed_runs a db (Delete t o b n) h = by_test (same_place a (place o b n))
  where
    by_test : (x : Bool) → OfDeed (λ u. db.ended u ≡ false) (cond x (Some (Makes t None)) None)
    by_test true = runs db t _ _ h
    by_test false = tt
deed_runs a db (Undo t o b n) h = by_test (same_place a (place o b n))
  where
    by_test : (x : Bool) → OfDeed (λ u. db.ended u ≡ false) (cond x (Some (Strikes t)) None)
    by_test true = runs db t _ _ h
    by_test false = tt
deed_runs a db (Begin t) h = tt
deed_runs a db (Commit t flag) h = tt
deed_runs a db (Abort t) h = tt
deed_runs a db (Create o e f columns) h = tt
deed_runs a db (DropObject o) h = tt
deed_runs a db (AddColumn o k) h = tt
deed_runs a db (NoInMemory o) h = tt
deed_runs a db EndThread h = tt

-- a transaction has ended in the walk where it has an end
pub ended_vector : (db : Database) (ends : ℕ → Option End) (pos scn : ℕ) (v : Vector) → ((t : ℕ) → db.ended t ≡ is_some (ends t))
    → (t : ℕ) → (after db v).ended t ≡ is_some (earlier (ends t) (end_by t pos scn v))
ended_vector db ends pos scn v h t = by_vector v
  where
    same : db.ended t ≡ is_some (earlier (ends t) None)
    same = h t ∙ ap is_some (sym (earlier_none (ends t)))

    by_end : (x : Option End) (u : ℕ) (e : End) → db.ended t ≡ is_some x → cond (t == u) true (db.ended t) ≡ is_some (earlier x (cond (u == t) (Some e) None))
    by_end None u e k = by_tests (t == u) (u == t) refl refl
      where
        by_tests : (y z : Bool) → (t == u) ≡ y → (u == t) ≡ z → cond y true (db.ended t) ≡ is_some (earlier None (cond z (Some e) None))
        by_tests true true m n = refl
        by_tests true false m n = absurd (grind (arith, nat_tests))
        by_tests false true m n = absurd (grind (arith, nat_tests))
        by_tests false false m n = k
    by_end (Some x) u e k = by_test (t == u)
      where
        by_test : (y : Bool) → cond y true (db.ended t) ≡ true
        by_test true = refl
        by_test false = k

    by_vector : (w : Vector) → (after db w).ended t ≡ is_some (earlier (ends t) (end_by t pos scn w))
    by_vector (Begin u) = same
    by_vector (Put u o b n row) = same
    by_vector (Delete u o b n) = same
    by_vector (Undo u o b n) = same
    by_vector (Commit u flag) = by_end (ends t) u _ (h t)
    by_vector (Abort u) = by_end (ends t) u _ (h t)
    by_vector (Create o e f columns) = same
    by_vector (DropObject o) = same
    by_vector (AddColumn o k) = same
    by_vector (NoInMemory o) = same
    by_vector EndThread = same

-- an end that entries above an SCN make is above it
pub end_by_above : (q t pos scn : ℕ) (v : Vector) → q < scn → is_late q (end_by t pos scn v) ≡ true
end_by_above q t pos scn (Commit u flag) h = by_test (u == t)
  where
    by_test : (b : Bool) → is_late q (cond b (Some (record { pos = pos; scn = scn; committed = true })) None) ≡ true
    by_test true = lt-ltb q scn h
    by_test false = refl
end_by_above q t pos scn (Abort u) h = by_test (u == t)
  where
    by_test : (b : Bool) → is_late q (cond b (Some (record { pos = pos; scn = scn; committed = false })) None) ≡ true
    by_test true = lt-ltb q scn h
    by_test false = refl
end_by_above q t pos scn (Begin u) h = refl
end_by_above q t pos scn (Put u o b n row) h = refl
end_by_above q t pos scn (Delete u o b n) h = refl
end_by_above q t pos scn (Undo u o b n) h = refl
end_by_above q t pos scn (Create o e f columns) h = refl
end_by_above q t pos scn (DropObject o) h = refl
end_by_above q t pos scn (AddColumn o k) h = refl
end_by_above q t pos scn (NoInMemory o) h = refl
end_by_above q t pos scn EndThread h = refl

late_earlier : (q : ℕ) (x y : Option End) → is_late q x ≡ true → is_late q y ≡ true → is_late q (earlier x y) ≡ true
late_earlier q None y h k = k
late_earlier q (Some e) y h k = h

pub end_of_above : (q t : ℕ) (es : List LogEntry) → AllByRecursion (λ e. q < e.scn) es → is_late q (end_of es t) ≡ true
end_of_above q t [] h = refl
end_of_above q t (e ∷ es) h = late_earlier q (end_by t e.pos e.scn e.vector) (end_of es t) (end_by_above q t e.pos e.scn e.vector h.0) (end_of_above q t es h.1)

pub late_counted : (q : ℕ) (x : Option End) → is_late q x ≡ true → counted q x ≡ None
late_counted q None h = refl
late_counted q (Some e) h = let k : nat_le e.scn q ≡ false = grind (arith, nat_tests) in by_test e.committed (nat_le e.scn q) k
  where
    by_test : (b c : Bool) → c ≡ false → cond (b && c) (Some e.pos) None ≡ None
    by_test true c k = rw k refl
    by_test false c k = refl

-- The deeds of a sound log above an SCN are of transactions that have not ended at it.
abbrev pub IsLateAt : Place → ℕ → (ℕ → Option End) → LogEntry → Type 0
IsLateAt a q ends e = q < e.scn → OfDeed (λ t. is_late q (ends t) ≡ true) (deed_at a e.vector)

pub late_walk : (a : Place) (q low high : ℕ) (db : Database) (ends : ℕ → Option End) (es : List LogEntry) → SoundFrom db es
    → ((t : ℕ) → db.ended t ≡ is_some (ends t)) → ScnsWithin low high es → AllByRecursion (IsLateAt a q (ends_after ends es)) es
late_walk a q low high db ends [] sound h scns = tt
late_walk a q low high db ends (e ∷ es) sound h scns =
    (first, late_walk a q e.scn high (after db e.vector) (λ t. earlier (ends t) (end_by t e.pos e.scn e.vector)) es sound.2 (ended_vector db ends e.pos e.scn e.vector h) scns.2)
  where
    first : q < e.scn → OfDeed (λ t. is_late q (ends_after ends (e ∷ es) t) ≡ true) (deed_at a e.vector)
    first k = of_deed (λ t. db.ended t ≡ false) _ (deed_at a e.vector) late (deed_runs a db e.vector sound.1)
      where
        late : (t : ℕ) → db.ended t ≡ false → is_late q (ends_after ends (e ∷ es) t) ≡ true
        late t r =
            let none : ends t ≡ None = none_of (ends t) (sym (h t) ∙ r) in
            ap (is_late q) (ends_after_is ends (e ∷ es) t ∙ ap (λ x. earlier x (end_of (e ∷ es) t)) none)
            ∙ end_of_above q t (e ∷ es) (k, all_above q e.scn high es scns.2 k)
