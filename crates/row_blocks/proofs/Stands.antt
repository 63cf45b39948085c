-- Lemmas on what a shard stands for.
use Rattle.std.proofs.Common.{◌≡◌, ℕ, ◌+◌, ◌<◌, ◌≤◌, ◌==◌, nat_lt, Bool, true, false, not, cond, ◌&&◌, List, [], ◌∷◌, ◌++◌, filter, length, Option, Some, None, refl, sym, ap, ap₂, ◌∙◌, arith, append-nil, length-append, true≢false, subst, ◌⊎◌, inl, inr}
use Rattle.std.specs.List.{AllByRecursion}
use Rattle.std.specs.Option.{is_some}
use Rattle.std.proofs.lemmas.List.Elements.{filter-append}
use Rattle.std.proofs.lemmas.Bool.{lt-ltb, le-ltb, ltb-false, cases_lt, eq-eqb, eqb-true, and_from}
use Rattle.std.proofs.lemmas.Bool.Decides.{nat_tests}
use Rattle.std.proofs.lemmas.Option.{none-some, same_Some}
use Rattle.adg_base.specs.Address.{Place, place, same_place}
use Rattle.adg_base.specs.Shard.{shard_of_block, shard_of_txn, shard_of_vector}
use Rattle.adg_base.specs.declared.vector.Vector.{Vector}
use Rattle.adg_base.specs.declared.vector.Vector.TheVariants.{Begin, Put, Delete, Undo, Commit, Abort, Create, DropObject, AddColumn, NoInMemory, EndThread}
use Rattle.adg_base.specs.declared.log.LogEntry.{LogEntry}
use Rattle.adg_model.specs.Database.{Rows, rows_at}
use Rattle.adg_model.specs.Sound.{ScnsWithin, IsLog}
use Rattle.adg_model.proofs.RowLaws.{rows_stop_at_scn}
use Rattle.adg_model.proofs.LogLaws.{each_weaker, each_append}
use Rattle.row_blocks.specs.declared.version.Version.{Version}
use Rattle.row_blocks.specs.declared.version.End.{End}
use Rattle.row_blocks.specs.Pick.{counted, row_of, picked_by}
use Rattle.row_blocks.specs.Versions.{Deed, deed_at, after_deed, versions_of, end_by, earlier, end_of, is_late}
use Rattle.row_blocks.specs.Law.{commits_at}
use Rattle.row_blocks.specs.Stands.{Kept, same_shard, is_own, own_below, HasApplied, IsSlot, is_open, StandsFor, HoldsAll, IsNext, after_entry, none_kept, SameKept, StandsForMore}
use Rattle.row_blocks.proofs.Picked.{latest_by_same}
use Rattle.row_blocks.proofs.Walked.{earlier_none, end_of_append, placed, Placed, OfDeed, of_deed, late_counted, end_of_above, end_by_above, all_above, Splits, splits}
use Rattle.row_blocks.proofs.PickedLaw.{deed_keeps, versions_after_append, Keeps, each_and, each_filter, placed_parts, late_deeds, picked_of_some}
use Rattle.row_blocks.proofs.Floor.{picked_through, open_deed, IsParted}

-- an entry that does something at an address of a shard is one of its own
deed_own : (n : ℕ) (a : Place) (e : LogEntry) → shard_of_block a.obj a.block ≡ n → is_some (deed_at a e.vector) ≡ true → is_own n e ≡ true
deed_own n a e h k = by_vector e.vector k
  where
    by_place : (o b s : ℕ) (d : Deed) → is_some (cond (same_place a (place o b s)) (Some d) None) ≡ true → same_shard n (Some (shard_of_block o b)) ≡ true
    by_place o b s d m = by_test (same_place a (place o b s)) refl m
      where
        by_test : (x : Bool) → same_place a (place o b s) ≡ x → is_some (cond x (Some d) None) ≡ true → same_shard n (Some (shard_of_block o b)) ≡ true
        by_test true e m =
            let obj : a.obj ≡ o = grind (arith, nat_tests) in
            let block : a.block ≡ b = grind (arith, nat_tests) in
            eq-eqb (shard_of_block o b) n (ap₂ shard_of_block (sym obj) (sym block) ∙ h)
        by_test false e m = absurd (true≢false (sym m))

    by_vector : (v : Vector) → is_some (deed_at a v) ≡ true → same_shard n (shard_of_vector v) ≡ true
    by_vector (Put t o b s row) m = by_place o b s _ m
    by_vector (Delete t o b s) m = by_place o b s _ m
    by_vector (Undo t o b s) m = by_place o b s _ m
    by_vector (Begin t) m = absurd (true≢false (sym m))
    by_vector (Commit t flag) m = absurd (true≢false (sym m))
    by_vector (Abort t) m = absurd (true≢false (sym m))
    by_vector (Create o e f columns) m = absurd (true≢false (sym m))
    by_vector (DropObject o) m = absurd (true≢false (sym m))
    by_vector (AddColumn o k) m = absurd (true≢false (sym m))
    by_vector (NoInMemory o) m = absurd (true≢false (sym m))
    by_vector EndThread m = absurd (true≢false (sym m))

-- an end of a transaction of a shard is in one of its own entries
pub end_own : (n t : ℕ) (e : LogEntry) → shard_of_txn t ≡ n → is_some (end_by t e.pos e.scn e.vector) ≡ true → is_own n e ≡ true
end_own n t e h k = by_vector e.vector k
  where
    by_txn : (u : ℕ) (x : End) → is_some (cond (u == t) (Some x) None) ≡ true → same_shard n (Some (shard_of_txn u)) ≡ true
    by_txn u x m = by_test (u == t) refl m
      where
        by_test : (b : Bool) → (u == t) ≡ b → is_some (cond b (Some x) None) ≡ true → same_shard n (Some (shard_of_txn u)) ≡ true
        by_test true e m = eq-eqb (shard_of_txn u) n (ap shard_of_txn (eqb-true u t e) ∙ h)
        by_test false e m = absurd (true≢false (sym m))

    by_vector : (v : Vector) → is_some (end_by t e.pos e.scn v) ≡ true → same_shard n (shard_of_vector v) ≡ true
    by_vector (Commit u flag) m = by_txn u _ m
    by_vector (Abort u) m = by_txn u _ m
    by_vector (Begin u) m = absurd (true≢false (sym m))
    by_vector (Put u o b s row) m = absurd (true≢false (sym m))
    by_vector (Delete u o b s) m = absurd (true≢false (sym m))
    by_vector (Undo u o b s) m = absurd (true≢false (sym m))
    by_vector (Create o e f columns) m = absurd (true≢false (sym m))
    by_vector (DropObject o) m = absurd (true≢false (sym m))
    by_vector (AddColumn o k) m = absurd (true≢false (sym m))
    by_vector (NoInMemory o) m = absurd (true≢false (sym m))
    by_vector EndThread m = absurd (true≢false (sym m))

-- where a shard's own entries up to q are applied, they are among those below its position
applied_keeps : (kept : Kept) (log : List LogEntry) (q : ℕ) (a : Place) → HasApplied kept log q → shard_of_block a.obj a.block ≡ kept.number
    → AllByRecursion (λ e. e.scn ≤ q → Keeps a (λ x. is_own kept.number x && nat_lt x.pos kept.applied) e) log
applied_keeps kept log q a h k =
    each_weaker (λ e. e.scn ≤ q → is_own kept.number e ≡ true → e.pos < kept.applied) _
    (λ e f l d. let own : is_own kept.number e ≡ true = deed_own kept.number a e k d in and_from (is_own kept.number e) (nat_lt e.pos kept.applied) own (lt-ltb e.pos kept.applied (f l own))) log h

-- the versions that a shard's own entries make have the committed row
pub picked_of_own : (log : List LogEntry) (frontier : ℕ) → IsLog log frontier → (kept : Kept) (q : ℕ) (a : Place) → HasApplied kept log q → shard_of_block a.obj a.block ≡ kept.number
    → picked_by (commits_at log q) (versions_of (own_below kept.number kept.applied log) a) ≡ rows_at log q a
picked_of_own log frontier h kept q a reached own =
    picked_of_some log frontier h q a (λ e. is_own kept.number e && nat_lt e.pos kept.applied) (applied_keeps kept log q a reached own)

-- a shard that holds all stands for the log at each floor that it has reached
pub holds_stands : (log : List LogEntry) (frontier : ℕ) → IsLog log frontier → (kept : Kept) (floor : ℕ) → HoldsAll kept log → HasApplied kept log floor → StandsFor kept log floor
holds_stands log frontier h kept floor s reached = record {
  within = s.within;
  reached = reached;
  ends = s.ends;
  open_versions = λ a slot. ap (filter (is_open floor log)) (s.versions a slot);
  at_floor = λ a slot own. ap (picked_by (commits_at log floor)) (s.versions a slot) ∙ picked_of_own log frontier h kept floor a reached own;
}

-- what holds of the position and the SCN of each entry holds of those of an end
end_by_place : (t pos scn : ℕ) (v : Vector) (x : End) → end_by t pos scn v ≡ Some x → (x.pos ≡ pos) × (x.scn ≡ scn)
end_by_place t pos scn v x h = by_vector v h
  where
    by_test : (b c : Bool) → cond b (Some (record { pos = pos; scn = scn; committed = c })) None ≡ Some x → (x.pos ≡ pos) × (x.scn ≡ scn)
    by_test true c k = let e : record { pos = pos; scn = scn; committed = c } ≡ x = same_Some _ x k in (sym (ap (λ (y : End). y.pos) e), sym (ap (λ (y : End). y.scn) e))
    by_test false c k = absurd (none-some x k)

    by_vector : (w : Vector) → end_by t pos scn w ≡ Some x → (x.pos ≡ pos) × (x.scn ≡ scn)
    by_vector (Commit u flag) k = by_test (u == t) true k
    by_vector (Abort u) k = by_test (u == t) false k
    by_vector (Begin u) k = absurd (none-some x k)
    by_vector (Put u o b s row) k = absurd (none-some x k)
    by_vector (Delete u o b s) k = absurd (none-some x k)
    by_vector (Undo u o b s) k = absurd (none-some x k)
    by_vector (Create o e f columns) k = absurd (none-some x k)
    by_vector (DropObject o) k = absurd (none-some x k)
    by_vector (AddColumn o n) k = absurd (none-some x k)
    by_vector (NoInMemory o) k = absurd (none-some x k)
    by_vector EndThread k = absurd (none-some x k)

pub end_of_each : (P : ℕ → ℕ → Type 0) (t : ℕ) (es : List LogEntry) (x : End) → AllByRecursion (λ e. P e.pos e.scn) es → end_of es t ≡ Some x → P x.pos x.scn
end_of_each P t [] x h k = absurd (none-some x k)
end_of_each P t (e ∷ es) x h k = by_end (end_by t e.pos e.scn e.vector) refl k (end_of_each P t es x h.1)
  where
    by_end : (o : Option End) → end_by t e.pos e.scn e.vector ≡ o → earlier o (end_of es t) ≡ Some x → (end_of es t ≡ Some x → P x.pos x.scn) → P x.pos x.scn
    by_end None m k ih = ih k
    by_end (Some y) m k ih =
        let parts = end_by_place t e.pos e.scn e.vector x (m ∙ k) in
        subst (λ n. P n x.scn) (sym parts.0) (subst (λ n. P e.pos n) (sym parts.1) h.0)

pub placed_above : (pos : ℕ) (es : List LogEntry) → Placed pos es → AllByRecursion (λ e. pos ≤ e.pos) es
placed_above pos [] h = tt
placed_above pos (e ∷ es) h =
    let k : e.pos ≡ pos = h.0 in
    (omega arith, each_weaker (λ x. pos + 1 ≤ x.pos) (λ x. pos ≤ x.pos) (λ x l. let l' : pos + 1 ≤ x.pos = l in omega arith) es (placed_above (pos + 1) es h.1))

pub placed_below : (pos : ℕ) (es : List LogEntry) → Placed pos es → AllByRecursion (λ e. e.pos < pos + length es) es
placed_below pos [] h = tt
placed_below pos (e ∷ es) h =
    let k : e.pos ≡ pos = h.0 in
    (omega arith, each_weaker (λ x. x.pos < pos + 1 + length es) (λ x. x.pos < pos + length (e ∷ es)) (λ x l. let l' : x.pos < pos + 1 + length es = l in omega arith) es (placed_below (pos + 1) es h.1))

pub placed_rest : (pos : ℕ) (xs ys : List LogEntry) → Placed pos (xs ++ ys) → Placed (pos + length xs) ys
placed_rest pos [] ys h = let e : pos ≡ pos + 0 = omega arith in subst (λ n. Placed n ys) e h
placed_rest pos (x ∷ xs) ys h = let e : pos + 1 + length xs ≡ pos + length (x ∷ xs) = omega arith in subst (λ n. Placed n ys) e (placed_rest (pos + 1) xs ys h.1)

-- up to a floor and below a position, or above both
IsSide : ℕ → ℕ → ℕ → ℕ → Type 0
IsSide floor bound pos scn = ((scn ≤ floor) × (pos < bound)) ⊎ ((floor < scn) × (bound ≤ pos))

-- the ends of a log are parted by each floor
pub ends_parted : (log : List LogEntry) (frontier : ℕ) → IsLog log frontier → (floor : ℕ) → (bound : ℕ) × IsParted floor bound (end_of log)
unfolding IsSide
ends_parted log frontier h floor = (
  length s.low,
  record {
    low = λ t e k l. low e.pos e.scn l (sides t e k);
    high = λ t e k l. high e.pos e.scn l (sides t e k);
  },
)
  where
    s : Splits floor log
    s = splits floor 1 frontier log h.scns

    places : Placed 0 (s.low ++ s.high)
    places = subst (Placed 0) s.whole (placed 0 log h.places)

    sides : (t : ℕ) (e : End) → end_of log t ≡ Some e → IsSide floor (length s.low) e.pos e.scn
    sides t e k =
        end_of_each (IsSide floor (length s.low)) t (s.low ++ s.high) e
        (each_append (λ x. IsSide floor (length s.low) x.pos x.scn) s.low s.high
        (each_and _ _ _ s.low (λ x p q. let q' : x.pos < 0 + length s.low = q in inl (p, omega arith)) s.are_low (placed_below 0 s.low (placed_parts 0 s.low s.high places)))
        (each_and _ _ _ s.high (λ x p q. let q' : 0 + length s.low ≤ x.pos = q in inr (p, omega arith)) s.are_high (placed_above (0 + length s.low) s.high (placed_rest 0 s.low s.high places))))
        (ap (λ es. end_of es t) (sym s.whole) ∙ k)

    low : (pos scn : ℕ) → scn ≤ floor → IsSide floor (length s.low) pos scn → pos < length s.low
    low pos scn l (inl p) = p.1
    low pos scn l (inr p) = let m : floor < scn = p.0 in absurd (omega arith)

    high : (pos scn : ℕ) → floor < scn → IsSide floor (length s.low) pos scn → length s.low ≤ pos
    high pos scn l (inl p) = let m : scn ≤ floor = p.0 in absurd (omega arith)
    high pos scn l (inr p) = p.1

-- At each SCN from the floor on whose entries are applied, the pick over an address's versions,
-- with the ends of the log, is the committed row.
pub stands_picked : (log : List LogEntry) (frontier : ℕ) → IsLog log frontier → (kept : Kept) (floor q : ℕ) → StandsFor kept log floor → floor ≤ q → HasApplied kept log q
    → (a : Place) → IsSlot a → shard_of_block a.obj a.block ≡ kept.number → picked_by (commits_at log q) (kept.versions a) ≡ rows_at log q a
stands_picked log frontier h kept floor q s l reached a slot own =
    let parted = ends_parted log frontier h floor in
    picked_through floor q parted.0 (end_of log) parted.1 l (kept.versions a) (versions_of (own_below kept.number kept.applied log) a)
    (s.open_versions a slot) (s.at_floor a slot own ∙ sym (picked_of_own log frontier h kept floor a s.reached own))
    ∙ picked_of_own log frontier h kept q a reached own

-- The end of a transaction in its shard counts as it does in the log, where the shard's entries are applied.
own_end : (n pos q : ℕ) (t low high : ℕ) (es : List LogEntry) → shard_of_txn t ≡ n → ScnsWithin low high es
    → AllByRecursion (λ e. e.scn ≤ q → is_own n e ≡ true → e.pos < pos) es → counted q (end_of (own_below n pos es) t) ≡ counted q (end_of es t)
own_end n pos q t low high [] own scns h = refl
own_end n pos q t low high (e ∷ es) own scns h =
    by_end (end_by t e.pos e.scn e.vector) (is_own n e && nat_lt e.pos pos) refl refl (own_end n pos q t e.scn high es own scns.2 h.1)
  where
    late_rest : q < e.scn → (xs : List LogEntry) → AllByRecursion (λ x. q < x.scn) xs → counted q (end_of xs t) ≡ None
    late_rest l xs k = late_counted q (end_of xs t) (end_of_above q t xs k)

    by_end : (o : Option End) (b : Bool) → end_by t e.pos e.scn e.vector ≡ o → (is_own n e && nat_lt e.pos pos) ≡ b → counted q (end_of (own_below n pos es) t) ≡ counted q (end_of es t)
        → counted q (end_of (cond b (e ∷ own_below n pos es) (own_below n pos es)) t) ≡ counted q (earlier o (end_of es t))
    by_end None true m k ih = rw m ih
    by_end None false m k ih = ih
    by_end (Some x) true m k ih = rw m refl
    by_end (Some x) false m k ih =
        let mine : is_own n e ≡ true = end_own n t e own (ap is_some m) in
        let past : pos ≤ e.pos = ltb-false e.pos pos (sym (ap (λ c. c && nat_lt e.pos pos) mine) ∙ k) in
        let above : q < e.scn = by_order past (cases_lt q e.scn) in
        late_rest above (own_below n pos es) (each_filter (λ y. q < y.scn) _ es (all_above q e.scn high es scns.2 above))
        ∙ sym (late_counted q (Some x) (ap (λ o. is_late q o) (sym m) ∙ end_by_above q t e.pos e.scn e.vector above))
      where
        by_order : pos ≤ e.pos → ((q < e.scn) ⊎ (e.scn ≤ q)) → q < e.scn
        by_order l (inl k) = k
        by_order l (inr k) = absurd (let j : e.pos < pos = h.0 k (end_own n t e own (ap is_some m)) in omega arith)

pub stands_end : (log : List LogEntry) (frontier : ℕ) → IsLog log frontier → (kept : Kept) (floor q t : ℕ) → StandsFor kept log floor → HasApplied kept log q
    → shard_of_txn t ≡ kept.number → counted q (kept.ends t) ≡ commits_at log q t
stands_end log frontier h kept floor q t s reached own =
    ap (counted q) (s.ends t) ∙ own_end kept.number kept.applied q t 1 frontier log own h.scns reached

-- of a log, the entries of a shard below one position, once its next entry is there
before_same : (n pos e_pos : ℕ) (es : List LogEntry) → pos ≤ e_pos → AllByRecursion (λ x. is_own n x ≡ true → x.pos < pos) es → own_below n (e_pos + 1) es ≡ own_below n pos es
before_same n pos e_pos [] l h = refl
before_same n pos e_pos (x ∷ es) l h = by_test (is_own n x) refl (before_same n pos e_pos es l h.1)
  where
    by_test : (b : Bool) → is_own n x ≡ b → own_below n (e_pos + 1) es ≡ own_below n pos es
        → cond (b && nat_lt x.pos (e_pos + 1)) (x ∷ own_below n (e_pos + 1) es) (own_below n (e_pos + 1) es) ≡ cond (b && nat_lt x.pos pos) (x ∷ own_below n pos es) (own_below n pos es)
    by_test false k ih = ih
    by_test true k ih =
        let j : x.pos < pos = h.0 k in
        rw (lt-ltb x.pos pos j, lt-ltb x.pos (e_pos + 1) (omega arith)) (ap (λ l. x ∷ l) ih)

pub own_none : (n pos : ℕ) (es : List LogEntry) → AllByRecursion (λ x. pos ≤ x.pos) es → own_below n pos es ≡ []
own_none n pos [] h = refl
own_none n pos (x ∷ es) h = rw (le-ltb x.pos pos h.0) (by_test (is_own n x) (own_none n pos es h.1))
  where
    by_test : (b : Bool) → own_below n pos es ≡ [] → cond (b && false) (x ∷ own_below n pos es) (own_below n pos es) ≡ []
    by_test true ih = ih
    by_test false ih = ih

own_first : (n pos : ℕ) (e : LogEntry) (es : List LogEntry) → (is_own n e && nat_lt e.pos pos) ≡ true → own_below n pos (e ∷ es) ≡ e ∷ own_below n pos es
own_first n pos e es h = rw h refl

-- the place of an entry in a log whose positions count from 0
pub position : (before rest : List LogEntry) (e : LogEntry) → Placed 0 (before ++ e ∷ rest) → e.pos ≡ length before
position before rest e h = let p : e.pos ≡ 0 + length before = (placed_rest 0 before (e ∷ rest) h).0 in omega arith

rest_above : (before rest : List LogEntry) (e : LogEntry) → Placed 0 (before ++ e ∷ rest) → AllByRecursion (λ x. e.pos + 1 ≤ x.pos) rest
rest_above before rest e h =
    let p = placed_rest 0 before (e ∷ rest) h in
    let k : 0 + length before ≡ e.pos = sym p.0 in
    placed_above (e.pos + 1) rest (subst (λ n. Placed (n + 1) rest) k p.1)

pub own_next : (kept : Kept) (log : List LogEntry) (e : LogEntry) → Placed 0 log → IsNext kept log e → own_below kept.number (e.pos + 1) log ≡ own_below kept.number kept.applied log ++ e ∷ []
own_next kept log e places s =
    let n = kept.number in
    let whole : Placed 0 (s.before ++ e ∷ s.rest) = subst (Placed 0) s.place places in
    let above : AllByRecursion (λ x. e.pos + 1 ≤ x.pos) s.rest = rest_above s.before s.rest e whole in
    let new : kept.applied ≤ e.pos = s.new in
    let above_old : AllByRecursion (λ x. kept.applied ≤ x.pos) (e ∷ s.rest) = (new, each_weaker (λ x. e.pos + 1 ≤ x.pos) (λ x. kept.applied ≤ x.pos) (λ x l. let l' : e.pos + 1 ≤ x.pos = l in omega arith) s.rest above) in
    let first : own_below n (e.pos + 1) (e ∷ s.rest) ≡ e ∷ [] =
    own_first n (e.pos + 1) e s.rest (and_from (is_own n e) (nat_lt e.pos (e.pos + 1)) s.own (lt-ltb e.pos (e.pos + 1) (omega arith))) ∙ ap (λ l. e ∷ l) (own_none n (e.pos + 1) s.rest above) in
    let left : own_below n (e.pos + 1) log ≡ own_below n kept.applied s.before ++ e ∷ [] =
    ap (own_below n (e.pos + 1)) s.place ∙ filter-append (λ x. is_own n x && nat_lt x.pos (e.pos + 1)) s.before (e ∷ s.rest)
    ∙ ap₂ (λ x y. x ++ y) (before_same n kept.applied e.pos s.before new s.done) first in
    let right : own_below n kept.applied log ≡ own_below n kept.applied s.before =
    ap (own_below n kept.applied) s.place ∙ filter-append (λ x. is_own n x && nat_lt x.pos kept.applied) s.before (e ∷ s.rest)
    ∙ ap (λ l. own_below n kept.applied s.before ++ l) (own_none n kept.applied (e ∷ s.rest) above_old)
    ∙ append-nil (own_below n kept.applied s.before) in
    left ∙ ap (λ l. l ++ e ∷ []) (sym right)

next_within : (kept : Kept) (log : List LogEntry) (e : LogEntry) → Placed 0 log → IsNext kept log e → e.pos + 1 ≤ length log
next_within kept log e places s =
    let p : e.pos ≡ length s.before = position s.before s.rest e (subst (Placed 0) s.place places) in
    let l : length log ≡ length s.before + length (e ∷ s.rest) = ap length s.place ∙ length-append s.before (e ∷ s.rest) in
    omega arith

applied_more : (kept : Kept) (log : List LogEntry) (e : LogEntry) (q : ℕ) → kept.applied ≤ e.pos → HasApplied kept log q → HasApplied (after_entry kept e) log q
applied_more kept log e q l h =
    each_weaker (λ x. x.scn ≤ q → is_own kept.number x ≡ true → x.pos < kept.applied) _ (λ x f a b. let j : x.pos < kept.applied = f a b in omega arith) log h

end_once : (t : ℕ) (e : LogEntry) → end_of (e ∷ []) t ≡ end_by t e.pos e.scn e.vector
end_once t e = earlier_none (end_by t e.pos e.scn e.vector)

ends_next : (kept : Kept) (log : List LogEntry) (e : LogEntry) → Placed 0 log → IsNext kept log e → (t : ℕ) → kept.ends t ≡ end_of (own_below kept.number kept.applied log) t
    → earlier (kept.ends t) (end_by t e.pos e.scn e.vector) ≡ end_of (own_below kept.number (e.pos + 1) log) t
ends_next kept log e places s t h =
    ap₂ earlier h (sym (end_once t e)) ∙ sym (end_of_append (own_below kept.number kept.applied log) (e ∷ []) t)
    ∙ ap (λ es. end_of es t) (sym (own_next kept log e places s))

versions_next : (kept : Kept) (log : List LogEntry) (e : LogEntry) → Placed 0 log → IsNext kept log e → (a : Place)
    → versions_of (own_below kept.number (e.pos + 1) log) a ≡ after_deed (versions_of (own_below kept.number kept.applied log) a) e.pos (deed_at a e.vector)
versions_next kept log e places s a =
    ap (λ es. versions_of es a) (own_next kept log e places s) ∙ versions_after_append a [] (own_below kept.number kept.applied log) (e ∷ [])

-- what holds of each entry of a log holds of one of them
pub each_at : (P : LogEntry → Type 0) (before rest : List LogEntry) (e : LogEntry) → AllByRecursion P (before ++ e ∷ rest) → P e
each_at P [] rest e h = h.0
each_at P (x ∷ before) rest e h = each_at P before rest e h.1

-- a shard that stands for a log stands for it after its next entry
pub stands_next : (log : List LogEntry) (frontier : ℕ) → IsLog log frontier → (kept : Kept) (floor : ℕ) (e : LogEntry) → StandsFor kept log floor → IsNext kept log e → StandsFor (after_entry kept e) log floor
stands_next log frontier h kept floor e s next = record {
  within = next_within kept log e places next;
  reached = applied_more kept log e floor next.new s.reached;
  ends = λ t. ends_next kept log e places next t (s.ends t);
  open_versions = λ a slot.
      open_deed floor (end_of log) (kept.versions a) (versions_of (own_below kept.number kept.applied log) a) e.pos (deed_at a e.vector) (late a) (s.open_versions a slot)
      ∙ ap (filter (is_open floor log)) (sym (versions_next kept log e places next a));
  at_floor = λ a slot own.
      ap row_of (deed_keeps (commits_at log floor) (kept.versions a) e.pos (deed_at a e.vector) (of_deed _ _ (deed_at a e.vector) (λ t. late_counted floor (end_of log t)) (late a)))
      ∙ s.at_floor a slot own;
}
  where
    places : Placed 0 log
    places = placed 0 log h.places

    above : floor < e.scn
    above = by_order (cases_lt floor e.scn)
      where
        by_order : ((floor < e.scn) ⊎ (e.scn ≤ floor)) → floor < e.scn
        by_order (inl k) = k
        by_order (inr k) =
            let new : kept.applied ≤ e.pos = next.new in
            let old : e.pos < kept.applied = each_at (λ x. x.scn ≤ floor → is_own kept.number x ≡ true → x.pos < kept.applied) next.before next.rest e
            (subst (AllByRecursion (λ x. x.scn ≤ floor → is_own kept.number x ≡ true → x.pos < kept.applied)) next.place s.reached) k next.own in
            absurd (omega arith)

    late : (a : Place) → OfDeed (λ t. is_late floor (end_of log t) ≡ true) (deed_at a e.vector)
    late a =
        each_at (λ x. floor < x.scn → OfDeed (λ t. is_late floor (end_of log t) ≡ true) (deed_at a x.vector)) next.before next.rest e
        (subst (AllByRecursion (λ x. floor < x.scn → OfDeed (λ t. is_late floor (end_of log t) ≡ true) (deed_at a x.vector))) next.place (late_deeds log frontier h floor a)) above

-- and one that holds all holds all then
pub holds_next : (log : List LogEntry) (frontier : ℕ) → IsLog log frontier → (kept : Kept) (e : LogEntry) → HoldsAll kept log → IsNext kept log e → HoldsAll (after_entry kept e) log
holds_next log frontier h kept e s next =
    let places : Placed 0 log = placed 0 log h.places in
    record {
      within = next_within kept log e places next;
      ends = λ t. ends_next kept log e places next t (s.ends t);
      versions = λ a slot. ap (λ vs. after_deed vs e.pos (deed_at a e.vector)) (s.versions a slot) ∙ sym (versions_next kept log e places next a);
    }

own_nothing : (n : ℕ) (es : List LogEntry) → own_below n 0 es ≡ []
own_nothing n es = own_none n 0 es (each_entry es)
  where
    each_entry : (xs : List LogEntry) → AllByRecursion (λ x. 0 ≤ x.pos) xs
    each_entry [] = tt
    each_entry (x ∷ xs) = (omega arith, each_entry xs)

-- a shard that has applied nothing holds all of its entries below 0
pub none_holds : (n : ℕ) (log : List LogEntry) → HoldsAll (none_kept n) log
none_holds n log = record {
  within = omega arith;
  ends = λ t. ap (λ es. end_of es t) (sym (own_nothing n log));
  versions = λ a slot. ap (λ es. versions_of es a) (sym (own_nothing n log));
}

-- no entry of a log is at SCN 0, so each shard has reached the floor 0
pub zero_reached : (kept : Kept) (low high : ℕ) (log : List LogEntry) → 0 < low → ScnsWithin low high log → HasApplied kept log 0
zero_reached kept low high [] l h = tt
zero_reached kept low high (e ∷ es) l h =
    let k : low ≤ e.scn = h.0 in
    (λ m o. absurd (omega arith), zero_reached kept e.scn high es (omega arith) h.2)

pub none_stands_for : (n : ℕ) (log : List LogEntry) (frontier : ℕ) → IsLog log frontier → StandsFor (none_kept n) log 0
none_stands_for n log frontier h = holds_stands log frontier h (none_kept n) 0 (none_holds n log) (zero_reached (none_kept n) 1 frontier log (omega arith) h.scns)

-- shards that keep the same stand for the same
pub stands_same : (x y : Kept) (log : List LogEntry) (floor : ℕ) → SameKept x y → StandsFor y log floor → StandsFor x log floor
stands_same x y log floor e s = record {
  within = subst (λ n. n ≤ length log) (sym e.applied) s.within;
  reached = subst (λ n. AllByRecursion (λ z. z.scn ≤ floor → is_own x.number z ≡ true → z.pos < n) log) (sym e.applied)
      (subst (λ n. AllByRecursion (λ z. z.scn ≤ floor → is_own n z ≡ true → z.pos < y.applied) log) (sym e.number) s.reached);
  ends = λ t. e.ends t ∙ s.ends t ∙ ap₂ (λ n p. end_of (own_below n p log) t) (sym e.number) (sym e.applied);
  open_versions = λ a slot. ap (filter (is_open floor log)) (e.versions a slot) ∙ s.open_versions a slot
      ∙ ap₂ (λ n p. filter (is_open floor log) (versions_of (own_below n p log) a)) (sym e.number) (sym e.applied);
  at_floor = λ a slot own. ap (picked_by (commits_at log floor)) (e.versions a slot) ∙ s.at_floor a slot (own ∙ e.number);
}

pub holds_same : (x y : Kept) (log : List LogEntry) → SameKept x y → HoldsAll y log → HoldsAll x log
holds_same x y log e s = record {
  within = subst (λ n. n ≤ length log) (sym e.applied) s.within;
  ends = λ t. e.ends t ∙ s.ends t ∙ ap₂ (λ n p. end_of (own_below n p log) t) (sym e.number) (sym e.applied);
  versions = λ a slot. e.versions a slot ∙ s.versions a slot ∙ ap₂ (λ n p. versions_of (own_below n p log) a) (sym e.number) (sym e.applied);
}

-- The log grows by entries that are all above the floor.
own_longer : (n pos : ℕ) (log more : List LogEntry) → Placed 0 (log ++ more) → pos ≤ length log → own_below n pos (log ++ more) ≡ own_below n pos log
own_longer n pos log more places l =
    filter-append (λ x. is_own n x && nat_lt x.pos pos) log more
    ∙ ap (λ es. own_below n pos log ++ es)
    (own_none n pos more (each_weaker (λ x. 0 + length log ≤ x.pos) (λ x. pos ≤ x.pos) (λ x k. let k' : 0 + length log ≤ x.pos = k in omega arith) more (placed_above (0 + length log) more (placed_rest 0 log more places))))
    ∙ append-nil (own_below n pos log)

late_longer : (floor t : ℕ) (log more : List LogEntry) → AllByRecursion (λ e. floor < e.scn) more → is_late floor (end_of (log ++ more) t) ≡ is_late floor (end_of log t)
late_longer floor t log more h = ap (is_late floor) (end_of_append log more t) ∙ by_end (end_of log t)
  where
    by_end : (x : Option End) → is_late floor (earlier x (end_of more t)) ≡ is_late floor x
    by_end None = end_of_above floor t more h
    by_end (Some e) = refl

pub commits_longer : (floor t : ℕ) (log more : List LogEntry) → AllByRecursion (λ e. floor < e.scn) more → commits_at (log ++ more) floor t ≡ commits_at log floor t
commits_longer floor t log more h = ap (counted floor) (end_of_append log more t) ∙ by_end (end_of log t)
  where
    by_end : (x : Option End) → counted floor (earlier x (end_of more t)) ≡ counted floor x
    by_end None = late_counted floor (end_of more t) (end_of_above floor t more h)
    by_end (Some e) = refl

open_longer : (floor : ℕ) (log more : List LogEntry) (vs : List Version) → AllByRecursion (λ e. floor < e.scn) more → filter (is_open floor (log ++ more)) vs ≡ filter (is_open floor log) vs
open_longer floor log more [] h = refl
open_longer floor log more (v ∷ vs) h = rw (late_longer floor v.txn log more h) (ap (λ l. cond (not v.struck && is_late floor (end_of log v.txn)) (v ∷ l) l) (open_longer floor log more vs h))

pub stands_longer : (kept : Kept) (log more : List LogEntry) (floor : ℕ) → StandsFor kept log floor → Placed 0 (log ++ more) → AllByRecursion (λ e. floor < e.scn) more → StandsFor kept (log ++ more) floor
stands_longer kept log more floor s places above = record {
  within = let l : kept.applied ≤ length log = s.within in let e : length (log ++ more) ≡ length log + length more = length-append log more in omega arith;
  reached = each_append _ log more s.reached (each_weaker (λ e. floor < e.scn) _ (λ e k m o. let k' : floor < e.scn = k in absurd (omega arith)) more above);
  ends = λ t. s.ends t ∙ ap (λ es. end_of es t) (sym (own_longer kept.number kept.applied log more places s.within));
  open_versions = λ a slot.
      open_longer floor log more (kept.versions a) above ∙ s.open_versions a slot
      ∙ sym (open_longer floor log more (versions_of (own_below kept.number kept.applied log) a) above)
      ∙ ap (λ es. filter (is_open floor (log ++ more)) (versions_of es a)) (sym (own_longer kept.number kept.applied log more places s.within));
  at_floor = λ a slot own.
      ap row_of (latest_by_same (commits_at (log ++ more) floor) (commits_at log floor) (λ t. commits_longer floor t log more above) (kept.versions a))
      ∙ s.at_floor a slot own
      ∙ sym (ap (λ (f : Rows). f a) (rows_stop_at_scn log more floor above).0);
}

pub holds_longer : (kept : Kept) (log more : List LogEntry) → HoldsAll kept log → Placed 0 (log ++ more) → HoldsAll kept (log ++ more)
holds_longer kept log more s places = record {
  within = let l : kept.applied ≤ length log = s.within in let e : length (log ++ more) ≡ length log + length more = length-append log more in omega arith;
  ends = λ t. s.ends t ∙ ap (λ es. end_of es t) (sym (own_longer kept.number kept.applied log more places s.within));
  versions = λ a slot. s.versions a slot ∙ ap (λ es. versions_of es a) (sym (own_longer kept.number kept.applied log more places s.within));
}

-- what was applied is one entry more
pub stands_for_more : (old new : Kept) (e : LogEntry) → SameKept new (after_entry old e) → StandsForMore old e new
stands_for_more old new e same log frontier floor h next = (
  λ s. stands_same new (after_entry old e) log floor same (stands_next log frontier h old floor e s next),
  λ s. holds_same new (after_entry old e) log same (holds_next log frontier h old e s next),
)
