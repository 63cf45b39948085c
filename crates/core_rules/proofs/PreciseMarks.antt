-- The marks of the units stay precise through a flush.
use Rattle.std.proofs.Common.{◌≡◌, ℕ, ◌<◌, ◌≤◌, Bool, true, false, ◌&&◌, ◌==◌, if◌then◌else◌, List, length, Some, None, ◌⊎◌, inl, inr, refl, sym, ap, ◌∙◌, subst, arith}
use Rattle.std.specs.Prelude.{nat_eq, nat_lt}
use Rattle.std.specs.List.{Contains}
use Rattle.std.proofs.lemmas.Bool.{ltb-false, eqb-true, eqb-false, eq-eqb, and_from, or_cases}
use Rattle.adg_base.specs.Address.{Place, place}
use Rattle.adg_base.specs.Shard.{shard_of_unit, shard_of_vector}
use Rattle.adg_base.specs.declared.vector.Vector.{Vector}
use Rattle.adg_base.specs.declared.vector.Vector.TheVariants.{Begin, Put, Delete, Undo, Commit, Abort, Create, DropObject, AddColumn, NoInMemory, EndThread}
use Rattle.adg_base.specs.declared.log.LogEntry.{LogEntry}
use Rattle.adg_model.specs.declared.mined.Mined.TheVariants as mined
use Rattle.adg_model.specs.Mined.{mined_of, mined_by}
use Rattle.adg_model.specs.Database.{is_in_memory, table_at, touched, touched_by}
use Rattle.core_rules.specs.Share.{is_shared_by, begins, begun_above}
use Rattle.core_rules.specs.State.{CoreState, ColumnUnit, cut_through, limit, has_coarse}
use Rattle.core_rules.specs.Flush.{BeginsFlush, Claims, Collects, Touches, Finishes, Publishes, Marks, IsMarked}
use Rattle.core_rules.specs.LogFacts.{LogFacts}
use Rattle.core_rules.specs.UnitParts.{TouchedWithin, CoarseWithin, UnitIsPrecise}
use Rattle.core_rules.specs.Invariant.{Invariant, Precise}
use Rattle.core_rules.proofs.Keeps.{KeepsPrecise, CutCommit, ChangesCommit, CoarsesCommit}
use Rattle.core_rules.proofs.Lists.{contains_filter_back, contains_filter_map, any_false, is_true}
use Rattle.core_rules.proofs.UnitsTouched.{touched_stood, commit_is_end}

-- What is noted was touched.
noted_if : (t : ℕ) (a : Place) (txn : ℕ) (at : Place) (b : Bool) → (if b then Some (mined.Note txn at) else None) ≡ Some (mined.Note t a)
    → (if txn == t then Some at else None) ≡ Some a
noted_if t a txn at false h = let e : None ≡ Some (mined.Note t a) = h in absurd cc
noted_if t a txn at true h =
    let e : Some (mined.Note txn at) ≡ Some (mined.Note t a) = h in
    let same : txn ≡ t = cc in
    let there : at ≡ a = cc in
    ap (λ (b : Bool). if b then Some at else None) (eq-eqb txn t same) ∙ ap Some there

noted_by : (log : List LogEntry) (scn t : ℕ) (a : Place) (v : Vector) → mined_by log scn v ≡ Some (mined.Note t a) → touched_by t v ≡ Some a
noted_by log scn t a (Put txn o b s row) h = noted_if t a txn (place o b s) (is_in_memory (table_at log scn o)) h
noted_by log scn t a (Delete txn o b s) h = noted_if t a txn (place o b s) (is_in_memory (table_at log scn o)) h
noted_by log scn t a (Undo txn o b s) h = noted_if t a txn (place o b s) (is_in_memory (table_at log scn o)) h
noted_by log scn t a (Begin txn) h = let e : Some (mined.Begin txn) ≡ Some (mined.Note t a) = h in absurd cc
noted_by log scn t a (Commit txn flag) h = let e : Some (mined.End txn flag true) ≡ Some (mined.Note t a) = h in absurd cc
noted_by log scn t a (Abort txn) h = let e : Some (mined.End txn false false) ≡ Some (mined.Note t a) = h in absurd cc
noted_by log scn t a (Create o n f columns) h = let e : None ≡ Some (mined.Note t a) = h in absurd cc
noted_by log scn t a (DropObject o) h = let e : Some (mined.Ddl o) ≡ Some (mined.Note t a) = h in absurd cc
noted_by log scn t a (AddColumn o k) h = let e : Some (mined.Ddl o) ≡ Some (mined.Note t a) = h in absurd cc
noted_by log scn t a (NoInMemory o) h = let e : Some (mined.Ddl o) ≡ Some (mined.Note t a) = h in absurd cc
noted_by log scn t a EndThread h = let e : None ≡ Some (mined.Note t a) = h in absurd cc

pub noted_touches : (log : List LogEntry) (t : ℕ) (a : Place) (e : LogEntry) → Contains log e → mined_of log e ≡ Some (mined.Note t a) → Contains (touched t log) a
noted_touches log t a e within notes = contains_filter_map (λ (x : LogEntry). touched_by t x.vector) log e a within (noted_by log e.scn t a e.vector notes)

-- Precision stays where more is cut.
precise_later : (log : List LogEntry) (born low high : ℕ) (u : ColumnUnit) → low ≤ high → UnitIsPrecise log born low u → UnitIsPrecise log born high u
precise_later log born low high u later is = record {
  marked = λ a h. let m = is.marked a h in
      record { txn = m.txn; scn = m.scn; commits = m.commits; above = m.above; upto = up m.scn m.upto; touches = m.touches };
  all = λ h. let m = is.all h in
      record {
        txn = m.txn;
        entry = m.entry;
        within = m.within;
        commits = m.commits;
        above = m.above;
        upto = up (m.entry).scn m.upto;
        begin = m.begin;
        begin_within = m.begin_within;
        is_begin = m.is_begin;
        earlier = m.earlier;
      };
}
  where
    up : (n : ℕ) → n ≤ low → n ≤ high
    up n l = omega arith

pub begin_flush_precise : (through : ℕ) → KeepsPrecise (λ c new. BeginsFlush c through new)
begin_flush_precise through facts c new r i precise = subst Precise (sym r.effect) (λ obj extent u h.
    precise_later c.log c.born (limit c) through u later (precise obj extent u h))
  where
    later : limit c ≤ through
    later =
        let e : limit c ≡ c.query = ap (cut_through c.query) r.can.idle in
        let l : c.query < through = r.can.above in
        omega arith

pub claim_precise : (actor : ℕ) → KeepsPrecise (λ c new. Claims c actor new)
claim_precise actor facts c new r i precise = subst Precise (sym r.effect) precise

pub collect_precise : (actor : ℕ) → KeepsPrecise (λ c new. Collects c actor new)
collect_precise actor facts c new r i precise = subst Precise (sym r.effect) precise

pub finish_precise : (actor : ℕ) → KeepsPrecise (λ c new. Finishes c actor new)
finish_precise actor facts c new r i precise = subst Precise (sym r.effect) precise

pub publish_precise : KeepsPrecise Publishes
publish_precise facts c new r i precise = subst Precise (sym r.effect) (λ obj extent u h.
    subst (λ (n : ℕ). UnitIsPrecise c.log c.born n u) (ap (cut_through c.query) r.flushing) (precise obj extent u h))

-- What a Touch marks was touched by a transaction that committed above the snapshot and is cut; and it marks wholly
-- only for one that began before the last restart.
module _ (c : CoreState) (actor : ℕ) (new : CoreState) (r : Touches c actor new) (i : Invariant c) (facts : LogFacts c.log c.frontier) (obj extent : ℕ) (w u : ColumnUnit)
    (low : w.snapshot ≤ c.query) (marked : IsMarked r.link.items r.collected obj extent w u) (precise : UnitIsPrecise c.log c.born (limit c) w) where
  cut_touched : ChangesCommit → (a : Place) → Marks r.link.items r.collected obj extent a → TouchedWithin c.log w.snapshot (limit c) a
  cut_touched changes_commit a m =
      let cut = changes_commit c i r.number r.link m.txn r.has.found m.change in
      let collected = i.flush.collected r.number r.link actor r.cursor r.collected r.has.found r.has.stage in
      let below = collected.noted m.txn a m.noted in
      let e = below.noted.entry in
      let there = contains_filter_back (λ (x : LogEntry). is_shared_by (length c.workers) below.worker (shard_of_vector x.vector)) c.log e below.noted.within in
      let since : c.query < (cut.entry).scn = cut.above in
      let above : w.snapshot < (cut.entry).scn = omega arith in
      record {
        txn = m.txn;
        scn = (cut.entry).scn;
        commits = record { entry = cut.entry; flag = true; within = cut.within; commits = cut.commits; at = refl };
        above = above;
        upto = cut.upto;
        touches = noted_touches c.log m.txn a e there.0 below.noted.notes;
      }

  coarse_within : CoarsesCommit → has_coarse r.link.items ≡ true → CoarseWithin c.log c.born w.snapshot (limit c)
  coarse_within coarses_commit coarse =
      let of = coarses_commit c i r.number r.link r.has.found coarse in
      let cut : CutCommit c of.0 false = of.1 in
      let first = facts.begun_to_end of.0 cut.entry cut.within (commit_is_end of.0 true (cut.entry).vector cut.commits) in
      let since : c.query < (cut.entry).scn = cut.above in
      let above : w.snapshot < (cut.entry).scn = omega arith in
      record {
        txn = of.0;
        entry = cut.entry;
        within = cut.within;
        commits = cut.commits;
        above = above;
        upto = cut.upto;
        begin = first.0;
        begin_within = first.1;
        is_begin = first.2;
        earlier = before of.0 first.0 first.1 first.2 cut.begun (is_true (nat_lt c.born (first.0).scn));
      }
    where
      before : (t : ℕ) (b : LogEntry) → Contains c.log b → begins t b.vector ≡ true → begun_above c.log c.born t ≡ false
          → (nat_lt c.born b.scn ≡ true) ⊎ (nat_lt c.born b.scn ≡ false) → b.scn ≤ c.born
      before t b there begun none (inr e) = ltb-false c.born b.scn e
      before t b there begun none (inl e) =
          absurd (any_false (λ (x : LogEntry). begins t x.vector && nat_lt c.born x.scn) c.log b none there (and_from (begins t b.vector) (nat_lt c.born b.scn) begun e))

  precise_touched : ChangesCommit → CoarsesCommit → UnitIsPrecise c.log c.born (limit c) u
  precise_touched changes_commit coarses_commit = record {
    marked = λ a h. subst (λ (n : ℕ). TouchedWithin c.log n (limit c) a) (sym as_before) (by_mark a (marked.only a h));
    all = λ h. subst (λ (n : ℕ). CoarseWithin c.log c.born n (limit c)) (sym as_before) (by_whole (or_cases w.all (has_coarse r.link.items) (sym marked.all ∙ h)));
  }
    where
      as_before : u.snapshot ≡ w.snapshot
      as_before = ap (λ (x : ColumnUnit). x.snapshot) marked.same

      by_mark : (a : Place) → (w.marked a ≡ true) ⊎ Marks r.link.items r.collected obj extent a → TouchedWithin c.log w.snapshot (limit c) a
      by_mark a (inl h) = precise.marked a h
      by_mark a (inr m) = cut_touched changes_commit a m

      by_whole : (w.all ≡ true) ⊎ (has_coarse r.link.items ≡ true) → CoarseWithin c.log c.born w.snapshot (limit c)
      by_whole (inl h) = precise.all h
      by_whole (inr h) = coarse_within coarses_commit h

pub touch_precise : ChangesCommit → CoarsesCommit → (actor : ℕ) → KeepsPrecise (λ c new. Touches c actor new)
touch_precise changes_commit coarses_commit actor facts c new r i precise = subst Precise (sym r.effect)
    (λ obj extent u h. by_shard obj extent u h (is_true (nat_eq (shard_of_unit obj extent) r.shard)))
  where
    by_shard : (obj extent : ℕ) (u : ColumnUnit) → r.units obj extent ≡ Some u
        → (nat_eq (shard_of_unit obj extent) r.shard ≡ true) ⊎ (nat_eq (shard_of_unit obj extent) r.shard ≡ false) → UnitIsPrecise c.log c.born (limit c) u
    by_shard obj extent u h (inl e) =
        let was = touched_stood r.link.items r.collected obj extent (c.units obj extent) (r.units obj extent) u
        (r.touched obj extent (eqb-true (shard_of_unit obj extent) r.shard e)) h in
        let is = i.units obj extent was.0 was.1 in
        precise_touched c actor new r i (facts c.log c.frontier i.log) obj extent was.0 u is.snapshot was.3 (precise obj extent was.0 was.1) changes_commit coarses_commit
    by_shard obj extent u h (inr e) = precise obj extent u (sym (r.others obj extent (eqb-false (shard_of_unit obj extent) r.shard e)) ∙ h)
