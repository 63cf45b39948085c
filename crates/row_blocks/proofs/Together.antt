-- The 64 shards give the committed rows, and how a shard passes the entries of a log one after another.
use Rattle.std.proofs.Common.{◌≡◌, ℕ, ◌+◌, ◌<◌, ◌≤◌, Bool, true, false, not, cond, filter, List, [], ◌∷◌, ◌++◌, map, length, Option, Some, None, refl, sym, ap, ap₂, ◌∙◌, arith, subst, true≢false, length-append}
use Rattle.std.specs.List.{AllByRecursion}
use Rattle.std.proofs.lemmas.Bool.{ltb-true, lt-ltb, and_parts, and_from}
use Rattle.adg_base.specs.Address.{Place}
use Rattle.adg_base.specs.Shard.{shard_of_block, shard_of_txn}
use Rattle.adg_base.specs.declared.log.LogEntry.{LogEntry}
use Rattle.adg_model.specs.Log.{numbered}
use Rattle.adg_model.specs.Database.{rows_at}
use Rattle.adg_model.specs.Sound.{ScnsWithin, IsContinuation, IsLog}
use Rattle.adg_model.proofs.LogLaws.{each_weaker, each_append, numbered_append}
use Rattle.row_blocks.specs.declared.version.Version.{Version}
use Rattle.row_blocks.specs.declared.version.End.{End}
use Rattle.row_blocks.specs.Pick.{counted, candidate, row_of, latest, picked_by, candidates, picked}
use Rattle.row_blocks.specs.Law.{commits_at}
use Rattle.row_blocks.specs.Stands.{Kept, none_kept, is_own, own_below, is_open, IsSlot, HasApplied, StandsFor, HoldsAll, IsNext, after_entry, SameKept, HasPassed, StandsFromStart}
use Rattle.row_blocks.specs.Shards.{Shards, Serves, PickGivesRow, ShardsGiveRows, StandAt, StandAtStart, PassesEntry, KeepSame, PassedGiveRows}
use Rattle.row_blocks.specs.Versions.{versions_of, end_of, is_late}
use Rattle.row_blocks.proofs.Picked.{latest_by_same}
use Rattle.row_blocks.proofs.Walked.{Placed, placed, all_above}
use Rattle.row_blocks.proofs.Stands.{stands_picked, stands_end, stands_next, stands_longer, holds_longer, none_holds, none_stands_for, stands_same, holds_same, position}

-- the pick over lists is the pick by the transactions of the versions
pub picked_by_txn : (q : ℕ) (ends : ℕ → Option End) (vs : List Version) → picked q vs (map (λ v. ends v.txn) vs) ≡ picked_by (λ t. counted q (ends t)) vs
picked_by_txn q ends vs = ap (λ cs. row_of (latest cs)) (each_candidate vs)
  where
    each_candidate : (ws : List Version) → candidates q ws (map (λ v. ends v.txn) ws) ≡ map (λ v. candidate v (counted q (ends v.txn))) ws
    each_candidate [] = refl
    each_candidate (w ∷ ws) = ap (λ cs. candidate w (counted q (ends w.txn)) ∷ cs) (each_candidate ws)

-- the pick with the ends each from the shard of its transaction
pub picked_apart : (log : List LogEntry) (frontier floor q : ℕ) → IsLog log frontier → floor ≤ q
    → (a : Place) → IsSlot a → (block : Kept) → Serves block (shard_of_block a.obj a.block) log floor q
    → (of_txn : ℕ → Kept) → ((t : ℕ) → Serves (of_txn t) (shard_of_txn t) log floor q)
    → picked_by (λ t. counted q ((of_txn t).ends t)) (block.versions a) ≡ rows_at log q a
picked_apart log frontier floor q h l a slot block b of_txn s =
    ap row_of (latest_by_same (λ t. counted q ((of_txn t).ends t)) (commits_at log q)
    (λ t. stands_end log frontier h (of_txn t) floor q t (s t).stands (s t).applied (sym (s t).number)) (block.versions a))
    ∙ stands_picked log frontier h block floor q b.stands l b.applied a slot (sym b.number)

pub pick_gives_row : PickGivesRow
pick_gives_row log frontier floor q h l a slot block b of_txn s =
    picked_by_txn q (λ t. (of_txn t).ends t) (block.versions a) ∙ picked_apart log frontier floor q h l a slot block b of_txn s

pub shards_give_rows : ShardsGiveRows
shards_give_rows log frontier floor q h l shards s a slot =
    picked_apart log frontier floor q h l a slot (shards (shard_of_block a.obj a.block)) (s (shard_of_block a.obj a.block) (omega arith))
    (λ t. shards (shard_of_txn t)) (λ t. s (shard_of_txn t) (omega arith))

-- A shard that has passed the entries before its next one is at it.
pub passed_next : (kept : Kept) (first rest : List LogEntry) (e : LogEntry) → Placed 0 (first ++ e ∷ rest) → HasPassed kept first → is_own kept.number e ≡ true → IsNext kept (first ++ e ∷ rest) e
passed_next kept first rest e places h own =
    let p : e.pos ≡ length first = position first rest e places in
    let u : kept.applied ≤ length first = h.upto in
    record { before = first; rest = rest; place = refl; own = own; done = h.applied; new = omega arith }

pub passed_none : (n : ℕ) → HasPassed (none_kept n) []
passed_none n = record { applied = tt; upto = omega arith }

-- It passes an entry of its own by applying it, and any other as it is.
pub passed_own : (kept : Kept) (first : List LogEntry) (e : LogEntry) → e.pos ≡ length first → HasPassed kept first → HasPassed (after_entry kept e) (first ++ e ∷ [])
passed_own kept first e p h =
    let u : kept.applied ≤ length first = h.upto in
    let l : length (first ++ e ∷ []) ≡ length first + 1 = length-append first (e ∷ []) in
    record {
      applied = each_append _ first (e ∷ [])
          (each_weaker (λ x. is_own kept.number x ≡ true → x.pos < kept.applied) (λ x. is_own kept.number x ≡ true → x.pos < e.pos + 1) (λ x f o. let k : x.pos < kept.applied = f o in omega arith) first h.applied)
          (λ o. omega arith, tt);
      upto = omega arith;
    }

pub passed_other : (kept : Kept) (first : List LogEntry) (e : LogEntry) → is_own kept.number e ≡ false → HasPassed kept first → HasPassed kept (first ++ e ∷ [])
passed_other kept first e other h =
    let u : kept.applied ≤ length first = h.upto in
    let l : length (first ++ e ∷ []) ≡ length first + 1 = length-append first (e ∷ []) in
    record {
      applied = each_append (λ x. is_own kept.number x ≡ true → x.pos < kept.applied) first (e ∷ []) h.applied (λ o. absurd (true≢false (sym o ∙ other)), tt);
      upto = omega arith;
    }

-- Once it has passed a log, its entries up to each SCN are applied.
pub passed_all : (kept : Kept) (log : List LogEntry) (q : ℕ) → HasPassed kept log → HasApplied kept log q
passed_all kept log q h = each_weaker (λ x. is_own kept.number x ≡ true → x.pos < kept.applied) _ (λ x f l. f) log h.applied

-- An SCN range that begins higher, and two after each other.
scns_lower : (low high top : ℕ) (es : List LogEntry) → low ≤ high → ScnsWithin high top es → ScnsWithin low top es
scns_lower low high top [] l h = tt
scns_lower low high top (e ∷ es) l h = let k : high ≤ e.scn = h.0 in (omega arith, h.1, h.2)

scns_append : (low old new : ℕ) (xs ys : List LogEntry) → low ≤ old + 1 → old ≤ new → ScnsWithin low old xs → ScnsWithin (old + 1) new ys → ScnsWithin low new (xs ++ ys)
scns_append low old new [] ys l f h k = scns_lower low (old + 1) new ys l k
scns_append low old new (x ∷ xs) ys l f h k =
    let m : x.scn ≤ old = h.1 in
    (h.0, omega arith, scns_append x.scn old new xs ys (omega arith) f h.2 k)

-- entries that continue a log
pub log_continued : (log entries : List LogEntry) (old new : ℕ) → IsLog log old → IsContinuation log old entries new → IsLog (log ++ entries) new
log_continued log entries old new h c = record {
  sound = c.sound;
  places = numbered_append 0 log entries
      ∙ ap₂ (λ x y. x ++ y) h.places (let e : 0 + length log ≡ length log = omega arith in ap (λ n. numbered n entries) e ∙ c.places);
  scns = scns_append 1 old new log entries (omega arith) c.forward h.scns c.scns;
}

pub stands_continued : (kept : Kept) (log entries : List LogEntry) (floor old new : ℕ) → IsLog log old → IsContinuation log old entries new → floor ≤ old → StandsFor kept log floor → StandsFor kept (log ++ entries) floor
stands_continued kept log entries floor old new h c l s =
    stands_longer kept log entries floor s (placed 0 (log ++ entries) (log_continued log entries old new h c).places) (all_above floor (old + 1) new entries c.scns (omega arith))

pub holds_continued : (kept : Kept) (log entries : List LogEntry) (old new : ℕ) → IsLog log old → IsContinuation log old entries new → HoldsAll kept log → HoldsAll kept (log ++ entries)
holds_continued kept log entries old new h c s = holds_longer kept log entries s (placed 0 (log ++ entries) (log_continued log entries old new h c).places)

-- the log before the first delivery
pub log_none : IsLog [] 0
log_none = record { sound = tt; places = refl; scns = tt }

pub none_stands : (n : ℕ) → StandsFromStart (none_kept n)
none_stands n log frontier h = (none_stands_for n log frontier h, none_holds n log)

-- so does a shard that keeps the same
pub new_stands : (kept : Kept) (n : ℕ) → SameKept kept (none_kept n) → StandsFromStart kept
new_stands kept n same log frontier h =
    let s = none_stands n log frontier h in
    (stands_same kept (none_kept n) log 0 same s.0, holds_same kept (none_kept n) log same s.1)

-- A shard that passes an entry, one of its own or not.
one_passes : (old new : Kept) (n : ℕ) (e : LogEntry) (log : List LogEntry) (frontier floor : ℕ) → IsLog log frontier → (first rest : List LogEntry) → log ≡ first ++ e ∷ rest
    → old.number ≡ n → StandsFor old log floor → HasPassed old first
    → (is_own n e ≡ false → SameKept new old) → (is_own n e ≡ true → old.applied ≤ e.pos → SameKept new (after_entry old e))
    → (new.number ≡ n) × StandsFor new log floor × HasPassed new (first ++ e ∷ [])
one_passes old new n e log frontier floor h first rest whole number stands passed other own = by_test (is_own n e) refl
  where
    places : Placed 0 (first ++ e ∷ rest)
    places = subst (Placed 0) whole (placed 0 log h.places)

    same_passed : (x y : Kept) (es : List LogEntry) → SameKept x y → HasPassed y es → HasPassed x es
    same_passed x y es e h = record {
      applied = subst (λ p. AllByRecursion (λ z. is_own x.number z ≡ true → z.pos < p) es) (sym e.applied)
          (subst (λ m. AllByRecursion (λ z. is_own m z ≡ true → z.pos < y.applied) es) (sym e.number) h.applied);
      upto = subst (λ p. p ≤ length es) (sym e.applied) h.upto;
    }

    by_test : (b : Bool) → is_own n e ≡ b → (new.number ≡ n) × StandsFor new log floor × HasPassed new (first ++ e ∷ [])
    by_test false k =
        let same = other k in (
          same.number ∙ number,
          stands_same new old log floor same stands,
          same_passed new old (first ++ e ∷ []) same (passed_other old first e (ap (λ m. is_own m e) number ∙ k) passed),
        )
    by_test true k =
        let mine : is_own old.number e ≡ true = ap (λ m. is_own m e) number ∙ k in
        let next : IsNext old log e = subst (λ l. IsNext old l e) (sym whole) (passed_next old first rest e places passed mine) in
        let same = own k next.new in (
          same.number ∙ number,
          stands_same new (after_entry old e) log floor same (stands_next log frontier h old floor e stands next),
          same_passed new (after_entry old e) (first ++ e ∷ []) same (passed_own old first e (position first rest e places) passed),
        )

-- so do all, where each but the entry's own shard keeps the same
pub all_pass : (old new : Shards) (e : LogEntry)
    → ((n : ℕ) → n < 64 → is_own n e ≡ false → SameKept (new n) (old n))
    → ((n : ℕ) → n < 64 → is_own n e ≡ true → (old n).applied ≤ e.pos → SameKept (new n) (after_entry (old n) e))
    → PassesEntry old e new
all_pass old new e other own log frontier floor h first rest whole s = record {
  numbers = λ n k. (one n k).0;
  each = λ n k. (one n k).1;
  passed = λ n k. (one n k).2;
}
  where
    one : (n : ℕ) → n < 64 → ((new n).number ≡ n) × StandsFor (new n) log floor × HasPassed (new n) (first ++ e ∷ [])
    one n k = one_passes (old n) (new n) n e log frontier floor h first rest whole (s.numbers n k) (s.each n k) (s.passed n k) (other n k) (own n k)

pub start_stands : (shards : Shards) → KeepSame shards none_kept → StandAtStart shards
start_stands shards same log frontier h = record {
  numbers = λ n k. (same n k).number;
  each = λ n k. (new_stands (shards n) n (same n k) log frontier h).0;
  passed = λ n k. record { applied = tt; upto = let e : (shards n).applied ≡ 0 = (same n k).applied in omega arith };
}

pub passed_give_rows : PassedGiveRows
passed_give_rows shards log frontier floor q h s l a slot =
    shards_give_rows log frontier floor q h l shards
    (λ n k. record { number = s.numbers n k; stands = s.each n k; applied = passed_all (shards n) log q (s.passed n k) }) a slot

-- and they stand for a longer log, where they have passed what was there
pub stand_continued : (shards : Shards) (log entries first : List LogEntry) (floor old new : ℕ) → IsLog log old → IsContinuation log old entries new → floor ≤ old
    → StandAt shards log first floor → StandAt shards (log ++ entries) first floor
stand_continued shards log entries first floor old new h c l s = record {
  numbers = s.numbers;
  each = λ n k. stands_continued (shards n) log entries floor old new h c l (s.each n k);
  passed = s.passed;
}

-- The floor rises to any SCN whose entries are applied, with the versions as they are.
late_lower : (floor next : ℕ) (x : Option End) → floor ≤ next → is_late next x ≡ true → is_late floor x ≡ true
late_lower floor next None l h = refl
late_lower floor next (Some e) l h = let k : next < e.scn = ltb-true next e.scn h in lt-ltb floor e.scn (omega arith)

filter_twice : {X : Type 0} (p q : X → Bool) → ((x : X) → p x ≡ true → q x ≡ true) → (xs : List X) → filter p xs ≡ filter p (filter q xs)
filter_twice p q f [] = refl
filter_twice {X} p q f (x ∷ xs) = by_tests (p x) (q x) refl refl (filter_twice p q f xs)
  where
    by_tests : (b c : Bool) → p x ≡ b → q x ≡ c → filter p xs ≡ filter p (filter q xs) → cond b (x ∷ filter p xs) (filter p xs) ≡ filter p (cond c (x ∷ filter q xs) (filter q xs))
    by_tests true true h k ih = rw h (ap (λ l. x ∷ l) ih)
    by_tests true false h k ih = absurd (true≢false (sym (f x h) ∙ k))
    by_tests false true h k ih = rw h ih
    by_tests false false h k ih = ih

open_lower : (floor next : ℕ) (log : List LogEntry) (v : Version) → floor ≤ next → is_open next log v ≡ true → is_open floor log v ≡ true
open_lower floor next log v l h =
    let p = and_parts (not v.struck) (is_late next (end_of log v.txn)) h in
    and_from (not v.struck) (is_late floor (end_of log v.txn)) p.0 (late_lower floor next (end_of log v.txn) l p.1)

pub floor_raised : (log : List LogEntry) (frontier : ℕ) → IsLog log frontier → (kept : Kept) (floor next : ℕ) → StandsFor kept log floor → floor ≤ next → HasApplied kept log next → StandsFor kept log next
floor_raised log frontier h kept floor next s l reached = record {
  within = s.within;
  reached = reached;
  ends = s.ends;
  open_versions = λ a slot.
      let lower : (v : Version) → is_open next log v ≡ true → is_open floor log v ≡ true = λ v. open_lower floor next log v l in
      filter_twice (is_open next log) (is_open floor log) lower (kept.versions a)
      ∙ ap (filter (is_open next log)) (s.open_versions a slot)
      ∙ sym (filter_twice (is_open next log) (is_open floor log) lower (versions_of (own_below kept.number kept.applied log) a));
  at_floor = λ a slot own. stands_picked log frontier h kept floor next s l reached a slot own;
}
