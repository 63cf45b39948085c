-- Lemmas on versions whose transactions have all ended.
use Rattle.std.proofs.Common.{◌≡◌, ℕ, zero, suc, ◌+◌, ◌-◌, ◌<◌, ◌≤◌, Bool, true, false, cond, nat_lt, nat_le, max, get_or, slice_set, ◌&&◌, List, [], ◌∷◌, ◌++◌, length, take, drop, length-append, Option, Some, None, is_some, Result, Ok, Err, OnOk, OnErr, ◌⊎◌, inl, inr, refl, sym, ap, ◌∙◌, subst, arith, true≢false}
use Rattle.std.specs.List.{AllByRecursion, list_any, slice_get}
use Rattle.std.proofs.lemmas.Bool.{ltb-true, cases_eq, cases_lt}
use Rattle.std.proofs.lemmas.Bool.Decides.{nat_tests}
use Rattle.std.proofs.lemmas.Option.{same_Some, slice_get_within}
use Rattle.std.proofs.lemmas.List.{take-append-drop, take_rest}
use Rattle.adg_base.specs.Address.{Place}
use Rattle.adg_base.specs.Shard.{shard_of_txn}
use Rattle.adg_base.specs.declared.log.LogEntry.{LogEntry}
use Rattle.adg_model.specs.Sound.{IsLog}
use Rattle.adg_model.proofs.LogLaws.{each_weaker, each_append}
use Rattle.row_blocks.specs.declared.version.Version.{Version}
use Rattle.row_blocks.specs.declared.version.End.{End}
use Rattle.row_blocks.specs.declared.settled.Settled.{Settled}
use Rattle.row_blocks.specs.declared.shard.Shard.{Shard}
use Rattle.row_blocks.specs.Pick.{Commits, Candidate, counted, candidate, later, latest_by}
use Rattle.row_blocks.specs.Best.{commits_behind}
use Rattle.row_blocks.specs.Law.{commits_at}
use Rattle.row_blocks.specs.Versions.{Deed, Makes, Strikes, stands, strike, after_deed, deed_at, earlier, end_by, end_of}
use Rattle.row_blocks.specs.Stands.{IsSlot, is_own, own_below, StandsFor, SameKept, after_entry}
use Rattle.row_blocks.specs.Shard.{shown}
use Rattle.row_blocks.specs.Shards.{Shards, commits_in, Serves}
use Rattle.row_blocks.specs.Settled.{unsettled, settled_or, same_addr, EndsUpto, AreEnded, AreBehind, settled_at, AreSettled, AreEndsOf, AreEachSettled, SetsSettled}
use Rattle.row_blocks.proofs.Walked.{Placed, placed, end_of_append}
use Rattle.row_blocks.proofs.Stands.{end_own, own_none, placed_above, stands_end}
use Rattle.row_blocks.proofs.Picked.{CommitBelow, later_assoc, later_below, later_wins}
use Rattle.row_blocks.proofs.ShardLists.{get_set_same, get_set_other, get_push_end, get_push_before}

-- the first end of a transaction that its shard has applied is its first in the log
own_end_first : (n t pos low : ℕ) (es : List LogEntry) (x : End) → shard_of_txn t ≡ n → Placed low es → end_of (own_below n pos es) t ≡ Some x → end_of es t ≡ Some x
own_end_first n t pos low [] x own places h = h
own_end_first n t pos low (e ∷ es) x own places h =
    by_test (is_own n e && nat_lt e.pos pos) refl (end_by t e.pos e.scn e.vector) refl (own_end_first n t pos (low + 1) es x own places.1) h
  where
    by_test : (b : Bool) → (is_own n e && nat_lt e.pos pos) ≡ b → (first : Option End) → end_by t e.pos e.scn e.vector ≡ first
        → (end_of (own_below n pos es) t ≡ Some x → end_of es t ≡ Some x)
        → end_of (cond b (e ∷ own_below n pos es) (own_below n pos es)) t ≡ Some x → earlier first (end_of es t) ≡ Some x
    by_test true b None f ih k = ih (sym (ap (λ o. earlier o (end_of (own_below n pos es) t)) f) ∙ k)
    by_test true b (Some y) f ih k = sym (ap (λ o. earlier o (end_of (own_below n pos es) t)) f) ∙ k
    by_test false b None f ih k = ih k
    by_test false b (Some y) f ih k =
        let is : is_own n e ≡ true = end_own n t e own (ap is_some f) in
        let past : nat_lt e.pos pos ≡ false = sym (ap (λ o. o && nat_lt e.pos pos) is) ∙ b in
        let far : pos ≤ e.pos = grind (arith, nat_tests) in
        let here : e.pos ≡ low = places.0 in
        let none : own_below n pos es ≡ [] = own_none n pos es (each_weaker (λ z. low + 1 ≤ z.pos) (λ z. pos ≤ z.pos) (λ z l. let l' : low + 1 ≤ z.pos = l in omega arith) es (placed_above (low + 1) es places.1)) in
        let nothing : None ≡ Some x = sym (ap (λ zs. end_of zs t) none) ∙ k in
        absurd cc

pub ends_of_log : (log : List LogEntry) (frontier : ℕ) → IsLog log frontier → (shards : Shards)
    → ((n : ℕ) → n < 64 → (floor : ℕ) × ((shards n).number ≡ n) × StandsFor (shards n) log floor) → AreEndsOf log shards
ends_of_log log frontier is shards stand t e h =
    let s = stand (shard_of_txn t) (omega arith) in
    own_end_first (shards (shard_of_txn t)).number t (shards (shard_of_txn t)).applied 0 log e (sym s.1) (placed 0 log is.places) (sym (s.2.ends t) ∙ h)

-- what ended up to a position counts, if it does, up to that position
counted_upto : (q c upto : ℕ) (o : Option End) → EndsUpto upto o → counted q o ≡ Some c → c ≤ upto
counted_upto q c upto None h k = absurd h
counted_upto q c upto (Some e) h k = by_test (e.committed && nat_le e.scn q) k
  where
    by_test : (b : Bool) → cond b (Some e.pos) None ≡ Some c → c ≤ upto
    by_test true k = subst (λ z. z ≤ upto) (same_Some e.pos c k) h
    by_test false k = absurd cc

pub ended_behind : (log : List LogEntry) (q : ℕ) (commits : Commits) → ((t : ℕ) → commits t ≡ commits_at log q t) → (vs : List Version) (s : Settled)
    → AreEnded (end_of log) vs s → AreBehind commits vs s
ended_behind log q commits same vs s h = record {
  within = h.within;
  behind = each_weaker (λ v. EndsUpto s.upto (end_of log v.txn)) (λ v. (c : ℕ) → commits v.txn ≡ Some c → c ≤ s.upto)
      (λ v k c e. counted_upto q c s.upto (end_of log v.txn) k (sym (same v.txn) ∙ e)) (take s.count vs) h.ended;
}

-- where shards serve a log, what ended there is behind
pub served_behind : (log : List LogEntry) (frontier floor q : ℕ) → IsLog log frontier → (shards : Shards) → ((n : ℕ) → n < 64 → Serves (shards n) n log floor q)
    → (vs : List Version) (s : Settled) → AreEnded (end_of log) vs s → AreBehind (commits_in shards q) vs s
served_behind log frontier floor q is shards serve = ended_behind log q (commits_in shards q) (λ t.
    let s = serve (shard_of_txn t) (omega arith) in
    stands_end log frontier is (shards (shard_of_txn t)) floor q t s.stands s.applied (sym s.number))

-- nothing is behind none
pub none_behind : (commits : Commits) (vs : List Version) → AreBehind commits vs unsettled
none_behind commits vs = record { within = omega arith; behind = tt }

-- the latest of the first and of the rest
latest_split : (commits : Commits) (xs ys : List Version) → latest_by commits (xs ++ ys) ≡ later (latest_by commits xs) (latest_by commits ys)
latest_split commits [] ys = refl
latest_split commits (x ∷ xs) ys =
    ap (later (candidate x (commits x.txn))) (latest_split commits xs ys)
    ∙ sym (later_assoc (candidate x (commits x.txn)) (latest_by commits xs) (latest_by commits ys))

candidate_upto : (upto : ℕ) (v : Version) (o : Option ℕ) → ((c : ℕ) → o ≡ Some c → c ≤ upto) → CommitBelow (upto + 1) (candidate v o)
candidate_upto upto v None h = tt
candidate_upto upto v (Some c) h = by_test v.struck
  where
    by_test : (b : Bool) → CommitBelow (upto + 1) (cond b None (Some (record { commit = c; pos = v.pos; row = v.row })))
    by_test true = tt
    by_test false = let l : c ≤ upto = h c refl in omega arith

latest_upto : (commits : Commits) (upto : ℕ) (vs : List Version) → AllByRecursion (λ v. (c : ℕ) → commits v.txn ≡ Some c → c ≤ upto) vs → CommitBelow (upto + 1) (latest_by commits vs)
latest_upto commits upto [] h = tt
latest_upto commits upto (v ∷ vs) h =
    later_below (upto + 1) (candidate v (commits v.txn)) (latest_by commits vs) (candidate_upto upto v (commits v.txn) h.0) (latest_upto commits upto vs h.1)

later_over : (upto : ℕ) (x : Option Candidate) (c : Candidate) → CommitBelow (upto + 1) x → upto < c.commit → later x (Some c) ≡ Some c
later_over upto None c h k = refl
later_over upto (Some x) c h k = let h' : x.commit < upto + 1 = h in later_wins x c (omega arith)

-- of versions of which the first are settled the latest of the rest is the latest, where it committed behind those
pub late_is_latest : (commits : Commits) (vs : List Version) (s : Settled) (late : Option Candidate) → AreBehind commits vs s
    → late ≡ latest_by commits (take (length vs - s.count) (drop s.count vs)) → commits_behind s.upto late ≡ true → late ≡ latest_by commits vs
late_is_latest commits vs s None b is h = absurd (true≢false (sym h))
late_is_latest commits vs s (Some c) b is h =
    sym (ap (latest_by commits) (sym (take-append-drop s.count vs))
    ∙ latest_split commits (take s.count vs) (drop s.count vs)
    ∙ ap (later (latest_by commits (take s.count vs))) (sym (is ∙ ap (latest_by commits) (take_rest vs s.count)))
    ∙ later_over s.upto (latest_by commits (take s.count vs)) c (latest_upto commits s.upto (take s.count vs) b.behind) (ltb-true s.upto c.commit h))

-- what is settled stays so while an address gets more versions and some are struck
take_push : (n : ℕ) (vs : List Version) (v : Version) → n ≤ length vs → take n (vs ++ v ∷ []) ≡ take n vs
take_push zero vs v h = refl
take_push (suc n) [] v h = absurd (omega arith)
take_push (suc n) (w ∷ vs) v h = ap (λ l. w ∷ l) (take_push n vs v (omega arith))

ended_push : (ends : ℕ → Option End) (vs : List Version) (v : Version) (s : Settled) → AreEnded ends vs s → AreEnded ends (vs ++ v ∷ []) s
ended_push ends vs v s h =
    let w : s.count ≤ length vs = h.within in
    let l : length (vs ++ v ∷ []) ≡ length vs + 1 = length-append vs (v ∷ []) in
    record {
      within = omega arith;
      ended = subst (AllByRecursion (λ x. EndsUpto s.upto (ends x.txn))) (sym (take_push s.count vs v h.within)) h.ended;
    }

length_strike : (t : ℕ) (vs : List Version) → length (strike t vs) ≡ length vs
length_strike t [] = refl
length_strike t (v ∷ vs) = by_tests (list_any (stands t) vs) (stands t v) (length_strike t vs)
  where
    by_tests : (x y : Bool) → length (strike t vs) ≡ length vs → length (cond x (v ∷ strike t vs) (cond y (record v { struck = true } ∷ vs) (v ∷ vs))) ≡ suc (length vs)
    by_tests true y ih = ap suc ih
    by_tests false true ih = refl
    by_tests false false ih = refl

each_strike : (P : ℕ → Type 0) (t n : ℕ) (vs : List Version) → AllByRecursion (λ (v : Version). P v.txn) (take n vs) → AllByRecursion (λ (v : Version). P v.txn) (take n (strike t vs))
each_strike P t zero vs h = tt
each_strike P t (suc n) [] h = h
each_strike P t (suc n) (v ∷ vs) h = by_tests (list_any (stands t) vs) (stands t v) (each_strike P t n vs h.1)
  where
    by_tests : (x y : Bool) → AllByRecursion (λ (w : Version). P w.txn) (take n (strike t vs)) → AllByRecursion (λ (w : Version). P w.txn) (take (suc n) (cond x (v ∷ strike t vs) (cond y (record v { struck = true } ∷ vs) (v ∷ vs))))
    by_tests true y ih = (h.0, ih)
    by_tests false true ih = h
    by_tests false false ih = h

ended_strike : (ends : ℕ → Option End) (t : ℕ) (vs : List Version) (s : Settled) → AreEnded ends vs s → AreEnded ends (strike t vs) s
ended_strike ends t vs s h = record {
  within = subst (λ n. s.count ≤ n) (sym (length_strike t vs)) h.within;
  ended = each_strike (λ u. EndsUpto s.upto (ends u)) t s.count vs h.ended;
}

ended_deed : (ends : ℕ → Option End) (vs : List Version) (s : Settled) (pos : ℕ) (d : Option Deed) → AreEnded ends vs s → AreEnded ends (after_deed vs pos d) s
ended_deed ends vs s pos None h = h
ended_deed ends vs s pos (Some (Makes t row)) h = ended_push ends vs (record { pos = pos; txn = t; row = row; struck = false }) s h
ended_deed ends vs s pos (Some (Strikes t)) h = ended_strike ends t vs s h

-- where a shard knows the same, and its versions are these
settled_by : (log : List LogEntry) (old new : Shard) (a : Place) (vs : List Version) → settled_at new a ≡ settled_at old a → (shown new).versions a ≡ vs
    → AreEnded (end_of log) vs (settled_at old a) → AreEnded (end_of log) ((shown new).versions a) (settled_at new a)
settled_by log old new a vs same versions h =
    subst (λ s. AreEnded (end_of log) ((shown new).versions a) s) (sym same) (subst (λ l. AreEnded (end_of log) l (settled_at old a)) (sym versions) h)

pub settled_entry : (log : List LogEntry) (old new : Shard) (e : LogEntry) → SameKept (shown new) (after_entry (shown old) e) → ((a : Place) → settled_at new a ≡ settled_at old a)
    → AreSettled log old → AreSettled log new
settled_entry log old new e same known h a slot =
    settled_by log old new a (after_deed ((shown old).versions a) e.pos (deed_at a e.vector)) (known a) (same.versions a slot)
    (ended_deed (end_of log) ((shown old).versions a) (settled_at old a) e.pos (deed_at a e.vector) (h a slot))

pub settled_same : (log : List LogEntry) (old new : Shard) → SameKept (shown new) (shown old) → ((a : Place) → settled_at new a ≡ settled_at old a)
    → AreSettled log old → AreSettled log new
settled_same log old new same known h a slot = settled_by log old new a ((shown old).versions a) (known a) (same.versions a slot) (h a slot)

-- in a longer log
pub settled_longer : (log more : List LogEntry) (shard : Shard) → AreSettled log shard → AreSettled (log ++ more) shard
settled_longer log more shard h a slot = record {
  within = (h a slot).within;
  ended = each_weaker (λ v. EndsUpto (settled_at shard a).upto (end_of log v.txn)) (λ v. EndsUpto (settled_at shard a).upto (end_of (log ++ more) v.txn))
      (λ v k. subst (EndsUpto (settled_at shard a).upto) (sym (end_of_append log more v.txn)) (by_end (settled_at shard a).upto (end_of log v.txn) (end_of more v.txn) k))
      (take (settled_at shard a).count ((shown shard).versions a)) (h a slot).ended;
}
  where
    by_end : (upto : ℕ) (x y : Option End) → EndsUpto upto x → EndsUpto upto (earlier x y)
    by_end upto None y k = absurd k
    by_end upto (Some e) y k = k

-- where nothing is known
pub settled_none : (log : List LogEntry) (shard : Shard) → ((a : Place) → settled_at shard a ≡ unsettled) → AreSettled log shard
settled_none log shard none a slot =
    subst (AreEnded (end_of log) ((shown shard).versions a)) (sym (none a)) (record { within = omega arith; ended = tt })

-- one more version
take_more : (vs : List Version) (n : ℕ) (v : Version) → n < length vs → v ≡ get_or vs n v → take (suc n) vs ≡ take n vs ++ v ∷ []
take_more [] n v h e = absurd (omega arith)
take_more (w ∷ vs) zero v h e = ap (λ x. x ∷ []) (sym e)
take_more (w ∷ vs) (suc n) v h e = ap (λ l. w ∷ l) (take_more vs n v (omega arith) e)

pub ended_more : (ends : ℕ → Option End) (vs : List Version) (s : Settled) (v : Version) (e : End) → s.count < length vs → v ≡ get_or vs s.count v → ends v.txn ≡ Some e
    → AreEnded ends vs s → AreEnded ends vs (record { count = s.count + 1; upto = max s.upto e.pos })
ended_more ends vs s v e within is end h = record {
  within = omega arith;
  ended = subst (AllByRecursion (λ x. EndsUpto (max s.upto e.pos) (ends x.txn))) (sym (let next : s.count + 1 ≡ suc s.count = omega arith in ap (λ k. take k vs) next ∙ take_more vs s.count v within is))
      (each_append (λ x. EndsUpto (max s.upto e.pos) (ends x.txn)) (take s.count vs) (v ∷ [])
      (each_weaker (λ x. EndsUpto s.upto (ends x.txn)) (λ x. EndsUpto (max s.upto e.pos) (ends x.txn)) (λ x k. wider (ends x.txn) k) (take s.count vs) h.ended)
      (subst (EndsUpto (max s.upto e.pos)) (sym end) (let l : e.pos ≤ max s.upto e.pos = omega arith in l), tt));
}
  where
    wider : (o : Option End) → EndsUpto s.upto o → EndsUpto (max s.upto e.pos) o
    wider None k = k
    wider (Some x) k = let k' : x.pos ≤ s.upto = k in let l : x.pos ≤ max s.upto e.pos = omega arith in l

-- a shard of a list knows more of one address
pub settles_each : (log : List LogEntry) (xs : List Shard) (i : ℕ) (old new : Shard) (b : Place) (s : Settled) → i < length xs → slice_get xs i ≡ Some old
    → SameKept (shown new) (shown old) → SetsSettled old new b s
    → (AreEnded (end_of log) ((shown old).versions b) (settled_at old b) → AreEnded (end_of log) ((shown old).versions b) s)
    → AreEachSettled log xs → AreEachSettled log (slice_set xs i new)
settles_each log xs i old new b s within at same sets more each n shard is = by_place (cases_eq n i)
  where
    known : (a : Place) → IsSlot a → (settled_at new a ≡ settled_at old a) ⊎ ((a ≡ b) × (settled_at new a ≡ s)) → AreEnded (end_of log) ((shown new).versions a) (settled_at new a)
    known a slot (inl e) = settled_by log old new a ((shown old).versions a) e (same.versions a slot) (each i old at a slot)
    known a slot (inr e) =
        let here : AreEnded (end_of log) ((shown old).versions a) s =
        subst (λ p. AreEnded (end_of log) ((shown old).versions p) s) (sym e.0) (more (each i old at b (subst IsSlot e.0 slot))) in
        subst (λ l. AreEnded (end_of log) l (settled_at new a)) (sym (same.versions a slot)) (subst (AreEnded (end_of log) ((shown old).versions a)) (sym e.1) here)

    by_place : ((n ≡ i) ⊎ (n ≡ i → ⊥)) → AreSettled log shard
    by_place (inl e) =
        let found : slice_get (slice_set xs i new) n ≡ Some new = ap (slice_get (slice_set xs i new)) e ∙ get_set_same xs i new within in
        subst (AreSettled log) (same_Some new shard (sym found ∙ is)) (λ a slot. known a slot (sets a))
    by_place (inr e) = each n shard (sym (get_set_other xs i n new e) ∙ is)

-- what a map of settled versions knows after one was put
same_is : (a b : Place) → same_addr b a ≡ true → a ≡ b
same_is a b e = grind (arith, nat_tests)

pub known_put : (a b : Place) (s : Settled) (old new : Option Settled) → new ≡ cond (same_addr b a) (Some s) old
    → (settled_or new ≡ settled_or old) ⊎ ((a ≡ b) × (settled_or new ≡ s))
known_put a b s old new is = by_test (same_addr b a) refl is
  where
    by_test : (x : Bool) → same_addr b a ≡ x → new ≡ cond x (Some s) old → (settled_or new ≡ settled_or old) ⊎ ((a ≡ b) × (settled_or new ≡ s))
    by_test true e k = inr (same_is a b e, ap settled_or k)
    by_test false e k = inl (ap settled_or k)

pub either_by : {T E P Q R : Type 0} (r : Result T E) → OnOk r P → OnErr r Q → (P → R) → (Q → R) → R
either_by (Ok x) p q f g = f p
either_by (Err e) p q f g = g q

-- one more shard, of which nothing is known
pub each_push : (log : List LogEntry) (xs : List Shard) (x : Shard) → AreEachSettled log xs → AreSettled log x → AreEachSettled log (xs ++ x ∷ [])
each_push log xs x each last n shard is = by_place (cases_lt n (length xs)) (cases_eq n (length xs))
  where
    by_place : ((n < length xs) ⊎ (length xs ≤ n)) → ((n ≡ length xs) ⊎ (n ≡ length xs → ⊥)) → AreSettled log shard
    by_place (inl l) e = each n shard (sym (get_push_before xs n x l) ∙ is)
    by_place (inr l) (inl e) =
        let found : slice_get (xs ++ x ∷ []) n ≡ Some x = ap (slice_get (xs ++ x ∷ [])) e ∙ get_push_end xs x in
        subst (AreSettled log) (same_Some x shard (sym found ∙ is)) last
    by_place (inr l) (inr e) =
        let short : n < length (xs ++ x ∷ []) = slice_get_within (xs ++ x ∷ []) n shard is in
        let long : length (xs ++ x ∷ []) ≡ length xs + 1 = length-append xs (x ∷ []) in
        absurd (e (omega arith))
