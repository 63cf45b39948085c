-- A shard of the row store that takes the next entry of its own stands for the log still.
use Rattle.std.proofs.Common.{◌≡◌, ℕ, ◌+◌, ◌<◌, ◌≤◌, ◌^◌, max, Bool, true, cond, nat_lt, List, [], ◌∷◌, ◌++◌, length, take, drop, filter, Option, Some, None, ◌⊎◌, inl, inr, refl, sym, ap, ◌∙◌, subst, arith, true≢false, append_assoc}
use Rattle.std.proofs.lemmas.List.{take-append-drop}
use Rattle.std.specs.List.{Contains, AllByRecursion}
use Rattle.std.proofs.lemmas.Bool.{eqb-true, eq-eqb, lt-ltb, le-ltb, cases_lt}
use Rattle.adg_base.specs.Shard.{shard_of_vector}
use Rattle.adg_base.specs.declared.log.LogEntry.{LogEntry}
use Rattle.adg_model.specs.Sound.{IsLog}
use Rattle.row_blocks.specs.declared.shard.Shard.{Shard as OwnShard}
use Rattle.row_blocks.specs.declared.shard.Applied.{Applied}
use Rattle.row_blocks.specs.declared.shard.Applied.TheVariants.{Already, Done}
use Rattle.row_blocks.specs.Shard.{shown}
use Rattle.row_blocks.specs.declared.version.Version.{Version}
use Rattle.row_blocks.specs.Stands.{Kept, same_shard, is_own, own_below, is_open, StandsFor, IsNext, SameKept, StandsForMore, after_entry}
use Rattle.row_blocks.specs.Versions.{versions_of, end_of}
use Rattle.row_blocks.specs.Settled.{settled_or, settled_at, same_addr, AreSettled}
use Rattle.row_blocks.proofs.Settling.{settled_entry}
use Rattle.adg_base.specs.Address.{Place}
use Rattle.std.specs.HashMap as hash
use Rattle.row_blocks.specs.Law.{commits_at}
use Rattle.row_blocks.specs.Pick.{picked_by}
use Rattle.core_rules.specs.State.{At}
use Rattle.standby_core.specs.Entries.{TakesEntry}
use Rattle.core_rules.proofs.Lists.{at_contains, contains_at, at_take_back, take_next, each_from}
use Rattle.core_rules.proofs.FactsOrder.{positions}

-- an entry of a shard by the test, and the other way round
pub own_shard : (n : ℕ) (o : Option ℕ) → same_shard n o ≡ true → o ≡ Some n
own_shard n None h = absurd (true≢false (sym h))
own_shard n (Some m) h = ap Some (eqb-true m n h)

pub shard_own : (n : ℕ) (o : Option ℕ) → o ≡ Some n → same_shard n o ≡ true
shard_own n o h = subst (λ x. same_shard n x ≡ true) (sym h) (eq-eqb n n refl)

-- what keeps the same stands for the same
pub same_stands : (x y : Kept) (log : List LogEntry) (floor : ℕ) → SameKept y x → StandsFor x log floor → StandsFor y log floor
same_stands x y log floor e h = record {
  within = let a : y.applied ≡ x.applied = e.applied in let w : x.applied ≤ length log = h.within in omega arith;
  reached = let P : ℕ → ℕ → Type 0 = λ n a. AllByRecursion (λ (z : LogEntry). z.scn ≤ floor → is_own n z ≡ true → z.pos < a) log in
      subst (λ n. P n y.applied) (sym e.number) (subst (λ a. P x.number a) (sym e.applied) h.reached);
  ends = λ t. e.ends t ∙ h.ends t ∙ sym (own_same (λ es. end_of es t));
  open_versions = λ a slot. ap (λ (vs : List Version). filter (is_open floor log) vs) (e.versions a slot) ∙ h.open_versions a slot ∙ sym (own_same (λ es. filter (is_open floor log) (versions_of es a)));
  at_floor = λ a slot own. ap (picked_by (commits_at log floor)) (e.versions a slot) ∙ h.at_floor a slot (own ∙ e.number);
}
  where
    own_same : {Z : Type 0} (f : List LogEntry → Z) → f (own_below y.number y.applied log) ≡ f (own_below x.number x.applied log)
    own_same f = ap (λ n. f (own_below n y.applied log)) e.number ∙ ap (λ a. f (own_below x.number a log)) e.applied

-- a list is what stands before a place, the element there, and the rest
at_splits : {X : Type 0} (xs : List X) (n : ℕ) (x : X) → At xs n x → xs ≡ take n xs ++ x ∷ drop (n + 1) xs
at_splits xs n x h = sym (take-append-drop (n + 1) xs) ∙ ap (λ l. l ++ drop (n + 1) xs) (take_next xs n x h) ∙ append_assoc (take n xs) (x ∷ []) (drop (n + 1) xs)

-- an entry that is not applied, where all earlier ones of the shard are, is the shard's next
pub next_entry : (kept : Kept) (log : List LogEntry) (frontier : ℕ) (e : LogEntry) → IsLog log frontier → Contains log e
    → shard_of_vector e.vector ≡ Some kept.number → kept.applied ≤ e.pos
    → ((z : LogEntry) → Contains log z → shard_of_vector z.vector ≡ Some kept.number → z.pos < e.pos → z.pos < kept.applied) → IsNext kept log e
next_entry kept log frontier e is within own new closes = record {
  before = take at.0 log;
  rest = drop (at.0 + 1) log;
  place = at_splits log at.0 e at.1;
  own = shard_own kept.number (shard_of_vector e.vector) own;
  done = each_from (λ (z : LogEntry). is_own kept.number z ≡ true → z.pos < kept.applied) (take at.0 log) done;
  new = new;
}
  where
    at : (n : ℕ) × At log n e
    at = contains_at log e within

    done : (z : LogEntry) → Contains (take at.0 log) z → is_own kept.number z ≡ true → z.pos < kept.applied
    done z c o =
        let k = contains_at (take at.0 log) z c in
        let b = at_take_back log at.0 k.0 z k.1 in
        let there : z.pos ≡ k.0 = positions log frontier is k.0 z b.0 in
        let here : e.pos ≡ at.0 = positions log frontier is at.0 e at.1 in
        let less : k.0 < at.0 = b.1 in
        closes z (at_contains log k.0 z b.0) (own_shard kept.number (shard_of_vector z.vector) o) (omega arith)

-- shards with the same map know the same
pub known_same : (s t : OwnShard) → t.settled ≡ s.settled → (a : Place) → settled_at t a ≡ settled_at s a
known_same s t same a = ap (λ m. settled_or (hash.get same_addr m a)) same

-- what a call of a shard's makes of an entry
pub takes : (s t : OwnShard) (e : LogEntry) (r : Applied) → r ≡ cond (nat_lt e.pos s.applied) Already Done → (r ≡ Already → t ≡ s)
    → (r ≡ Done → e.pos + 1 < 2 ^ 64 → SameKept (shown t) (after_entry (shown s) e)) → (r ≡ Done → e.pos + 1 < 2 ^ 64 → StandsForMore (shown s) e (shown t)) → t.number ≡ s.number → t.settled ≡ s.settled → TakesEntry s e t
takes s t e r is already done stands number known = record {
  number = number;
  applied = λ few. by (cases_lt e.pos s.applied) few;
  already = λ l. already (is_already l);
  stands = λ l few. stands (is_done l) few;
  settled = λ few log k. settles (cases_lt e.pos s.applied) few log k;
}
  where
    is_already : e.pos < s.applied → r ≡ Already
    is_already l = is ∙ ap (λ (b : Bool). cond b Already Done) (lt-ltb e.pos s.applied l)

    is_done : s.applied ≤ e.pos → r ≡ Done
    is_done l = is ∙ ap (λ (b : Bool). cond b Already Done) (le-ltb e.pos s.applied l)

    by : (e.pos < s.applied) ⊎ (s.applied ≤ e.pos) → e.pos + 1 < 2 ^ 64 → t.applied ≡ max s.applied (e.pos + 1)
    by (inl l) few = let same : t.applied ≡ s.applied = ap (λ (x : OwnShard). x.applied) (already (is_already l)) in omega arith
    by (inr l) few = let same : t.applied ≡ e.pos + 1 = (done (is_done l) few).applied in omega arith

    settles : (e.pos < s.applied) ⊎ (s.applied ≤ e.pos) → e.pos + 1 < 2 ^ 64 → (log : List LogEntry) → AreSettled log s → AreSettled log t
    settles (inl l) few log k = subst (AreSettled log) (sym (already (is_already l))) k
    settles (inr l) few log k = settled_entry log s t e (done (is_done l) few) (known_same s t known) k
