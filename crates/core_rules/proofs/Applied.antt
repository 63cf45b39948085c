-- Apply and Raise keep the invariant.
use Rattle.std.proofs.Common.{◌≡◌, ℕ, ◌+◌, ◌<◌, ◌≤◌, max, List, [], ◌∷◌, length, take, Some, ◌⊎◌, inl, inr, refl, sym, ap, ◌∙◌, subst, arith, length-set}
use Rattle.std.specs.Prelude.{slice_set}
use Rattle.adg_base.specs.Shard.{shard_of_vector}
use Rattle.adg_base.specs.declared.log.LogEntry.{LogEntry}
use Rattle.core_rules.specs.State.{CoreState, Worker, Shard, At, share_of, limit}
use Rattle.core_rules.specs.Applying.{Applies, Raises}
use Rattle.core_rules.specs.LogFacts.{LogHasFacts}
use Rattle.core_rules.specs.Parts.{ShardsAre, AppliedAre, DdlIs, mined_from}
use Rattle.core_rules.specs.Invariant.{Invariant, Precise, WorkerIs}
use Rattle.core_rules.proofs.Lists.{Has, has, contains, has_append_cases, at_set_cases, at_within, at_contains, contains_at, take_next, map_set_same}
use Rattle.core_rules.proofs.Shares.{share_log}
use Rattle.core_rules.proofs.Keeps.{Keeps, KeepsPrecise}
use Rattle.core_rules.proofs.Crew.{IsIn, HoldMore, hold_same, applied_more, counts_with, crew_keeps}

-- a shard with one entry more
abbrev one_more : Shard → LogEntry → Shard
one_more s e = record s { applied = max s.applied (e.pos + 1) }

more_held : (shards : List Shard) (place : ℕ) (s : Shard) (e : LogEntry) → At shards place s → HoldMore shards (slice_set shards place (one_more s e))
more_held shards place s e at n x h = either (at_set_cases shards place n x (one_more s e) h)
  where
    either : ((n ≡ place) × (x ≡ one_more s e)) ⊎ ((n ≡ place → ⊥) × At shards n x) → (was : Shard) × At shards n was × (was.applied ≤ x.applied)
    either (inl p) =
        let same : x.applied ≡ max s.applied (e.pos + 1) = ap (λ (y : Shard). y.applied) p.1 in
        (s, subst (λ m. At shards m s) (sym p.0) at, omega arith)
    either (inr p) = (x, p.1, omega arith)

-- the entry lies in the log
own_pos : (c : CoreState) → LogHasFacts → Invariant c → (worker n : ℕ) (e : LogEntry) → At (share_of c worker) n e → e.pos < length c.log
own_pos c facts v worker n e h =
    let there = share_log (length c.workers) worker c.log e (at_contains (share_of c worker) n e h) in
    let at = contains_at c.log e there in
    let same : e.pos ≡ at.0 = (facts c.log c.frontier v.log).positions at.0 e at.1 in
    let within : at.0 < length c.log = at_within c.log at.0 e at.1 in
    omega arith

pub apply_keeps : (worker : ℕ) → Keeps (λ c new. Applies c worker new)
apply_keeps worker facts c new r v = subst Invariant (sym r.effect) (crew_keeps c worker x shards c.ddl v shards_are more is ddl)
  where
    x : Worker
    x = record r.was { applied = r.was.applied + 1 }

    shards : List Shard
    shards = slice_set c.shards r.place (one_more r.shard r.entry)

    was_is : WorkerIs c worker r.was
    was_is = v.workers worker r.was r.found

    more : HoldMore c.shards shards
    more = more_held c.shards r.place r.shard r.entry r.at

    shards_are : ShardsAre c.log shards
    shards_are = record { count = length-set c.shards r.place (one_more r.shard r.entry) ∙ v.shards.count; within = within; floor = floor }
      where
        within : (n : ℕ) (s : Shard) → At shards n s → s.applied ≤ length c.log
        within n s h = either (at_set_cases c.shards r.place n s (one_more r.shard r.entry) h)
          where
            either : ((n ≡ r.place) × (s ≡ one_more r.shard r.entry)) ⊎ ((n ≡ r.place → ⊥) × At c.shards n s) → s.applied ≤ length c.log
            either (inl p) =
                let same : s.applied ≡ max r.shard.applied (r.entry.pos + 1) = ap (λ (y : Shard). y.applied) p.1 in
                let old : r.shard.applied ≤ length c.log = v.shards.within r.place r.shard r.at in
                let pos : r.entry.pos < length c.log = own_pos c facts v worker r.was.applied r.entry r.next in
                omega arith
            either (inr p) = v.shards.within n s p.1

        floor : (n : ℕ) (s : Shard) → At shards n s → s.floor ≡ 0
        floor n s h = either (at_set_cases c.shards r.place n s (one_more r.shard r.entry) h)
          where
            either : ((n ≡ r.place) × (s ≡ one_more r.shard r.entry)) ⊎ ((n ≡ r.place → ⊥) × At c.shards n s) → s.floor ≡ 0
            either (inl p) = ap (λ (y : Shard). y.floor) p.1 ∙ v.shards.floor r.place r.shard r.at
            either (inr p) = v.shards.floor n s p.1

    applied : AppliedAre (take (r.was.applied + 1) (share_of c worker)) shards
    applied e h n s own at =
        either (has_append_cases (take r.was.applied (share_of c worker)) (r.entry ∷ []) e
        (subst (λ es. Has es e) (take_next (share_of c worker) r.was.applied r.entry r.next) (has (take (r.was.applied + 1) (share_of c worker)) e h)))
      where
        either : Has (take r.was.applied (share_of c worker)) e ⊎ Has (r.entry ∷ []) e → e.pos < s.applied
        either (inl k) = applied_more (take r.was.applied (share_of c worker)) c.shards shards more was_is.applied e (contains (take r.was.applied (share_of c worker)) e k) n s own at
        either (inr (inr k)) = absurd k
        either (inr (inl k)) = set_one (at_set_cases c.shards r.place n s (one_more r.shard r.entry) at)
          where
            places : Some r.place ≡ Some n
            places = sym r.own ∙ ap (λ (y : LogEntry). shard_of_vector y.vector) k ∙ own

            set_one : ((n ≡ r.place) × (s ≡ one_more r.shard r.entry)) ⊎ ((n ≡ r.place → ⊥) × At c.shards n s) → e.pos < s.applied
            set_one (inl p) =
                let same : s.applied ≡ max r.shard.applied (r.entry.pos + 1) = ap (λ (y : Shard). y.applied) p.1 in
                let pos : r.entry.pos ≡ e.pos = ap (λ (y : LogEntry). y.pos) k in
                omega arith
            set_one (inr p) = absurd (p.0 cc)

    is : IsIn c (length c.workers) shards worker x
    is = record {
      counts = record {
        behind = let b : r.was.mined ≤ r.was.applied = was_is.counts.behind in omega arith;
        within = let b : r.was.applied < length (share_of c worker) = at_within (share_of c worker) r.was.applied r.entry r.next in omega arith;
        above = was_is.counts.above;
      };
      progress = was_is.progress;
      applied = applied;
      area = was_is.area;
      partition = was_is.partition;
    }

    ddl : DdlIs (limit c) (mined_from (length c.workers) 0 c.log (counts_with c worker x)) c.ddl
    ddl = subst (λ ns. DdlIs (limit c) (mined_from (length c.workers) 0 c.log ns) c.ddl) (sym (map_set_same (λ (w : Worker). w.mined) c.workers worker r.was x r.found refl)) v.ddl

pub apply_precise : (worker : ℕ) → KeepsPrecise (λ c new. Applies c worker new)
apply_precise worker facts c new r v p = subst Precise (sym r.effect) p

pub raise_keeps : (worker through : ℕ) → Keeps (λ c new. Raises c worker through new)
raise_keeps worker through facts c new r v = subst Invariant (sym r.effect) (crew_keeps c worker x c.shards c.ddl v v.shards (hold_same c.shards) is ddl)
  where
    x : Worker
    x = record r.was { progress = through }

    was_is : WorkerIs c worker r.was
    was_is = v.workers worker r.was r.found

    is : IsIn c (length c.workers) c.shards worker x
    is = record {
      counts = record { behind = was_is.counts.behind; within = was_is.counts.within; above = r.mined };
      progress = record {
        reached =
            let reached : limit c ≤ r.was.progress = was_is.progress.reached in
            let above : r.was.progress < through = r.above in
            omega arith;
        received = r.received;
      };
      applied = was_is.applied;
      area = was_is.area;
      partition = was_is.partition;
    }

    ddl : DdlIs (limit c) (mined_from (length c.workers) 0 c.log (counts_with c worker x)) c.ddl
    ddl = subst (λ ns. DdlIs (limit c) (mined_from (length c.workers) 0 c.log ns) c.ddl) (sym (map_set_same (λ (w : Worker). w.mined) c.workers worker r.was x r.found refl)) v.ddl

pub raise_precise : (worker through : ℕ) → KeepsPrecise (λ c new. Raises c worker through new)
raise_precise worker through facts c new r v p = subst Precise (sym r.effect) p
