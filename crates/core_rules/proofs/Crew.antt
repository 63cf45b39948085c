-- What an event of one worker has to show so that the invariant is kept.
use Rattle.std.proofs.Common.{◌≡◌, ℕ, ◌+◌, ◌<◌, ◌≤◌, List, map, length, take, ◌⊎◌, inl, inr, sym, subst, arith, length-set}
use Rattle.std.specs.Prelude.{slice_set}
use Rattle.adg_base.specs.Shard.{shard_of_unit}
use Rattle.adg_base.specs.declared.log.LogEntry.{LogEntry}
use Rattle.adg_base.specs.declared.node.DdlNode.{DdlNode}
use Rattle.core_rules.specs.Share.{share, shares}
use Rattle.core_rules.specs.State.{CoreState, Worker, Shard, Link, At, share_of, limit}
use Rattle.core_rules.specs.Parts.{ShardsAre, CountsAre, ProgressIs, AppliedAre, AreaIs, PartitionIs, DdlIs, mined_from, ItemsAre, items_of, ClaimsAre, stages_of, AllCollected}
use Rattle.core_rules.specs.UnitParts.{UnitIs}
use Rattle.core_rules.specs.Invariant.{Invariant, WorkerIs}
use Rattle.core_rules.proofs.Lists.{at_set_cases}

-- what the invariant says of a worker, with all that it reads
pub record WorkerAt (workers limit frontier : ℕ) (log : List LogEntry) (born query : ℕ) (links : List Link) (shards : List Shard) (worker : ℕ) (w : Worker) : Type 0 where
  pub counts : CountsAre (share workers worker log) w.applied w.mined w.progress
  pub progress : ProgressIs limit frontier w.progress
  pub applied : AppliedAre (take w.applied (share workers worker log)) shards
  pub area : AreaIs log born query links worker (take w.mined (share workers worker log)) w.area
  pub partition : PartitionIs log born limit (take w.mined (share workers worker log)) w.ends

abbrev pub IsIn : CoreState → (workers : ℕ) → List Shard → (worker : ℕ) → Worker → Type 0
IsIn c workers shards worker w = WorkerAt workers (limit c) c.frontier c.log c.born c.query c.links shards worker w

pub worker_at : (c : CoreState) (worker : ℕ) (w : Worker) → WorkerIs c worker w → IsIn c (length c.workers) c.shards worker w
worker_at c worker w h = record { counts = h.counts; progress = h.progress; applied = h.applied; area = h.area; partition = h.partition }

pub worker_is : (c : CoreState) (workers worker : ℕ) (w : Worker) → length c.workers ≡ workers → IsIn c workers c.shards worker w → WorkerIs c worker w
worker_is c workers worker w e h =
    let k : IsIn c (length c.workers) c.shards worker w = subst (λ n. IsIn c n c.shards worker w) (sym e) h in
    record { counts = k.counts; progress = k.progress; applied = k.applied; area = k.area; partition = k.partition }

-- where no applied position falls, what is applied stays below them
abbrev pub HoldMore : List Shard → List Shard → Type 0
HoldMore old new = (n : ℕ) (s : Shard) → At new n s → (was : Shard) × At old n was × (was.applied ≤ s.applied)

pub applied_more : (entries : List LogEntry) (old new : List Shard) → HoldMore old new → AppliedAre entries old → AppliedAre entries new
applied_more entries old new more h e k n s own at =
    let r = more n s at in
    let below : e.pos < r.0.applied = h e k n r.0 own r.1 in
    let not_less : r.0.applied ≤ s.applied = r.2 in
    omega arith

pub hold_same : (shards : List Shard) → HoldMore shards shards
hold_same shards n s at = (s, at, omega arith)

-- the state with another worker, other shards and other changes of definitions
abbrev pub with_crew : CoreState → ℕ → Worker → List Shard → List DdlNode → CoreState
with_crew c worker x shards ddl = record c { workers = slice_set c.workers worker x; shards = shards; ddl = ddl }

-- the counts of mined entries with that worker
abbrev pub counts_with : CoreState → ℕ → Worker → List ℕ
counts_with c worker x = map (λ (w : Worker). w.mined) (slice_set c.workers worker x)

pub crew_keeps : (c : CoreState) (worker : ℕ) (x : Worker) (shards : List Shard) (ddl : List DdlNode) → Invariant c
    → ShardsAre c.log shards → HoldMore c.shards shards → IsIn c (length c.workers) shards worker x
    → DdlIs (limit c) (mined_from (length c.workers) 0 c.log (counts_with c worker x)) ddl → Invariant (with_crew c worker x shards ddl)
crew_keeps c worker x shards ddl v s more is d = record {
  log = v.log;
  numbers = v.numbers;
  quiesce = v.quiesce;
  shards = s;
  manned = subst (λ n. 0 < n) (sym same) v.manned;
  workers = each_worker;
  ddl = subst (λ n. DdlIs (limit c) (mined_from n 0 c.log (counts_with c worker x)) ddl) (sym same) d;
  flush = record {
    items = subst (λ n. ItemsAre c.log c.born c.query (limit c) (shares n c.log) (items_of c.links)) (sym same) v.flush.items;
    claims = subst (λ n. ClaimsAre n (stages_of c.links)) (sym same) v.flush.claims;
    collected = subst (λ n. AllCollected c.log c.born n c.links) (sym same) v.flush.collected;
  };
  units = λ obj extent u h. subst (λ n. UnitIs c.log c.query c.ticket c.links (n + shard_of_unit obj extent) obj extent u) (sym same) (v.units obj extent u h);
  populations = v.populations;
  tickets = v.tickets;
  tied = v.tied;
  scans = v.scans;
}
  where
    same : length (slice_set c.workers worker x) ≡ length c.workers
    same = length-set c.workers worker x

    moved : (n : ℕ) (w : Worker) → WorkerIs c n w → IsIn c (length c.workers) shards n w
    moved n w h = record { counts = h.counts; progress = h.progress; applied = applied_more (take w.applied (share_of c n)) c.shards shards more h.applied; area = h.area; partition = h.partition }

    each_worker : (n : ℕ) (w : Worker) → At (slice_set c.workers worker x) n w → WorkerIs (with_crew c worker x shards ddl) n w
    each_worker n w h = worker_is (with_crew c worker x shards ddl) (length c.workers) n w same (either (at_set_cases c.workers worker n w x h))
      where
        either : ((n ≡ worker) × (w ≡ x)) ⊎ ((n ≡ worker → ⊥) × At c.workers n w) → IsIn c (length c.workers) shards n w
        either (inl p) = subst (λ m. IsIn c (length c.workers) shards m w) (sym p.0) (subst (λ y. IsIn c (length c.workers) shards worker y) (sym p.1) is)
        either (inr p) = moved n w (v.workers n w p.1)
