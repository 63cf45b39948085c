-- Publish keeps the invariant, once the units are known to.
use Rattle.std.proofs.Common.{◌≡◌, ℕ, ◌<◌, ◌≤◌, true, cond, List, [], ◌∷◌, length, take, Some, None, ◌⊎◌, inl, inr, refl, sym, ap, ◌∙◌, subst, arith, true≢false}
use Rattle.std.specs.List.{count_by}
use Rattle.std.proofs.lemmas.Bool.{cases_lt}
use Rattle.core_rules.specs.Share.{shares}
use Rattle.core_rules.specs.State.{CoreState, Worker, Idle, Stage, Unclaimed, Claimed, Finished, Link, Session, Population, Populating, At, share_of, limit, cut_through, holds_back, holders, is_finished, is_past}
use Rattle.core_rules.specs.Flush.{Publishes}
use Rattle.core_rules.specs.Parts.{QuiesceIs, IsGone, DdlIs, PartitionIs, ProgressIs}
use Rattle.core_rules.specs.UnitParts.{PopulationIs}
use Rattle.core_rules.specs.Invariant.{Invariant, WorkerIs, AllUnits, mined_of_all}
use Rattle.core_rules.proofs.Lists.{Has, has_at, each_at}
use Rattle.core_rules.proofs.Keeps.{Keeps, KeepsPart}
use Rattle.core_rules.proofs.Items.{items_end, ends_have_items}
use Rattle.core_rules.proofs.Crew.{worker_is}
use Rattle.core_rules.proofs.Restarted.{no_items, no_claims, none_collected}
use Rattle.core_rules.proofs.Staged.{area_gone}
use Rattle.core_rules.proofs.Once.{count_cons}

-- where nobody holds publication back, no population does
pub one_holds : (sessions : List Session) (place : ℕ) (s : Session) → At sessions place s → holds_back s ≡ true → 1 ≤ holders sessions
one_holds sessions place s h k = step sessions (has_at sessions place s h)
  where
    step : (xs : List Session) → Has xs s → 1 ≤ count_by holds_back xs
    step [] a = absurd a
    step (x ∷ xs) (inl e) =
        let one : cond {A = ℕ} (holds_back x) 1 0 ≡ 1 = ap (λ b. cond {A = ℕ} b 1 0) (ap holds_back e ∙ k) in
        let all = count_cons holds_back x xs in
        omega arith
    step (x ∷ xs) (inr a) =
        let ih : 1 ≤ count_by holds_back xs = step xs a in
        let all = count_cons holds_back x xs in
        omega arith

-- a worklink that is done is past every place
finished_past : (place : ℕ) (stage : Stage) → is_finished stage ≡ true → is_past place stage ≡ true
finished_past place Unclaimed h = absurd (true≢false (sym h))
finished_past place (Claimed actor cursor collected) h = absurd (true≢false (sym h))
finished_past place Finished h = refl

-- of a population and a scan, with a later QuerySCN
population_later : (c : CoreState) (later : ℕ) (p : Population) → c.query ≤ later → (p.holds ≡ true → ⊥) → PopulationIs c.log c.query c.ticket p → PopulationIs c.log later c.ticket p
population_later c later p l h is = record {
  snapshot = let k : p.snapshot ≤ c.query = is.snapshot in omega arith;
  held = λ k. absurd (h k);
  ticket = is.ticket;
  defined = is.defined;
  in_memory = is.in_memory;
  registered = is.registered;
  extent = is.extent;
  blocks = is.blocks;
  read = is.read;
  installed = is.installed;
}

pub publish_keeps : KeepsPart AllUnits (λ c new. Publishes c new) → Keeps (λ c new. Publishes c new)
publish_keeps units facts c new r v = subst Invariant (sym r.effect) (record {
  log = v.log;
  numbers = record {
    restarted = let a : c.born ≤ c.query = v.numbers.restarted in let b : c.query < r.through = flushing.1 in omega arith;
    published = omega arith;
    cut = subst (λ n. n ≤ c.frontier) cut v.numbers.cut;
  };
  quiesce = (flushing.0, refl);
  shards = v.shards;
  manned = v.manned;
  workers = each_worker;
  ddl = subst (λ n. DdlIs n (mined_of_all c) c.ddl) cut v.ddl;
  flush = record {
    items = no_items c.log c.born r.through (shares (length c.workers) c.log);
    claims = no_claims (length c.workers);
    collected = none_collected c.log c.born (length c.workers);
  };
  units = subst AllUnits r.effect (units facts c new r v);
  populations = λ place p h. population_later c r.through p later (λ k. none_holds place p h k) (v.populations place p h);
  tickets = v.tickets;
  tied = v.tied;
  scans = λ place s h. let is = v.scans place s h in record {
    scn = let k : s.scn ≤ c.query = is.scn in let b : c.query < r.through = flushing.1 in omega arith;
    defined = is.defined;
    columns = is.columns;
    types = is.types;
    extents = is.extents;
    rows = is.rows;
    split = is.split;
  };
})
  where
    flushing : (holders c.sessions ≡ 0) × (c.query < r.through)
    flushing = subst (λ q. QuiesceIs q c.query (holders c.sessions) c.links) r.flushing v.quiesce

    later : c.query ≤ r.through
    later = let b : c.query < r.through = flushing.1 in omega arith

    cut : limit c ≡ r.through
    cut = ap (cut_through c.query) r.flushing

    none_holds : (place : ℕ) (p : Population) → At c.sessions place (Populating p) → p.holds ≡ true → ⊥
    none_holds place p h k =
        let some : 1 ≤ holders c.sessions = one_holds c.sessions place (Populating p) h k in
        let none : holders c.sessions ≡ 0 = flushing.0 in
        omega arith

    back : (place t : ℕ) → IsGone c.log c.born r.through [] place t → IsGone c.log c.born c.query c.links place t
    back place t (inr p) = let e : None ≡ Some p.link = p.found in absurd cc
    back place t (inl e) = by_scn (cases_lt c.query e.entry.scn)
      where
        by_scn : (c.query < e.entry.scn) ⊎ (e.entry.scn ≤ c.query) → IsGone c.log c.born c.query c.links place t
        by_scn (inr l) = inl (record { entry = e.entry; within = e.within; above = e.above; upto = l; end = e.end })
        by_scn (inl l) =
            let item = ends_have_items c v t (record { entry = e.entry; within = e.within; above = l; upto = subst (λ n. e.entry.scn ≤ n) (sym cut) e.upto; end = e.end }) in
            inr (record {
              number = item.number;
              link = item.link;
              found = item.found;
              past = finished_past place item.link.stage (each_at (λ (x : Link). is_finished x.stage ≡ true) c.links item.number item.link r.done item.found);
              of = item.has;
            })

    on : (place t : ℕ) → IsGone c.log c.born c.query c.links place t → IsGone c.log c.born r.through [] place t
    on place t (inl e) = inl (record {
      entry = e.entry;
      within = e.within;
      above = e.above;
      upto = let a : e.entry.scn ≤ c.query = e.upto in let b : c.query ≤ r.through = later in omega arith;
      end = e.end;
    })
    on place t (inr p) =
        let e = items_end c v p.number p.link t p.found p.of in
        inl (record {
          entry = e.entry;
          within = e.within;
          above = let a : c.query < e.entry.scn = e.above in let b : c.born ≤ c.query = v.numbers.restarted in omega arith;
          upto = subst (λ n. e.entry.scn ≤ n) cut e.upto;
          end = e.end;
        })

    each_worker : (n : ℕ) (w : Worker) → At c.workers n w → WorkerIs (record c { query = r.through; quiesce = Idle; links = [] }) n w
    each_worker n w h =
        let is = v.workers n w h in
        worker_is (record c { query = r.through; quiesce = Idle; links = [] }) (length c.workers) n w refl (record {
          counts = is.counts;
          progress = subst (λ low. ProgressIs low c.frontier w.progress) cut is.progress;
          applied = is.applied;
          area = area_gone c.log c.born c.query r.through c.links [] n (take w.mined (share_of c n)) w.area (back n) (on n) is.area;
          partition = subst (λ low. PartitionIs c.log c.born low (take w.mined (share_of c n)) w.ends) cut is.partition;
        })
