-- What an event that sets the stage of one worklink has to show so that the invariant is kept.
use Rattle.std.proofs.Common.{◌≡◌, ℕ, ◌+◌, ◌<◌, ◌≤◌, true, false, List, map, length, Some, None, ◌⊎◌, inl, inr, refl, sym, ap, ◌∙◌, subst, arith}
use Rattle.std.specs.Prelude.{◌==◌, slice_set}
use Rattle.std.proofs.lemmas.Bool.{cases_eq}
use Rattle.adg_base.specs.Area.{Held}
use Rattle.adg_base.specs.declared.log.LogEntry.{LogEntry}
use Rattle.core_rules.specs.Share.{shares}
use Rattle.core_rules.specs.State.{CoreState, Worker, Quiesce, Idle, Shared, Flushing, Collected, Stage, Claimed, Link, Units, Population, Populating, At, limit, holders, is_unclaimed, is_held_by, is_past, has_txn, PassesTxn}
use Rattle.core_rules.specs.Flush.{with_stage}
use Rattle.core_rules.specs.Parts.{QuiesceIs, AreaIs, IsGone, DdlIs, mined_from, ItemsAre, items_of, ClaimsAre, stages_of, CollectedAre, AllCollected}
use Rattle.core_rules.specs.UnitParts.{HasItsUnits}
use Rattle.core_rules.specs.Invariant.{Invariant, AllUnits}
use Rattle.core_rules.proofs.Lists.{at_set_cases, at_set_kept, at_set_same, at_same, at_within, at_map, map_set, map_set_same, not_both}
use Rattle.core_rules.proofs.UnitsPassed.{staged, txn_passes}
use Rattle.core_rules.proofs.Crew.{WorkerAt, worker_is}

-- An area keeps what holds of it where the same transactions are gone from it.
pub area_gone : (log : List LogEntry) (born query later : ℕ) (links more : List Link) (place : ℕ) (entries : List LogEntry) (area : List Held)
    → ((t : ℕ) → IsGone log born later more place t → IsGone log born query links place t)
    → ((t : ℕ) → IsGone log born query links place t → IsGone log born later more place t)
    → AreaIs log born query links place entries area → AreaIs log born later more place entries area
area_gone log born query later links more place entries area back on is = record {
  noted = is.noted;
  stays = λ t a h g. is.stays t a h (back t g);
  holds = λ t a n g. is.holds t a n (λ k. g (on t k));
  begun = is.begun;
  begin_stays = λ t h g. is.begin_stays t h (back t g);
  holds_begin = λ t b g. is.holds_begin t b (λ k. g (on t k));
}

-- a worklink at another stage passes a place as before, where the stage does
pub passes_on : (links : List Link) (number : ℕ) (link : Link) (stage : Stage) (place t : ℕ) → At links number link
    → (is_past place link.stage ≡ true → is_past place stage ≡ true) → PassesTxn links place t → PassesTxn (staged links number link stage) place t
passes_on links number link stage place t found on p = by_number (cases_eq p.number number)
  where
    by_number : (p.number ≡ number) ⊎ (p.number ≡ number → ⊥) → PassesTxn (staged links number link stage) place t
    by_number (inr d) = record { number = p.number; link = p.link; found = at_set_kept links number p.number p.link (record link { stage = stage }) d p.found; past = p.past; of = p.of }
    by_number (inl e) =
        let same : p.link ≡ link = at_same links number p.link link (subst (λ n. At links n p.link) e p.found) found in
        record {
          number = number;
          link = record link { stage = stage };
          found = at_set_same links number (record link { stage = stage }) (at_within links number link found);
          past = on (subst (λ (l : Link). is_past place l.stage ≡ true) same p.past);
          of = subst (λ (l : Link). has_txn t l.items ≡ true) same p.of;
        }

pub passes_back : (links : List Link) (number : ℕ) (link : Link) (stage : Stage) (place t : ℕ) → At links number link
    → (is_past place stage ≡ true → is_past place link.stage ≡ true) → PassesTxn (staged links number link stage) place t → PassesTxn links place t
passes_back links number link stage place t found back p = either (txn_passes links number link stage place t p)
  where
    either : PassesTxn links place t ⊎ ((is_past place stage ≡ true) × (has_txn t link.items ≡ true)) → PassesTxn links place t
    either (inl q) = q
    either (inr q) = record { number = number; link = link; found = found; past = back q.0; of = q.1 }

-- an area under a worklink at another stage that is past its place exactly where it was
pub area_staged : (log : List LogEntry) (born query : ℕ) (links : List Link) (number : ℕ) (link : Link) (stage : Stage) (place : ℕ) (entries : List LogEntry) (area : List Held)
    → At links number link → is_past place stage ≡ is_past place link.stage
    → AreaIs log born query links place entries area → AreaIs log born query (staged links number link stage) place entries area
area_staged log born query links number link stage place entries area found same is =
    area_gone log born query query links (staged links number link stage) place entries area back on is
  where
    back : (t : ℕ) → IsGone log born query (staged links number link stage) place t → IsGone log born query links place t
    back t (inl e) = inl e
    back t (inr p) = inr (passes_back links number link stage place t found (λ k. sym same ∙ k) p)

    on : (t : ℕ) → IsGone log born query links place t → IsGone log born query (staged links number link stage) place t
    on t (inl e) = inl e
    on t (inr p) = inr (passes_on links number link stage place t found (λ k. same ∙ k) p)

-- there are worklinks during a flush alone
pub flush_goes_on : (quiesce : Quiesce) (query held : ℕ) (links more : List Link) (number : ℕ) (link : Link) → At links number link
    → QuiesceIs quiesce query held links → QuiesceIs quiesce query held more
flush_goes_on Idle query held links more number link found q = let e : None ≡ Some link = subst (λ ls. At ls number link) q.1 found in absurd cc
flush_goes_on (Shared n) query held links more number link found q = let e : None ≡ Some link = subst (λ ls. At ls number link) q.2 found in absurd cc
flush_goes_on (Flushing through) query held links more number link found q = q

-- the claims with another stage
pub record StageFits (workers : ℕ) (stages : List Stage) (number : ℕ) (stage : Stage) : Type 0 where
  pub alone : (actor j : ℕ) (y : Stage) → is_held_by actor stage ≡ true → (j ≡ number → ⊥) → At stages j y → is_held_by actor y ≡ true → ⊥
  pub claimed : is_unclaimed stage ≡ false
  pub earlier : (i : ℕ) (x : Stage) → i < number → At stages i x → is_unclaimed x ≡ true → ⊥
  pub bounds : (actor cursor : ℕ) (collected : List Collected) → stage ≡ Claimed actor cursor collected → (actor ≤ workers) × (cursor ≤ workers + 32)

pub claims_staged : (workers : ℕ) (stages : List Stage) (number : ℕ) (stage : Stage) → StageFits workers stages number stage → ClaimsAre workers stages → ClaimsAre workers (slice_set stages number stage)
claims_staged workers stages number stage fits is = record { alone = alone; last = last; bounds = bounds }
  where
    alone : (i j : ℕ) (x y : Stage) (actor : ℕ) → At (slice_set stages number stage) i x → At (slice_set stages number stage) j y
        → is_held_by actor x ≡ true → is_held_by actor y ≡ true → i ≡ j
    alone i j x y actor a b h k = either (at_set_cases stages number i x stage a) (at_set_cases stages number j y stage b)
      where
        either : ((i ≡ number) × (x ≡ stage)) ⊎ ((i ≡ number → ⊥) × At stages i x) → ((j ≡ number) × (y ≡ stage)) ⊎ ((j ≡ number → ⊥) × At stages j y) → i ≡ j
        either (inl p) (inl q) = p.0 ∙ sym q.0
        either (inl p) (inr q) = absurd (fits.alone actor j y (subst (λ s. is_held_by actor s ≡ true) p.1 h) q.0 q.1 k)
        either (inr p) (inl q) = absurd (fits.alone actor i x (subst (λ s. is_held_by actor s ≡ true) q.1 k) p.0 p.1 h)
        either (inr p) (inr q) = is.alone i j x y actor p.1 q.1 h k

    last : (i j : ℕ) (x y : Stage) → i < j → At (slice_set stages number stage) i x → At (slice_set stages number stage) j y → is_unclaimed x ≡ true → is_unclaimed y ≡ true
    last i j x y l a b h = either (at_set_cases stages number i x stage a) (at_set_cases stages number j y stage b)
      where
        either : ((i ≡ number) × (x ≡ stage)) ⊎ ((i ≡ number → ⊥) × At stages i x) → ((j ≡ number) × (y ≡ stage)) ⊎ ((j ≡ number → ⊥) × At stages j y) → is_unclaimed y ≡ true
        either (inl p) q = absurd (not_both (is_unclaimed stage) (subst (λ s. is_unclaimed s ≡ true) p.1 h) fits.claimed)
        either (inr p) (inl q) = absurd (fits.earlier i x (subst (λ n. i < n) q.0 l) p.1 h)
        either (inr p) (inr q) = is.last i j x y l p.1 q.1 h

    bounds : (i actor cursor : ℕ) (collected : List Collected) → At (slice_set stages number stage) i (Claimed actor cursor collected) → (actor ≤ workers) × (cursor ≤ workers + 32)
    bounds i actor cursor collected a = either (at_set_cases stages number i (Claimed actor cursor collected) stage a)
      where
        either : ((i ≡ number) × (Claimed actor cursor collected ≡ stage)) ⊎ ((i ≡ number → ⊥) × At stages i (Claimed actor cursor collected)) → (actor ≤ workers) × (cursor ≤ workers + 32)
        either (inl p) = fits.bounds actor cursor collected (sym p.1)
        either (inr p) = is.bounds i actor cursor collected p.1

-- no worklink before one that is claimed is unclaimed
pub none_earlier : (c : CoreState) → Invariant c → (number : ℕ) (link : Link) → At c.links number link → is_unclaimed link.stage ≡ false
    → (i : ℕ) (x : Stage) → i < number → At (stages_of c.links) i x → is_unclaimed x ≡ true → ⊥
none_earlier c v number link found h i x l a u =
    not_both (is_unclaimed link.stage) (v.flush.claims.last i number x link.stage l a (at_map (λ (y : Link). y.stage) c.links number link found) u) h

-- a held worklink at a later cursor, or done
pub held_fits : (c : CoreState) → Invariant c → (number : ℕ) (link : Link) (actor cursor later : ℕ) (collected more : List Collected) → At c.links number link → link.stage ≡ Claimed actor cursor collected
    → later ≤ length c.workers + 32 → StageFits (length c.workers) (stages_of c.links) number (Claimed actor later more)
held_fits c v number link actor cursor later collected more found h l = record {
  alone = alone;
  claimed = refl;
  earlier = none_earlier c v number link found (ap is_unclaimed h);
  bounds = bounds;
}
  where
    at : At (stages_of c.links) number link.stage
    at = at_map (λ (x : Link). x.stage) c.links number link found

    held : (a : ℕ) → (actor == a) ≡ true → is_held_by a link.stage ≡ true
    held a e = ap (is_held_by a) h ∙ e

    alone : (a j : ℕ) (y : Stage) → is_held_by a (Claimed actor later more) ≡ true → (j ≡ number → ⊥) → At (stages_of c.links) j y → is_held_by a y ≡ true → ⊥
    alone a j y e d b k = d (v.flush.claims.alone j number y link.stage a b at k (held a e))

    bounds : (a k : ℕ) (xs : List Collected) → Claimed actor later more ≡ Claimed a k xs → (a ≤ length c.workers) × (k ≤ length c.workers + 32)
    bounds a k xs e =
        let old = v.flush.claims.bounds number actor cursor collected (subst (λ s. At (stages_of c.links) number s) h at) in
        let actors : actor ≤ length c.workers = old.0 in
        let same_actor : actor ≡ a = cc in
        let same_cursor : later ≡ k = cc in
        (omega arith, omega arith)

-- The state with another stage of a worklink, other workers and other units.
abbrev pub with_staged : CoreState → ℕ → Link → Stage → List Worker → Units → CoreState
with_staged c number link stage workers units = record (with_stage c number link stage) { workers = workers; units = units }

pub record StagedIs (c : CoreState) (number : ℕ) (link : Link) (stage : Stage) (workers : List Worker) (units : Units) : Type 0 where
  pub found : At c.links number link
  pub fits : StageFits (length c.workers) (stages_of c.links) number stage
  pub collected : (actor cursor : ℕ) (collected : List Collected) → stage ≡ Claimed actor cursor collected → CollectedAre c.log c.born (length c.workers) link.items cursor collected
  pub as_many : length workers ≡ length c.workers
  pub mined : map (λ (w : Worker). w.mined) workers ≡ map (λ (w : Worker). w.mined) c.workers
  pub each : (n : ℕ) (w : Worker) → At workers n w → WorkerAt (length c.workers) (limit c) c.frontier c.log c.born c.query (staged c.links number link stage) c.shards n w
  pub tied : (place : ℕ) (p : Population) → At c.sessions place (Populating p) → HasItsUnits units p

pub staged_keeps : (c : CoreState) (number : ℕ) (link : Link) (stage : Stage) (workers : List Worker) (units : Units) → Invariant c
    → StagedIs c number link stage workers units → AllUnits (with_staged c number link stage workers units) → Invariant (with_staged c number link stage workers units)
staged_keeps c number link stage workers units v is units_are = record {
  log = v.log;
  numbers = v.numbers;
  quiesce = flush_goes_on c.quiesce c.query (holders c.sessions) c.links (staged c.links number link stage) number link is.found v.quiesce;
  shards = v.shards;
  manned = subst (λ n. 0 < n) (sym is.as_many) v.manned;
  workers = λ n w h. worker_is (with_staged c number link stage workers units) (length c.workers) n w is.as_many (is.each n w h);
  ddl = subst (λ n. DdlIs (limit c) (mined_from n 0 c.log (map (λ (w : Worker). w.mined) workers)) c.ddl) (sym is.as_many)
      (subst (λ ns. DdlIs (limit c) (mined_from (length c.workers) 0 c.log ns) c.ddl) (sym is.mined) v.ddl);
  flush = record {
    items = subst (λ n. ItemsAre c.log c.born c.query (limit c) (shares n c.log) (items_of (staged c.links number link stage))) (sym is.as_many)
        (subst (λ parts. ItemsAre c.log c.born c.query (limit c) (shares (length c.workers) c.log) parts) (sym same_items) v.flush.items);
    claims = subst (λ n. ClaimsAre n (stages_of (staged c.links number link stage))) (sym is.as_many)
        (subst (λ stages. ClaimsAre (length c.workers) stages) (sym set_stage) (claims_staged (length c.workers) (stages_of c.links) number stage is.fits v.flush.claims));
    collected = subst (λ n. AllCollected c.log c.born n (staged c.links number link stage)) (sym is.as_many) collected;
  };
  units = units_are;
  populations = v.populations;
  tickets = v.tickets;
  tied = is.tied;
  scans = v.scans;
}
  where
    same_items : items_of (staged c.links number link stage) ≡ items_of c.links
    same_items = map_set_same (λ (l : Link). l.items) c.links number link (record link { stage = stage }) is.found refl

    set_stage : stages_of (staged c.links number link stage) ≡ slice_set (stages_of c.links) number stage
    set_stage = map_set (λ (l : Link). l.stage) c.links number (record link { stage = stage })

    collected : AllCollected c.log c.born (length c.workers) (staged c.links number link stage)
    collected n l actor cursor lists at h = either (at_set_cases c.links number n l (record link { stage = stage }) at)
      where
        either : ((n ≡ number) × (l ≡ record link { stage = stage })) ⊎ ((n ≡ number → ⊥) × At c.links n l) → CollectedAre c.log c.born (length c.workers) l.items cursor lists
        either (inl p) =
            subst (λ items. CollectedAre c.log c.born (length c.workers) items cursor lists) (sym (ap (λ (x : Link). x.items) p.1))
            (is.collected actor cursor lists (sym (ap (λ (x : Link). x.stage) p.1) ∙ h))
        either (inr p) = v.flush.collected n l actor cursor lists p.1 h
