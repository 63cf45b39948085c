-- To receive redo keeps the invariant: no part reads the log above the old frontier.
use Rattle.std.proofs.Common.{◌≡◌, ℕ, ◌+◌, ◌*◌, ◌<◌, ◌≤◌, true, List, ◌++◌, length, Option, inl, inr, refl, sym, ap, ◌∙◌, subst, arith, IsPermutation}
use Rattle.std.specs.List.{flat_map}
use Rattle.std.proofs.lemmas.Bool.{eq-eqb}
use Rattle.std.proofs.lemmas.List.{length-append}
use Rattle.adg_base.specs.Address.{Place}
use Rattle.adg_base.specs.declared.log.LogEntry.{LogEntry}
use Rattle.adg_model.specs.Database.{Rows, Table, rows_at, table_at, touched_by}
use Rattle.adg_model.specs.Sound.{IsContinuation}
use Rattle.core_rules.specs.Share.{ends, EndedWithin, CommitsAt, NotRedefined}
use Rattle.core_rules.specs.State.{CoreState, ColumnUnit, Population, Scan, limit}
use Rattle.core_rules.specs.Applying.{Receives}
use Rattle.core_rules.specs.Extents.{extent_rows, rows_of_blocks, without_places}
use Rattle.core_rules.specs.LogFacts.{LogHasFacts}
use Rattle.core_rules.specs.Parts.{DdlIs, items_of}
use Rattle.core_rules.specs.UnitParts.{ColumnsAre, Counts, IsCovered, UnitIs, TouchedWithin, CoarseWithin, PopulationIs, ScanIs}
use Rattle.core_rules.specs.Invariant.{Invariant, Precise, unit_place}
use Rattle.core_rules.proofs.Keeps.{Keeps, KeepsPrecise}
use Rattle.core_rules.proofs.Lists.{contains_filter_map, contains_filter_map_back}
use Rattle.core_rules.proofs.Items.{items_end}
use Rattle.core_rules.proofs.Continued.{tables_stay, rows_stay, touches_stay, commit_was}
use Rattle.core_rules.proofs.ReceivedParts.{with_log, whole_is, whole_facts, query_received, within_old, within_new, worker_then, same_mined_of_all, same_items, collected_then}

module _ (facts : LogHasFacts) (c : CoreState) (entries : List LogEntry) (frontier : ℕ) (more : IsContinuation c.log c.frontier entries frontier) (v : Invariant c) where
  abbrev whole : List LogEntry
  whole = c.log ++ entries

  -- of a unit
  unit_then : (place obj extent : ℕ) (u : ColumnUnit) → UnitIs c.log c.query c.ticket c.links place obj extent u → UnitIs whole c.query c.ticket c.links place obj extent u
  unit_then place obj extent u h = record {
    snapshot = h.snapshot;
    ticket = h.ticket;
    built = record {
      table = h.built.table;
      defined = ap (λ (tables : ℕ → Option Table). tables obj) tables ∙ h.built.defined;
      in_memory = h.built.in_memory;
      within = h.built.within;
      columns = subst (λ (rows : Rows). ColumnsAre u.columns (extent_rows rows obj (length h.built.table.kinds) extent)) (sym rows) h.built.columns;
    };
    covered = λ t scn k above counts same. covered_then t scn (counted t scn k counts) above counts same;
    stands = record {
      same = λ e k d low high. let upto : e.scn ≤ c.query = high in let q : c.query ≤ c.frontier = query_received facts c entries frontier more v in h.stands.same e (within_old facts c entries frontier more v e k (omega arith)) d low high;
      kept = h.stands.kept;
    };
  }
    where
      reached : u.snapshot ≤ c.frontier
      reached = let s : u.snapshot ≤ c.query = h.snapshot in let q : c.query ≤ c.frontier = query_received facts c entries frontier more v in omega arith

      tables : table_at whole u.snapshot ≡ table_at c.log u.snapshot
      tables = tables_stay c.log entries c.frontier frontier v.log more u.snapshot reached

      rows : rows_at whole u.snapshot ≡ rows_at c.log u.snapshot
      rows = rows_stay c.log entries c.frontier frontier v.log more u.snapshot reached

      commit_ends : (log : List LogEntry) (t scn : ℕ) (k : CommitsAt log t scn) → ends t k.entry.vector ≡ true
      commit_ends log t scn k = subst (λ x. ends t x ≡ true) (sym k.commits) (eq-eqb t t refl)

      counted : (t scn : ℕ) → CommitsAt whole t scn → Counts c.query c.links place t scn → CommitsAt c.log t scn
      counted t scn k (inl upto) =
          let at : k.entry.scn ≡ scn = k.at in
          let q : c.query ≤ c.frontier = query_received facts c entries frontier more v in
          record { entry = k.entry; flag = k.flag; within = within_old facts c entries frontier more v k.entry k.within (omega arith); commits = k.commits; at = k.at }
      counted t scn k (inr p) =
          let ended : EndedWithin c.log c.query (limit c) t = items_end c v p.number p.link t p.found p.of in
          commit_was c.log entries c.frontier frontier v.log more (whole_facts facts c entries frontier more v) t scn ended.entry ended.within ended.end k

      covered_then : (t scn : ℕ) → CommitsAt c.log t scn → u.snapshot < scn → Counts c.query c.links place t scn → NotRedefined whole obj u.snapshot scn → IsCovered whole t obj extent u
      covered_then t scn k above counts same = either (h.covered t scn k above counts (λ e w. same e (within_new facts c entries frontier more v e w)))
        where
          either : IsCovered c.log t obj extent u → IsCovered whole t obj extent u
          either (inl all) = inl all
          either (inr marks) = inr (λ a w. marks a (touches_stay c.log entries c.frontier frontier v.log more (whole_facts facts c entries frontier more v) t a k.entry k.within (commit_ends c.log t scn k) w))

  -- of a population, and of a scan
  population_then : (p : Population) → PopulationIs c.log c.query c.ticket p → PopulationIs whole c.query c.ticket p
  population_then p h = record {
    snapshot = h.snapshot;
    held = h.held;
    ticket = h.ticket;
    defined = ap (λ (tables : ℕ → Option Table). tables p.obj) (tables_stay c.log entries c.frontier frontier v.log more p.snapshot reached) ∙ h.defined;
    in_memory = h.in_memory;
    registered = h.registered;
    extent = h.extent;
    blocks = h.blocks;
    read = h.read ∙ ap (λ (rows : Rows). rows_of_blocks rows p.obj (length p.table.kinds) (16 * p.extent) p.blocks) (sym (rows_stay c.log entries c.frontier frontier v.log more p.snapshot reached));
    installed = h.installed;
  }
    where
      reached : p.snapshot ≤ c.frontier
      reached = let s : p.snapshot ≤ c.query = h.snapshot in let q : c.query ≤ c.frontier = query_received facts c entries frontier more v in omega arith

  scan_then : (s : Scan) → ScanIs c.log c.query s → ScanIs whole c.query s
  scan_then s h = record {
    scn = h.scn;
    defined = ap (λ (tables : ℕ → Option Table). tables s.select.obj) (tables_stay c.log entries c.frontier frontier v.log more s.scn reached) ∙ h.defined;
    columns = h.columns;
    types = h.types;
    extents = h.extents;
    rows = h.rows ∙ ap (λ (rows : Rows). without_places (rows_of_blocks rows s.select.obj (length s.table.kinds) 0 (16 * s.extents))) (sym (rows_stay c.log entries c.frontier frontier v.log more s.scn reached));
    split = h.split;
  }
    where
      reached : s.scn ≤ c.frontier
      reached = let b : s.scn ≤ c.query = h.scn in let q : c.query ≤ c.frontier = query_received facts c entries frontier more v in omega arith

  received_meets : Invariant (with_log c entries frontier)
  received_meets = record {
    log = whole_is facts c entries frontier more v;
    numbers = record {
      restarted = v.numbers.restarted;
      published = v.numbers.published;
      cut =
          let cut : limit c ≤ c.frontier = v.numbers.cut in
          let forward : c.frontier ≤ frontier = more.forward in
          omega arith;
    };
    quiesce = v.quiesce;
    shards = record {
      count = v.shards.count;
      within = λ n s h.
          let upto : s.applied ≤ length c.log = v.shards.within n s h in
          let longer : length whole ≡ length c.log + length entries = length-append c.log entries in
          omega arith;
      floor = v.shards.floor;
    };
    manned = v.manned;
    workers = λ worker w h. worker_then facts c entries frontier more v worker w h;
    ddl = subst (λ (es : List LogEntry). DdlIs (limit c) es c.ddl) (sym (same_mined_of_all facts c entries frontier more v)) v.ddl;
    flush = record {
      items = record {
        once = subst (λ items. IsPermutation items (flat_map (λ part. part) (items_of c.links))) (sym (same_items facts c entries frontier more v)) v.flush.items.once;
        together = v.flush.items.together;
      };
      claims = v.flush.claims;
      collected = collected_then facts c entries frontier more v;
    };
    units = λ obj extent u h. unit_then (unit_place c obj extent) obj extent u (v.units obj extent u h);
    populations = λ place p h. population_then p (v.populations place p h);
    tickets = v.tickets;
    tied = v.tied;
    scans = λ place s h. scan_then s (v.scans place s h);
  }

  received_precise : Precise c → Precise (with_log c entries frontier)
  received_precise old obj extent u h = record {
    marked = λ a m. touched_then a ((old obj extent u h).marked a m);
    all = λ m. coarse_then ((old obj extent u h).all m);
  }
    where
      touched_then : (a : Place) → TouchedWithin c.log u.snapshot (limit c) a → TouchedWithin whole u.snapshot (limit c) a
      touched_then a r =
          let t = contains_filter_map_back (λ (x : LogEntry). touched_by r.txn x.vector) c.log a r.touches in
          record {
            txn = r.txn;
            scn = r.scn;
            commits = record { entry = r.commits.entry; flag = r.commits.flag; within = within_new facts c entries frontier more v r.commits.entry r.commits.within; commits = r.commits.commits; at = r.commits.at };
            above = r.above;
            upto = r.upto;
            touches = contains_filter_map (λ (x : LogEntry). touched_by r.txn x.vector) whole t.0 a (within_new facts c entries frontier more v t.0 t.1) t.2;
          }

      coarse_then : CoarseWithin c.log c.born u.snapshot (limit c) → CoarseWithin whole c.born u.snapshot (limit c)
      coarse_then r = record {
        txn = r.txn;
        entry = r.entry;
        within = within_new facts c entries frontier more v r.entry r.within;
        commits = r.commits;
        above = r.above;
        upto = r.upto;
        begin = r.begin;
        begin_within = within_new facts c entries frontier more v r.begin r.begin_within;
        is_begin = r.is_begin;
        earlier = r.earlier;
      }

pub receive_keeps : (entries : List LogEntry) (frontier : ℕ) → Keeps (λ c new. Receives c entries frontier new)
receive_keeps entries frontier facts c new r v = subst Invariant (sym r.effect) (received_meets facts c entries frontier r.continues v)

pub receive_precise : (entries : List LogEntry) (frontier : ℕ) → KeepsPrecise (λ c new. Receives c entries frontier new)
receive_precise entries frontier facts c new r v p = subst Precise (sym r.effect) (received_precise facts c entries frontier r.continues v p)
