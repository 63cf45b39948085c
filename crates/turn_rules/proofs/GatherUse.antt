-- What a scan gathers of an extent from units and from blocks.
use Rattle.std.proofs.Common.{◌≡◌, ℕ, ◌+◌, ◌*◌, ◌<◌, ◌≤◌, Bool, true, false, cond, not, ◌&&◌, List, [], ◌∷◌, ◌++◌, filter, length, Option, Some, None, ◌⊎◌, inl, inr, refl, sym, ap, ◌∙◌, subst, arith, true≢false}
use Rattle.std.specs.Prelude.{nat_lt, nat_le, is_some}
use Rattle.std.specs.List.{Contains, filter_map, flat_map, range_with_len, cons_option}
use Rattle.std.proofs.lemmas.Bool.{eqb-true, eq-eqb, ltb-true, lt-ltb, leb-true, le-leb, and_from, and_parts}
use Rattle.std.proofs.lemmas.List.{length-append}
use Rattle.std.proofs.lemmas.List.Elements.{filter-append}
use Rattle.std.proofs.lemmas.Grind.{flat_map-append}
use Rattle.adg_base.specs.Address.{Place, place, same_place, block_places, extent_places}
use Rattle.adg_base.specs.declared.value.Value.{Value}
use Rattle.adg_base.specs.declared.vector.Vector.{Vector}
use Rattle.adg_base.specs.declared.vector.Vector.TheVariants.{Begin, Put, Delete, Undo, Commit, Abort, Create, DropObject, AddColumn, NoInMemory, EndThread}
use Rattle.adg_base.specs.declared.log.LogEntry.{LogEntry}
use Rattle.adg_base.specs.declared.placed.PlacedRow.{PlacedRow}
use Rattle.adg_model.specs.Database.{Rows, Table, rows_at, table_at, touched}
use Rattle.adg_model.specs.Query.{object_places}
use Rattle.core_rules.specs.Share.{NotRedefined}
use Rattle.core_rules.specs.Extents.{IsInExtent}
use Rattle.core_rules.specs.State.{CoreState, ColumnUnit, Scan, limit}
use Rattle.core_rules.specs.Scans.{look_if, look_at, count_from_columns, count_from_blocks, next_look, next_places}
use Rattle.core_rules.specs.LogFacts.{LogFacts}
use Rattle.core_rules.specs.Parts.{is_within}
use Rattle.core_rules.specs.UnitParts.{IsCovered, CoarseWithin, TouchedWithin, ScanIs}
use Rattle.core_rules.specs.Invariant.{Invariant, Precise}
use Rattle.core_rules.specs.ColumnUse.{commit_touches, is_touched, row_places, touched_rows, HasReadyUnits, HasNoUnits}
use Rattle.core_rules.proofs.Whole.{log_has_facts}
use Rattle.core_rules.proofs.Lists.{Has, has_flat_map_back, has_map_back, has_range_back, any_contains, any_contains_back, is_true}
use Rattle.core_rules.proofs.Populated.{range_append}
use Rattle.turn_rules.proofs.Use.{GathersTouched, ScansGather}

-- nothing comes from a unit that is not looked at
none_from_columns : (places : List Place) → count_from_columns None places ≡ 0
none_from_columns [] = refl
none_from_columns (p ∷ ps) = none_from_columns ps

none_seen : (c : CoreState) (s : Scan) → next_look c s ≡ None → count_from_columns (next_look c s) (next_places s) ≡ 0
none_seen c s h = ap (λ l. count_from_columns l (next_places s)) h ∙ none_from_columns (next_places s)

-- The addresses of one extent more, and those of an extent lie in it.
one_extent : (obj extents : ℕ) → object_places obj (extents + 1) ≡ object_places obj extents ++ extent_places obj extents
one_extent obj extents =
    let more : 16 * (extents + 1) ≡ 16 * extents + 16 = omega arith in
    let first : 0 + 16 * extents ≡ 16 * extents = omega arith in
    ap (λ n. flat_map (block_places obj) (range_with_len 0 n)) more
    ∙ ap (flat_map (block_places obj)) (range_append (16 * extents) 16 0)
    ∙ flat_map-append (block_places obj) (range_with_len 0 (16 * extents)) (range_with_len (0 + 16 * extents) 16)
    ∙ ap (λ n. object_places obj extents ++ flat_map (block_places obj) (range_with_len n 16)) first

extent_holds : (obj extent : ℕ) (a : Place) → Has (extent_places obj extent) a → IsInExtent obj extent a
extent_holds obj extent a h =
    let b = has_flat_map_back (block_places obj) (range_with_len (16 * extent) 16) a h in
    let within = has_range_back 16 (16 * extent) b.0 b.1 in
    let slot = has_map_back (λ slot. place obj b.0 slot) (range_with_len 0 64) a b.2 in
    record {
      object = sym (ap (λ (p : Place). p.obj) slot.2);
      from = subst (λ (p : Place). 16 * extent ≤ p.block) slot.2 within.0;
      below = subst (λ (p : Place). p.block < 16 * extent + 16) slot.2 within.1;
    }

places_same : (a b : Place) → same_place a b ≡ true → a ≡ b
places_same a b same =
    let both = and_parts _ _ same in
    let first = and_parts _ _ both.0 in
    let o : a.obj ≡ b.obj = eqb-true a.obj b.obj first.0 in
    let n : a.block ≡ b.block = eqb-true a.block b.block first.1 in
    let s : a.slot ≡ b.slot = eqb-true a.slot b.slot both.1 in
    ap (λ (x : ℕ). place x a.block a.slot) o ∙ ap (λ (x : ℕ). place b.obj x a.slot) n ∙ ap (λ (x : ℕ). place b.obj b.block x) s

place_is_itself : (a : Place) → same_place a a ≡ true
place_is_itself a = and_from _ _ (and_from _ _ (eq-eqb a.obj a.obj refl) (eq-eqb a.block a.block refl)) (eq-eqb a.slot a.slot refl)

-- touched rows of one extent more
extent_touched : (t : Place → Bool) (rows : Rows) (obj extents : ℕ)
    → length (filter t (row_places rows obj (extents + 1))) ≡ length (filter t (row_places rows obj extents)) + length (filter t (filter (λ a. is_some (rows a)) (extent_places obj extents)))
extent_touched t rows obj extents =
    ap (λ ps. length (filter t (filter (λ a. is_some (rows a)) ps))) (one_extent obj extents)
    ∙ ap (λ ps. length (filter t ps)) (filter-append (λ a. is_some (rows a)) (object_places obj extents) (extent_places obj extents))
    ∙ ap length (filter-append t (filter (λ a. is_some (rows a)) (object_places obj extents)) (filter (λ a. is_some (rows a)) (extent_places obj extents)))
    ∙ length-append (filter t (filter (λ a. is_some (rows a)) (object_places obj extents))) (filter t (filter (λ a. is_some (rows a)) (extent_places obj extents)))

-- Counting: what is touched is marked, and what is marked is touched.
least_count : (rows : Rows) (marked t : Place → Bool) (places : List Place) → ((a : Place) → Has places a → t a ≡ true → marked a ≡ true)
    → length (filter t (filter (λ a. is_some (rows a)) places)) ≤ length (filter_map (λ a. cond (marked a) (rows a) None) places)
least_count rows marked t [] h = omega arith
least_count rows marked t (p ∷ ps) h = by_row (rows p) refl (least_count rows marked t ps (λ a k. h a (inr k)))
  where
    by_row : (o : Option (List Value)) → rows p ≡ o → length (filter t (filter (λ a. is_some (rows a)) ps)) ≤ length (filter_map (λ a. cond (marked a) (rows a) None) ps)
        → length (filter t (cond (is_some o) (p ∷ filter (λ a. is_some (rows a)) ps) (filter (λ a. is_some (rows a)) ps))) ≤ length (cons_option (cond (marked p) o None) (filter_map (λ a. cond (marked a) (rows a) None) ps))
    by_row None e ih = by_mark (marked p)
      where
        by_mark : (b : Bool) → length (filter t (filter (λ a. is_some (rows a)) ps)) ≤ length (cons_option (cond {A = Option (List Value)} b None None) (filter_map (λ a. cond (marked a) (rows a) None) ps))
        by_mark true = ih
        by_mark false = ih
    by_row (Some row) e ih = by_tests (t p) refl (marked p) refl
      where
        by_tests : (x : Bool) → t p ≡ x → (y : Bool) → marked p ≡ y
            → length (cond x (p ∷ filter t (filter (λ a. is_some (rows a)) ps)) (filter t (filter (λ a. is_some (rows a)) ps))) ≤ length (cons_option (cond y (Some row) None) (filter_map (λ a. cond (marked a) (rows a) None) ps))
        by_tests true u true w = omega arith
        by_tests true u false w = absurd (true≢false (sym (h p (inl refl) u) ∙ w))
        by_tests false u true w = omega arith
        by_tests false u false w = ih

most_count : (rows : Rows) (marked t : Place → Bool) (places : List Place) → ((a : Place) → Has places a → marked a ≡ true → t a ≡ true)
    → length (filter_map (λ a. cond (marked a) (rows a) None) places) ≤ length (filter t (filter (λ a. is_some (rows a)) places))
most_count rows marked t [] h = omega arith
most_count rows marked t (p ∷ ps) h = by_row (rows p) refl (most_count rows marked t ps (λ a k. h a (inr k)))
  where
    by_row : (o : Option (List Value)) → rows p ≡ o → length (filter_map (λ a. cond (marked a) (rows a) None) ps) ≤ length (filter t (filter (λ a. is_some (rows a)) ps))
        → length (cons_option (cond (marked p) o None) (filter_map (λ a. cond (marked a) (rows a) None) ps)) ≤ length (filter t (cond (is_some o) (p ∷ filter (λ a. is_some (rows a)) ps) (filter (λ a. is_some (rows a)) ps)))
    by_row None e ih = by_mark (marked p)
      where
        by_mark : (b : Bool) → length (cons_option (cond {A = Option (List Value)} b None None) (filter_map (λ a. cond (marked a) (rows a) None) ps)) ≤ length (filter t (filter (λ a. is_some (rows a)) ps))
        by_mark true = ih
        by_mark false = ih
    by_row (Some row) e ih = by_tests (t p) refl (marked p) refl
      where
        by_tests : (x : Bool) → t p ≡ x → (y : Bool) → marked p ≡ y
            → length (cons_option (cond y (Some row) None) (filter_map (λ a. cond (marked a) (rows a) None) ps)) ≤ length (cond x (p ∷ filter t (filter (λ a. is_some (rows a)) ps)) (filter t (filter (λ a. is_some (rows a)) ps)))
        by_tests true u true w = omega arith
        by_tests true u false w = omega arith
        by_tests false u true w = absurd (true≢false (sym (h p (inl refl) w) ∙ u))
        by_tests false u false w = ih

-- What touches an address: a commit of a transaction that touched it.
commit_of : (log : List LogEntry) (a : Place) (v : Vector) → commit_touches log a v ≡ true → (t : ℕ) × (flag : Bool) × (v ≡ Commit t flag) × Contains (touched t log) a
commit_of log a (Commit t flag) h =
    let p = any_contains_back (same_place a) (touched t log) h in
    (t, flag, refl, subst (Contains (touched t log)) (sym (places_same a p.0 p.2)) p.1)
commit_of log a (Begin t) h = absurd (true≢false (sym h))
commit_of log a (Put t o b s row) h = absurd (true≢false (sym h))
commit_of log a (Delete t o b s) h = absurd (true≢false (sym h))
commit_of log a (Undo t o b s) h = absurd (true≢false (sym h))
commit_of log a (Abort t) h = absurd (true≢false (sym h))
commit_of log a (Create o e f columns) h = absurd (true≢false (sym h))
commit_of log a (DropObject o) h = absurd (true≢false (sym h))
commit_of log a (AddColumn o k) h = absurd (true≢false (sym h))
commit_of log a (NoInMemory o) h = absurd (true≢false (sym h))
commit_of log a EndThread h = absurd (true≢false (sym h))

touched_commit : (log : List LogEntry) (low high : ℕ) (a : Place) → is_touched log low high a ≡ true → TouchedWithin log low high a
touched_commit log low high a h =
    let e = any_contains_back (λ (x : LogEntry). is_within low high x.scn && commit_touches log a x.vector) log h in
    let p = and_parts (is_within low high e.0.scn) (commit_touches log a e.0.vector) e.2 in
    let w = and_parts (nat_lt low e.0.scn) (nat_le e.0.scn high) p.0 in
    let t = commit_of log a e.0.vector p.1 in
    record {
      txn = t.0;
      scn = e.0.scn;
      commits = record { entry = e.0; flag = t.1; within = e.1; commits = t.2; at = refl };
      above = ltb-true low e.0.scn w.0;
      upto = leb-true e.0.scn high w.1;
      touches = t.3;
    }

commit_touched : (log : List LogEntry) (low high high' : ℕ) (a : Place) → high ≤ high' → TouchedWithin log low high a → is_touched log low high' a ≡ true
commit_touched log low high high' a l w =
    let at : w.commits.entry.scn ≡ w.scn = w.commits.at in
    let above : low < w.scn = w.above in
    let upto : w.scn ≤ high = w.upto in
    any_contains (λ (x : LogEntry). is_within low high' x.scn && commit_touches log a x.vector) log w.commits.entry w.commits.within
    (and_from (is_within low high' w.commits.entry.scn) (commit_touches log a w.commits.entry.vector)
    (and_from (nat_lt low w.commits.entry.scn) (nat_le w.commits.entry.scn high') (lt-ltb low w.commits.entry.scn (omega arith)) (le-leb w.commits.entry.scn high' (omega arith)))
    (subst (λ v. commit_touches log a v ≡ true) (sym w.commits.commits) (any_contains (same_place a) (touched w.txn log) a w.touches (place_is_itself a))))

-- Of a scan and its next extent.
module _ (c : CoreState) (s : Scan) (v : Invariant c) (p : Precise c) (is : ScanIs c.log c.query s) (left : s.extents < s.table.extents) where
  facts : LogFacts c.log c.frontier
  facts = log_has_facts c.log c.frontier v.log

  seen_none : (o : Option ColumnUnit) → c.units s.select.obj s.extents ≡ o → look_at s.scn o ≡ None → count_from_columns (next_look c s) (next_places s) ≡ 0
  seen_none o e h = none_seen c s (ap (look_at s.scn) e ∙ h)

  pub no_units : HasNoUnits c.units s.select.obj → count_from_columns (next_look c s) (next_places s) ≡ 0
  no_units h = seen_none None (h s.extents) refl

  -- of an object that is not in-memory no unit is looked at
  pub not_in_memory : s.table.flag ≡ false → count_from_columns (next_look c s) (next_places s) ≡ 0
  not_in_memory flag = by_unit (c.units s.select.obj s.extents) refl
    where
      by_unit : (o : Option ColumnUnit) → c.units s.select.obj s.extents ≡ o → count_from_columns (next_look c s) (next_places s) ≡ 0
      by_unit None e = seen_none None e refl
      by_unit (Some u) e = by_usable (not u.all && nat_le u.snapshot s.scn) refl
        where
          by_usable : (b : Bool) → (not u.all && nat_le u.snapshot s.scn) ≡ b → count_from_columns (next_look c s) (next_places s) ≡ 0
          by_usable false k = seen_none (Some u) e (ap (λ b. look_if b u.columns u.marked) k ∙ unused u.columns)
            where
              unused : (o : Option (List PlacedRow)) → look_if false o u.marked ≡ None
              unused None = refl
              unused (Some rows) = refl
          by_usable true k =
              let q = and_parts (not u.all) (nat_le u.snapshot s.scn) k in
              let low : u.snapshot ≤ s.scn = leb-true u.snapshot s.scn q.1 in
              let at : s.scn ≤ c.query = is.scn in
              let unit = v.units s.select.obj s.extents u e in
              let now : table_at c.log s.scn s.select.obj ≡ Some unit.built.table =
              facts.same_table s.select.obj u.snapshot s.scn unit.built.table low unit.built.defined (λ x i r a b. unit.stands.same x i r a (omega arith)) in
              let both : Some unit.built.table ≡ Some s.table = sym now ∙ is.defined in
              let same : unit.built.table ≡ s.table = cc in
              absurd (true≢false (sym unit.built.in_memory ∙ ap (λ (x : Table). x.flag) same ∙ flag))

  -- where the unit is ready since an SCN and nothing came between
  pub gathers_touched : (since : ℕ) → since ≤ s.scn → HasReadyUnits c.log c.units s.select.obj since → NotRedefined c.log s.select.obj since c.frontier → (CoarseWithin c.log c.born since c.frontier → ⊥)
      → GathersTouched c s since
  gathers_touched since low ready same no_coarse = record { least = least; most = most }
    where
      at : s.scn ≤ c.query
      at = is.scn

      cut : limit c ≤ c.frontier
      cut = v.numbers.cut

      published : c.query ≤ limit c
      published = v.numbers.published

      table_is : ready.table ≡ s.table
      table_is =
          let now : table_at c.log s.scn s.select.obj ≡ Some ready.table = facts.same_table s.select.obj since s.scn ready.table low ready.defined (λ x i r a b. same x i r a (omega (arith, b, at, published, cut))) in
          let both : Some ready.table ≡ Some s.table = sym now ∙ is.defined in
          cc

      within : s.extents < ready.table.extents
      within = let e : ready.table.extents ≡ s.table.extents = ap (λ (x : Table). x.extents) table_is in omega (arith, e, left)

      found : c.units s.select.obj s.extents ≡ Some (ready.each s.extents within).0
      found = (ready.each s.extents within).1

      snapshot : (ready.each s.extents within).0.snapshot ≡ since
      snapshot = (ready.each s.extents within).2.snapshot

      partly : (ready.each s.extents within).0.all ≡ false
      partly = by_test (is_true (ready.each s.extents within).0.all)
        where
          by_test : ((ready.each s.extents within).0.all ≡ true) ⊎ ((ready.each s.extents within).0.all ≡ false) → (ready.each s.extents within).0.all ≡ false
          by_test (inr f) = f
          by_test (inl t) =
              let w = (p s.select.obj s.extents (ready.each s.extents within).0 found).all t in
              let above : (ready.each s.extents within).0.snapshot < w.entry.scn = w.above in
              let upto : w.entry.scn ≤ limit c = w.upto in
              absurd (no_coarse (record {
                txn = w.txn;
                entry = w.entry;
                within = w.within;
                commits = w.commits;
                above = omega (arith, above, snapshot);
                upto = omega (arith, upto, cut);
                begin = w.begin;
                begin_within = w.begin_within;
                is_begin = w.is_begin;
                earlier = w.earlier;
              }))

      blocks : count_from_blocks (next_look c s) (rows_at c.log s.scn) (next_places s) ≡ length (filter_map (λ a. cond ((ready.each s.extents within).0.marked a) (rows_at c.log s.scn a) None) (next_places s))
      blocks = ap (λ o. count_from_blocks (look_at s.scn o) (rows_at c.log s.scn) (next_places s)) found ∙ by_columns (ready.each s.extents within).0.columns refl (ready.each s.extents within).2.ready
        where
          usable : (not (ready.each s.extents within).0.all && nat_le (ready.each s.extents within).0.snapshot s.scn) ≡ true
          usable = and_from (not (ready.each s.extents within).0.all) (nat_le (ready.each s.extents within).0.snapshot s.scn) (ap not partly) (le-leb (ready.each s.extents within).0.snapshot s.scn (omega (arith, snapshot, low)))

          by_columns : (o : Option (List PlacedRow)) → (ready.each s.extents within).0.columns ≡ o → is_some (ready.each s.extents within).0.columns ≡ true
              → count_from_blocks (look_at s.scn (Some (ready.each s.extents within).0)) (rows_at c.log s.scn) (next_places s)
              ≡ length (filter_map (λ a. cond ((ready.each s.extents within).0.marked a) (rows_at c.log s.scn a) None) (next_places s))
          by_columns None e h = absurd (true≢false (sym h ∙ ap is_some e))
          by_columns (Some rows) e h =
              ap (λ b. count_from_blocks (look_if b (ready.each s.extents within).0.columns (ready.each s.extents within).0.marked) (rows_at c.log s.scn) (next_places s)) usable
              ∙ ap (λ o. count_from_blocks (look_if true o (ready.each s.extents within).0.marked) (rows_at c.log s.scn) (next_places s)) e

      -- what was touched up to the scan's SCN is marked
      covers : (a : Place) → Has (next_places s) a → is_touched c.log since s.scn a ≡ true → (ready.each s.extents within).0.marked a ≡ true
      covers a h t =
          let w = touched_commit c.log since s.scn a t in
          let above : since < w.scn = w.above in
          let upto : w.scn ≤ s.scn = w.upto in
          by_cover a w.txn h w.touches ((v.units s.select.obj s.extents (ready.each s.extents within).0 found).covered w.txn w.scn w.commits (omega (arith, above, snapshot)) (inl (omega (arith, upto, at)))
          (λ x i r b d. same x i r (omega (arith, b, snapshot)) (omega (arith, d, upto, at, published, cut))))
        where
          by_cover : (a : Place) (t : ℕ) → Has (next_places s) a → Contains (touched t c.log) a → IsCovered c.log t s.select.obj s.extents (ready.each s.extents within).0 → (ready.each s.extents within).0.marked a ≡ true
          by_cover a t h m (inl whole) = absurd (true≢false (sym whole ∙ partly))
          by_cover a t h m (inr each) = each a m (extent_holds s.select.obj s.extents a h)

      -- and what is marked was touched up to the frontier
      precise : (a : Place) → Has (next_places s) a → (ready.each s.extents within).0.marked a ≡ true → is_touched c.log since c.frontier a ≡ true
      precise a h m = subst (λ n. is_touched c.log n c.frontier a ≡ true) snapshot
          (commit_touched c.log (ready.each s.extents within).0.snapshot (limit c) c.frontier a cut ((p s.select.obj s.extents (ready.each s.extents within).0 found).marked a m))

      least : touched_rows c.log s.select.obj (s.extents + 1) s.scn since s.scn
          ≤ touched_rows c.log s.select.obj s.extents s.scn since s.scn + count_from_blocks (next_look c s) (rows_at c.log s.scn) (next_places s)
      least =
          let split = extent_touched (is_touched c.log since s.scn) (rows_at c.log s.scn) s.select.obj s.extents in
          let count = least_count (rows_at c.log s.scn) (ready.each s.extents within).0.marked (is_touched c.log since s.scn) (next_places s) covers in
          omega (arith, split, count, blocks)

      most : touched_rows c.log s.select.obj s.extents s.scn since c.frontier + count_from_blocks (next_look c s) (rows_at c.log s.scn) (next_places s)
          ≤ touched_rows c.log s.select.obj (s.extents + 1) s.scn since c.frontier
      most =
          let split = extent_touched (is_touched c.log since c.frontier) (rows_at c.log s.scn) s.select.obj s.extents in
          let count = most_count (rows_at c.log s.scn) (ready.each s.extents within).0.marked (is_touched c.log since c.frontier) (next_places s) precise in
          omega (arith, split, count, blocks)

pub scans_gather : ScansGather
scans_gather c place s v p at left =
    let is = v.scans place s at in
    (λ flag. not_in_memory c s v p is left flag, λ none. no_units c s v p is left none, λ since low ready same no_coarse. gathers_touched c s v p is left since low ready same no_coarse)
