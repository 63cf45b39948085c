-- A scan gathers its next extent: when it can, and what it makes.
use Rattle.std.proofs.Common.{◌≡◌, ℕ, ◌+◌, ◌*◌, ◌/◌, ◌<◌, ◌≤◌, true, ◌==◌, ◌&&◌, List, ◌++◌, length, Option, Some, None, inl, inr, refl, sym, ap, ◌∙◌, subst, arith}
use Rattle.std.specs.Prelude.{nat_lt, option_map, IfSome}
use Rattle.std.specs.List.{filter_map, range_with_len}
use Rattle.std.specs.Vec.{with_item}
use Rattle.std.proofs.lemmas.Bool.{and_from, eq-eqb, lt-ltb}
use Rattle.adg_base.specs.Address.{Place, place, block_places, extent_places}
use Rattle.adg_base.specs.declared.value.Value.{Value}
use Rattle.adg_model.specs.Database.{Rows, rows_at}
use Rattle.adg_model.specs.Defined.{IsDefinition}
use Rattle.adg_model.specs.Query.{padded}
use Rattle.row_blocks.specs.declared.shard.Shard.{Shard as OwnShard}
use Rattle.row_blocks.specs.Shards.{shards_in}
use Rattle.row_blocks.specs.Shards as blocks
use Rattle.row_blocks.specs.Stands.{IsSlot}
use Rattle.column_codec.specs.Extent.{is_in_extent}
use Rattle.column_codec.specs.Extent as codec
use Rattle.column_units.specs.declared.unit.Unit.{Unit as OwnUnit}
use Rattle.column_units.specs.Look.{Look as OwnLook}
use Rattle.column_units.specs.Unit.{IsOf}
use Rattle.column_units.specs.Shard as own
use Rattle.scan_eval.specs.Added.{Added}
use Rattle.hybrid_scan.specs.declared.scan.ExtentCounts.{ExtentCounts}
use Rattle.hybrid_scan.specs.Reader.{AreServing}
use Rattle.hybrid_scan.specs.Scan.{extent_rows, seen_by, scanned, from_store}
use Rattle.hybrid_scan.proofs.Blocks.{length_filter_map}
use Rattle.hybrid_scan.proofs.Handed.{length_blocks}
use Rattle.core_rules.specs.declared.event.Event.TheVariants as event
use Rattle.core_rules.specs.declared.event.CoreAnswer.TheVariants.{NotReady, Moved}
use Rattle.core_rules.specs.LogFacts.{LogFacts}
use Rattle.core_rules.specs.Populations.{with_session}
use Rattle.core_rules.specs.Scans.{Look, look_at, row_in, gathered, count_from_columns, count_from_blocks, CanGather as CanGatherNext, next_look, next_places, scan_then}
use Rattle.core_rules.specs.State.{CoreState, ColumnUnit, Units, Scan, At, limit}
use Rattle.core_rules.specs.State as rules
use Rattle.core_rules.specs.UnitParts.{ScanIs}
use Rattle.core_rules.proofs.Gathered.{bare, bare_rows, places_of, look_is_wide, counted_once}
use Rattle.core_rules.proofs.Lists.{Has, at_same, has_flat_map_back, has_map_back, has_range_back}
use Rattle.core_rules.proofs.Whole.{log_has_facts}
use Rattle.standby_core.specs.declared.session.Scan.{Scan as OwnScan}
use Rattle.standby_core.specs.declared.session.Session.{Session as OwnSession}
use Rattle.standby_core.specs.declared.session.Session.TheVariants as seat
use Rattle.standby_core.specs.declared.standby.Core.{Core}
use Rattle.standby_core.specs.NextExtent.{look_of, look_next, rows_next, stored_next, HasRows, CanGather, HasGathered, GathersIn, HasNoneLeft}
use Rattle.standby_core.specs.Parts.{ShowsAny, ShowsScan, unit_in}
use Rattle.standby_core.specs.Shows.{Shows, IsState, HasStepped}
use Rattle.standby_core.proofs.Scanned.{seat_set, seat_kept}
use Rattle.standby_core.proofs.ScanLooks.{SameLook, AsWide, gathered_is, blocks_is, look_shown, row_in_placed}
use Rattle.standby_core.proofs.Seats.{scanning_shown, scanning_back}
use Rattle.standby_core.proofs.Store.{store_rows, store_covers}

-- an extent has at most so many rows
few_rows : (rows : Rows) (obj extent : ℕ) → length (extent_rows rows obj extent) ≤ 1024
unfolding extent_rows
few_rows rows obj extent =
    let most : length (filter_map rows (extent_places obj extent)) ≤ length (extent_places obj extent) = length_filter_map rows (extent_places obj extent) in
    let count : length (extent_places obj extent) ≡ 64 * 16 = length_blocks obj extent 16 in
    omega arith

module _ (x : OwnScan) (look : Option OwnLook) (shards : List OwnShard) (rows : Added) (counts : ExtentCounts) (h : HasRows x look shards rows counts) where
  few : length (rows_next x look shards) ≤ 1024
  few = few_rows (seen_by look x.definition.width (blocks.row_in (shards_in shards) x.scn)) x.definition.obj x.extents

  pub counted_few : counts.from_columns + counts.from_blocks ≤ 1024
  counted_few = let each : counts.from_columns + counts.from_blocks ≡ length (rows_next x look shards) = h.each in let most : length (rows_next x look shards) ≤ 1024 = few in omega arith

  pub gathered_few : length rows.rows ≤ 1024
  gathered_few = let is : length rows.rows ≡ length (rows_next x look shards) = ap (λ (a : Added). length a.rows) h.is in let most : length (rows_next x look shards) ≤ 1024 = few in omega arith

-- an address of an extent is in it, and has a slot of its block
address_of : (obj extent : ℕ) (a : Place) → Has (extent_places obj extent) a → (is_in_extent obj extent a ≡ true) × IsSlot a
address_of obj extent a h =
    let b = has_flat_map_back (block_places obj) (range_with_len (16 * extent) 16) a h in
    let block = has_range_back 16 (16 * extent) b.0 b.1 in
    let s = has_map_back (λ slot. place obj b.0 slot) (range_with_len 0 64) a b.2 in
    let slot = has_range_back 64 0 s.0 s.1 in
    let below : s.0 < 64 = omega arith in
    let number : b.0 / 16 ≡ extent = omega (arith, block.0, block.1) in (
      subst (λ p. is_in_extent obj extent p ≡ true) s.2 (and_from ((obj == obj) && (b.0 / 16 == extent)) (nat_lt s.0 64) (and_from (obj == obj) (b.0 / 16 == extent) (eq-eqb obj obj refl) (eq-eqb (b.0 / 16) extent number)) (lt-ltb s.0 64 below)),
      subst IsSlot s.2 below,
    )

-- what a scan may take of a unit is what the rules let it see of the unit that it shows
same_look : (obj extent scn : ℕ) (o : Option OwnUnit) (p : Option ColumnUnit) → ShowsAny o p → IfSome o (IsOf obj extent) → SameLook obj extent (look_of scn o) (look_at scn p)
same_look obj extent scn None None h k = tt
same_look obj extent scn None (Some u) h k = absurd h
same_look obj extent scn (Some x) None h k = absurd h
same_look obj extent scn (Some x) (Some u) h k = look_shown obj extent scn x u h k.object k.number (λ a k. (address_of obj extent a k).0)

-- as wide as the object where what the rules let it see is
as_wide : (obj extent width : ℕ) (look : Option OwnLook) (l : Option Look) → SameLook obj extent look l
    → ((m : Look) → l ≡ Some m → (a : Place) → Has (extent_places obj extent) a → option_map (padded width) (row_in m.rows a) ≡ row_in m.rows a) → AsWide obj extent width look
as_wide obj extent width None l same wide = tt
as_wide obj extent width (Some x) None same wide = absurd same
as_wide obj extent width (Some x) (Some l) same wide = λ a k.
    let rows : row_in l.rows a ≡ codec.row_in x.columns a = ap (λ rs. row_in rs a) same.rows ∙ row_in_placed x.columns a in
    ap (option_map (padded width)) (sym rows) ∙ wide l refl a k ∙ rows

-- a function of four numbers that are the same
same_numbers : {X : Type 0} (f : ℕ → ℕ → ℕ → ℕ → X) (a a' b b' c c' d d' : ℕ) → a ≡ a' → b ≡ b' → c ≡ c' → d ≡ d' → f a b c d ≡ f a' b' c' d'
same_numbers f a a' b b' c c' d d' p q r s = ap (λ n. f n b c d) p ∙ ap (λ n. f a' n c d) q ∙ ap (λ n. f a' b' n d) r ∙ ap (f a' b' c') s

module _ (core : Core) (c : CoreState) (h : IsState core c) where
  module _ (place : ℕ) (x : OwnScan) (at : At core.sessions.items place (seat.Scanning x)) (left : x.extents < x.definition.extents) where
    shown : (s : Scan) × At c.sessions place (rules.Scanning s) × ShowsScan x s
    shown = scanning_shown core.sessions.items c.sessions place x h.shows.sessions at

    facts : LogFacts c.log c.frontier
    facts = log_has_facts c.log c.frontier h.invariant.log

    is : ScanIs c.log c.query shown.0
    is = h.invariant.scans place shown.0 shown.1

    left_then : shown.0.extents < shown.0.table.extents
    left_then =
        let extents : x.extents ≡ shown.0.extents = shown.2.extents in
        let all : x.definition.extents ≡ shown.0.table.extents = shown.2.defined.extents in
        omega arith

    upto : shown.0.scn ≤ limit c
    upto =
        let low : shown.0.scn ≤ c.query = is.scn in
        let high : c.query ≤ limit c = h.invariant.numbers.published in
        omega arith

    -- the rows gathered so far are few
    room : length shown.0.rows ≤ 1024 * shown.0.extents
    room =
        let rows : length shown.0.rows ≡ length (filter_map (bare (rows_at c.log shown.0.scn) (length shown.0.table.kinds)) (places_of shown.0.select.obj 0 (16 * shown.0.extents))) =
        ap (λ (rs : List (List Value)). length rs) (is.rows ∙ bare_rows (rows_at c.log shown.0.scn) shown.0.select.obj (length shown.0.table.kinds) 0 (16 * shown.0.extents)) in
        let most = length_filter_map (bare (rows_at c.log shown.0.scn) (length shown.0.table.kinds)) (places_of shown.0.select.obj 0 (16 * shown.0.extents)) in
        let count : length (places_of shown.0.select.obj 0 (16 * shown.0.extents)) ≡ 64 * (16 * shown.0.extents) = length_blocks shown.0.select.obj 0 (16 * shown.0.extents) in
        omega arith

    pub can_gather : CanGather x core.units.items core.shards.items
    can_gather =
        let few : shown.0.table.extents ≤ 256 = (facts.extents shown.0.select.obj shown.0.scn shown.0.table is.defined).1 in
        let extents : x.extents ≡ shown.0.extents = shown.2.extents in
        let below : shown.0.extents < shown.0.table.extents = left_then in
        let rows : length x.accumulator.rows ≡ length shown.0.rows = ap (λ (rs : List (List Value)). length rs) shown.2.rows in
        let gathered_so_far : length shown.0.rows ≤ 1024 * shown.0.extents = room in
        let split : shown.0.col + shown.0.row ≡ length shown.0.rows = is.split in
        let col : x.col ≡ shown.0.col = shown.2.col in
        let row : x.row ≡ shown.0.row = shown.2.row in
        record {
          extent = omega arith;
          count = h.shows.units.count;
          serves = subst (λ n. AreServing core.shards.items n) (sym shown.2.scn) (store_covers core c shown.0.scn h upto);
          asked = shown.2.asked ∙ sym shown.2.select;
          split = omega arith;
          room = omega arith;
        }

    module _ (y : OwnScan) (g : HasGathered x core.units.items core.shards.items y) where
      abbrev s : Scan
      s = shown.0

      -- in the numbers of the state
      look : ℕ → ℕ → ℕ → Option OwnLook
      look scn obj extent = look_of scn (unit_in core.units.items obj extent)

      same_obj : x.definition.obj ≡ s.select.obj
      same_obj = shown.2.defined.object

      unit : IfSome (unit_in core.units.items s.select.obj s.extents) (IsOf s.select.obj s.extents)
      unit =
          subst (λ o. IfSome (unit_in core.units.items o s.extents) (IsOf o s.extents)) same_obj
          (subst (λ e. IfSome (unit_in core.units.items x.definition.obj e) (IsOf x.definition.obj e)) shown.2.extents g.unit)

      looks : SameLook s.select.obj s.extents (look_of s.scn (unit_in core.units.items s.select.obj s.extents)) (next_look c s)
      looks = same_look s.select.obj s.extents s.scn (unit_in core.units.items s.select.obj s.extents) (c.units s.select.obj s.extents) (h.shows.units.each s.select.obj s.extents) unit

      store_has : (a : Place) → Has (next_places s) a → blocks.row_in (shards_in core.shards.items) s.scn a ≡ rows_at c.log s.scn a
      store_has a k = store_rows core c s.scn h upto a (address_of s.select.obj s.extents a k).1

      rows_are : rows_next x (look_next x core.units.items) core.shards.items ≡ gathered (next_look c s) (rows_at c.log s.scn) (length s.table.kinds) (next_places s)
      rows_are =
          same_numbers (λ scn obj extent width. scanned (look_of scn (unit_in core.units.items obj extent)) width (blocks.row_in (shards_in core.shards.items) scn) obj extent)
          x.scn s.scn x.definition.obj s.select.obj x.extents s.extents x.definition.width (length s.table.kinds) shown.2.scn same_obj shown.2.extents shown.2.defined.width
          ∙ sym (gathered_is s.select.obj s.extents (length s.table.kinds) (blocks.row_in (shards_in core.shards.items) s.scn) (rows_at c.log s.scn) store_has
          (look_of s.scn (unit_in core.units.items s.select.obj s.extents)) (next_look c s) looks
          (as_wide s.select.obj s.extents (length s.table.kinds) (look_of s.scn (unit_in core.units.items s.select.obj s.extents)) (next_look c s) looks (look_is_wide c s h.invariant facts is)))

      stored_are : length (stored_next x (look_next x core.units.items) core.shards.items) ≡ count_from_blocks (next_look c s) (rows_at c.log s.scn) (next_places s)
      stored_are =
          same_numbers (λ scn obj extent width. length (from_store (look_of scn (unit_in core.units.items obj extent)) width (blocks.row_in (shards_in core.shards.items) scn) obj extent))
          x.scn s.scn x.definition.obj s.select.obj x.extents s.extents x.definition.width (length s.table.kinds) shown.2.scn same_obj shown.2.extents shown.2.defined.width
          ∙ sym (blocks_is s.select.obj s.extents (length s.table.kinds) (blocks.row_in (shards_in core.shards.items) s.scn) (rows_at c.log s.scn) store_has
          (look_of s.scn (unit_in core.units.items s.select.obj s.extents)) (next_look c s) looks)

      counted : count_from_columns (next_look c s) (next_places s) + count_from_blocks (next_look c s) (rows_at c.log s.scn) (next_places s) ≡ length (rows_next x (look_next x core.units.items) core.shards.items)
      counted = counted_once (next_look c s) (rows_at c.log s.scn) (length s.table.kinds) (next_places s) ∙ ap (λ (rs : List (List Value)). length rs) (sym rows_are)

      row_is : y.row ≡ (scan_then c s).row
      row_is =
          let now : y.row ≡ x.row + length (stored_next x (look_next x core.units.items) core.shards.items) = g.row in
          let was : x.row ≡ s.row = shown.2.row in
          let more : length (stored_next x (look_next x core.units.items) core.shards.items) ≡ count_from_blocks (next_look c s) (rows_at c.log s.scn) (next_places s) = stored_are in
          omega arith

      col_is : y.col ≡ (scan_then c s).col
      col_is =
          let now : y.row ≡ x.row + length (stored_next x (look_next x core.units.items) core.shards.items) = g.row in
          let each : y.col + y.row ≡ x.col + x.row + length (rows_next x (look_next x core.units.items) core.shards.items) = g.each in
          let was : x.col ≡ s.col = shown.2.col in
          let more : length (stored_next x (look_next x core.units.items) core.shards.items) ≡ count_from_blocks (next_look c s) (rows_at c.log s.scn) (next_places s) = stored_are in
          let once : count_from_columns (next_look c s) (next_places s) + count_from_blocks (next_look c s) (rows_at c.log s.scn) (next_places s) ≡ length (rows_next x (look_next x core.units.items) core.shards.items) = counted in
          omega arith

      shows_gathered : ShowsScan y (scan_then c s)
      shows_gathered = record {
        select = ap (λ (z : OwnScan). z.select) g.same ∙ shown.2.select;
        scn = ap (λ (z : OwnScan). z.scn) g.same ∙ shown.2.scn;
        defined = subst (IsDefinition s.select.obj s.table) (sym (ap (λ (z : OwnScan). z.definition) g.same)) shown.2.defined;
        extents = ap (λ (z : OwnScan). z.extents) g.same ∙ ap (λ n. n + 1) shown.2.extents;
        asked = g.asked ∙ shown.2.asked;
        rows = g.rows ∙ ap (λ (rs : List (List Value)). rs ++ rows_next x (look_next x core.units.items) core.shards.items) shown.2.rows ∙ ap (λ (rs : List (List Value)). s.rows ++ rs) rows_are;
        col = col_is;
        row = row_is;
      }

      gathers : (session : ℕ) → session ≡ place + 1 → HasStepped (record core { sessions = with_item core.sessions place (seat.Scanning y) }) c (event.ScanExtent session) Moved
      gathers session number = record {
        next = with_session c place (rules.Scanning (scan_then c s));
        steps = inr (refl, record { place = place; scan = s; is = record { number = number; found = shown.1 }; left = left_then; effect = refl });
        shows = seat_set core c h.shows place (seat.Scanning y) (rules.Scanning (scan_then c s)) shows_gathered;
      }

  -- what the event makes
  pub scan_gathers : (session place : ℕ) (old new : OwnSession) (us : List own.Units) (ss : List OwnShard) → session ≡ place + 1 → At core.sessions.items place old → us ≡ core.units.items → ss ≡ core.shards.items
      → GathersIn old us ss new → HasStepped (record core { sessions = with_item core.sessions place new }) c (event.ScanExtent session) Moved
  scan_gathers session place old new us ss number at units shards g =
      subst (λ z. HasStepped (record core { sessions = with_item core.sessions place z }) c (event.ScanExtent session) Moved) (sym g.then_is)
      (gathers place g.scan (subst (At core.sessions.items place) g.is at) g.left g.next
      (subst (λ l. HasGathered g.scan l core.shards.items g.next) units (subst (λ l. HasGathered g.scan us l g.next) shards g.gathered)) session number)

  -- it can't happen where no extent is left
  pub none_to_gather : (session place : ℕ) (old new : OwnSession) → session ≡ place + 1 → At core.sessions.items place old → HasNoneLeft old → new ≡ old
      → HasStepped (record core { sessions = with_item core.sessions place new }) c (event.ScanExtent session) NotReady
  none_to_gather session place old new number at none same = record {
    next = c;
    steps = inl (refl, barred, refl);
    shows = subst (λ z. Shows (record core { sessions = with_item core.sessions place z }) c) (sym same) (seat_kept core c h.shows place old at);
  }
    where
      barred : CanGatherNext c session → ⊥
      barred can =
          let counts : session ≡ can.place + 1 = can.is.number in
          let here : can.place ≡ place = omega (arith, number, counts) in
          let back = scanning_back core.sessions.items c.sessions can.place can.scan h.shows.sessions can.is.found in
          let most : back.0.definition.extents ≤ back.0.extents = none back.0 (at_same core.sessions.items place old (seat.Scanning back.0) at (subst (λ n. At core.sessions.items n (seat.Scanning back.0)) here back.1)) in
          let all : back.0.definition.extents ≡ can.scan.table.extents = back.2.defined.extents in
          let extents : back.0.extents ≡ can.scan.extents = back.2.extents in
          let still : can.scan.extents < can.scan.table.extents = can.left in
          omega arith
