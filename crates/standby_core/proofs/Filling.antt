-- PopRead: what it makes of the state, and why such an event can't happen.
use Rattle.std.proofs.Common.{◌≡◌, ℕ, ◌+◌, ◌*◌, ◌<◌, ◌≤◌, Bool, true, false, cond, not, List, [], ◌∷◌, ◌++◌, length, filter, Vec, Global, Option, Some, None, inr, refl, sym, ap, ◌∙◌, subst, arith, true≢false}
use Rattle.std.specs.Prelude.{nat_lt, slice_set, is_some, option_map}
use Rattle.std.specs.List.{filter_map, cons_option, range_with_len}
use Rattle.std.proofs.lemmas.Bool.{and_parts, and_from, lt-ltb, ltb-true}
use Rattle.std.proofs.lemmas.List.{length-set, map-append}
use Rattle.adg_base.specs.Address.{Place, place, block_places}
use Rattle.adg_base.specs.declared.placed.PlacedRow.{PlacedRow}
use Rattle.adg_base.specs.declared.value.Value.{Value}
use Rattle.adg_model.specs.Database.{Rows, rows_at, table_at}
use Rattle.adg_model.specs.Query.{padded}
use Rattle.core_rules.specs.Extents.{placed_row, block_rows}
use Rattle.core_rules.specs.State.{CoreState, Population, At, limit}
use Rattle.core_rules.specs.State as rules
use Rattle.core_rules.specs.UnitParts.{PopulationIs}
use Rattle.core_rules.specs.Populations.{CanRead, next_block}
use Rattle.core_rules.specs.declared.event.Event.TheVariants as event
use Rattle.core_rules.specs.declared.event.CoreAnswer.TheVariants.{Moved}
use Rattle.core_rules.proofs.FactsTables.{extents}
use Rattle.core_rules.proofs.Lists.{Has, at_same, each_from_has, has_filter_map_back, has_map_back, has_range_back}
use Rattle.core_rules.proofs.RowFits.{row_fits}
use Rattle.hybrid_scan.specs.Reader.{placed, placed_at}
use Rattle.hybrid_scan.proofs.Blocks.{filter_map_same}
use Rattle.population.specs.Building.{AreRowsOf, Fit, addresses_of, wide_row, widened}
use Rattle.row_blocks.specs.declared.shard.Shard.{Shard}
use Rattle.row_blocks.specs.Shards.{shards_in, row_in}
use Rattle.row_blocks.specs.Stands.{IsSlot}
use Rattle.standby_core.specs.declared.populate.Phase.TheVariants.{Reading}
use Rattle.standby_core.specs.declared.session.Session.{Session as OwnSession}
use Rattle.standby_core.specs.declared.session.Session.TheVariants.{Populating}
use Rattle.standby_core.specs.declared.session.Population.{Population as OwnPopulation}
use Rattle.standby_core.specs.declared.standby.Core.{Core}
use Rattle.standby_core.specs.Each.{EachAt}
use Rattle.standby_core.specs.Filling.{next_rows, with_block, CanTake}
use Rattle.standby_core.specs.Parts.{ShowsSession, ShowsPopulation}
use Rattle.standby_core.specs.Populating.{is_in, IsSeat}
use Rattle.standby_core.specs.Shows.{IsState, HasStepped}
use Rattle.standby_core.proofs.Each.{each_set}
use Rattle.standby_core.proofs.Kept.{with_sessions}
use Rattle.standby_core.proofs.Seating.{at_in}
use Rattle.standby_core.proofs.Seats.{populating_shown, populating_back}
use Rattle.standby_core.proofs.Store.{store_count, store_rows}

-- placed rows are rows of their places, in their order
pub placed_are : (rows : Rows) (places : List Place) → AreRowsOf places (placed rows places)
placed_are rows places = record { kept = λ a. is_some (rows a); order = order_of places }
  where
    order_of : (xs : List Place) → addresses_of (placed rows xs) ≡ filter (λ a. is_some (rows a)) xs
    order_of [] = refl
    order_of (a ∷ xs) = by_row (rows a) (order_of xs)
      where
        by_row : (r : Option (List Value)) → addresses_of (placed rows xs) ≡ filter (λ b. is_some (rows b)) xs
            → addresses_of (cons_option (option_map (placed_at a) r) (placed rows xs)) ≡ cond (is_some r) (a ∷ filter (λ b. is_some (rows b)) xs) (filter (λ b. is_some (rows b)) xs)
        by_row None ih = ih
        by_row (Some row) ih = ap (λ ys. a ∷ ys) ih

pub next_are : (shards : List Shard) (x : OwnPopulation) (rows : List PlacedRow) → rows ≡ next_rows shards x → x.build.obj ≡ x.obj
    → AreRowsOf (block_places x.build.obj (16 * x.build.extent + x.build.blocks)) rows
unfolding next_rows
next_are shards x rows same object =
    let places = block_places x.obj (16 * x.build.extent + x.build.blocks) in
    subst (λ o. AreRowsOf (block_places o (16 * x.build.extent + x.build.blocks)) rows) (sym object)
    (subst (AreRowsOf places) (sym same) (placed_are (row_in (shards_in shards) x.snapshot) places))

-- and as wide as the object they are those of the rules
abbrev wide_at : ℕ → Place → List Value → PlacedRow
wide_at width a row = record { addr = a; row = padded width row }

wide_placed : (rows : Rows) (width : ℕ) (places : List Place) → widened width (placed rows places) ≡ filter_map (placed_row rows width) places
wide_placed rows width [] = refl
wide_placed rows width (a ∷ places) = by_row (rows a) (wide_placed rows width places)
  where
    by_row : (r : Option (List Value)) → widened width (placed rows places) ≡ filter_map (placed_row rows width) places
        → widened width (cons_option (option_map (placed_at a) r) (placed rows places)) ≡ cons_option (option_map (wide_at width a) r) (filter_map (placed_row rows width) places)
    by_row None ih = ih
    by_row (Some row) ih = ap (λ ys. wide_row width (placed_at a row) ∷ ys) ih

-- an address of a block has a slot, and the object
block_slot : (obj block : ℕ) (a : Place) → Has (block_places obj block) a → (a.obj ≡ obj) × IsSlot a
block_slot obj block a h =
    let r = has_map_back (λ slot. place obj block slot) (range_with_len 0 64) a h in
    let l : r.0 < 64 = (has_range_back 64 0 r.0 r.1).1 in
    (ap (λ (b : Place). b.obj) (sym r.2), subst (λ (b : Place). b.slot < 64) r.2 l)

-- a row of placed rows stands at its place
placed_back : (rows : Rows) (a : Place) (r : PlacedRow) → option_map (placed_at a) (rows a) ≡ Some r → rows a ≡ Some r.row
placed_back rows a r e = by_row (rows a) refl e
  where
    by_row : (o : Option (List Value)) → rows a ≡ o → option_map (placed_at a) o ≡ Some r → rows a ≡ Some r.row
    by_row None k u = let c : None ≡ Some r = u in absurd cc
    by_row (Some row) k u =
        let same : Some (placed_at a row) ≡ Some r = u in
        let is : placed_at a row ≡ r = cc in
        k ∙ ap (λ (x : PlacedRow). Some x.row) is

pub populating_same : (x y : OwnPopulation) → Populating x ≡ Populating y → x ≡ y
populating_same x y e = cc

-- who does not hold publication back
pub released : (x y : Bool) → x ≡ y → not x ≡ true → y ≡ false
released true y e k = absurd (true≢false (sym k))
released false y e k = sym e

module _ (core : Core) (c : CoreState) (h : IsState core c) where
  -- of a population
  module _ (n : ℕ) (x : OwnPopulation) (found : At core.sessions.items n (Populating x)) where
    pub shown : (p : Population) × At c.sessions n (rules.Populating p) × ShowsPopulation x p
    shown = populating_shown core.sessions.items c.sessions n x h.shows.sessions found

    pub population_is : PopulationIs c.log c.query c.ticket shown.0
    population_is = h.invariant.populations n shown.0 shown.1

    -- its object has few extents
    pub few : shown.0.table.extents ≤ 256
    few = (extents c.log c.frontier h.invariant.log shown.0.obj shown.0.snapshot shown.0.table population_is.defined).1

    upto : x.snapshot ≤ limit c
    upto =
        let same : x.snapshot ≡ shown.0.snapshot = shown.2.snapshot in
        let old : shown.0.snapshot ≤ c.query = population_is.snapshot in
        let cut : c.query ≤ limit c = h.invariant.numbers.published in
        omega arith

    -- what the shards give at an address are the committed rows at its snapshot
    rows_are : (a : Place) → IsSlot a → row_in (shards_in core.shards.items) x.snapshot a ≡ rows_at c.log shown.0.snapshot a
    rows_are a slot = store_rows core c x.snapshot h upto a slot ∙ ap (λ q. rows_at c.log q a) shown.2.snapshot

    abbrev next_places : List Place
    next_places = block_places x.obj (16 * x.build.extent + x.build.blocks)

    next_fit : Fit x.build.width (next_rows core.shards.items x)
    unfolding next_rows
    next_fit = each_from_has (λ (r : PlacedRow). length r.row ≤ x.build.width) (next_rows core.shards.items x) fit
      where
        fit : (r : PlacedRow) → Has (next_rows core.shards.items x) r → length r.row ≤ x.build.width
        fit r k =
            let b = has_filter_map_back (λ a. option_map (placed_at a) (row_in (shards_in core.shards.items) x.snapshot a)) next_places r k in
            let s = block_slot x.obj (16 * x.build.extent + x.build.blocks) b.0 b.1 in
            let stands = sym (rows_are b.0 s.1) ∙ placed_back (row_in (shards_in core.shards.items) x.snapshot) b.0 r b.2 in
            let defined = ap (table_at c.log shown.0.snapshot) (s.0 ∙ shown.2.obj) ∙ population_is.defined in
            let l : length r.row ≤ length shown.0.table.kinds = row_fits c.log c.frontier shown.0.snapshot b.0 r.row shown.0.table h.invariant.log stands defined in
            let width : x.build.width ≡ length shown.0.table.kinds = shown.2.width in
            omega arith

    pub can_take : is_in Reading x ≡ true → CanTake core.shards.items x
    can_take phased =
        let extent : x.build.extent ≡ shown.0.extent = shown.2.extent in
        let one : shown.0.extent < shown.0.table.extents = population_is.extent in
        let most : shown.0.table.extents ≤ 256 = few in
        record {
          count = store_count core c x.snapshot h upto;
          object = shown.2.build_obj ∙ sym shown.2.obj;
          extent = omega arith;
          left = ltb-true x.build.blocks 16 (and_parts (not x.holds) (nat_lt x.build.blocks 16) phased).1;
          fit = next_fit;
        }

    -- with its next block it shows what the rules read
    next_block_is : widened x.build.width (next_rows core.shards.items x) ≡ next_block c shown.0
    unfolding next_rows
    next_block_is =
        wide_placed (row_in (shards_in core.shards.items) x.snapshot) x.build.width next_places
        ∙ filter_map_same (placed_row (row_in (shards_in core.shards.items) x.snapshot) x.build.width) (placed_row (rows_at c.log shown.0.snapshot) x.build.width) next_places
        (each_from_has (λ (a : Place). placed_row (row_in (shards_in core.shards.items) x.snapshot) x.build.width a ≡ placed_row (rows_at c.log shown.0.snapshot) x.build.width a) next_places
        (λ a k. ap (λ (o : Option (List Value)). option_map (wide_at x.build.width a) o) (rows_are a (block_slot x.obj (16 * x.build.extent + x.build.blocks) a k).1)))
        ∙ ap (λ (width : ℕ). block_rows (rows_at c.log shown.0.snapshot) x.obj width (16 * x.build.extent + x.build.blocks)) shown.2.width
        ∙ ap (λ (obj : ℕ). block_rows (rows_at c.log shown.0.snapshot) obj (length shown.0.table.kinds) (16 * x.build.extent + x.build.blocks)) shown.2.obj
        ∙ ap (λ (extent : ℕ). block_rows (rows_at c.log shown.0.snapshot) shown.0.obj (length shown.0.table.kinds) (16 * extent + x.build.blocks)) shown.2.extent
        ∙ ap (λ (blocks : ℕ). block_rows (rows_at c.log shown.0.snapshot) shown.0.obj (length shown.0.table.kinds) (16 * shown.0.extent + blocks)) shown.2.blocks

    abbrev pub read_more : Population
    read_more = record shown.0 { blocks = shown.0.blocks + 1; read = shown.0.read ++ next_block c shown.0 }

    pub read_shown : ShowsPopulation (with_block (next_rows core.shards.items x) x) read_more
    read_shown = record {
      obj = shown.2.obj;
      extents = shown.2.extents;
      snapshot = shown.2.snapshot;
      ticket = shown.2.ticket;
      holds = shown.2.holds;
      registered = shown.2.registered;
      installed = shown.2.installed;
      build_obj = shown.2.build_obj;
      extent = shown.2.extent;
      build_snapshot = shown.2.build_snapshot;
      width = shown.2.width;
      blocks = ap (λ k. k + 1) shown.2.blocks;
      read = map-append (wide_row x.build.width) x.build.rows (next_rows core.shards.items x)
          ∙ ap (λ (rows : List PlacedRow). rows ++ widened x.build.width (next_rows core.shards.items x)) shown.2.read
          ∙ ap (λ (rows : List PlacedRow). shown.0.read ++ rows) next_block_is;
    }

  module _ (session : ℕ) where
    pub read_barred : (xs : List OwnSession) → xs ≡ core.sessions.items → ((n : ℕ) (p : OwnPopulation) → session ≡ n + 1 → At xs n (Populating p) → is_in Reading p ≡ true → ⊥) → CanRead c session → ⊥
    read_barred xs e barred can =
        let own = populating_back core.sessions.items c.sessions can.place can.population h.shows.sessions can.is.found in
        let blocks : own.0.build.blocks ≡ can.population.blocks = own.2.blocks in
        let left : can.population.blocks < 16 = can.left in
        barred can.place own.0 can.is.number (at_in core.sessions.items xs can.place (Populating own.0) (sym e) own.1)
        (and_from (not own.0.holds) (nat_lt own.0.build.blocks 16) (ap not (own.2.holds ∙ can.released)) (lt-ltb own.0.build.blocks 16 (omega arith)))

    module _ (n : ℕ) (xs : List OwnSession) (e : xs ≡ core.sessions.items) (seat : IsSeat xs session Reading n) where
      abbrev p : OwnPopulation
      p = seat.population

      found : At core.sessions.items n (Populating p)
      found = at_in xs core.sessions.items n (Populating p) e seat.found

      -- who stands there can read
      pub can_take_at : (ys : List OwnSession) → ys ≡ core.sessions.items → (shards : List Shard) → shards ≡ core.shards.items → (q : OwnPopulation) → At ys n (Populating q) → CanTake shards q
      can_take_at ys e' shards same q at =
          let here : At core.sessions.items n (Populating q) = at_in ys core.sessions.items n (Populating q) e' at in
          let one = at_same core.sessions.items n (Populating p) (Populating q) found here in
          subst (λ l. CanTake l q) (sym same) (can_take n q here (subst (λ (y : OwnPopulation). is_in Reading y ≡ true) (populating_same p q one) seat.phased))

      pub read_moves : (shards : List Shard) → shards ≡ core.shards.items → (ss : Vec OwnSession Global) → ss.items ≡ slice_set core.sessions.items n (Populating (with_block (next_rows shards p) p))
          → HasStepped (record core { sessions = ss }) c (event.PopRead session) Moved
      read_moves shards same ss sessions =
          let of = shown n p found in
          let more = read_more n p found in
          let parts = and_parts (not p.holds) (nat_lt p.build.blocks 16) seat.phased in
          let left_own : p.build.blocks < 16 = ltb-true p.build.blocks 16 parts.1 in
          let blocks : p.build.blocks ≡ of.0.blocks = of.2.blocks in
          let is_set = sessions ∙ ap (λ (l : List Shard). slice_set core.sessions.items n (Populating (with_block (next_rows l p) p))) same in
          record {
            next = record c { sessions = slice_set c.sessions n (rules.Populating more) };
            steps = inr (
              refl,
              record {
                place = n;
                population = of.0;
                is = record { number = seat.number; found = of.1 };
                released = released p.holds of.0.holds of.2.holds parts.0;
                left = omega arith;
                effect = refl;
              },
            );
            shows = with_sessions core c ss (slice_set c.sessions n (rules.Populating more)) h.shows
                (subst (λ xs. EachAt (λ n. ShowsSession) xs (slice_set c.sessions n (rules.Populating more))) (sym is_set)
                (each_set (λ n. ShowsSession) core.sessions.items c.sessions h.shows.sessions n (Populating (with_block (next_rows core.shards.items p) p)) (rules.Populating more) (read_shown n p found)))
                (length-set c.sessions n (rules.Populating more));
          }
