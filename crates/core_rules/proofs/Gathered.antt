-- The events of a scan keep the invariant and the precision of marks: what it gathers of an extent, from a unit or
-- from the blocks, is each committed row once.
use Rattle.std.proofs.Common.{◌≡◌, ℕ, suc, ◌+◌, ◌-◌, ◌*◌, ◌<◌, ◌≤◌, Bool, true, false, not, ◌&&◌, if◌then◌else◌, List, [], ◌∷◌, ◌++◌, map, length, replicate, Option, Some, None, ◌⊎◌, inl, inr, refl, sym, ap, ◌∙◌, subst, arith, true≢false}
use Rattle.std.specs.Prelude.{nat_le, option_map}
use Rattle.std.specs.List.{filter_map, flat_map, range_with_len, cons_option}
use Rattle.std.proofs.lemmas.Bool.{eqb-true, eq-eqb, leb-true, and_from, and_parts}
use Rattle.std.proofs.lemmas.List.{append-nil, length-append, length-replicate}
use Rattle.std.proofs.lemmas.List.Elements.{filter_map-append}
use Rattle.std.proofs.lemmas.Grind.{flat_map-append}
use Rattle.adg_base.specs.Address.{Place, block_places, place, same_place, extent_places}
use Rattle.adg_base.specs.declared.value.Value.{Value}
use Rattle.adg_base.specs.declared.value.Value.TheVariants.{Null}
use Rattle.adg_base.specs.declared.placed.PlacedRow.{PlacedRow}
use Rattle.adg_base.specs.declared.command.Select.{Select}
use Rattle.adg_base.specs.declared.answer.Reply.{Reply}
use Rattle.adg_model.specs.Database.{Rows, Table, rows_at, table_at}
use Rattle.adg_model.specs.Query.{padded}
use Rattle.core_rules.specs.Extents.{IsInExtent, placed_row, rows_of_blocks, extent_rows, without_places}
use Rattle.core_rules.specs.State.{CoreState, ColumnUnit, Scan, Free, Scanning}
use Rattle.core_rules.specs.Scans.{BeginsScan, Look, look_if, look_at, row_in, from_columns, from_blocks, gathered_at, gathered, count_from_columns, count_from_blocks, Gathers, next_look, next_places, new_scan, scan_then, EndsScan}
use Rattle.core_rules.specs.LogFacts.{LogFacts, NotTouched}
use Rattle.core_rules.specs.Covering.{Covers}
use Rattle.core_rules.specs.UnitParts.{ColumnsAre, IsCovered, ScanIs}
use Rattle.core_rules.specs.Invariant.{Invariant, Precise}
use Rattle.core_rules.proofs.Keeps.{Keeps, KeepsPrecise}
use Rattle.core_rules.proofs.Lists.{Has, has_flat_map_back, has_map_back, has_range_back}
use Rattle.core_rules.proofs.Holds.{one_session_keeps}
use Rattle.core_rules.proofs.Populated.{range_append}
use Rattle.core_rules.proofs.FlushLaw.{units_cover}

-- Maps that leave out: over lists in pieces, behind a map, and where two are the same on what the list has.
filter_map_pieces : {X Y Z : Type 0} (f : Y → Option Z) (g : X → List Y) (xs : List X) → flat_map (λ x. filter_map f (g x)) xs ≡ filter_map f (flat_map g xs)
filter_map_pieces f g [] = refl
filter_map_pieces f g (x ∷ xs) = ap (λ zs. filter_map f (g x) ++ zs) (filter_map_pieces f g xs) ∙ sym (filter_map-append f (g x) (flat_map g xs))

map_cons : {Y Z : Type 0} (h : Y → Z) (o : Option Y) (ys : List Y) → map h (cons_option o ys) ≡ cons_option (option_map h o) (map h ys)
map_cons h None ys = refl
map_cons h (Some y) ys = refl

pub map_filter_map : {X Y Z : Type 0} (h : Y → Z) (f : X → Option Y) (xs : List X) → map h (filter_map f xs) ≡ filter_map (λ x. option_map h (f x)) xs
map_filter_map h f [] = refl
map_filter_map h f (x ∷ xs) = map_cons h (f x) (filter_map f xs) ∙ ap (cons_option (option_map h (f x))) (map_filter_map h f xs)

filter_map_same : {X Y : Type 0} (f g : X → Option Y) (xs : List X) → ((x : X) → Has xs x → f x ≡ g x) → filter_map f xs ≡ filter_map g xs
filter_map_same f g [] h = refl
filter_map_same f g (x ∷ xs) h =
    ap (λ o. cons_option o (filter_map f xs)) (h x (inl refl)) ∙ ap (cons_option (g x)) (filter_map_same f g xs (λ y k. h y (inr k)))

-- the row at an address as wide as the object, and the addresses of some blocks
abbrev pub bare : Rows → ℕ → Place → Option (List Value)
bare rows width a = option_map (padded width) (rows a)

abbrev pub places_of : (obj first count : ℕ) → List Place
places_of obj first count = flat_map (block_places obj) (range_with_len first count)

bare_row : (width : ℕ) (a : Place) (o : Option (List Value))
    → option_map (λ (r : PlacedRow). r.row) (option_map {T = List Value} (λ row. record { addr = a; row = padded width row }) o) ≡ option_map (padded width) o
bare_row width a None = refl
bare_row width a (Some row) = refl

-- The rows of blocks without their addresses are the rows at the addresses of the blocks.
pub bare_rows : (rows : Rows) (obj width first count : ℕ) → without_places (rows_of_blocks rows obj width first count) ≡ filter_map (bare rows width) (places_of obj first count)
bare_rows rows obj width first count =
    ap without_places (filter_map_pieces (placed_row rows width) (block_places obj) (range_with_len first count))
    ∙ map_filter_map (λ (r : PlacedRow). r.row) (placed_row rows width) (places_of obj first count)
    ∙ filter_map_same (λ a. option_map (λ (r : PlacedRow). r.row) (placed_row rows width a)) (bare rows width) (places_of obj first count) (λ a h. bare_row width a (rows a))

-- A row that is as wide as the object is not padded more.
padded_twice : (width : ℕ) (row : List Value) → padded width (padded width row) ≡ padded width row
padded_twice width row = ap (λ n. padded width row ++ replicate n Null) none ∙ append-nil (padded width row)
  where
    none : width - length (padded width row) ≡ 0
    none =
        let whole : length (padded width row) ≡ length row + length (replicate (width - length row) Null) = length-append row (replicate (width - length row) Null) in
        let lacks : length (replicate (width - length row) Null) ≡ width - length row = length-replicate (width - length row) Null in
        omega arith

bare_twice : (width : ℕ) (o : Option (List Value)) → option_map (padded width) (option_map (padded width) o) ≡ option_map (padded width) o
bare_twice width None = refl
bare_twice width (Some row) = ap Some (padded_twice width row)

-- addresses are the same where the test says so, and only there
places_same : (a b : Place) → same_place a b ≡ true → a ≡ b
places_same a b same =
    let both = and_parts _ _ same in
    let first = and_parts _ _ both.0 in
    let o : a.obj ≡ b.obj = eqb-true a.obj b.obj first.0 in
    let n : a.block ≡ b.block = eqb-true a.block b.block first.1 in
    let s : a.slot ≡ b.slot = eqb-true a.slot b.slot both.1 in
    ap (λ (x : ℕ). place x a.block a.slot) o ∙ ap (λ (x : ℕ). place b.obj x a.slot) n ∙ ap (λ (x : ℕ). place b.obj b.block x) s

place_is_itself : (a : Place) → same_place a a ≡ true
place_is_itself a = and_from _ _ (and_from _ _ (eq-eqb a.obj a.obj refl) (eq-eqb a.block a.block refl)) (eq-eqb a.slot a.slot refl)

-- The row that columns have at one of their addresses is the row there.
module _ (rows : Rows) (width : ℕ) (a : Place) where
  none_in : (places : List Place) → rows a ≡ None → row_in (filter_map (placed_row rows width) places) a ≡ None
  none_in [] none = refl
  none_in (p ∷ ps) none = by_value (rows p) refl (none_in ps none)
    where
      by_value : (o : Option (List Value)) → rows p ≡ o → row_in (filter_map (placed_row rows width) ps) a ≡ None
          → row_in (cons_option (option_map {T = List Value} (λ row. record { addr = p; row = padded width row }) o) (filter_map (placed_row rows width) ps)) a ≡ None
      by_value None e ih = ih
      by_value (Some row) e ih = by_test (same_place a p) refl
        where
          by_test : (b : Bool) → same_place a p ≡ b → (if b then Some (padded width row) else row_in (filter_map (placed_row rows width) ps) a) ≡ None
          by_test true k = let both : None ≡ Some row = sym none ∙ ap rows (places_same a p k) ∙ e in absurd cc
          by_test false k = ih

  some_in : (row : List Value) (places : List Place) → rows a ≡ Some row → Has places a → row_in (filter_map (placed_row rows width) places) a ≡ Some (padded width row)
  some_in row [] some h = absurd h
  some_in row (p ∷ ps) some h = by_value (rows p) refl h (some_in row ps some)
    where
      by_value : (o : Option (List Value)) → rows p ≡ o → (p ≡ a) ⊎ Has ps a
          → (Has ps a → row_in (filter_map (placed_row rows width) ps) a ≡ Some (padded width row))
          → row_in (cons_option (option_map {T = List Value} (λ row. record { addr = p; row = padded width row }) o) (filter_map (placed_row rows width) ps)) a ≡ Some (padded width row)
      by_value None e (inl k) ih = let both : Some row ≡ None = sym some ∙ ap rows (sym k) ∙ e in absurd cc
      by_value None e (inr k) ih = ih k
      by_value (Some other) e k ih = by_test (same_place a p) refl k
        where
          by_test : (b : Bool) → same_place a p ≡ b → (p ≡ a) ⊎ Has ps a
              → (if b then Some (padded width other) else row_in (filter_map (placed_row rows width) ps) a) ≡ Some (padded width row)
          by_test true same k =
              let both : Some other ≡ Some row = sym e ∙ ap rows (sym (places_same a p same)) ∙ some in
              let rows_are : other ≡ row = cc in
              ap (λ (r : List Value). Some (padded width r)) rows_are
          by_test false other_place (inl k) = absurd (true≢false (sym (place_is_itself a) ∙ ap (same_place a) (sym k) ∙ other_place))
          by_test false other_place (inr k) = ih k

  row_within : (places : List Place) → Has places a → row_in (filter_map (placed_row rows width) places) a ≡ bare rows width a
  row_within places h = by_value (rows a) refl
    where
      by_value : (o : Option (List Value)) → rows a ≡ o → row_in (filter_map (placed_row rows width) places) a ≡ option_map (padded width) o
      by_value None e = none_in places e
      by_value (Some row) e = some_in row places e h

-- The addresses of an extent lie in it.
pub extent_holds : (obj extent : ℕ) (a : Place) → Has (extent_places obj extent) a → IsInExtent obj extent a
extent_holds obj extent a h =
    let b = has_flat_map_back (block_places obj) (range_with_len (16 * extent) 16) a h in
    let within = has_range_back 16 (16 * extent) b.0 b.1 in
    let slot = has_map_back (λ slot. place obj b.0 slot) (range_with_len 0 64) a b.2 in
    record {
      object = sym (ap (λ (p : Place). p.obj) slot.2);
      from = subst (λ (p : Place). 16 * extent ≤ p.block) slot.2 within.0;
      below = subst (λ (p : Place). p.block < 16 * extent + 16) slot.2 within.1;
    }

-- Of a scan and its next extent: what is gathered at an address is the committed row at the scan's SCN.
module _ (c : CoreState) (s : Scan) (i : Invariant c) (facts : LogFacts c.log c.frontier) (is : ScanIs c.log c.query s) where
  -- of a unit that covers the SCN and has its columns
  module _ (u : ColumnUnit) (columns : List PlacedRow) (covers : Covers c.log s.select.obj s.extents s.scn u) (ready : u.columns ≡ Some columns) where
    same_table : covers.built.table ≡ s.table
    same_table =
        let now : table_at c.log s.scn s.select.obj ≡ Some covers.built.table =
        facts.same_table s.select.obj u.snapshot s.scn covers.built.table covers.snapshot covers.built.defined covers.same in
        let both : Some covers.built.table ≡ Some s.table = sym now ∙ is.defined in
        cc

    columns_are : columns ≡ filter_map (placed_row (rows_at c.log u.snapshot) (length covers.built.table.kinds)) (next_places s)
    columns_are =
        let built : ColumnsAre (Some columns) (extent_rows (rows_at c.log u.snapshot) s.select.obj (length covers.built.table.kinds) s.extents) =
        subst (λ (o : Option (List PlacedRow)). ColumnsAre o (extent_rows (rows_at c.log u.snapshot) s.select.obj (length covers.built.table.kinds) s.extents)) ready covers.built.columns in
        built ∙ filter_map_pieces (placed_row (rows_at c.log u.snapshot) (length covers.built.table.kinds)) (block_places s.select.obj) (range_with_len (16 * s.extents) 16)

    -- at an address they have the row at the unit's snapshot, as wide as the object is now
    found_row : (a : Place) → Has (next_places s) a → row_in columns a ≡ bare (rows_at c.log u.snapshot) (length s.table.kinds) a
    found_row a h =
        ap (λ (rs : List PlacedRow). row_in rs a) columns_are
        ∙ row_within (rows_at c.log u.snapshot) (length covers.built.table.kinds) a (next_places s) h
        ∙ ap (λ (t : Table). option_map (padded (length t.kinds)) (rows_at c.log u.snapshot a)) same_table

    wide_row : (a : Place) → Has (next_places s) a → option_map (padded (length s.table.kinds)) (row_in columns a) ≡ row_in columns a
    wide_row a h =
        ap (λ (o : Option (List Value)). option_map (padded (length s.table.kinds)) o) (found_row a h)
        ∙ bare_twice (length s.table.kinds) (rows_at c.log u.snapshot a)
        ∙ sym (found_row a h)

    -- where it is not marked it has the row then
    column_row : (a : Place) → u.all ≡ false → u.marked a ≡ false → Has (next_places s) a
        → option_map (padded (length s.table.kinds)) (row_in columns a) ≡ bare (rows_at c.log s.scn) (length s.table.kinds) a
    column_row a partly clean h = wide_row a h ∙ found_row a h ∙ ap (λ (o : Option (List Value)). option_map (padded (length s.table.kinds)) o) (sym same_row)
      where
        untouched : NotTouched c.log u.snapshot s.scn a
        untouched t commit at above upto touches = by_cover (covers.marked t commit at above upto)
          where
            by_cover : IsCovered c.log t s.select.obj s.extents u → ⊥
            by_cover (inl whole) = true≢false (sym whole ∙ partly)
            by_cover (inr each) = true≢false (sym (each a touches (extent_holds s.select.obj s.extents a h)) ∙ clean)

        same_row : rows_at c.log s.scn a ≡ rows_at c.log u.snapshot a
        same_row = facts.same_row a u.snapshot s.scn covers.snapshot untouched

  -- what a look shows at an address is as wide as the object
  pub look_is_wide : (l : Look) → next_look c s ≡ Some l → (a : Place) → Has (next_places s) a → option_map (padded (length s.table.kinds)) (row_in l.rows a) ≡ row_in l.rows a
  look_is_wide l sees a h = by_unit (c.units s.select.obj s.extents) refl sees
    where
      by_unit : (unit : Option ColumnUnit) → c.units s.select.obj s.extents ≡ unit → look_at s.scn unit ≡ Some l
          → option_map (padded (length s.table.kinds)) (row_in l.rows a) ≡ row_in l.rows a
      by_unit None e k = let n : None ≡ Some l = k in absurd cc
      by_unit (Some u) e k = by_parts u.columns refl (not u.all && nat_le u.snapshot s.scn) refl k
        where
          by_parts : (columns : Option (List PlacedRow)) → u.columns ≡ columns → (usable : Bool) → (not u.all && nat_le u.snapshot s.scn) ≡ usable → look_if usable columns u.marked ≡ Some l
              → option_map (padded (length s.table.kinds)) (row_in l.rows a) ≡ row_in l.rows a
          by_parts None ready usable t k = let n : None ≡ Some l = k in absurd cc
          by_parts (Some columns) ready false t k = let n : None ≡ Some l = k in absurd cc
          by_parts (Some columns) ready true t k =
              subst (λ (rs : List PlacedRow). option_map (padded (length s.table.kinds)) (row_in rs a) ≡ row_in rs a) (rows_of columns k)
              (wide_row u columns (units_cover c s.select.obj s.extents s.scn u i e (leb-true u.snapshot s.scn (and_parts (not u.all) (nat_le u.snapshot s.scn) t).1) is.scn) ready a h)
            where
              rows_of : (columns : List PlacedRow) → Some (record { rows = columns; marked = u.marked }) ≡ Some l → columns ≡ l.rows
              rows_of columns k = cc

  gathered_row : (a : Place) → Has (next_places s) a → gathered_at (next_look c s) (rows_at c.log s.scn) (length s.table.kinds) a ≡ bare (rows_at c.log s.scn) (length s.table.kinds) a
  gathered_row a h = by_unit (c.units s.select.obj s.extents) refl
    where
      by_unit : (unit : Option ColumnUnit) → c.units s.select.obj s.extents ≡ unit
          → gathered_at (look_at s.scn unit) (rows_at c.log s.scn) (length s.table.kinds) a ≡ bare (rows_at c.log s.scn) (length s.table.kinds) a
      by_unit None e = refl
      by_unit (Some u) e = by_parts u.columns refl (not u.all && nat_le u.snapshot s.scn) refl
        where
          by_parts : (columns : Option (List PlacedRow)) → u.columns ≡ columns → (usable : Bool) → (not u.all && nat_le u.snapshot s.scn) ≡ usable
              → gathered_at (look_if usable columns u.marked) (rows_at c.log s.scn) (length s.table.kinds) a ≡ bare (rows_at c.log s.scn) (length s.table.kinds) a
          by_parts None ready usable k = refl
          by_parts (Some columns) ready false k = refl
          by_parts (Some columns) ready true k = by_mark (u.marked a) refl
            where
              partly : (b : Bool) → (not b) ≡ true → b ≡ false
              partly true n = sym n
              partly false n = refl

              parts : ((not u.all) ≡ true) × (nat_le u.snapshot s.scn ≡ true)
              parts = and_parts (not u.all) (nat_le u.snapshot s.scn) k

              by_mark : (b : Bool) → u.marked a ≡ b
                  → (if b then option_map (padded (length s.table.kinds)) (rows_at c.log s.scn a) else option_map (padded (length s.table.kinds)) (row_in columns a))
                  ≡ bare (rows_at c.log s.scn) (length s.table.kinds) a
              by_mark true m = refl
              by_mark false m =
                  column_row u columns (units_cover c s.select.obj s.extents s.scn u i e (leb-true u.snapshot s.scn parts.1) is.scn) ready a (partly u.all parts.0) m h

  next_rows : gathered (next_look c s) (rows_at c.log s.scn) (length s.table.kinds) (next_places s) ≡ filter_map (bare (rows_at c.log s.scn) (length s.table.kinds)) (next_places s)
  next_rows = filter_map_same (gathered_at (next_look c s) (rows_at c.log s.scn) (length s.table.kinds)) (bare (rows_at c.log s.scn) (length s.table.kinds)) (next_places s) gathered_row

-- The addresses of one extent more.
one_extent : (obj extents : ℕ) → places_of obj 0 (16 * (extents + 1)) ≡ places_of obj 0 (16 * extents) ++ extent_places obj extents
one_extent obj extents =
    let more : 16 * (extents + 1) ≡ 16 * extents + 16 = omega arith in
    let first : 0 + 16 * extents ≡ 16 * extents = omega arith in
    ap (places_of obj 0) more
    ∙ ap (flat_map (block_places obj)) (range_append (16 * extents) 16 0)
    ∙ flat_map-append (block_places obj) (range_with_len 0 (16 * extents)) (range_with_len (0 + 16 * extents) 16)
    ∙ ap (λ (n : ℕ). places_of obj 0 (16 * extents) ++ flat_map (block_places obj) (range_with_len n 16)) first

-- how many a value is
abbrev size : {X : Type 0} → Option X → ℕ
size None = 0
size (Some x) = 1

size_map : {X Y : Type 0} (f : X → Y) (o : Option X) → size (option_map f o) ≡ size o
size_map f None = refl
size_map f (Some x) = refl

size_cons : {X : Type 0} (o : Option X) (xs : List X) → length (cons_option o xs) ≡ size o + length xs
size_cons None xs = let e : length xs ≡ 0 + length xs = omega arith in e
size_cons (Some x) xs = let e : suc (length xs) ≡ 1 + length xs = omega arith in e

-- A row comes from the one or from the other.
one_of : (look : Option Look) (rows : Rows) (width : ℕ) (a : Place) → size (from_columns look a) + size (from_blocks look rows a) ≡ size (gathered_at look rows width a)
one_of None rows width a = let e : size (option_map (padded width) (rows a)) ≡ size (rows a) = size_map (padded width) (rows a) in omega arith
one_of (Some look) rows width a = by_test (look.marked a)
  where
    by_test : (b : Bool) → size (if b then None else row_in look.rows a) + size (if b then rows a else None)
        ≡ size (if b then option_map (padded width) (rows a) else option_map (padded width) (row_in look.rows a))
    by_test true = let e : size (option_map (padded width) (rows a)) ≡ size (rows a) = size_map (padded width) (rows a) in omega arith
    by_test false = let e : size (option_map (padded width) (row_in look.rows a)) ≡ size (row_in look.rows a) = size_map (padded width) (row_in look.rows a) in omega arith

pub counted_once : (look : Option Look) (rows : Rows) (width : ℕ) (places : List Place)
    → count_from_columns look places + count_from_blocks look rows places ≡ length (gathered look rows width places)
counted_once look rows width [] = refl
counted_once look rows width (p ∷ ps) =
    let ih : count_from_columns look ps + count_from_blocks look rows ps ≡ length (gathered look rows width ps) = counted_once look rows width ps in
    let column : count_from_columns look (p ∷ ps) ≡ size (from_columns look p) + count_from_columns look ps = size_cons (from_columns look p) (filter_map (from_columns look) ps) in
    let block : count_from_blocks look rows (p ∷ ps) ≡ size (from_blocks look rows p) + count_from_blocks look rows ps = size_cons (from_blocks look rows p) (filter_map (from_blocks look rows) ps) in
    let row : length (gathered look rows width (p ∷ ps)) ≡ size (gathered_at look rows width p) + length (gathered look rows width ps) = size_cons (gathered_at look rows width p) (filter_map (gathered_at look rows width) ps) in
    let one : size (from_columns look p) + size (from_blocks look rows p) ≡ size (gathered_at look rows width p) = one_of look rows width p in
    omega arith

scan_after : (c : CoreState) (s : Scan) → Invariant c → LogFacts c.log c.frontier → ScanIs c.log c.query s → s.extents < s.table.extents → ScanIs c.log c.query (scan_then c s)
scan_after c s i facts is left = record {
  scn = is.scn;
  defined = is.defined;
  columns = is.columns;
  types = is.types;
  extents = omega arith;
  rows = rows;
  split = split;
}
  where
    db : Rows
    db = rows_at c.log s.scn

    width : ℕ
    width = length s.table.kinds

    more : List (List Value)
    more = gathered (next_look c s) db width (next_places s)

    rows : s.rows ++ more ≡ without_places (rows_of_blocks db s.select.obj width 0 (16 * (s.extents + 1)))
    rows =
        ap (λ (rs : List (List Value)). rs ++ more) (is.rows ∙ bare_rows db s.select.obj width 0 (16 * s.extents))
        ∙ ap (λ (rs : List (List Value)). filter_map (bare db width) (places_of s.select.obj 0 (16 * s.extents)) ++ rs) (next_rows c s i facts is)
        ∙ sym (filter_map-append (bare db width) (places_of s.select.obj 0 (16 * s.extents)) (next_places s))
        ∙ ap (filter_map (bare db width)) (sym (one_extent s.select.obj s.extents))
        ∙ sym (bare_rows db s.select.obj width 0 (16 * (s.extents + 1)))

    split : s.col + count_from_columns (next_look c s) (next_places s) + (s.row + count_from_blocks (next_look c s) db (next_places s)) ≡ length (s.rows ++ more)
    split =
        let before : s.col + s.row ≡ length s.rows = is.split in
        let now : count_from_columns (next_look c s) (next_places s) + count_from_blocks (next_look c s) db (next_places s) ≡ length more = counted_once (next_look c s) db width (next_places s) in
        let whole : length (s.rows ++ more) ≡ length s.rows + length more = length-append s.rows more in
        omega arith

pub scan_begin_keeps : (session : ℕ) (select : Select) → Keeps (λ c new. BeginsScan c session select new)
scan_begin_keeps session select facts c new r i = subst Invariant (sym r.effect)
    (one_session_keeps c r.can.place Free (Scanning (new_scan select c.query r.table)) i r.can.free.found refl tt (record {
      scn = omega arith;
      defined = r.defined;
      columns = r.columns;
      types = r.types;
      extents = omega arith;
      rows = refl;
      split = refl;
    }))

pub scan_begin_precise : (session : ℕ) (select : Select) → KeepsPrecise (λ c new. BeginsScan c session select new)
scan_begin_precise session select facts c new r i precise = subst Precise (sym r.effect) precise

pub gather_keeps : (session : ℕ) → Keeps (λ c new. Gathers c session new)
gather_keeps session facts c new r i = subst Invariant (sym r.effect)
    (one_session_keeps c r.place (Scanning r.scan) (Scanning (scan_then c r.scan)) i r.is.found refl tt
    (scan_after c r.scan i (facts c.log c.frontier i.log) (i.scans r.place r.scan r.is.found) r.left))

pub gather_precise : (session : ℕ) → KeepsPrecise (λ c new. Gathers c session new)
gather_precise session facts c new r i precise = subst Precise (sym r.effect) precise

pub scan_end_keeps : (session : ℕ) (said : Reply) → Keeps (λ c new. EndsScan c session said new)
scan_end_keeps session said facts c new r i = subst Invariant (sym r.effect)
    (one_session_keeps c r.place (Scanning r.scan) Free i r.is.found refl tt tt)

pub scan_end_precise : (session : ℕ) (said : Reply) → KeepsPrecise (λ c new. EndsScan c session said new)
scan_end_precise session said facts c new r i precise = subst Precise (sym r.effect) precise
