-- What a scan gathers of an extent is what the hybrid scan gives.
use Rattle.std.proofs.Common.{◌≡◌, ℕ, ◌+◌, suc, Bool, true, false, cond, List, [], ◌∷◌, length, Option, Some, None, inl, inr, refl, sym, ap, ◌∙◌, subst, true≢false}
use Rattle.std.specs.Prelude.{option_map, if◌then◌else◌, not, nat_le, ◌&&◌}
use Rattle.std.specs.List.{filter_map, cons_option}
use Rattle.adg_base.specs.Address.{Place, same_place, extent_places}
use Rattle.adg_base.specs.declared.value.Value.{Value}
use Rattle.adg_model.specs.Database.{Rows}
use Rattle.adg_model.specs.Query.{padded}
use Rattle.column_codec.specs.Values.{row_at}
use Rattle.column_codec.specs.Extent.{PlacedColumns, is_in_extent, placed_from, placed_rows, found_from}
use Rattle.column_codec.specs.Extent as codec
use Rattle.column_units.specs.Unit.{marks}
use Rattle.column_units.specs.Look.{Look as OwnLook, look_in}
use Rattle.column_units.specs.Look as own
use Rattle.column_units.specs.declared.unit.Unit.{Unit as OwnUnit}
use Rattle.column_units.specs.declared.unit.UnitState.{UnitState}
use Rattle.column_units.specs.declared.unit.UnitState.TheVariants.{Loading, Ready}
use Rattle.core_rules.specs.State.{ColumnUnit}
use Rattle.standby_core.specs.Parts.{rows_shown, ShowsUnit}
use Rattle.hybrid_scan.specs.Scan.{wide, extent_rows, scanned, from_store}
use Rattle.core_rules.specs.Scans.{Look, look_if, look_at, row_in, gathered_at, gathered, from_blocks, count_from_blocks}
use Rattle.core_rules.proofs.Lists.{Has}

-- the row at an address of placed rows is that of their columns
row_in_from : (place : ℕ) (columns : List (List Value)) (addresses : List Place) (a : Place) → row_in (placed_from place columns addresses) a ≡ found_from place columns addresses a
row_in_from place columns [] a = refl
row_in_from place columns (b ∷ more) a = ap (λ o. if same_place a b then Some (row_at columns place) else o) (row_in_from (place + 1) columns more a)

pub row_in_placed : (c : PlacedColumns) (a : Place) → row_in (placed_rows c) a ≡ codec.row_in c a
row_in_placed c a = row_in_from 0 c.columns c.addresses a

filter_map_same : {X Y : Type 0} (f g : X → Option Y) (xs : List X) → ((x : X) → Has xs x → f x ≡ g x) → filter_map f xs ≡ filter_map g xs
filter_map_same f g [] h = refl
filter_map_same f g (x ∷ xs) h = ap (λ o. cons_option o (filter_map f xs)) (h x (inl refl)) ∙ ap (cons_option (g x)) (filter_map_same f g xs (λ y k. h y (inr k)))

filter_map_length : {X Y Z : Type 0} (f : X → Option Y) (g : X → Option Z) (m : Y → Z) (xs : List X) → ((x : X) → Has xs x → g x ≡ option_map m (f x)) → length (filter_map f xs) ≡ length (filter_map g xs)
filter_map_length f g m [] h = refl
filter_map_length {X} {Y} {Z} f g m (x ∷ xs) h = step (f x) (g x) (h x (inl refl)) (filter_map_length f g m xs (λ y k. h y (inr k)))
  where
    step : (o : Option Y) (p : Option Z) → p ≡ option_map m o → length (filter_map f xs) ≡ length (filter_map g xs) → length (cons_option o (filter_map f xs)) ≡ length (cons_option p (filter_map g xs))
    step None p e ih = ih ∙ ap (λ q. length (cons_option q (filter_map g xs))) (sym e)
    step (Some y) p e ih = ap suc ih ∙ ap (λ q. length (cons_option q (filter_map g xs))) (sym e)

-- two looks at an extent show the same rows and marks
abbrev pub SameLook : (obj extent : ℕ) → Option OwnLook → Option Look → Type 0
SameLook obj extent None None = Unit {0}
SameLook obj extent None (Some l) = ⊥
SameLook obj extent (Some x) None = ⊥
SameLook obj extent (Some x) (Some l) = record {
  rows : l.rows ≡ placed_rows x.columns;
  marked : (a : Place) → Has (extent_places obj extent) a → l.marked a ≡ marks x.marked a;
}

-- the rows of a look are as wide as the object
abbrev pub AsWide : (obj extent width : ℕ) → Option OwnLook → Type 0
AsWide obj extent width None = Unit {0}
AsWide obj extent width (Some x) = (a : Place) → Has (extent_places obj extent) a → option_map (padded width) (codec.row_in x.columns a) ≡ codec.row_in x.columns a

module _ (obj extent width : ℕ) (store rows : Rows) (has : (a : Place) → Has (extent_places obj extent) a → store a ≡ rows a) where
  pub gathered_is : (look : Option OwnLook) (l : Option Look) → SameLook obj extent look l → AsWide obj extent width look → gathered l rows width (extent_places obj extent) ≡ scanned look width store obj extent
  unfolding extent_rows
  gathered_is None None same fit = filter_map_same (gathered_at None rows width) (wide width store) (extent_places obj extent) (λ a k. ap (option_map (padded width)) (sym (has a k)))
  gathered_is None (Some l) same fit = absurd same
  gathered_is (Some x) None same fit = absurd same
  gathered_is (Some x) (Some l) same fit = filter_map_same (gathered_at (Some l) rows width) (λ a. if marks x.marked a then wide width store a else codec.row_in x.columns a) (extent_places obj extent) at
    where
      at : (a : Place) → Has (extent_places obj extent) a → gathered_at (Some l) rows width a ≡ (if marks x.marked a then wide width store a else codec.row_in x.columns a)
      at a k =
          ap (λ b. cond b (option_map (padded width) (rows a)) (option_map (padded width) (row_in l.rows a))) (same.marked a k)
          ∙ ap (λ o. cond (marks x.marked a) (option_map (padded width) o) (option_map (padded width) (row_in l.rows a))) (sym (has a k))
          ∙ ap (λ o. cond (marks x.marked a) (wide width store a) o)
          (ap (λ rs. option_map (padded width) (row_in rs a)) same.rows ∙ ap (option_map (padded width)) (row_in_placed x.columns a) ∙ fit a k)

  pub blocks_is : (look : Option OwnLook) (l : Option Look) → SameLook obj extent look l → count_from_blocks l rows (extent_places obj extent) ≡ length (from_store look width store obj extent)
  unfolding extent_rows
  blocks_is None None same = filter_map_length (from_blocks None rows) (wide width store) (padded width) (extent_places obj extent) (λ a k. ap (option_map (padded width)) (has a k))
  blocks_is None (Some l) same = absurd same
  blocks_is (Some x) None same = absurd same
  blocks_is (Some x) (Some l) same = filter_map_length (from_blocks (Some l) rows) (λ a. if marks x.marked a then wide width store a else None) (padded width) (extent_places obj extent) (λ a k. by a k (l.marked a) (marks x.marked a) (same.marked a k))
    where
      by : (a : Place) → Has (extent_places obj extent) a → (b m : Bool) → b ≡ m → cond m (wide width store a) None ≡ option_map (padded width) (cond b (rows a) None)
      by a k true true e = ap (option_map (padded width)) (has a k)
      by a k true false e = absurd (true≢false e)
      by a k false true e = absurd (true≢false (sym e))
      by a k false false e = refl

-- a look at a unit is that at the unit that it shows
module _ (obj extent : ℕ) where
  look_if_shown : (usable : Bool) (state : UnitState) (map : List ℕ) (marked : Place → Bool) → ((a : Place) → Has (extent_places obj extent) a → marked a ≡ marks map a)
      → SameLook obj extent (look_in usable map state) (look_if usable (rows_shown state) marked)
  look_if_shown usable Loading map marked h = tt
  look_if_shown false (Ready columns) map marked h = tt
  look_if_shown true (Ready columns) map marked h = record { rows = refl; marked = h }

  pub look_shown : (scn : ℕ) (x : OwnUnit) (u : ColumnUnit) → ShowsUnit x u → x.obj ≡ obj → x.extent ≡ extent → ((a : Place) → Has (extent_places obj extent) a → is_in_extent obj extent a ≡ true)
      → SameLook obj extent (own.look_at scn x) (look_at scn (Some u))
  look_shown scn x u h same_obj same_extent within =
      let test : (not x.all && nat_le x.snapshot scn) ≡ (not u.all && nat_le u.snapshot scn) = ap (λ b. not b && nat_le x.snapshot scn) h.all ∙ ap (λ n. not u.all && nat_le n scn) h.snapshot in
      subst (λ o. SameLook obj extent (own.look_at scn x) (look_if (not u.all && nat_le u.snapshot scn) o u.marked)) h.columns
      (subst (λ b. SameLook obj extent (own.look_at scn x) (look_if b (rows_shown x.state) u.marked)) test
      (look_if_shown (not x.all && nat_le x.snapshot scn) x.state x.map u.marked marked))
    where
      marked : (a : Place) → Has (extent_places obj extent) a → u.marked a ≡ marks x.map a
      marked a k =
          let here : is_in_extent x.obj x.extent a ≡ true = ap (λ n. is_in_extent n x.extent a) same_obj ∙ ap (λ n. is_in_extent obj n a) same_extent ∙ within a k in
          sym (h.marked a) ∙ ap (λ b. b && marks x.map a) here
