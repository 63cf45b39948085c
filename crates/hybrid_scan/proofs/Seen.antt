-- What is seen by a look that covers an SCN.
use Rattle.std.proofs.Common.{◌≡◌, ℕ, zero, suc, ◌+◌, ◌<◌, ◌≤◌, Bool, true, false, if◌then◌else◌, List, map, Some, None, option_map, refl, sym, ap, ap₂, subst, ◌∙◌, arith, true≢false}
use Rattle.std.specs.List.{AllByRecursion, range_with_len}
use Rattle.std.proofs.lemmas.Bool.Decides.{nat_tests}
use Rattle.adg_base.specs.Address.{Place, extent_places}
use Rattle.adg_base.specs.declared.log.LogEntry.{LogEntry}
use Rattle.adg_model.specs.Database.{Rows, rows_at}
use Rattle.adg_model.specs.Query.{padded}
use Rattle.adg_model.proofs.LogLaws.{each_weaker}
use Rattle.column_codec.specs.Extent.{is_in_extent, row_in}
use Rattle.column_units.specs.Unit.{marks}
use Rattle.column_units.specs.Look.{Look}
use Rattle.hybrid_scan.specs.Scan.{wide, seen, extent_rows}
use Rattle.hybrid_scan.specs.Covers.{Covers, FitsScan, LooksGiveRows}
use Rattle.hybrid_scan.specs.Progress.{nth_place}
use Rattle.hybrid_scan.proofs.Places.{places_are}
use Rattle.hybrid_scan.proofs.Blocks.{filter_map_same}
use Rattle.hybrid_scan.proofs.Unchanged.{row_unchanged}
use Rattle.hybrid_scan.proofs.Defined.{same_width}

abbrev IsIn : ℕ → ℕ → Place → Type 0
IsIn obj extent a = is_in_extent obj extent a ≡ true

nth_in : (obj extent i : ℕ) → i < 1024 → IsIn obj extent (nth_place obj extent i)
nth_in obj extent i h = grind (arith, nat_tests)

all_in_from : (obj extent k n : ℕ) → k + n ≤ 1024 → AllByRecursion (IsIn obj extent) (map (nth_place obj extent) (range_with_len k n))
all_in_from obj extent k zero h = tt
all_in_from obj extent k (suc n) h = (nth_in obj extent k (omega (arith, h)), all_in_from obj extent (k + 1) n (omega (arith, h)))

all_in : (obj extent : ℕ) → AllByRecursion (IsIn obj extent) (extent_places obj extent)
all_in obj extent = subst (AllByRecursion (IsIn obj extent)) (sym (places_are obj extent)) (all_in_from obj extent 0 1024 (omega arith))

seen_is : (log : List LogEntry) (look : Look) (width : ℕ) (store : Rows) (obj extent q : ℕ) → FitsScan log (Some look) width store obj extent q
    → (a : Place) → IsIn obj extent a → seen look width store a ≡ wide width (rows_at log q) a
seen_is log look width store obj extent q fits a within = by_mark (marks look.marked a) refl
  where
    s : ℕ
    s = fits.covers.0

    covers : Covers log obj extent s q look.columns (λ a. marks look.marked a ≡ true)
    covers = fits.covers.1

    by_mark : (b : Bool) → marks look.marked a ≡ b → seen look width store a ≡ wide width (rows_at log q) a
    by_mark true m = ap (λ b. if b then wide width store a else row_in look.columns a) m ∙ ap (option_map (padded width)) (fits.store_has a within)
    by_mark false m =
        let same = row_unchanged log fits.frontier s q a fits.is_log covers.reached (λ t e in_log is above upto touches. true≢false (sym (covers.marks t e in_log is above upto a touches within) ∙ m)) in
        let as_wide = same_width log fits.frontier obj s q covers.rows.width width fits.is_log covers.reached covers.standing covers.rows.defined fits.defined in
        ap (λ b. if b then wide width store a else row_in look.columns a) m ∙ covers.rows.rows a within ∙ ap₂ (λ w row. option_map (padded w) row) as_wide (sym same)

pub looks_give_rows : LooksGiveRows
unfolding extent_rows
looks_give_rows None width store obj extent q log fits =
    filter_map_same (wide width store) (wide width (rows_at log q)) (extent_places obj extent)
    (each_weaker (IsIn obj extent) (λ a. wide width store a ≡ wide width (rows_at log q) a) (λ a within. ap (option_map (padded width)) (fits.store_has a within)) (extent_places obj extent) (all_in obj extent))
looks_give_rows (Some look) width store obj extent q log fits =
    filter_map_same (seen look width store) (wide width (rows_at log q)) (extent_places obj extent)
    (each_weaker (IsIn obj extent) (λ a. seen look width store a ≡ wide width (rows_at log q) a) (seen_is log look width store obj extent q fits) (extent_places obj extent) (all_in obj extent))
