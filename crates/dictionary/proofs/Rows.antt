-- Rows and the kinds of columns.
use Rattle.std.proofs.Common.{◌≡◌, suc, Bool, true, false, ◌&&◌, List, [], ◌∷◌, length, refl, ap}
use Rattle.adg_base.specs.declared.value.ColKind.{ColKind}
use Rattle.adg_base.specs.declared.value.Value.{Value}
use Rattle.adg_model.specs.Sound.{fits_kind, fits_row}

-- a row of another length fits nothing
pub fits_row_length : (row : List Value) (kinds : List ColKind) → (length row ≡ length kinds → ⊥) → fits_row row kinds ≡ false
fits_row_length [] [] h = absurd (h refl)
fits_row_length [] (k ∷ ks) h = refl
fits_row_length (v ∷ vs) [] h = refl
fits_row_length (v ∷ vs) (k ∷ ks) h = by_test (fits_kind v k) (fits_row_length vs ks (λ e. h (ap suc e)))
  where
    by_test : (b : Bool) → fits_row vs ks ≡ false → (b && fits_row vs ks) ≡ false
    by_test true e = e
    by_test false e = refl
