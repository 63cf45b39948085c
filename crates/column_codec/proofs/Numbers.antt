-- Values without a text.
use Rattle.std.proofs.Common.{◌≡◌, ℕ, ◌<◌, Bool, true, false, List, get_or, length, refl, sym, ap, ◌∙◌, true≢false}
use Rattle.std.specs.List.{list_any}
use Rattle.std.proofs.lemmas.List.Folds.{list_any_at}
use Rattle.adg_base.specs.declared.value.Value.{Value}
use Rattle.column_codec.specs.Column.{is_text}

-- where none is a text, the one at an index is none
pub no_text_at : (values : List Value) (i : ℕ) (v : Value) → list_any is_text values ≡ false → i < length values → v ≡ get_or values i v → is_text v ≡ false
no_text_at values i v e within is = by_test (is_text v) refl
  where
    by_test : (b : Bool) → is_text v ≡ b → is_text v ≡ false
    by_test false p = p
    by_test true p = absurd (true≢false (sym (list_any_at is_text values i v within (sym (ap is_text is) ∙ p)) ∙ e))
