use Rattle.std.proofs.Common.{IsUtf8, IsOk, Ok, Err, Result, refl, sym, subst}
use Rattle.std.specs.Result.{MatchResult}
use Rattle.answer_lines.proofs.Cells.{text_utf8}
use Rattle.answer_lines.proofs.cell.str_of.Goals as goal

is_ok : {T E : Type 0} (P : T → Type 0) (Q : E → Type 0) (r : Result T E) → MatchResult r P Q → ((e : E) → Q e → ⊥) → IsOk r
is_ok P Q (Ok x) h k = refl
is_ok P Q (Err e) h k = absurd (k e h)

pub unwrap-requires : goal.unwrap-requires
unwrap-requires c =
    let utf8 = subst IsUtf8 (sym c.as_bytes.ensures.value) (text_utf8 c.args.value.now c.as_bytes.ensures.text) in
    is_ok _ _ c.from_utf8.result c.from_utf8.ensures.cases (λ e bad. bad.0 utf8)
