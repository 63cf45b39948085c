-- A literal is told from what follows it where it can not go on.
use Rattle.std.proofs.Common.{◌≡◌, List, ◌++◌, ℕ, get_or, drop, refl, sym, ap, ◌∙◌}
use Rattle.adg_base.specs.declared.value.Value.{Value}
use Rattle.adg_base.specs.declared.value.Value.TheVariants.{Null, Int, Text}
use Rattle.adg_model.specs.Command.{literal_bytes}
use Rattle.adg_model.proofs.CommandLaws.{signed_apart, signed_no_quote, quoted_apart, quoted_laid}
use Rattle.query_text.specs.Parts.{IsLiteral, EndsLiteral}

pub literal_apart : (a b : Value) (x y : List ℕ) → IsLiteral a → IsLiteral b → EndsLiteral a x → EndsLiteral b y → literal_bytes a ++ x ≡ literal_bytes b ++ y → (a ≡ b) × (x ≡ y)
literal_apart Null b x y h k ex ey e = absurd (h.1 refl)
literal_apart a Null x y h k ex ey e = absurd (k.1 refl)
literal_apart (Int a) (Int b) x y h k ex ey e = let p = signed_apart a b x y h.0 k.0 ex ey e in (ap Int p.0, p.1)
literal_apart (Int a) (Text t) x y h k ex ey e = absurd (signed_no_quote a x h.0 (ap (λ l. get_or l 0 0) e))
literal_apart (Text s) (Int b) x y h k ex ey e = absurd (signed_no_quote b y k.0 (ap (λ l. get_or l 0 0) (sym e)))
literal_apart (Text s) (Text t) x y h k ex ey e =
    let p = quoted_apart s t x y h.0 k.0 (ap (drop 1) (sym (quoted_laid s x) ∙ e ∙ quoted_laid t y)) in
    (ap Text p.0, p.1)
