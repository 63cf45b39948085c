-- What a call tells where it ends in an error or lends an element.
use Rattle.std.proofs.Common.{◌≡◌, ℕ, true, List, length, get_or, Some, sym, ap, ◌∙◌, subst}
use Rattle.std.specs.Prelude.{Result, Ok, Err, OnErr, nat_lt}
use Rattle.std.proofs.lemmas.Bool.{ltb-true}
use Rattle.std.proofs.lemmas.Option.{slice_get-get_or}
use Rattle.core_rules.specs.State.{At}

-- what holds in any case holds where there is an error
pub at_err : {T E P : Type 0} (r : Result T E) → P → OnErr r P
at_err (Ok x) p = tt
at_err (Err e) p = p

-- an element that is lent stands at its place
pub lent_at : {X : Type 0} (xs ys : List X) (i : ℕ) (x : X) → xs ≡ ys → true ≡ nat_lt i (length xs) → x ≡ get_or xs i x → At ys i x
lent_at xs ys i x same within is = subst (λ l. At l i x) same (slice_get-get_or xs i x (ltb-true i (length xs) (sym within)) ∙ ap Some (sym is))
