-- What a read of a list at a place says of the element there.
use Rattle.std.proofs.Common.{◌≡◌, ℕ, zero, suc, ◌<◌, List, [], ◌∷◌, length, get_or, Some, None, refl, sym, ap, arith}
use Rattle.std.specs.Prelude.{slice_get}
use Rattle.core_rules.specs.State.{At}

pub at_read : {X : Type 0} (xs : List X) (n : ℕ) (x : X) → n < length xs → x ≡ get_or xs n x → At xs n x
at_read [] n x l e = absurd (omega arith)
at_read (y ∷ xs) zero x l e = ap Some (sym e)
at_read (y ∷ xs) (suc n) x l e = at_read xs n x (omega arith) e

pub none_read : {X : Type 0} (xs : List X) (n : ℕ) → (n < length xs → ⊥) → slice_get xs n ≡ None
none_read [] n l = refl
none_read (y ∷ xs) zero l = absurd (l (omega arith))
none_read (y ∷ xs) (suc n) l = none_read xs n (λ k. l (omega arith))
