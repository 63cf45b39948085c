-- One more element of a list, in a loop over it.
use Rattle.std.proofs.Common.{◌≡◌, ℕ, ◌+◌, ◌<◌, List, [], ◌∷◌, ◌++◌, length, get_or, take, sym, ap, subst, ◌∙◌, append_assoc}
use Rattle.std.specs.List.{flat_map, AllByRecursion}
use Rattle.std.proofs.lemmas.List.{append-nil, take_more}

taken : {X : Type 0} (xs : List X) (i : ℕ) (x : X) → i < length xs → x ≡ get_or xs i x → take (i + 1) xs ≡ take i xs ++ x ∷ []
taken {X = X} xs i x lt is = take_more xs i x lt ∙ ap (λ (y : X). take i xs ++ y ∷ []) (sym is)

flat_snoc : {X : Type 0} (f : X → List ℕ) (xs : List X) (x : X) → flat_map f (xs ++ x ∷ []) ≡ flat_map f xs ++ f x
flat_snoc f [] x = append-nil (f x)
flat_snoc f (y ∷ ys) x = ap (λ (l : List ℕ). f y ++ l) (flat_snoc f ys x) ∙ sym (append_assoc (f y) (flat_map f ys) (f x))

pub flat_more : {X : Type 0} (f : X → List ℕ) (xs : List X) (i : ℕ) (x : X) (old new : List ℕ) → i < length xs → x ≡ get_or xs i x → old ≡ flat_map f (take i xs) → new ≡ old ++ f x → new ≡ flat_map f (take (i + 1) xs)
flat_more {X = X} f xs i x old new lt is so_far e =
    e ∙ ap (λ (l : List ℕ). l ++ f x) so_far ∙ sym (flat_snoc f (take i xs) x) ∙ ap (λ (l : List X). flat_map f l) (sym (taken xs i x lt is))

all_snoc : {X : Type 0} (P : X → Type 0) (xs : List X) (x : X) → AllByRecursion P xs → P x → AllByRecursion P (xs ++ x ∷ [])
all_snoc P [] x h p = (p, tt)
all_snoc P (y ∷ ys) x h p = (h.0, all_snoc P ys x h.1 p)

pub all_more : {X : Type 0} (P : X → Type 0) (xs : List X) (i : ℕ) (x : X) → i < length xs → x ≡ get_or xs i x → AllByRecursion P (take i xs) → P x → AllByRecursion P (take (i + 1) xs)
all_more {X = X} P xs i x lt is h p = subst (λ (l : List X). AllByRecursion P l) (sym (taken xs i x lt is)) (all_snoc P (take i xs) x h p)

-- three pieces that were added
pub in_three : (o a b c p q r : List ℕ) → a ≡ o ++ p → b ≡ a ++ q → c ≡ b ++ r → c ≡ o ++ ((p ++ q) ++ r)
in_three o a b c p q r ea eb ec = ec ∙ ap (λ (l : List ℕ). l ++ r) (eb ∙ ap (λ (l : List ℕ). l ++ q) ea) ∙ simp append_assoc
