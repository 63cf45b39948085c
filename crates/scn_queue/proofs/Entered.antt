-- What a list holds after an entry has come into it.
use Rattle.std.proofs.Common.{◌≡◌, ℕ, ◌≤◌, cond, List, [], ◌∷◌, ◌++◌, ap, ◌∙◌, refl}
use Rattle.std.specs.List.{AllByRecursion}
use Rattle.std.proofs.lemmas.Bool.{le-leb, le-ltb}
use Rattle.scn_queue.specs.Queue.{upto, above, entered}

module _ {X : Type 0} (scn : X → ℕ) (through : ℕ) where
  -- all entries with SCNs up to one are among those up to it
  pub upto_all : (xs : List X) → AllByRecursion (λ x. scn x ≤ through) xs → upto scn through xs ≡ xs
  upto_all [] h = refl
  upto_all (x ∷ xs) h = ap (λ b. cond b (x ∷ upto scn through xs) (upto scn through xs)) (le-leb (scn x) through h.0) ∙ ap (λ l. x ∷ l) (upto_all xs h.1)

  -- and none of them is above it
  pub above_none : (xs : List X) → AllByRecursion (λ x. scn x ≤ through) xs → above scn through xs ≡ []
  above_none [] h = refl
  above_none (x ∷ xs) h = ap (λ b. cond b (x ∷ above scn through xs) (above scn through xs)) (le-ltb through (scn x) h.0) ∙ above_none xs h.1

-- an entry that no other is above comes last
pub entered_last : {X : Type 0} (scn : X → ℕ) (x : X) (xs : List X) → AllByRecursion (λ y. scn y ≤ scn x) xs → entered scn x xs ≡ xs ++ x ∷ []
entered_last scn x xs h = ap (λ l. l ++ x ∷ above scn (scn x) xs) (upto_all scn (scn x) xs h) ∙ ap (λ l. xs ++ x ∷ l) (above_none scn (scn x) xs h)
