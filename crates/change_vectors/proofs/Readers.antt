-- A reader and a spelling that belong together: what is read is spelled so, and what is spelled so is
-- read again, whatever follows.
use Rattle.std.proofs.Common.{◌≡◌, ℕ, zero, suc, List, [], ◌∷◌, ◌++◌, length, Option, Some, None, refl, sym, ap, subst, ◌∙◌, append_assoc}
use Rattle.std.specs.List.{flat_map, AllByRecursion}
use Rattle.std.proofs.lemmas.List.Concat.{flat_map-cons}
use Rattle.adg_model.proofs.Bytes.{IsBytes}
use Rattle.change_vectors.specs.Reading.{◌>>=◌, many_at}

pub IsBytes_rest : (b : ℕ) (bytes : List ℕ) → IsBytes (b ∷ bytes) → IsBytes bytes
IsBytes_rest b bytes h i = h (suc i)

abbrev pub some : {A : Type 0} → A → Option A
some x = Some x

pub some_is : {A : Type 0} (x y : A) → some x ≡ some y → x ≡ y
some_is x y e = cc

-- the value of a step that did not fail
pub bind_some : {A B : Type 0} (r : Option A) (f : A → Option B) (y : B) → (r >>= f) ≡ Some y → (x : A) × (r ≡ Some x) × (f x ≡ Some y)
bind_some (Some x) f y e = (x, refl, e)
bind_some None f y e = absurd cc

-- what a reader took from the front
pub record Takes (bytes text rest : List ℕ) : Type 0 where
  pub parts : bytes ≡ text ++ rest
  pub rest_fits : IsBytes rest

pub Takes_then : (a x b y c : List ℕ) → Takes a x b → Takes b y c → Takes a (x ++ y) c
Takes_then a x b y c p q = record { parts = p.parts ∙ ap (λ (t : List ℕ). x ++ t) q.parts ∙ sym (append_assoc x y c); rest_fits = q.rest_fits }

pub record Reads {X : Type 0} (read : List ℕ → Option (X × List ℕ)) (spell : X → List ℕ) (Is : X → Type 0) : Type 0 where
  pub takes : (bytes : List ℕ) (x : X) (rest : List ℕ) → IsBytes bytes → read bytes ≡ Some (x, rest) → Takes bytes (spell x) rest × Is x
  pub again : (x : X) (rest : List ℕ) → Is x → read (spell x ++ rest) ≡ Some (x, rest)

-- what a reader took before another reader went on
pub record Step {X : Type 0} {Y : Type 0} (spell : X → List ℕ) (Is : X → Type 0) (f : X × List ℕ → Option Y) (bytes : List ℕ) (y : Y) : Type 0 where
  pub value : X
  pub rest : List ℕ
  pub took : Takes bytes (spell value) rest
  pub good : Is value
  pub later : f (value, rest) ≡ Some y

step_of : {X Y : Type 0} (read : List ℕ → Option (X × List ℕ)) (spell : X → List ℕ) (Is : X → Type 0) (reads : Reads read spell Is) (f : X × List ℕ → Option Y) (bytes : List ℕ) (y : Y) (r : Option (X × List ℕ)) → IsBytes bytes → read bytes ≡ r → (r >>= f) ≡ Some y → Step spell Is f bytes y
step_of read spell Is reads f bytes y (Some x) fits is e =
    let t = reads.takes bytes x.0 x.1 fits is in
    record { value = x.0; rest = x.1; took = t.0; good = t.1; later = e }
step_of read spell Is reads f bytes y None fits is e = absurd cc

pub step : {X Y : Type 0} (read : List ℕ → Option (X × List ℕ)) (spell : X → List ℕ) (Is : X → Type 0) (reads : Reads read spell Is) (f : X × List ℕ → Option Y) (bytes : List ℕ) (y : Y) → IsBytes bytes → (read bytes >>= f) ≡ Some y → Step spell Is f bytes y
step read spell Is reads f bytes y fits e = step_of read spell Is reads f bytes y (read bytes) fits refl e

-- no spelling begins another
pub apart : {X : Type 0} (read : List ℕ → Option (X × List ℕ)) (spell : X → List ℕ) (Is : X → Type 0) → Reads read spell Is → (a b : X) (x y : List ℕ) → Is a → Is b → spell a ++ x ≡ spell b ++ y → (a ≡ b) × (x ≡ y)
apart {X = X} read spell Is reads a b x y p q e =
    let both : some (a, x) ≡ some (b, y) = sym (reads.again a x p) ∙ ap read e ∙ reads.again b y q in
    let pair : (a, x) ≡ (b, y) = some_is (a, x) (b, y) both in
    (ap (λ (z : X × List ℕ). z.0) pair, ap (λ (z : X × List ℕ). z.1) pair)

-- so many things, one after another
abbrev pub AreMany : {X : Type 0} → (X → Type 0) → ℕ → List X → Type 0
AreMany Is n xs = (length xs ≡ n) × AllByRecursion Is xs

many_take : {X : Type 0} (read : List ℕ → Option (X × List ℕ)) (spell : X → List ℕ) (Is : X → Type 0) (reads : Reads read spell Is) (n : ℕ) (bytes : List ℕ) (xs : List X) (rest : List ℕ) → IsBytes bytes → many_at read n bytes ≡ Some (xs, rest) → Takes bytes (flat_map spell xs) rest × AreMany Is n xs
unfolding many_at
many_take {X = X} read spell Is reads zero bytes xs rest fits e =
    subst (λ (y : List X × List ℕ). Takes bytes (flat_map spell y.0) y.1 × AreMany Is 0 y.0) (some_is ([], bytes) (xs, rest) e) (record { parts = refl; rest_fits = fits }, (refl, tt))
many_take {X = X} read spell Is reads (suc n) bytes xs rest fits e =
    let a = step read spell Is reads (λ first. many_at read n first.1 >>= λ others. Some (first.0 ∷ others.0, others.1)) bytes (xs, rest) fits e in
    let b = bind_some (many_at read n a.rest) (λ others. Some (a.value ∷ others.0, others.1)) (xs, rest) a.later in
    let second = many_take read spell Is reads n a.rest b.0.0 b.0.1 a.took.rest_fits b.1 in
    let both = Takes_then bytes (spell a.value) a.rest (flat_map spell b.0.0) b.0.1 a.took second.0 in
    subst (λ (y : List X × List ℕ). Takes bytes (flat_map spell y.0) y.1 × AreMany Is (suc n) y.0) (some_is (a.value ∷ b.0.0, b.0.1) (xs, rest) b.2) (rw flat_map-cons both, (ap suc second.1.0, (a.good, second.1.1)))

many_again : {X : Type 0} (read : List ℕ → Option (X × List ℕ)) (spell : X → List ℕ) (Is : X → Type 0) (reads : Reads read spell Is) (xs : List X) (rest : List ℕ) → AllByRecursion Is xs → many_at read (length xs) (flat_map spell xs ++ rest) ≡ Some (xs, rest)
unfolding many_at
many_again read spell Is reads [] rest good = refl
many_again read spell Is reads (x ∷ xs) rest good =
    let regrouped : flat_map spell (x ∷ xs) ++ rest ≡ spell x ++ (flat_map spell xs ++ rest) = ap (λ (t : List ℕ). t ++ rest) (flat_map-cons spell x xs) ∙ append_assoc (spell x) (flat_map spell xs) rest in
    ap (many_at read (suc (length xs))) regrouped ∙ rw (reads.again x (flat_map spell xs ++ rest) good.0, many_again read spell Is reads xs rest good.1) refl

pub many_reads : {X : Type 0} (read : List ℕ → Option (X × List ℕ)) (spell : X → List ℕ) (Is : X → Type 0) (reads : Reads read spell Is) (n : ℕ) → Reads (many_at read n) (flat_map spell) (AreMany Is n)
many_reads read spell Is reads n = record {
  takes = λ bytes xs rest fits e. many_take read spell Is reads n bytes xs rest fits e;
  again = λ xs rest good. rw (← good.0) (many_again read spell Is reads xs rest good.1);
}
