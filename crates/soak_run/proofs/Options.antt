-- Words that give options give them in one way only.
use Rattle.std.proofs.Common.{◌≡◌, ℕ, ◌<◌, ◌^◌, Bool, true, false, cond, List, [], ◌∷◌, ◌++◌, length, get_or, drop, Option, Some, None, refl, sym, ap, ap₂, ◌∙◌, arith, append_assoc, append-nil}
use Rattle.std.specs.Prelude.{decimal}
use Rattle.std.specs.List.{flat_map, AllByRecursion, cons_option}
use Rattle.std.proofs.lemmas.List.{append_cancel_left, length-append}
use Rattle.std.proofs.lemmas.Fmt.{decimal_injective}
use Rattle.soak_run.specs.declared.setting.OptionName.{OptionName}
use Rattle.soak_run.specs.declared.setting.OptionName.TheVariants.{Seed, Txns, Workers}
use Rattle.soak_run.specs.Words.{name_text, IsNumber, Setting, words_of, setting_words, IsSetting, same_name, number_for, numbers_for}

-- ---- a name is told by its third letter

letter : OptionName → ℕ
letter Seed = 115
letter Txns = 116
letter Workers = 119

letter_at : (n : OptionName) (more : List ℕ) → get_or (name_text n ++ more) 2 0 ≡ letter n
unfolding letter
letter_at Seed more = refl
letter_at Txns more = refl
letter_at Workers more = refl

letter_same : (m n : OptionName) → letter m ≡ letter n → m ≡ n
unfolding letter
letter_same Seed Seed e = refl
letter_same Seed Txns e = absurd (omega (arith, e))
letter_same Seed Workers e = absurd (omega (arith, e))
letter_same Txns Seed e = absurd (omega (arith, e))
letter_same Txns Txns e = refl
letter_same Txns Workers e = absurd (omega (arith, e))
letter_same Workers Seed e = absurd (omega (arith, e))
letter_same Workers Txns e = absurd (omega (arith, e))
letter_same Workers Workers e = refl

pub names_same : (m n : OptionName) (x y : List ℕ) → name_text m ++ x ≡ name_text n ++ y → m ≡ n
names_same m n x y e = letter_same m n (sym (letter_at m x) ∙ ap (λ l. get_or l 2 0) e ∙ letter_at n y)

pub number_small : (n : OptionName) (k : ℕ) → IsNumber n k → k < 2 ^ 64
number_small Seed k h = h
number_small Txns k h = omega (arith, h)
number_small Workers k h = omega (arith, h.1)

-- ---- the words of one option in front of others

pub record SameFront (m n : OptionName) (j k : ℕ) (r q : List (List ℕ)) : Type 0 where
  pub name : m ≡ n
  pub number : j ≡ k
  pub rest : r ≡ q

heads : {X : Type 0} (x y : X) (xs ys : List X) → x ∷ xs ≡ y ∷ ys → (x ≡ y) × (xs ≡ ys)
heads x y xs ys e = (cc, cc)

module _ (m n : OptionName) (j k : ℕ) (small : j < 2 ^ 64) (few : k < 2 ^ 64) (r q : List (List ℕ)) where
  numbers_same : decimal j ≡ decimal k → j ≡ k
  numbers_same e = decimal_injective j k small few e

  both_joined : (name_text m ++ 61 ∷ decimal j) ∷ r ≡ (name_text n ++ 61 ∷ decimal k) ∷ q → SameFront m n j k r q
  both_joined e =
      let parts = heads (name_text m ++ 61 ∷ decimal j) (name_text n ++ 61 ∷ decimal k) r q e in
      let name = names_same m n (61 ∷ decimal j) (61 ∷ decimal k) parts.0 in
      let digits : 61 ∷ decimal j ≡ 61 ∷ decimal k = append_cancel_left (name_text n) (61 ∷ decimal j) (61 ∷ decimal k) (ap (λ i. name_text i ++ 61 ∷ decimal j) (sym name) ∙ parts.0) in
      record { name = name; number = numbers_same (ap (drop 1) digits); rest = parts.1 }

  both_apart : name_text m ∷ decimal j ∷ r ≡ name_text n ∷ decimal k ∷ q → SameFront m n j k r q
  both_apart e =
      let parts = heads (name_text m) (name_text n) (decimal j ∷ r) (decimal k ∷ q) e in
      let more = heads (decimal j) (decimal k) r q parts.1 in
      record { name = names_same m n [] [] (append-nil (name_text m) ∙ parts.0 ∙ sym (append-nil (name_text n))); number = numbers_same more.0; rest = more.1 }

-- a name with something behind it is no name
longer_name : (m n : OptionName) (x : ℕ) (xs : List ℕ) → name_text m ++ x ∷ xs ≡ name_text n → ⊥
longer_name m n x xs e =
    let same = names_same m n (x ∷ xs) [] (e ∙ sym (append-nil (name_text n))) in
    let lens : length (name_text n ++ x ∷ xs) ≡ length (name_text n) = ap length (ap (λ i. name_text i ++ x ∷ xs) (sym same) ∙ e) in
    omega (arith, lens, length-append (name_text n) (x ∷ xs))

pub one_front : (m n : OptionName) (j k : ℕ) (a b : Bool) (r q : List (List ℕ)) → j < 2 ^ 64 → k < 2 ^ 64
    → words_of (name_text m) (decimal j) a ++ r ≡ words_of (name_text n) (decimal k) b ++ q → SameFront m n j k r q
one_front m n j k true true r q small few e = both_joined m n j k small few r q e
one_front m n j k true false r q small few e = absurd (longer_name m n 61 (decimal j) (heads (name_text m ++ 61 ∷ decimal j) (name_text n) r (decimal k ∷ q) e).0)
one_front m n j k false true r q small few e = absurd (longer_name n m 61 (decimal k) (sym (heads (name_text m) (name_text n ++ 61 ∷ decimal k) (decimal j ∷ r) q e).0))
one_front m n j k false false r q small few e = both_apart m n j k small few r q e

-- ---- options that begin with others

pub words_some : (s : Setting) (more : List (List ℕ)) → [] ≡ setting_words s ++ more → ⊥
words_some s more e = by_form s.joined e
  where
    by_form : (b : Bool) → [] ≡ words_of (name_text s.name) (decimal s.number) b ++ more → ⊥
    by_form true e = absurd cc
    by_form false e = absurd cc

pub record GoesOn (xs ys : List Setting) (rest : List (List ℕ)) : Type 0 where
  pub more : List Setting
  pub good : AllByRecursion IsSetting more
  pub spelled : rest ≡ flat_map setting_words more
  pub numbers : (n : OptionName) → numbers_for n ys ≡ numbers_for n xs ++ numbers_for n more

cons_append : {X : Type 0} (o : Option X) (xs ys : List X) → cons_option o (xs ++ ys) ≡ cons_option o xs ++ ys
cons_append None xs ys = refl
cons_append (Some x) xs ys = refl

pub goes_on : (xs ys : List Setting) (rest : List (List ℕ)) → AllByRecursion IsSetting xs → AllByRecursion IsSetting ys
    → flat_map setting_words ys ≡ flat_map setting_words xs ++ rest → GoesOn xs ys rest
goes_on [] ys rest h k e = record { more = ys; good = k; spelled = sym e; numbers = λ n. refl }
goes_on (x ∷ xs) [] rest h k e = absurd (words_some x (flat_map setting_words xs ++ rest) (e ∙ append_assoc (setting_words x) (flat_map setting_words xs) rest))
goes_on (x ∷ xs) (y ∷ ys) rest h k e =
    let front = one_front y.name x.name y.number x.number y.joined x.joined (flat_map setting_words ys) (flat_map setting_words xs ++ rest) (number_small y.name y.number k.0) (number_small x.name x.number h.0) (e ∙ append_assoc (setting_words x) (flat_map setting_words xs) rest) in
    let later = goes_on xs ys rest h.1 k.1 front.rest in
    record {
      more = later.more;
      good = later.good;
      spelled = later.spelled;
      numbers = λ n.
          ap₂ (λ (i : OptionName) (v : ℕ). cons_option (cond (same_name n i) (Some v) None) (numbers_for n ys)) front.name front.number
          ∙ ap (λ l. cons_option (number_for n x) l) (later.numbers n)
          ∙ cons_append (number_for n x) (numbers_for n xs) (numbers_for n later.more);
    }
