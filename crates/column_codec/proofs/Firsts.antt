-- The value that comes first among some values and one more.
use Rattle.std.proofs.Common.{◌≡◌, ℕ, Bool, true, false, List, [], ◌∷◌, ◌++◌, length, refl, sym, ap, ◌∙◌, subst, true≢false}
use Rattle.std.specs.Cmp.{IsStrictWeakOrder}
use Rattle.std.specs.List.{AllByRecursion}
use Rattle.std.specs.Ordering.{is_lt, is_gt, ordering_reverse}
use Rattle.std.specs.declared.cmp.Ordering.{Ordering}
use Rattle.std.specs.declared.cmp.Ordering.TheVariants.{Less, Equal, Greater as Later}
use Rattle.std.proofs.lemmas.List.{append_assoc}
use Rattle.std.proofs.lemmas.List.Sorted.{ranks_by}
use Rattle.adg_base.specs.declared.value.Value.{Value}
use Rattle.adg_base.specs.Values.{value_cmp, is_null}
use Rattle.adg_base.proofs.ValueOrder.{IsChoice, least_is_choice, greatest_is_choice}
use Rattle.column_codec.specs.declared.bounds.Side.{Side}
use Rattle.column_codec.specs.declared.bounds.Side.TheVariants.{Least, Greatest}
use Rattle.column_codec.specs.Bounds.{ComesFirst, AreNull, better_of}

choice_of : (side : Side) → IsChoice (better_of side)
choice_of Least = least_is_choice
choice_of Greatest = greatest_is_choice

abbrev Loses : (Ordering → Bool) → Value → Value → Type 0
Loses better old w = is_null w ≡ false → better (value_cmp w old) ≡ false

abbrev IsBeaten : (Ordering → Bool) → Value → Value → Type 0
IsBeaten better old w = is_null w ≡ false → better (value_cmp old w) ≡ true

all_append : (P : Value → Type 0) (xs ys : List Value) → AllByRecursion P xs → AllByRecursion P ys → AllByRecursion P (xs ++ ys)
all_append P [] ys a b = b
all_append P (x ∷ xs) ys a b = (a.0, all_append P xs ys a.1 b)

-- what beats a value beats each that doesn't beat it
past : (better : Ordering → Bool) → IsChoice better → (v w old : Value) → better (value_cmp v old) ≡ true → better (value_cmp w old) ≡ false → better (value_cmp v w) ≡ true
past better o v w old e f = by_case (better (value_cmp v w)) refl
  where
    by_case : (b : Bool) → better (value_cmp v w) ≡ b → better (value_cmp v w) ≡ true
    by_case true p = p
    by_case false p = absurd (true≢false (sym e ∙ o.chain v w old p f))

all_past : (better : Ordering → Bool) → IsChoice better → (v old : Value) → better (value_cmp v old) ≡ true → (ws : List Value) → AllByRecursion (Loses better old) ws → AllByRecursion (IsBeaten better v) ws
all_past better o v old e [] a = tt
all_past better o v old e (w ∷ ws) a = (λ n. past better o v w old e (a.0 n), all_past better o v old e ws a.1)

all_lose : (better : Ordering → Bool) → IsChoice better → (old : Value) (ws : List Value) → AllByRecursion (IsBeaten better old) ws → AllByRecursion (Loses better old) ws
all_lose better o old [] a = tt
all_lose better o old (w ∷ ws) a = (λ n. o.one_way old w (a.0 n), all_lose better o old ws a.1)

-- it comes first now
pub beats : (side : Side) (values : List Value) (place place' : ℕ) (old v : Value) → ComesFirst (better_of side) values place old → is_null v ≡ false → better_of side (value_cmp v old) ≡ true → place' ≡ length values → ComesFirst (better_of side) (values ++ v ∷ []) place' v
beats side values place place' old v f there e at =
    let better = better_of side in
    let o = choice_of side in
    record {
      before = values;
      after = [];
      split = refl;
      at = sym at;
      there = there;
      first = subst (AllByRecursion (IsBeaten better v)) (sym f.split)
          (all_append (IsBeaten better v) f.before (old ∷ f.after) (all_past better o v old e f.before (all_lose better o old f.before f.first)) ((λ _. e), all_past better o v old e f.after f.best));
      best = tt;
    }

-- another comes first still
pub stays : (better : Ordering → Bool) (values : List Value) (place : ℕ) (old v : Value) → ComesFirst better values place old → (is_null v ≡ false → better (value_cmp v old) ≡ false) → ComesFirst better (values ++ v ∷ []) place old
stays better values place old v f e = record {
  before = f.before;
  after = f.after ++ v ∷ [];
  split = ap (λ (l : List Value). l ++ v ∷ []) f.split ∙ append_assoc f.before (old ∷ f.after) (v ∷ []);
  at = f.at;
  there = f.there;
  first = f.first;
  best = all_append (Loses better old) f.after (v ∷ []) f.best (e, tt);
}

all_beaten : (better : Ordering → Bool) (v : Value) (ws : List Value) → AreNull ws → AllByRecursion (IsBeaten better v) ws
all_beaten better v [] a = tt
all_beaten better v (w ∷ ws) a = ((λ n. absurd (true≢false (sym a.0 ∙ n))), all_beaten better v ws a.1)

-- the first that is there
pub opens : (better : Ordering → Bool) (values : List Value) (place : ℕ) (v : Value) → AreNull values → is_null v ≡ false → place ≡ length values → ComesFirst better (values ++ v ∷ []) place v
opens better values place v a there at = record {
  before = values;
  after = [];
  split = refl;
  at = sym at;
  there = there;
  first = all_beaten better v values a;
  best = tt;
}

-- none is there still
pub none : (values : List Value) (v : Value) → AreNull values → is_null v ≡ true → AreNull (values ++ v ∷ [])
none values v a e = all_append (λ w. is_null w ≡ true) values (v ∷ []) a (e, tt)
