-- The laws of the order of values, and when two lists of keys in order are the same.
use Rattle.std.proofs.Common.{◌≡◌, Bool, true, false, ◌||◌, List, [], ◌∷◌, refl, sym, ap, ap₂, ◌∙◌, subst, true≢false}
use Rattle.std.specs.Cmp.{IsTotalOrder, IsEquivalence, IsStrictWeakOrder}
use Rattle.std.specs.FinMap.{int_cmp-IsAntisymmetric, nat_cmp-IsAntisymmetric, slice_cmp-IsAntisymmetric}
use Rattle.std.specs.List.{AllByRecursion, list_any}
use Rattle.std.specs.List.Sorted.{IsStrictlySortedBy}
use Rattle.std.specs.Ordering.{is_eq, is_lt, is_gt, ordering_reverse}
use Rattle.std.specs.declared.cmp.Ordering.{Ordering}
use Rattle.std.specs.declared.cmp.Ordering.TheVariants.{Less, Equal, Greater}
use Rattle.std.proofs.lemmas.Cmp.{int_cmp_total, nat_list_cmp_total, eq_by_cmp_equiv, tied_itself}
use Rattle.std.proofs.lemmas.List.Sorted.{ranks_by}
use Rattle.std.proofs.lemmas.Map.Keys.{sorted_head, sorted_tail}
use Rattle.adg_base.specs.declared.value.Value.{Value}
use Rattle.adg_base.specs.declared.value.Value.TheVariants.{Null, Int, Text}
use Rattle.adg_base.specs.Values.{value_cmp, same}

flips : (x y : Value) → value_cmp x y ≡ ordering_reverse (value_cmp y x)
flips Null Null = refl
flips Null (Int b) = refl
flips Null (Text b) = refl
flips (Int a) Null = refl
flips (Int a) (Int b) = int_cmp_total.antisymm a b
flips (Int a) (Text b) = refl
flips (Text a) Null = refl
flips (Text a) (Int b) = refl
flips (Text a) (Text b) = nat_list_cmp_total.antisymm a b

chains : (x y z : Value) → value_cmp x y ≡ Less → value_cmp y z ≡ Less → value_cmp x z ≡ Less
chains x Null Null p q = absurd cc
chains x (Int b) Null p q = absurd cc
chains x (Text b) Null p q = absurd cc
chains Null y (Int c) p q = refl
chains Null y (Text c) p q = refl
chains (Int a) Null (Int c) p q = absurd cc
chains (Int a) (Int b) (Int c) p q = int_cmp_total.trans a b c p q
chains (Int a) (Text b) (Int c) p q = absurd cc
chains (Int a) y (Text c) p q = refl
chains (Text a) Null (Int c) p q = absurd cc
chains (Text a) (Int b) (Int c) p q = absurd cc
chains (Text a) (Text b) (Int c) p q = absurd cc
chains (Text a) Null (Text c) p q = absurd cc
chains (Text a) (Int b) (Text c) p q = absurd cc
chains (Text a) (Text b) (Text c) p q = nat_list_cmp_total.trans a b c p q

-- values that the order does not tell apart are the same
pub tied : (x y : Value) → value_cmp x y ≡ Equal → x ≡ y
tied Null Null e = refl
tied Null (Int b) e = absurd cc
tied Null (Text b) e = absurd cc
tied (Int a) Null e = absurd cc
tied (Int a) (Int b) e = ap Int (int_cmp-IsAntisymmetric a b e)
tied (Int a) (Text b) e = absurd cc
tied (Text a) Null e = absurd cc
tied (Text a) (Int b) e = absurd cc
tied (Text a) (Text b) e = ap Text (slice_cmp-IsAntisymmetric nat_cmp-IsAntisymmetric a b e)

pub value_cmp_total : IsTotalOrder value_cmp
value_cmp_total = record { antisymm = flips; trans = chains; congr = λ x y z e. ap (λ v. value_cmp v z) (tied x y e) }

-- what is better than another by how they compare is an order of its own
abbrev pub IsChoice : (Ordering → Bool) → Type 0
IsChoice better = IsStrictWeakOrder (λ w v. better (value_cmp w v))

pub least_is_choice : IsChoice is_lt
least_is_choice = ranks_by value_cmp_total (λ v. v)

gt_of_reverse : (o : Ordering) → is_gt (ordering_reverse o) ≡ is_lt o
gt_of_reverse Less = refl
gt_of_reverse Equal = refl
gt_of_reverse Greater = refl

turned : (w v : Value) → is_gt (value_cmp w v) ≡ is_lt (value_cmp v w)
turned w v = ap is_gt (value_cmp_total.antisymm w v) ∙ gt_of_reverse (value_cmp v w)

pub greatest_is_choice : IsChoice is_gt
greatest_is_choice = record {
  one_way = λ x y e. turned y x ∙ least_is_choice.one_way y x (sym (turned x y) ∙ e);
  chain = λ x y z e f. turned x z ∙ least_is_choice.chain z y x (sym (turned y z) ∙ f) (sym (turned x y) ∙ e);
}

pub same_equiv : IsEquivalence same
same_equiv = eq_by_cmp_equiv value_cmp_total

pub same_itself : (x : Value) → same x x ≡ true
same_itself x = ap is_eq (tied_itself value_cmp_total x)

equal_from_is : (o : Ordering) → is_eq o ≡ true → o ≡ Equal
equal_from_is Less e = absurd (true≢false (sym e))
equal_from_is Equal e = refl
equal_from_is Greater e = absurd (true≢false (sym e))

pub same_is : (x y : Value) → same x y ≡ true → x ≡ y
same_is x y e = tied x y (equal_from_is (value_cmp x y) e)

-- a key below all keys of a list is none of them
none_above : (k : Value) (xs : List Value) → AllByRecursion (λ y. value_cmp k y ≡ Less) xs → list_any (same k) xs ≡ false
none_above k [] a = refl
none_above k (x ∷ xs) a = ap₂ (λ (b c : Bool). b || c) (ap is_eq a.0) (none_above k xs a.1)

-- nor is a key below such a key
pub below_all : (k x : Value) (xs : List Value) → value_cmp k x ≡ Less → AllByRecursion (λ y. value_cmp x y ≡ Less) xs → AllByRecursion (λ y. value_cmp k y ≡ Less) xs
below_all k x [] e a = tt
below_all k x (y ∷ ys) e a = (chains k x y e a.0, below_all k x ys e a.1)

first_none : (k x : Value) (xs : List Value) → value_cmp k x ≡ Less → AllByRecursion (λ y. value_cmp x y ≡ Less) xs → list_any (same k) (x ∷ xs) ≡ false
first_none k x xs e a = none_above k (x ∷ xs) (e, below_all k x xs e a)

-- a key that is not the first is one of the others
later_any : (k x : Value) (xs : List Value) → value_cmp k x ≡ Greater → list_any (same k) (x ∷ xs) ≡ list_any (same k) xs
later_any k x xs e = ap (λ (o : Ordering). is_eq o || list_any (same k) xs) e

-- Keys in order are determined by which keys are among them.
pub same_keys : (xs ys : List Value) → IsStrictlySortedBy value_cmp xs → IsStrictlySortedBy value_cmp ys → ((k : Value) → list_any (same k) xs ≡ list_any (same k) ys) → xs ≡ ys
same_keys [] [] s t is = refl
same_keys [] (y ∷ ys) s t is = absurd (true≢false (sym (ap (λ b. b || list_any (same y) ys) (same_itself y)) ∙ sym (is y)))
same_keys (x ∷ xs) [] s t is = absurd (true≢false (sym (ap (λ b. b || list_any (same x) xs) (same_itself x)) ∙ is x))
same_keys (x ∷ xs) (y ∷ ys) s t is = by_order (value_cmp x y) refl (same_keys xs ys)
  where
    here : list_any (same x) (x ∷ xs) ≡ true
    here = ap (λ b. b || list_any (same x) xs) (same_itself x)

    there : list_any (same y) (y ∷ ys) ≡ true
    there = ap (λ b. b || list_any (same y) ys) (same_itself y)

    others : x ≡ y → (k : Value) → list_any (same k) xs ≡ list_any (same k) ys
    others e k = by_first (same k x) refl
      where
        ahead : same k x ≡ same k y
        ahead = ap (same k) e

        by_first : (b : Bool) → same k x ≡ b → list_any (same k) xs ≡ list_any (same k) ys
        by_first true m =
            let one : k ≡ x = same_is k x m in
            subst (λ (v : Value). list_any (same v) xs ≡ list_any (same v) ys) (sym one) (none_above x xs (sorted_head value_cmp x xs s) ∙ sym (subst (λ (v : Value). list_any (same v) ys ≡ false) (sym e) (none_above y ys (sorted_head value_cmp y ys t))))
        by_first false m = sym (ap (λ b. b || list_any (same k) xs) m) ∙ is k ∙ ap (λ b. b || list_any (same k) ys) (sym ahead ∙ m)

    by_order : (o : Ordering) → value_cmp x y ≡ o → (IsStrictlySortedBy value_cmp xs → IsStrictlySortedBy value_cmp ys → ((k : Value) → list_any (same k) xs ≡ list_any (same k) ys) → xs ≡ ys) → x ∷ xs ≡ y ∷ ys
    by_order Less o ih = absurd (true≢false (sym here ∙ is x ∙ first_none x y ys o (sorted_head value_cmp y ys t)))
    by_order Equal o ih =
        let e = tied x y o in
        ap₂ (λ (h : Value) (l : List Value). h ∷ l) e (ih (sorted_tail value_cmp x xs s) (sorted_tail value_cmp y ys t) (others e))
    by_order Greater o ih = absurd (true≢false (sym there ∙ sym (is y) ∙ first_none y x xs (flips y x ∙ ap ordering_reverse o) (sorted_head value_cmp x xs s)))
