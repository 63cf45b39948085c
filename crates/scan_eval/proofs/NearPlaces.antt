-- Slots that hold the places of keys.
use Rattle.std.proofs.Common.{◌≡◌, ℕ, ℤ, ◌<◌, ◌≤◌, true, false, cond, nat_eq, List, Option, None, Some, length, set, refl, sym, ap, ◌∙◌, subst, ⊎_elim}
use Rattle.std.specs.List.{slice_index_or}
use Rattle.std.specs.Option.{option_or}
use Rattle.std.specs.Ordering.{int_eq}
use Rattle.std.specs.Cmp.Lexicographic.{pointwise, same_text}
use Rattle.std.proofs.lemmas.Bool.{cases_Bool, cases_eq, cond-true, cond-false}
use Rattle.std.proofs.lemmas.Bool.Decides.{Decides-int_eq}
use Rattle.std.proofs.lemmas.Cmp.{int_eq_equiv, nat_list_eq_equiv}
use Rattle.std.proofs.lemmas.Grind.{get_or-set_at}
use Rattle.std.proofs.lemmas.List.{get_or_past, get_or-set_other}
use Rattle.scan_eval.specs.declared.number_index.NumberPlace.{NumberPlace}
use Rattle.scan_eval.specs.declared.text_index.TextPlace.{TextPlace}
use Rattle.scan_eval.specs.Places.{number_slot, text_slot, near_number, near_text, is_number_open, is_text_open}

-- behind the end there is nothing
pub past : {X : Type 0} (slots : List (Option X)) (i : ℕ) → length slots ≤ i → slice_index_or slots i None ≡ None
past slots i h = get_or_past slots i None h

-- the entry of another key, in slots with one entry more
others : {X V : Type 0} (read : Option X → Option V) (slots : List (Option X)) (i j : ℕ) (x : X) → i < length slots → read (Some x) ≡ None → read (slice_index_or slots i None) ≡ None → read (slice_index_or (set slots i (Some x)) j None) ≡ read (slice_index_or slots j None)
others {X} read slots i j x within new old =
    ⊎_elim
    (λ e. ap read (get_or-set_at slots i j (Some x) None e within) ∙ new ∙ sym old ∙ ap (λ k. read (slice_index_or slots k None)) (sym e))
    (λ n. ap read (get_or-set_other slots i j (Some x) None n))
    (cases_eq j i)

-- the number in a slot that is open for another
open_number : (entry : Option NumberPlace) (n number : ℤ) → is_number_open entry number ≡ true → int_eq n number ≡ false → near_number entry n ≡ None
open_number None n number vacant apart = refl
open_number (Some e) n number vacant apart = cond-false (int_eq e.number n) (Some e.place) None (int_eq_equiv.congr e.number number n vacant ∙ int_eq_equiv.symm number n ∙ apart)

-- the text in a slot that is open for another
open_text : (entry : Option TextPlace) (t text : List ℕ) → is_text_open entry text ≡ true → pointwise nat_eq t text ≡ false → near_text entry t ≡ None
open_text None t text vacant apart = refl
open_text (Some e) t text vacant apart = cond-false (pointwise nat_eq t e.text) (Some e.place) None (nat_list_eq_equiv.symm t e.text ∙ sym (nat_list_eq_equiv.congr text e.text t vacant) ∙ nat_list_eq_equiv.symm text t ∙ apart)

-- a slot that is not open for a text has no place of it
pub taken_text : (entry : Option TextPlace) (text : List ℕ) → is_text_open entry text ≡ false → near_text entry text ≡ None
taken_text None text taken = refl
taken_text (Some e) text taken = cond-false (pointwise nat_eq text e.text) (Some e.place) None taken

-- the place of each number, after one is put into its slot
pub near_numbers : (slots : List (Option NumberPlace)) (i : ℕ) (number m : ℤ) (place : ℕ) (n : ℤ) (far : Option ℕ) → i ≡ number_slot number → m ≡ number → i < length slots → is_number_open (slice_index_or slots i None) number ≡ true → option_or (near_number (slice_index_or (set slots i (Some (record { number = m; place = place }))) (number_slot n) None) n) far ≡ cond (int_eq n number) (Some place) (option_or (near_number (slice_index_or slots (number_slot n) None) n) far)
near_numbers slots i number m place n far at is within vacant =
    let entry : NumberPlace = record { number = m; place = place } in
    ⊎_elim
    (λ e.
    let here = (Decides-int_eq n number).0 e in
    ap (λ o. option_or (near_number o n) far) (get_or-set_at slots i (number_slot n) (Some entry) None (ap number_slot here ∙ sym at) within)
    ∙ ap (λ o. option_or o far) (cond-true (int_eq m n) (Some place) None (ap (λ k. int_eq k n) is ∙ int_eq_equiv.symm number n ∙ e))
    ∙ sym (cond-true (int_eq n number) (Some place) (option_or (near_number (slice_index_or slots (number_slot n) None) n) far) e))
    (λ e.
    ap (λ o. option_or o far) (others (λ o. near_number o n) slots i (number_slot n) entry within (cond-false (int_eq m n) (Some place) None (ap (λ k. int_eq k n) is ∙ int_eq_equiv.symm number n ∙ e)) (open_number (slice_index_or slots i None) n number vacant e))
    ∙ sym (cond-false (int_eq n number) (Some place) (option_or (near_number (slice_index_or slots (number_slot n) None) n) far) e))
    (cases_Bool (int_eq n number))

-- the place of each text, after one is put into its slot
pub near_texts : (slots : List (Option TextPlace)) (i : ℕ) (text held : List ℕ) (place : ℕ) (t : List ℕ) (far : Option ℕ) → i ≡ text_slot text → held ≡ text → i < length slots → is_text_open (slice_index_or slots i None) text ≡ true → option_or (near_text (slice_index_or (set slots i (Some (record { text = held; place = place }))) (text_slot t) None) t) far ≡ cond (pointwise nat_eq t text) (Some place) (option_or (near_text (slice_index_or slots (text_slot t) None) t) far)
near_texts slots i text held place t far at is within vacant =
    let entry : TextPlace = record { text = held; place = place } in
    ⊎_elim
    (λ e.
    let here : t ≡ text = same_text t text (sym e) in
    ap (λ o. option_or (near_text o t) far) (get_or-set_at slots i (text_slot t) (Some entry) None (ap text_slot here ∙ sym at) within)
    ∙ ap (λ o. option_or o far) (cond-true (pointwise nat_eq t held) (Some place) None (ap (λ k. pointwise nat_eq t k) is ∙ e))
    ∙ sym (cond-true (pointwise nat_eq t text) (Some place) (option_or (near_text (slice_index_or slots (text_slot t) None) t) far) e))
    (λ e.
    ap (λ o. option_or o far) (others (λ o. near_text o t) slots i (text_slot t) entry within (cond-false (pointwise nat_eq t held) (Some place) None (ap (λ k. pointwise nat_eq t k) is ∙ e)) (open_text (slice_index_or slots i None) t text vacant e))
    ∙ sym (cond-false (pointwise nat_eq t text) (Some place) (option_or (near_text (slice_index_or slots (text_slot t) None) t) far) e))
    (cases_Bool (pointwise nat_eq t text))

-- the place of each text, after one is put into the map
pub far_texts : (slots : List (Option TextPlace)) (text : List ℕ) (place : ℕ) (t : List ℕ) (old new : Option ℕ) → near_text (slice_index_or slots (text_slot text) None) text ≡ None → new ≡ cond (pointwise nat_eq t text) (Some place) old → option_or (near_text (slice_index_or slots (text_slot t) None) t) new ≡ cond (pointwise nat_eq t text) (Some place) (option_or (near_text (slice_index_or slots (text_slot t) None) t) old)
far_texts slots text place t old new absent change =
    let near = near_text (slice_index_or slots (text_slot t) None) t in
    ⊎_elim
    (λ e.
    ap (λ o. option_or o new) (subst (λ (l : List ℕ). near_text (slice_index_or slots (text_slot l) None) l ≡ None) (sym (same_text t text (sym e))) absent)
    ∙ change
    ∙ cond-true (pointwise nat_eq t text) (Some place) old e
    ∙ sym (cond-true (pointwise nat_eq t text) (Some place) (option_or near old) e))
    (λ e.
    ap (λ o. option_or near o) (change ∙ cond-false (pointwise nat_eq t text) (Some place) old e)
    ∙ sym (cond-false (pointwise nat_eq t text) (Some place) (option_or near old) e))
    (cases_Bool (pointwise nat_eq t text))
