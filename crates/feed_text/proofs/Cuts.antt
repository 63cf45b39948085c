-- Bytes up to a separator.
use Rattle.std.proofs.Common.{◌≡◌, ℕ, ◌+◌, ◌<◌, Bool, true, false, cond, eqb, List, [], ◌∷◌, ◌++◌, length, get_or, take, drop, Option, Some, None, refl, ap, ◌∙◌, sym, append_assoc, add-one, drop-cons}
use Rattle.std.proofs.lemmas.Bool.{eq-eqb, ne_eqb}
use Rattle.std.proofs.lemmas.List.{append-nil, take_more}
use Rattle.change_vectors.specs.Reading.{◌>>=◌}
use Rattle.feed_text.specs.Reading.{cut}
use Rattle.feed_text.specs.LineReading.{split, onto_first}

-- bytes in front of what is cut
abbrev pub onto : List ℕ → List ℕ × Option (List ℕ) → List ℕ × Option (List ℕ)
onto front parts = (front ++ parts.0, parts.1)

-- bytes in front of what is read
abbrev pub with_bytes : List ℕ → Option (List ℕ) → Option (List ℕ)
with_bytes front read = read >>= λ x. Some (front ++ x)

-- the parts of a text, where one was cut off
abbrev pub parts_of : ℕ → List ℕ × Option (List ℕ) → List (List ℕ)
parts_of sep (front, None) = front ∷ []
parts_of sep (front, Some rest) = front ∷ split sep rest

onto_parts : (sep c : ℕ) (parts : List ℕ × Option (List ℕ)) → onto_first c (parts_of sep parts) ≡ parts_of sep (c ∷ parts.0, parts.1)
onto_parts sep c (front, None) = refl
onto_parts sep c (front, Some rest) = refl

split_step : (sep c : ℕ) (text : List ℕ) (same : Bool) → split sep text ≡ parts_of sep (cut sep text)
    → cond same ([] ∷ split sep text) (onto_first c (split sep text)) ≡ parts_of sep (cond same ([], Some text) (c ∷ (cut sep text).0, (cut sep text).1))
split_step sep c text true h = refl
split_step sep c text false h = ap (onto_first c) h ∙ onto_parts sep c (cut sep text)

-- a text is what is cut off in front, and the parts of the rest
pub split_cut : (sep : ℕ) (text : List ℕ) → split sep text ≡ parts_of sep (cut sep text)
split_cut sep [] = refl
split_cut sep (c ∷ text) = split_step sep c text (eqb c sep) (split_cut sep text)

-- ---- the loop that looks for the separator

at_here : (at : ℕ) (text : List ℕ) → at < length text → drop at text ≡ get_or text at 0 ∷ drop (at + 1) text
at_here at text lt = drop-cons text at 0 lt ∙ ap (λ (n : ℕ). get_or text at 0 ∷ drop n text) (sym (add-one at))

pub cut_on : (sep at : ℕ) (text : List ℕ) (total : List ℕ × Option (List ℕ)) → at < length text → (get_or text at 0 ≡ sep → ⊥) → onto (take at text) (cut sep (drop at text)) ≡ total
    → onto (take (at + 1) text) (cut sep (drop (at + 1) text)) ≡ total
cut_on sep at text total lt other so_far =
    let e : eqb (get_or text at 0) sep ≡ false = ne_eqb (get_or text at 0) sep other in
    let here : cut sep (drop at text) ≡ (get_or text at 0 ∷ (cut sep (drop (at + 1) text)).0, (cut sep (drop (at + 1) text)).1) = ap (cut sep) (at_here at text lt) ∙ rw e refl in
    let front : take (at + 1) text ≡ take at text ++ get_or text at 0 ∷ [] = take_more text at 0 lt in
    let joined : take (at + 1) text ++ (cut sep (drop (at + 1) text)).0 ≡ take at text ++ (get_or text at 0 ∷ (cut sep (drop (at + 1) text)).0) =
    ap (λ (l : List ℕ). l ++ (cut sep (drop (at + 1) text)).0) front ∙ append_assoc (take at text) (get_or text at 0 ∷ []) (cut sep (drop (at + 1) text)).0 in
    ap (λ (l : List ℕ). (l, (cut sep (drop (at + 1) text)).1)) joined ∙ ap (onto (take at text)) (sym here) ∙ so_far

pub cut_here : (sep at : ℕ) (text : List ℕ) (total : List ℕ × Option (List ℕ)) → at < length text → get_or text at 0 ≡ sep → onto (take at text) (cut sep (drop at text)) ≡ total → (take at text, Some (drop (at + 1) text)) ≡ total
cut_here sep at text total lt same so_far =
    let e : eqb (get_or text at 0) sep ≡ true = eq-eqb (get_or text at 0) sep same in
    let here : cut sep (drop at text) ≡ ([], Some (drop (at + 1) text)) = ap (cut sep) (at_here at text lt) ∙ rw e refl in
    ap (λ (l : List ℕ). (l, Some (drop (at + 1) text))) (sym (append-nil (take at text))) ∙ ap (onto (take at text)) (sym here) ∙ so_far
