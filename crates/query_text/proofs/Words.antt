-- The words at the front of a text are found, and a text goes wrong where it parts from the last of them.
use Rattle.std.proofs.Common.{◌≡◌, ℕ, ◌+◌, ◌<◌, ◌≤◌, Bool, true, false, cond, eqb, List, [], ◌∷◌, ◌++◌, length, get_or, drop, min, Result, Ok, Err, ◌⊎◌, inl, inr, refl, sym, ap, ap₂, ◌∙◌, subst, arith}
use Rattle.std.proofs.lemmas.Bool.{eqb-true, eqb-false}
use Rattle.std.proofs.lemmas.List.{append-nil, nil_from_length, drop_more, drop_all}
use Rattle.query_text.specs.Stopping.{Stops, Begins}
use Rattle.query_text.specs.Words.{strip, IsWord, IsFront, Means}
use Rattle.query_text.proofs.Stopping.{heads, stops_in, stops_as, stops_either}

-- ---- one word

abbrev left_as : {T : Type 0} → ℕ → Result T ℕ
left_as n = Err n

abbrev got_as : {T : Type 0} → T → Result T ℕ
got_as x = Ok x

same_left : {T : Type 0} (m n : ℕ) → left_as {T = T} m ≡ Err n → m ≡ n
same_left m n e = cc

same_value : {T : Type 0} (x y : T) → got_as x ≡ Ok y → x ≡ y
same_value x y e = cc

stops_cons : (w c : ℕ) (word text : List ℕ) (left : ℕ) (same : Bool) → eqb c w ≡ same → cond same (strip word text) (Err (length (c ∷ text))) ≡ Err left → (strip word text ≡ Err left → Stops (λ x. x ≡ word) (Begins word) text left) → Stops (λ x. x ≡ w ∷ word) (Begins (w ∷ word)) (c ∷ text) left
stops_cons w c word text left true t e later =
    let is : c ≡ w = eqb-true c w t in
    stops_in (λ x. x ≡ word) (Begins word) (λ x. x ≡ w ∷ word) (Begins (w ∷ word)) (c ∷ []) text left
    (λ x h. ([], ap₂ (λ d ds. d ∷ ds) is (append-nil x ∙ h)))
    (λ x f h. (h.0, ap (drop 1) h.1))
    (later e)
stops_cons w c word text left false t e later =
    let other : c ≡ w → ⊥ = eqb-false c w t in
    record {
      before = [];
      behind = c ∷ text;
      parts = refl;
      len = cc;
      more = w ∷ word;
      begins = refl;
      none = λ h. other (heads c w text (word ++ h.0) h.1);
      longest = λ d cs x is h. other (heads c d text cs is ∙ heads d w x (word ++ h.0) h.1);
    }

pub stops_word : (word text : List ℕ) (left : ℕ) → strip word text ≡ Err left → Stops (λ x. x ≡ word) (Begins word) text left
stops_word [] text left e = absurd cc
stops_word (w ∷ word) [] left e =
    record {
      before = [];
      behind = [];
      parts = refl;
      len = same_left {T = List ℕ} 0 left e;
      more = w ∷ word;
      begins = refl;
      none = λ h. absurd cc;
      longest = λ d cs x is h. absurd cc;
    }
stops_word (w ∷ word) (c ∷ text) left e = stops_cons w c word text left (eqb c w) refl e (λ f. stops_word word text left f)

strip_cons : (w c : ℕ) (word text rest : List ℕ) (same : Bool) → eqb c w ≡ same → cond same (strip word text) (Err (length (c ∷ text))) ≡ Ok rest → (c ≡ w) × (strip word text ≡ Ok rest)
strip_cons w c word text rest true t e = (eqb-true c w t, e)
strip_cons w c word text rest false t e = absurd cc

pub strip_is : (word text rest : List ℕ) → strip word text ≡ Ok rest → text ≡ word ++ rest
strip_is [] text rest e = same_value text rest e
strip_is (w ∷ word) [] rest e = absurd cc
strip_is (w ∷ word) (c ∷ text) rest e =
    let p = strip_cons w c word text rest (eqb c w) refl e in
    ap₂ (λ d ds. d ∷ ds) p.0 (strip_is word text rest p.1)

-- ---- words

-- What a word means and what is behind it; where it is not in front, what the others give.
abbrev pub or_else : {T : Type 0} → T → Result (List ℕ) ℕ → (ℕ → Result (T × List ℕ) ℕ) → Result (T × List ℕ) ℕ
or_else meaning (Ok rest) others = Ok (meaning, rest)
or_else meaning (Err behind) others = others behind

-- What the first of the words that a text begins with means, and what is behind it. Where it begins with
-- none, the least that is left where it parts from one of them.
abbrev pub found : {W T : Type 0} → (W → List ℕ) → List (W × T) → List ℕ → ℕ → Result (T × List ℕ) ℕ
found now [] text left = Err left
found now (e ∷ words) text left = or_else e.1 (strip (now e.0) text) (λ behind. found now words text (min left behind))

-- what is found
pub found_means : {W T : Type 0} (now : W → List ℕ) (words : List (W × T)) (text : List ℕ) (left : ℕ) (meaning : T) (rest : List ℕ) → found now words text left ≡ Ok (meaning, rest) → Means now words meaning text rest
found_means now [] text left meaning rest e = absurd cc
found_means {W} {T} now (e ∷ words) text left meaning rest h =
    found_cases (strip (now e.0) text) refl h (λ behind g. found_means now words text (min left behind) meaning rest g)
  where
    found_cases : (r : Result (List ℕ) ℕ) → strip (now e.0) text ≡ r → or_else e.1 r (λ behind. found now words text (min left behind)) ≡ Ok (meaning, rest) → ((behind : ℕ) → found now words text (min left behind) ≡ Ok (meaning, rest) → Means now words meaning text rest) → Means now (e ∷ words) meaning text rest
    found_cases (Ok x) s g later =
        let p = same_value (e.1, x) (meaning, rest) g in
        inl (ap (λ (y : T × List ℕ). y.0) (sym p), strip_is (now e.0) text rest (s ∙ ap (λ y. got_as y) (ap (λ (y : T × List ℕ). y.1) p)))
    found_cases (Err behind) s g later = inr (later behind g)

left_of : {A B C : Type 0} → (A ⊎ B) ⊎ C → A ⊎ (B ⊎ C)
left_of (inl (inl a)) = inl a
left_of (inl (inr b)) = inr (inl b)
left_of (inr c) = inr (inr c)

right_of : {A B C : Type 0} → A ⊎ (B ⊎ C) → (A ⊎ B) ⊎ C
right_of (inl a) = inl (inl a)
right_of (inr (inl b)) = inl (inr b)
right_of (inr (inr c)) = inr c

found_stops : {W T : Type 0} (now : W → List ℕ) (words : List (W × T)) (text : List ℕ) (left out : ℕ) (A K : List ℕ → Type 0) → Stops A K text left → found now words text left ≡ Err out → Stops (λ x. A x ⊎ IsWord now words x) (λ x. K x ⊎ IsFront now words x) text out
found_stops {W} {T} now [] text left out A K s e =
    stops_as A K (λ x. A x ⊎ ⊥) (λ x. K x ⊎ ⊥) text out
    (λ x h. ([], inl (subst A (sym (append-nil x)) h)))
    (λ x f h. elim h [ inl k ↦ k | inr n ↦ absurd n ])
    (subst (λ n. Stops A K text n) (same_left {T = T × List ℕ} left out e) s)
found_stops {W} {T} now (e ∷ words) text left out A K s h =
    stop_cases (strip (now e.0) text) refl h (λ behind one g. found_stops now words text (min left behind) out (λ x. A x ⊎ (x ≡ now e.0)) (λ x. K x ⊎ Begins (now e.0) x) one g)
  where
    stop_cases : (r : Result (List ℕ) ℕ) → strip (now e.0) text ≡ r → or_else e.1 r (λ behind. found now words text (min left behind)) ≡ Err out
        → ((behind : ℕ) → Stops (λ x. A x ⊎ (x ≡ now e.0)) (λ x. K x ⊎ Begins (now e.0) x) text (min left behind) → found now words text (min left behind) ≡ Err out → Stops (λ x. (A x ⊎ (x ≡ now e.0)) ⊎ IsWord now words x) (λ x. (K x ⊎ Begins (now e.0) x) ⊎ IsFront now words x) text out)
        → Stops (λ x. A x ⊎ IsWord now (e ∷ words) x) (λ x. K x ⊎ IsFront now (e ∷ words) x) text out
    stop_cases (Ok x) q g later = absurd cc
    stop_cases (Err behind) q g later =
        stops_as (λ x. (A x ⊎ (x ≡ now e.0)) ⊎ IsWord now words x) (λ x. (K x ⊎ Begins (now e.0) x) ⊎ IsFront now words x) (λ x. A x ⊎ IsWord now (e ∷ words) x) (λ x. K x ⊎ IsFront now (e ∷ words) x) text out
        (λ x i. ([], subst (λ l. A l ⊎ IsWord now (e ∷ words) l) (sym (append-nil x)) (left_of i)))
        (λ x f i. right_of i)
        (later behind (stops_either A K (λ x. x ≡ now e.0) (Begins (now e.0)) text left behind s (stops_word (now e.0) text behind q)) g)

nothing_begun : (text : List ℕ) → Stops (λ x. x ≡ []) (λ x. ⊥) text (length text)
nothing_begun text =
    record {
      before = [];
      behind = text;
      parts = refl;
      len = refl;
      more = [];
      begins = refl;
      none = λ h. h;
      longest = λ c cs later is h. h;
    }

-- where a text parts from the last of the words
pub words_stop : {W T : Type 0} (now : W → List ℕ) (words : List (W × T)) (text : List ℕ) (out : ℕ) → found now words text (length text) ≡ Err out → Stops (λ x. (x ≡ []) ⊎ IsWord now words x) (IsFront now words) text out
words_stop now words text out e =
    stops_as (λ x. (x ≡ []) ⊎ IsWord now words x) (λ x. ⊥ ⊎ IsFront now words x) (λ x. (x ≡ []) ⊎ IsWord now words x) (IsFront now words) text out
    (λ x h. ([], subst (λ l. (l ≡ []) ⊎ IsWord now words l) (sym (append-nil x)) h))
    (λ x f h. inr h)
    (found_stops now words text (length text) out (λ x. x ≡ []) (λ x. ⊥) (nothing_begun text) e)

-- ---- the loops

pub strip_short : (word text : List ℕ) (i : ℕ) (all : Result (List ℕ) ℕ) → i < length word → length text < 1 → strip (drop i word) text ≡ all → all ≡ Err 0
strip_short word text i all lt short e =
    let empty : text ≡ [] = nil_from_length text (omega arith) in
    sym e ∙ ap₂ (λ a b. strip a b) (drop_more word i 0 lt) empty

pub none_found : {W T : Type 0} (now : W → List ℕ) (words : List (W × T)) (text : List ℕ) (left i : ℕ) → length words ≤ i → found now (drop i words) text left ≡ found now words text (length text) → Stops (λ x. (x ≡ []) ⊎ IsWord now words x) (IsFront now words) text left
none_found now words text left i le e =
    words_stop now words text left (sym e ∙ ap (λ l. found now l text left) (drop_all i words le))

pub found_at : {W T : Type 0} (now : W → List ℕ) (words : List (W × T)) (text rest : List ℕ) (left i : ℕ) (e : W × T) → i < length words → e ≡ get_or words i e → strip (now e.0) text ≡ Ok rest → found now (drop i words) text left ≡ found now words text (length text) → Means now words e.1 text rest
found_at {W} {T} now words text rest left i e lt is s h =
    let here : drop i words ≡ e ∷ drop (i + 1) words = drop_more words i e lt ∙ ap (λ d. d ∷ drop (i + 1) words) (sym is) in
    let first : found now (drop i words) text left ≡ Ok (e.1, rest) = ap (λ l. found now l text left) here ∙ ap (λ r. or_else e.1 r (λ behind. found now (drop (i + 1) words) text (min left behind))) s in
    found_means now words text (length text) e.1 rest (sym h ∙ first)
