-- Words at the front of a text.
use Rattle.std.specs.Prelude.{◌≡◌, ℕ, ◌==◌, if◌then◌else◌, List, [], ◌∷◌, ◌++◌, length, Result, Ok, Err, ◌⊎◌}
use Rattle.query_text.specs.declared.fault.Fault.{Fault}
use Rattle.query_text.specs.Stopping.{Begins, Refuses}

-- What is behind a word; where a text does not begin with it, how many bytes of the text are left
-- where the two part.
abbrev pub strip : List ℕ → List ℕ → Result (List ℕ) ℕ
strip [] text = Ok text
strip (w ∷ word) [] = Err 0
strip (w ∷ word) (c ∷ text) = if c == w then strip word text else Err (length (c ∷ text))

-- one of the words
abbrev pub IsWord : {W T : Type 0} → (W → List ℕ) → List (W × T) → List ℕ → Type 0
IsWord now [] text = ⊥
IsWord now (e ∷ words) text = (text ≡ now e.0) ⊎ IsWord now words text

-- one of the words, with this meaning, stands in front of these bytes
abbrev pub Means : {W T : Type 0} → (W → List ℕ) → List (W × T) → T → List ℕ → List ℕ → Type 0
Means now [] meaning text rest = ⊥
Means now (e ∷ words) meaning text rest = ((meaning ≡ e.1) × (text ≡ now e.0 ++ rest)) ⊎ Means now words meaning text rest

-- one of the words has this meaning
abbrev pub IsMeant : {W T : Type 0} → List (W × T) → T → Type 0
IsMeant [] meaning = ⊥
IsMeant (e ∷ words) meaning = (e.1 ≡ meaning) ⊎ IsMeant words meaning

-- one of the words stands in front
abbrev pub IsFront : {W T : Type 0} → (W → List ℕ) → List (W × T) → List ℕ → Type 0
IsFront now [] text = ⊥
IsFront now (e ∷ words) text = Begins (now e.0) text ⊎ IsFront now words text

-- What a call found, seen by views of the meaning and of what is behind the word. Where no word is in
-- front, the text goes wrong where it parts from the last of them.
abbrev pub Finds : {W T Y : Type 0} → (W → List ℕ) → List (W × T) → (Y → T) → (Y → List ℕ) → List ℕ → Result Y Fault → Type 0
Finds now words meaning rest text (Ok y) = Means now words (meaning y) text (rest y)
Finds now words meaning rest text (Err fault) = Refuses (λ x. (x ≡ []) ⊎ IsWord now words x) (IsFront now words) text fault
