-- Where a text goes wrong, and what a part of a text spells.
use Rattle.std.specs.Prelude.{◌≡◌, ℕ, List, [], ◌∷◌, ◌++◌, length, Option, Some, None, Result, Ok, Err}
use Rattle.query_text.specs.declared.fault.Fault.{Fault}
use Rattle.query_text.specs.declared.fault.Fault.TheVariants.{Stopped, Memory}

-- the byte in front
abbrev pub first : List ℕ → Option ℕ
first [] = None
first (c ∷ text) = Some c

-- A text goes wrong where so many of its bytes are left: what stands before them begins something good.
-- Nothing that may come goes on from there with the next byte, and the text itself is nothing that may come.
pub record Stops (Good May : List ℕ → Type 0) (text : List ℕ) (left : ℕ) : Type 0 where
  pub before : List ℕ
  pub behind : List ℕ
  pub parts : text ≡ before ++ behind
  pub len : length behind ≡ left
  pub more : List ℕ
  pub begins : Good (before ++ more)
  pub none : May text → ⊥
  pub longest : (c : ℕ) (cs later : List ℕ) → behind ≡ c ∷ cs → May (before ++ c ∷ later) → ⊥

-- a text goes wrong there, or memory runs out
abbrev pub Refuses : (List ℕ → Type 0) → (List ℕ → Type 0) → List ℕ → Fault → Type 0
Refuses Good May text (Stopped left) = Stops Good May text left
Refuses Good May text Memory = Unit {0}

-- a text is the spelling of something good
pub record Spelled {X : Type 0} (Good : X → Type 0) (spell : X → List ℕ) (text : List ℕ) : Type 0 where
  pub value : X
  pub good : Good value
  pub is : text ≡ spell value

-- such a spelling stands in front, and what follows may follow it
pub record Front {X : Type 0} (Ends : X → List ℕ → Type 0) (Good : X → Type 0) (spell : X → List ℕ) (text : List ℕ) : Type 0 where
  pub value : X
  pub rest : List ℕ
  pub good : Good value
  pub ends : Ends value rest
  pub is : text ≡ spell value ++ rest

-- this is spelled in front, and these bytes follow
pub record Takes {X : Type 0} (Ends : X → List ℕ → Type 0) (Good : X → Type 0) (spell : X → List ℕ) (text : List ℕ) (value : X) (rest : List ℕ) : Type 0 where
  pub good : Good value
  pub ends : Ends value rest
  pub is : text ≡ spell value ++ rest

-- What a function took off the front of a text, seen by views of the value and of the bytes behind it.
abbrev pub Reads : {X Y : Type 0} → (Y → X) → (Y → List ℕ) → (X → List ℕ → Type 0) → (X → Type 0) → (X → List ℕ) → List ℕ → Result Y Fault → Type 0
Reads value rest Ends Good spell text (Ok y) = Takes Ends Good spell text (value y) (rest y)
Reads value rest Ends Good spell text (Err fault) = Refuses (Spelled Good spell) (Front Ends Good spell) text fault

-- What a function read from all of a text.
abbrev pub ReadsAll : {X Y : Type 0} → (Y → X) → (X → Type 0) → (X → List ℕ) → List ℕ → Result Y Fault → Type 0
ReadsAll value Good spell text (Ok y) = Good (value y) × (text ≡ spell (value y))
ReadsAll value Good spell text (Err fault) = Refuses (Spelled Good spell) (Spelled Good spell) text fault

-- anything may follow
abbrev pub Anything : {X : Type 0} → X → List ℕ → Type 0
Anything x rest = Unit {0}

-- a text begins with a word
abbrev pub Begins : List ℕ → List ℕ → Type 0
Begins word text = (rest : List ℕ) × (text ≡ word ++ rest)

-- What a function found behind one word, seen by a view of what is behind it.
abbrev pub ReadsWord : {Y : Type 0} → (Y → List ℕ) → List ℕ → List ℕ → Result Y Fault → Type 0
ReadsWord rest word text (Ok y) = text ≡ word ++ rest y
ReadsWord rest word text (Err fault) = Refuses (λ x. x ≡ word) (Begins word) text fault
