-- A feed as text: lines that add its bytes.
use Rattle.std.specs.Prelude.{◌≡◌, ℕ, ◌<◌, List, [], ◌∷◌, ◌++◌}
use Rattle.std.specs.List.{flat_map, AllByRecursion}
use Rattle.feed_text.specs.Meaning.{AddAll}

-- no newline is in a line, and no byte below one
abbrev pub IsLine : List ℕ → Type 0
IsLine text = AllByRecursion (λ c. 10 < c) text

-- lines, a newline behind each
abbrev pub lines_text : List (List ℕ) → List ℕ
lines_text lines = flat_map (λ line. line ++ 10 ∷ []) lines

-- a text is lines that add these bytes
pub record Shows (text bytes : List ℕ) : Type 0 where
  pub lines : List (List ℕ)
  pub spelled : text ≡ lines_text lines
  pub each : AllByRecursion IsLine lines
  pub add : AddAll lines bytes

-- a text grew by lines that add these bytes
abbrev pub Grows : (old new bytes : List ℕ) → Type 0
Grows old new bytes = (before : List ℕ) → Shows old before → Shows new (before ++ bytes)

-- lines were added for the bytes before a rest
pub record ShowsFront (old new bytes rest : List ℕ) : Type 0 where
  pub front : List ℕ
  pub parts : bytes ≡ front ++ rest
  pub grows : Grows old new front
