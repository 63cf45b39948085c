-- What a text stands for.
use Rattle.std.specs.Prelude.{◌≡◌, ℕ, ◌+◌, List, [], ◌∷◌, ◌++◌, Result, Ok, Err, ◌⊎◌}
use Rattle.feed_text.specs.declared.line.Line.{Line}
use Rattle.feed_text.specs.declared.reason.Reason.{Reason}
use Rattle.feed_text.specs.declared.reason.Reason.TheVariants.{NoSpelling}
use Rattle.feed_text.specs.declared.refused.LineRefused.{LineRefused}
use Rattle.feed_text.specs.declared.refused.LineRefused.TheVariants.{Broken, Memory}
use Rattle.feed_text.specs.Lines.{line_bytes, IsGood}
use Rattle.feed_text.specs.LineReading.{line_of, split}

-- a line of text adds these bytes
pub record Adds (text bytes : List ℕ) : Type 0 where
  pub line : Line
  pub read : line_of text ≡ Ok line
  pub good : IsGood line
  pub spelled : bytes ≡ line_bytes line

-- lines add these bytes one after another
abbrev pub AddAll : List (List ℕ) → List ℕ → Type 0
AddAll [] bytes = bytes ≡ []
AddAll (text ∷ texts) bytes = (first : List ℕ) × (others : List ℕ) × (bytes ≡ first ++ others) × Adds text first × AddAll texts others

-- a text stands for these bytes: its lines, between newlines, add them
abbrev pub Assembles : List ℕ → List ℕ → Type 0
Assembles text bytes = AddAll (split 10 text) bytes

-- a line breaks the notation: it cannot be read, or what it says stands for no bytes
abbrev pub Breaks : List ℕ → Reason → Type 0
Breaks text reason = (line_of text ≡ Err reason) ⊎ ((reason ≡ NoSpelling) × (line : Line) × (line_of text ≡ Ok line) × (IsGood line → ⊥))

-- the line of this number, from one on, is the first that breaks the notation
abbrev pub BreaksAt : ℕ → List (List ℕ) → ℕ → Reason → Type 0
BreaksAt from [] number reason = ⊥
BreaksAt from (text ∷ texts) number reason =
    ((number ≡ from) × Breaks text reason) ⊎ ((bytes : List ℕ) × Adds text bytes × BreaksAt (from + 1) texts number reason)

-- what adding a line of text did: its bytes were added, or it breaks the notation, or memory ran out
abbrev pub AddsLine : Result (Unit {0}) LineRefused → (text old new : List ℕ) → Type 0
AddsLine (Ok done) text old new = (bytes : List ℕ) × Adds text bytes × (new ≡ old ++ bytes)
AddsLine (Err (Broken reason)) text old new = Breaks text reason
AddsLine (Err Memory) text old new = Unit {0}
