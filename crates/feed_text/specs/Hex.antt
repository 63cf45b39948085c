-- Bytes in hexadecimal.
use Rattle.std.specs.Prelude.{ℕ, ◌+◌, ◌/◌, ◌%◌, ◌^◌, ◌<◌, ◌≤◌, nat_lt, ◌==◌, if◌then◌else◌, List, [], ◌∷◌, ◌++◌, codes}
use Rattle.std.specs.List.{flat_map}
use Rattle.std.specs.Fmt.{decimal}

-- a byte that stands so often in a row
pub record Run : Type 0 where
  pub byte : ℕ
  pub count : ℕ

abbrev pub IsRun : Run → Type 0
IsRun r = (r.byte < 2 ^ 8) × (1 ≤ r.count) × (r.count < 2 ^ 64)

abbrev pub hex_digit : ℕ → ℕ
hex_digit n = if nat_lt n 10 then 48 + n else 87 + n

abbrev pub hex_byte : ℕ → List ℕ
hex_byte byte = hex_digit (byte / 16) ∷ hex_digit (byte % 16) ∷ []

-- how often, where it is more than once
abbrev pub times_text : ℕ → List ℕ
times_text count = if count == 1 then [] else codes "*" ++ decimal count

-- two digits, and behind a star how often
abbrev pub run_text : Run → List ℕ
run_text r = hex_byte r.byte ++ times_text r.count

-- runs, each behind a blank
abbrev pub runs_text : List Run → List ℕ
runs_text runs = flat_map (λ r. codes " " ++ run_text r) runs

abbrev pub run : ℕ → ℕ → Run
run b n = record { byte = b; count = n }

-- the runs of bytes behind a run that goes on with them
abbrev pub runs_from : Run → List ℕ → List Run
runs_from r [] = r ∷ []
runs_from r (b ∷ bytes) = if b == r.byte then runs_from (run r.byte (r.count + 1)) bytes else r ∷ runs_from (run b 1) bytes

-- bytes as runs
abbrev pub runs : List ℕ → List Run
runs [] = []
runs (b ∷ bytes) = runs_from (run b 1) bytes

-- bytes in hexadecimal
abbrev pub hex_text : List ℕ → List ℕ
hex_text bytes = runs_text (runs bytes)
