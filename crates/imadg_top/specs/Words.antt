-- The accepted lines of words.
use Rattle.std.specs.Prelude.{ℕ, ◌-◌, nat_le, ◌&&◌, if◌then◌else◌, List, [], ◌∷◌, take, drop, Option, Some, None, codes}
use Rattle.std.specs.Str.{bytes_eq}

-- one decimal digit from 1 to 8
abbrev pub number_of_workers : List ℕ → Option ℕ
number_of_workers [] = None
number_of_workers (digit ∷ []) = if nat_le 0x31 digit && nat_le digit 0x38 then Some (digit - 0x30) else None
number_of_workers (digit ∷ other ∷ more) = None

abbrev pub separate : List ℕ → List ℕ → List ℕ → Option ℕ
separate mode name value = if bytes_eq mode (codes "step") && bytes_eq name (codes "--workers") then number_of_workers value else None

abbrev pub joined : List ℕ → List ℕ → Option ℕ
joined mode option = if bytes_eq mode (codes "step") && bytes_eq (take 10 option) (codes "--workers=") then number_of_workers (drop 10 option) else None

-- the workers that an accepted line names: `step --workers N` or `step --workers=N`; None for every other line
abbrev pub workers_of : List (List ℕ) → Option ℕ
workers_of [] = None
workers_of (mode ∷ []) = None
workers_of (mode ∷ option ∷ []) = joined mode option
workers_of (mode ∷ name ∷ value ∷ []) = separate mode name value
workers_of (mode ∷ name ∷ value ∷ other ∷ more) = None
