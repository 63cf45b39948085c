-- Lists that are cut at an SCN. The first argument of each definition gives the SCN of an entry.
use Rattle.std.specs.Prelude.{ℕ, ◌<◌, ◌≤◌, List, ◌∷◌, ◌++◌, filter, length, nat_le, nat_lt}
use Rattle.std.specs.List.{AllWithin}
use Rattle.std.specs.List.Sorted.{IsNonDecreasingBy}

-- the entries with SCNs up to one, in their order
abbrev pub upto : {X : Type 0} → (X → ℕ) → ℕ → List X → List X
upto scn through entries = filter (λ entry. nat_le (scn entry) through) entries

-- the entries with SCNs above one, in their order
abbrev pub above : {X : Type 0} → (X → ℕ) → ℕ → List X → List X
above scn through entries = filter (λ entry. nat_lt through (scn entry)) entries

-- the entries with one more, behind those with SCNs up to its own and before the others
abbrev pub entered : {X : Type 0} → (X → ℕ) → X → List X → List X
entered scn entry entries = upto scn (scn entry) entries ++ entry ∷ above scn (scn entry) entries

-- the SCNs do not fall from an entry to a later one
abbrev pub IsInScnOrder : {X : Type 0} → (X → ℕ) → List X → Type 0
IsInScnOrder scn entries = IsNonDecreasingBy scn entries

-- the first so many entries have SCNs up to one, and the others SCNs above it
pub record IsPartedAt {X : Type 0} (scn : X → ℕ) (through : ℕ) (entries : List X) (count : ℕ) : Type 0 where
  pub within : count ≤ length entries
  pub first : AllWithin (λ entry. scn entry ≤ through) entries 0 count
  pub rest : AllWithin (λ entry. through < scn entry) entries count (length entries)
