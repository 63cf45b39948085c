-- What the map that an area keeps shows.
use Rattle.std.specs.Prelude.{ℕ, List, map}
use Rattle.adg_base.specs.Area.{Held}
use Rattle.adg_journal.specs.declared.noted.Noted.{Noted}

-- what is held of a transaction with its number
abbrev pub held_from : ℕ → Noted → Held
held_from txn noted = record { txn = txn; begun = noted.begun; places = noted.places }

-- what is held of all of them
abbrev pub shown : List (ℕ × Noted) → List Held
shown entries = map (λ (e : ℕ × Noted). held_from e.0 e.1) entries
