-- The transactions of a dictionary.
use Rattle.std.specs.Prelude.{◌≡◌, ℕ, Bool, false, not, nat_eq, ◌&&◌, ◌||◌, ◌+◌, if◌then◌else◌, List, [], ◌∷◌, Option, Some, None, is_some}
use Rattle.std.specs.List.{list_any}
use Rattle.std.specs.Map.{lookup}
use Rattle.adg_base.specs.Address.{Place, same_place}
use Rattle.adg_model.specs.Database.{Change as Played, Database}
use Rattle.dictionary.specs.declared.change.Change.{Change}
use Rattle.dictionary.specs.declared.change.Pending.{Pending}
use Rattle.dictionary.specs.declared.change.Running.{Running}
use Rattle.dictionary.specs.Pending.{kept_at, change_of, count_of, earlier_at, HasChain}

-- the names of the transactions that have ended, what is kept of the running ones, and of their changes
pub record Held : Type 0 where
  pub ended : List ℕ
  pub running : List (ℕ × Running)
  pub pending : List (Change × Pending)

abbrev pub running_at : Held → ℕ → Option Running
running_at held txn = lookup (nat_eq txn) held.running

abbrev pub is_ended : Held → ℕ → Bool
is_ended held txn = list_any (nat_eq txn) held.ended

-- whether a transaction is noted, where it is running
abbrev pub IsNoted : Option Running → Bool → Type 0
IsNoted None noted = Unit {0}
IsNoted (Some running) noted = running.noted ≡ noted

abbrev pub latest_of : Option Running → Option Place
latest_of None = None
latest_of (Some running) = running.latest

-- how many changes there are at a place
abbrev pub count_at : Place → List Played → ℕ
count_at place [] = 0
count_at place (c ∷ cs) = if same_place place c.at then count_at place cs + 1 else count_at place cs

-- The transactions are those that were begun. The running ones are kept with their notes and the
-- numbers of their pending changes, and each change is on the chain of its transaction.
pub record Tracks (held : Held) (was_begun has_ended was_noted : ℕ → Bool) (changes : ℕ → List Played) : Type 0 where
  pub begun : (txn : ℕ) → was_begun txn ≡ (is_some (running_at held txn) || is_ended held txn)
  pub running : (txn : ℕ) → is_some (running_at held txn) ≡ (was_begun txn && not (has_ended txn))
  pub noted : (txn : ℕ) → IsNoted (running_at held txn) (was_noted txn)
  pub fresh : (txn : ℕ) → was_begun txn ≡ false → (has_ended txn ≡ false) × (was_noted txn ≡ false)
  pub counts : (txn : ℕ) (place : Place) → count_of (kept_at held.pending (change_of txn place)) ≡ count_at place (changes txn)
  pub chains : (txn : ℕ) → HasChain (earlier_at held.pending txn) (latest_of (running_at held txn))

-- it tracks the transactions of a database
abbrev pub TracksIn : Held → Database → Type 0
TracksIn held db = Tracks held db.begun db.ended db.noted db.pending
