-- What the parts of the generator keep to.
use Rattle.std.specs.Prelude.{◌≡◌, ℕ, ◌+◌, ◌*◌, ◌<◌, ◌≤◌, ℤ, pos, negsuc, ◌≤ℤ◌, List, Option, Some, None, length, slice_index_or}
use Rattle.feed_gen.specs.declared.transfer.Transfer.{Transfer}
use Rattle.feed_gen.specs.declared.second.Second.{Second}
use Rattle.feed_gen.specs.declared.second.Kept.{Kept}
use Rattle.feed_gen.specs.declared.bank.Bank.{Bank}

-- one of the tables, and one of its rows
abbrev pub IsTable : ℕ → Type 0
IsTable table = (1 ≤ table) × (table ≤ 20)

abbrev pub IsRowNumber : ℕ → Type 0
IsRowNumber row = row < 100

pub record IsTransfer (t : Transfer) : Type 0 where
  pub table : IsTable t.table
  pub from : IsRowNumber t.from
  pub to : IsRowNumber t.to
  pub amount : t.amount < 100

pub record IsSecond (s : Second) : Type 0 where
  pub table : IsTable s.table
  pub from : IsRowNumber s.from
  pub to : IsRowNumber s.to

abbrev pub IsKept : Option Second → Type 0
IsKept None = Unit {0}
IsKept (Some s) = IsSecond s

pub record AreKept (kept : Kept) : Type 0 where
  pub one : IsKept kept.one
  pub two : IsKept kept.two
  pub three : IsKept kept.three

-- a balance within so much of nothing, and the balances of all rows
pub record IsWithin (most : ℕ) (balance : ℤ) : Type 0 where
  pub low : negsuc most ≤ℤ balance
  pub high : balance ≤ℤ pos most

pub record AreWithin (most : ℕ) (balances : List ℤ) : Type 0 where
  pub rows : length balances ≡ 2000
  pub each : (k : ℕ) → IsWithin most (slice_index_or balances k (pos 0))

-- no transfer moves more than 100
pub record IsGood (bank : Bank) : Type 0 where
  pub kept : AreKept bank.kept
  pub balances : AreWithin (1000 + 100 * bank.made) bank.balances
