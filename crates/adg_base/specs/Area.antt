-- What an area of the journal holds, transaction by transaction.
use Rattle.std.specs.Prelude.{ℕ, Bool, true, ◌≡◌, List}
use Rattle.std.specs.List.{Contains}
use Rattle.adg_base.specs.Address.{Place}

-- of a transaction: whether its beginning was noted, and the addresses that were noted for it
pub record Held : Type 0 where
  pub txn : ℕ
  pub begun : Bool
  pub places : List Place

-- the area holds this address for this transaction
pub record HoldsPlace (area : List Held) (txn : ℕ) (at : Place) : Type 0 where
  pub held : Held
  pub within : Contains area held
  pub of : held.txn ≡ txn
  pub noted : Contains held.places at

-- the area holds that this transaction's beginning was noted
pub record HoldsBegin (area : List Held) (txn : ℕ) : Type 0 where
  pub held : Held
  pub within : Contains area held
  pub of : held.txn ≡ txn
  pub noted : held.begun ≡ true
