-- What is taken of a source, and why it may not come.
use Rattle.std.specs.Prelude.{◌≡◌, ℕ, ◌+◌, ◌<◌, List, ◌++◌, length, Option, Result, Ok, Err}
use Rattle.std.specs.Io.KnownBytes.{Consumes, IsAtEnd}
use Rattle.adg_io.specs.Faults.{Rose}
use Rattle.adg_model.specs.declared.fault.FeedKind.{FeedKind}
use Rattle.adg_model.specs.declared.fault.FeedKind.TheVariants.{Truncated, Read, Memory}

-- bytes of a source were taken, and counted
pub record Took (from to : Option (List ℕ)) (before after : ℕ) (bytes : List ℕ) : Type 0 where
  pub consumed : Consumes from to bytes
  pub counted : after ≡ before + length bytes

-- why the reading ended before it had what it wanted: the input ended, the source failed, or
-- memory was wanting
abbrev pub IsMissing : FeedKind → Option (List ℕ) → Type 0
IsMissing Truncated left = IsAtEnd left
IsMissing Read left = Unit {0}
IsMissing Memory left = Unit {0}
IsMissing _ left = ⊥

-- of so many bytes only these came, and the reading ended for that reason
pub record Misses (from to : Option (List ℕ)) (before after wanted : ℕ) (kind : FeedKind) : Type 0 where
  pub bytes : List ℕ
  pub took : Took from to before after bytes
  pub fewer : length bytes < wanted
  pub missing : IsMissing kind to

-- the source's count of faults rose where the fault is the source's, and is as before otherwise
abbrev pub HasFeedCause : FeedKind → ℕ → ℕ → Type 0
HasFeedCause Read before after = Rose before after
HasFeedCause _ before after = after ≡ before

abbrev pub HasCauseIn : {X : Type 0} → Result X FeedKind → ℕ → ℕ → Type 0
HasCauseIn (Ok x) before after = after ≡ before
HasCauseIn (Err kind) before after = HasFeedCause kind before after

-- the byte that a fault names: where the input ended or could not be read, how many bytes were
-- taken; else the first byte of what is at fault
abbrev pub fault_byte : FeedKind → ℕ → ℕ → ℕ
fault_byte Truncated start taken = taken
fault_byte Read start taken = taken
fault_byte Memory start taken = taken
fault_byte _ start taken = start

-- so many bytes were taken, and appended to a list
pub record TookOnto (from to : Option (List ℕ)) (before after : ℕ) (old new : List ℕ) (wanted : ℕ) : Type 0 where
  pub bytes : List ℕ
  pub took : Took from to before after bytes
  pub whole : length bytes ≡ wanted
  pub appended : new ≡ old ++ bytes
