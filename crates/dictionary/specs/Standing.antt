-- What a dictionary stands for: a log, the entries that it accepted.
use Rattle.std.specs.Prelude.{◌≡◌, ℕ, ◌≤◌, List, length, Option, Some, None, Result, Ok, Err}
use Rattle.std.specs.List.{AllByRecursion}
use Rattle.adg_base.specs.declared.log.LogEntry.{LogEntry}
use Rattle.adg_model.specs.declared.fault.CheckKind.{CheckKind}
use Rattle.adg_model.specs.Spelling.{IsVector}
use Rattle.adg_model.specs.Log.{numbered}
use Rattle.adg_model.specs.Database.{database}
use Rattle.adg_model.specs.Sound.{IsSound, ScnsWithin}
use Rattle.dictionary.specs.declared.history.Step.{Step}
use Rattle.dictionary.specs.declared.refused.RedoRefused.{RedoRefused}
use Rattle.dictionary.specs.declared.refused.RedoRefused.TheVariants.{Check, Memory}
use Rattle.dictionary.specs.Transactions.{Held, TracksIn}
use Rattle.dictionary.specs.Objects.{Catalogs}

-- the transactions, and the steps of each object
pub record Known : Type 0 where
  pub transactions : Held
  pub objects : List (List Step)

-- A log is sound, its positions run on from 0, and its SCNs do not fall. The transactions and the
-- objects of a dictionary are those of the log.
pub record StandsFor (known : Known) (log : List LogEntry) : Type 0 where
  pub sound : IsSound log
  pub places : numbered 0 log ≡ log
  pub last : ℕ
  pub scns : ScnsWithin 0 last log
  pub transactions : TracksIn known.transactions (database log)
  pub objects : Catalogs known.objects log

-- an entry that may come next: its vector has a spelling, its position is the next one, and its SCN is
-- not below those before
pub record MayFollow (log : List LogEntry) (entry : LogEntry) : Type 0 where
  pub spelled : IsVector 1 entry.vector
  pub place : entry.pos ≡ length log
  pub scn : AllByRecursion (λ e. e.scn ≤ entry.scn) log

-- an answer to an entry, by the check that it fails; want of memory says nothing
abbrev pub IsAnswer : {T : Type 0} → Result T RedoRefused → Option CheckKind → Type 0
IsAnswer (Ok done) refused = refused ≡ None
IsAnswer (Err (Check check)) refused = refused ≡ Some check
IsAnswer (Err Memory) refused = Unit {0}
