-- What an intake of redo has taken, and what it gives for one delivery more.
use Rattle.std.specs.Prelude.{◌≡◌, ℕ, List, [], ◌∷◌, ◌++◌, length, None, Result, Ok, Err}
use Rattle.std.specs.List.{flat_map}
use Rattle.adg_base.specs.declared.vector.RedoRecord.{RedoRecord}
use Rattle.adg_base.specs.declared.log.LogEntry.{LogEntry}
use Rattle.adg_model.specs.declared.fault.CheckKind.{CheckKind}
use Rattle.adg_model.specs.declared.fault.RedoFault.{RedoFault}
use Rattle.adg_model.specs.declared.fault.RedoKind.TheVariants.{Unsound}
use Rattle.adg_model.specs.declared.delivery.RedoPiece.{RedoPiece}
use Rattle.adg_model.specs.declared.delivery.RawDelivery.{RawDelivery}
use Rattle.adg_model.specs.declared.delivery.CheckedDelivery.{CheckedDelivery}
use Rattle.adg_model.specs.Log.{frontier, merged_log, ReceivedFrom}
use Rattle.adg_model.specs.Sound.{IsContinuation, IsFirstUnsound, IsRedoFault}
use Rattle.log_merger.specs.declared.refused.MergeRefused.{MergeRefused}
use Rattle.log_merger.specs.declared.refused.MergeRefused.TheVariants as merge
use Rattle.log_merger.specs.Merger.{Merging, StandsFor as Merges, texts_of}
use Rattle.dictionary.specs.Standing.{Known, StandsFor, MayFollow}
use Rattle.redo_intake.specs.declared.refused.IntakeRefused.{IntakeRefused}
use Rattle.redo_intake.specs.declared.refused.IntakeRefused.TheVariants.{Redo, Memory}

-- a merger, and the dictionary of the entries that it gave
pub record Taking : Type 0 where
  pub merger : Merging
  pub dictionary : Known

-- The redo of some deliveries of so many threads was taken. The merger has given the whole merged log of
-- their records, and the dictionary stands for that log, so each entry has passed its checks.
pub record HasTaken (t : Taking) (threads : ℕ) (deliveries : List RawDelivery) : Type 0 where
  pub records : List (List RedoRecord)
  pub all : length records ≡ threads
  pub received : ReceivedFrom 1 deliveries records
  pub merged : Merges t.merger (texts_of deliveries) (merged_log records)
  pub known : StandsFor t.dictionary (merged_log records)
  pub many : length t.merger.threads ≡ threads
  pub good : t.merger.refused ≡ None

-- One delivery more was taken, and checked: its entries continue the merged log, up to the frontier now,
-- and its commands and its schedule are what they were.
pub record Checks {old : Taking} {threads : ℕ} {deliveries : List RawDelivery} (before : HasTaken old threads deliveries) (new : Taking) (delivery : RawDelivery) (checked : CheckedDelivery) : Type 0 where
  pub taken : HasTaken new threads (deliveries ++ delivery ∷ [])
  pub log : merged_log taken.records ≡ merged_log before.records ++ checked.entries
  pub continues : IsContinuation (merged_log before.records) (frontier before.records) checked.entries (frontier taken.records)
  pub frontier_is : checked.frontier ≡ frontier taken.records
  pub commands : checked.commands ≡ delivery.commands
  pub schedule : checked.schedule ≡ delivery.schedule

-- It was taken, or the redo with it has this fault, or memory is wanting.
abbrev pub TakesOne : {old : Taking} {threads : ℕ} {deliveries : List RawDelivery} → HasTaken old threads deliveries → Taking → RawDelivery → Result CheckedDelivery IntakeRefused → Type 0
TakesOne before new delivery (Ok checked) = Checks before new delivery checked
TakesOne {old} {threads} {deliveries} before new delivery (Err (Redo fault)) = IsRedoFault threads (deliveries ++ delivery ∷ []) fault
TakesOne before new delivery (Err Memory) = Unit {0}

-- the bytes of some pieces, one after another
abbrev pub bytes_of : List RedoPiece → List ℕ
bytes_of pieces = flat_map (λ p. p.bytes) pieces

-- each entry may come next after a log and the entries before it
abbrev pub FollowOn : List LogEntry → List LogEntry → Type 0
FollowOn log [] = Unit {0}
FollowOn log (e ∷ es) = MayFollow log e × FollowOn (log ++ e ∷ []) es

-- of a log with some entries more the first that fails a check, and the fault that says so
pub record IsUnsoundAt (log entries : List LogEntry) (fault : RedoFault) : Type 0 where
  pub entry : LogEntry
  pub check : CheckKind
  pub unsound : IsFirstUnsound (log ++ entries) entry check
  pub fault_is : fault ≡ record { thread = entry.thread; number = entry.number; kind = Unsound entry.index check }

-- why a delivery is not taken whose redo is not merged
abbrev pub of_merge : MergeRefused → IntakeRefused
of_merge (merge.Redo fault) = Redo fault
of_merge merge.Memory = Memory
