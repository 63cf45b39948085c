-- What it means that the standby over the core ran deliveries.
use Rattle.std.specs.Prelude.{◌≡◌, ℕ, List, [], ◌∷◌, ◌++◌, length, Option}
use Rattle.adg_base.specs.declared.vector.RedoRecord.{RedoRecord}
use Rattle.adg_base.specs.declared.log.LogEntry.{LogEntry}
use Rattle.adg_base.specs.declared.answer.Lines.{Lines}
use Rattle.adg_model.specs.declared.delivery.RawDelivery.{RawDelivery}
use Rattle.adg_model.specs.declared.delivery.CheckedDelivery.{CheckedDelivery}
use Rattle.adg_model.specs.Log.{frontier, merged_log, ReceivedFrom}
use Rattle.adg_model.specs.Sound.{IsSound}
use Rattle.adg_model.specs.Transcript.{LegalFrom, printed}
use Rattle.core_rules.specs.State.{CoreState, opening}
use Rattle.core_rules.specs.Runs.{Move}
use Rattle.core_rules.specs.ColumnUse.{ColumnUse}
use Rattle.turn_rules.specs.Delivery.{Delivers}
use Rattle.turn_rules.specs.Earlier.{Past, told_by_lines, born_by_lines}

-- The redo that some deliveries bring: the records of so many threads can be read, and merged they are a sound log.
pub record HasRedo (threads : ℕ) (deliveries : List RawDelivery) : Type 0 where
  pub records : List (List RedoRecord)
  pub all : length records ≡ threads
  pub received : ReceivedFrom 1 deliveries records
  pub sound : IsSound (merged_log records)

-- Behind earlier deliveries one brings this to a core that has received their log: the entries by which the merged
-- log is longer now, the frontier now, its commands and its schedule bytes.
pub record Brings (threads : ℕ) (earlier : List RawDelivery) (log : List LogEntry) (d : RawDelivery) (checked : CheckedDelivery) : Type 0 where
  pub redo : HasRedo threads (earlier ++ d ∷ [])
  pub longer : merged_log redo.records ≡ log ++ checked.entries
  pub frontier : checked.frontier ≡ frontier redo.records
  pub commands : checked.commands ≡ d.commands
  pub schedule : checked.schedule ≡ d.schedule

-- A core runs a delivery: it receives what the delivery brings and takes the turns of the rule, and these are its lines.
pub record RunsDelivery (threads : ℕ) (earlier : List RawDelivery) (c : CoreState) (d : RawDelivery) (new : CoreState) (lines : Lines) : Type 0 where
  pub checked : CheckedDelivery
  pub brings : Brings threads earlier c.log d checked
  pub turns : List (Option Move)
  pub delivers : Delivers c checked turns new lines

-- One core runs deliveries in their order, from a state on, and comes to a last one; these are the lines of each.
abbrev pub RunsFrom : (threads : ℕ) → List RawDelivery → CoreState → List RawDelivery → List Lines → CoreState → Type 0
RunsFrom threads earlier c [] [] last = last ≡ c
RunsFrom threads earlier c [] (l ∷ ls) last = ⊥
RunsFrom threads earlier c (d ∷ ds) [] last = ⊥
RunsFrom threads earlier c (d ∷ ds) (l ∷ ls) last =
    (next : CoreState) × RunsDelivery threads earlier c d next l × RunsFrom threads (earlier ++ d ∷ []) next ds ls last

-- The lines of deliveries, one after another, meet column use: of each, the records received so far give the log and
-- the frontier, the end before it is the floor, and the lines before it tell which objects were populated.
abbrev pub UsesColumnsFrom : (threads : ℕ) → List RawDelivery → (floor : ℕ) → List Past → List RawDelivery → List Lines → Type 0
UsesColumnsFrom threads earlier floor pasts [] [] = Unit {0}
UsesColumnsFrom threads earlier floor pasts [] (l ∷ ls) = ⊥
UsesColumnsFrom threads earlier floor pasts (d ∷ ds) [] = ⊥
UsesColumnsFrom threads earlier floor pasts (d ∷ ds) (l ∷ ls) =
    (redo : HasRedo threads (earlier ++ d ∷ []))
    × ColumnUse (merged_log redo.records) (frontier redo.records) floor (born_by_lines pasts) (told_by_lines pasts) d.commands l
    × UsesColumnsFrom threads (earlier ++ d ∷ []) l.end (record { commands = d.commands; lines = l } ∷ pasts) ds ls

-- All of some deliveries was run, with so many workers, threads and sessions, and these bytes are the answer.
pub record RanAll (workers threads sessions : ℕ) (deliveries : List RawDelivery) (written : List ℕ) : Type 0 where
  -- the redo is no fault
  pub redo : HasRedo threads deliveries
  -- the lines of each delivery, and the bytes that were written are theirs
  pub lines : List Lines
  pub bytes : written ≡ printed 1 lines
  -- they are those of one core, which begins in the opening state and runs the deliveries in their order
  pub core : CoreState
  pub ran : RunsFrom threads [] (opening workers sessions) deliveries lines core
  -- each reply is the meaning of its command over the merged log, at an SCN that it may name
  pub legal : LegalFrom threads sessions [] 0 deliveries lines
  -- rows come from column units as far as is stated
  pub columns : UsesColumnsFrom threads [] 0 [] deliveries lines
