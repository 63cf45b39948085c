-- Laws of the definitions: what holds of every log and every transcript, as evidence that the definitions say what they mean.
use Rattle.std.specs.Prelude.{◌≡◌, ℕ, ◌+◌, ◌<◌, ◌≤◌, Bool, true, false, not, ◌==◌, List, [], ◌∷◌, ◌++◌, length, map, filter}
use Rattle.std.specs.List.{flat_map, filter_map, list_any, range_with_len, AllByRecursion, AllZip, AllPairs}
use Rattle.std.specs.List.Sorted.{IsNonDecreasing, IsPermutation}
use Rattle.adg_base.specs.Address.{Place}
use Rattle.adg_base.specs.declared.vector.Vector.{Vector}
use Rattle.adg_base.specs.declared.vector.Vector.TheVariants.{Begin, Put, Delete, Undo, Commit, Abort, Create, DropObject, AddColumn, NoInMemory, EndThread}
use Rattle.adg_base.specs.declared.vector.RedoRecord.{RedoRecord}
use Rattle.adg_base.specs.declared.log.LogEntry.{LogEntry}
use Rattle.adg_base.specs.declared.command.Command.{Command}
use Rattle.adg_base.specs.declared.answer.Lines.{Lines}
use Rattle.adg_base.specs.declared.answer.Reply.{Reply}
use Rattle.adg_base.specs.declared.answer.Reply.TheVariants.{Rows, Populated}
use Rattle.adg_model.specs.declared.delivery.RawDelivery.{RawDelivery}
use Rattle.adg_model.specs.declared.fault.FeedKind.{FeedKind}
use Rattle.adg_model.specs.declared.fault.RedoFault.{RedoFault}
use Rattle.adg_model.specs.Feed.{Item, BeginsFeed, FeedFails}
use Rattle.adg_model.specs.Records.{first_mark, raw_of, AreRaws, IsRecord, record_bytes}
use Rattle.adg_model.specs.Log.{frontier, entries_from, comes_before, upto, merged_log, ReceivedFrom}
use Rattle.adg_model.specs.Database.{commits, commit_scns, rows_at, table_at}
use Rattle.adg_model.specs.Sound.{IsSound, IsContinuation, IsRedoFault}
use Rattle.adg_model.specs.Command.{IsCommand, command_bytes}
use Rattle.adg_model.specs.Reply.{IsReply}
use Rattle.adg_model.specs.Transcript.{scn_of, replies_to, LegalFrom}

-- a thread has the records that it had, and more after them, and they may all follow each other
pub record Continues (old new : List RedoRecord) : Type 0 where
  pub more : List RedoRecord
  pub longer : new ≡ old ++ more
  pub follow : AreRaws first_mark (map raw_of new)

-- The log only grew: what is new in it follows what was there, at SCNs above the frontier that was, and
-- the frontier did not fall.
abbrev pub HasGrown : List (List RedoRecord) → List (List RedoRecord) → Type 0
HasGrown old new =
    (rest : List LogEntry) × (merged_log new ≡ merged_log old ++ rest) × AllByRecursion (λ e. frontier old < e.scn) rest × (frontier old ≤ frontier new)

-- So it does as threads get more records,
abbrev pub LogGrows : Type 0
LogGrows = (old new : List (List RedoRecord)) → AllZip Continues old new → HasGrown old new

-- and as more deliveries come.
abbrev pub LogGrowsByDelivery : Type 0
LogGrowsByDelivery =
    (deliveries more : List RawDelivery) (old new : List (List RedoRecord)) → length old ≡ length new
    → ReceivedFrom 1 deliveries old → ReceivedFrom 1 (deliveries ++ more) new → HasGrown old new

-- What deliveries add to a sound log continues it, from the frontier that was to the new one.
abbrev pub LogContinues : Type 0
LogContinues =
    (deliveries more : List RawDelivery) (old new : List (List RedoRecord)) → length old ≡ length new
    → ReceivedFrom 1 deliveries old → ReceivedFrom 1 (deliveries ++ more) new → IsSound (merged_log new)
    → (rest : List LogEntry) × (merged_log new ≡ merged_log old ++ rest) × IsContinuation (merged_log old) (frontier old) rest (frontier new)

-- Bytes have at most one first fault, behind the same deliveries, and none where they begin with a whole
-- feed.
abbrev pub OneFeedFault : Type 0
OneFeedFault =
    (bytes : List ℕ) (t s : ℕ) (ds : List (List Item)) (fault : FeedKind) (byte : ℕ) → FeedFails bytes t s ds fault byte
    → ((t' s' : ℕ) (ds' : List (List Item)) (fault' : FeedKind) (byte' : ℕ) → FeedFails bytes t' s' ds' fault' byte' → (ds ≡ ds') × (fault ≡ fault') × (byte ≡ byte'))
    × ((t' s' : ℕ) (ds' : List (List Item)) (unread : List ℕ) → BeginsFeed bytes t' s' ds' unread → ⊥)

-- Deliveries have at most one redo fault.
abbrev pub OneRedoFault : Type 0
OneRedoFault =
    (threads : ℕ) (deliveries : List RawDelivery) (a b : RedoFault) → IsRedoFault threads deliveries a → IsRedoFault threads deliveries b → a ≡ b

-- Deliveries give so many threads the records of one list each, and of no other.
abbrev pub RecordsAreDetermined : Type 0
RecordsAreDetermined =
    (deliveries : List RawDelivery) (a b : List (List RedoRecord)) → length a ≡ length b
    → ReceivedFrom 1 deliveries a → ReceivedFrom 1 deliveries b → a ≡ b

-- an entry without its position
abbrev pub unplaced : LogEntry → LogEntry
unplaced e = record e { pos = 0 }

-- The log of these threads: each entry comes before all that follow it, by SCN, thread and place; the
-- positions count from 0; and the entries are the vectors of the records up to the frontier, each once.
pub record IsInOrder (threads : List (List RedoRecord)) : Type 0 where
  pub rises : AllPairs (λ a b. comes_before a b ≡ true) (merged_log threads)
  pub positions : map (λ e. e.pos) (merged_log threads) ≡ range_with_len 0 (length (merged_log threads))
  pub once : IsPermutation (upto (frontier threads) (entries_from 1 threads)) (map unplaced (merged_log threads))

-- So is the log of any threads whose records may follow each other.
abbrev pub LogIsOrdered : Type 0
LogIsOrdered =
    (threads : List (List RedoRecord)) → AllByRecursion (λ records. AreRaws first_mark (map raw_of records)) threads → IsInOrder threads

-- Rows and definitions at an SCN do not depend on the entries above it.
abbrev pub RowsStopAtScn : Type 0
RowsStopAtScn =
    (log more : List LogEntry) (scn : ℕ) → AllByRecursion (λ e. scn < e.scn) more
    → (rows_at (log ++ more) scn ≡ rows_at log scn) × (table_at (log ++ more) scn ≡ table_at log scn)

-- whether a vector names a transaction
abbrev pub is_of : ℕ → Vector → Bool
is_of t (Begin txn) = txn == t
is_of t (Put txn o b s row) = txn == t
is_of t (Delete txn o b s) = txn == t
is_of t (Undo txn o b s) = txn == t
is_of t (Commit txn flag) = txn == t
is_of t (Abort txn) = txn == t
is_of t (Create o e f columns) = false
is_of t (DropObject o) = false
is_of t (AddColumn o k) = false
is_of t (NoInMemory o) = false
is_of t EndThread = false

-- whether a transaction commits in a log
abbrev pub has_committed : ℕ → List LogEntry → Bool
has_committed t log = list_any (λ e. commits t e.vector) log

-- A sound log commits a transaction at most once.
abbrev pub CommittedOnce : Type 0
CommittedOnce = (log : List LogEntry) (t : ℕ) → IsSound log → length (commit_scns t log) ≤ 1

-- a log without the entries of a transaction
abbrev pub without : ℕ → List LogEntry → List LogEntry
without t log = filter (λ e. not (is_of t e.vector)) log

-- A transaction that has not committed at an SCN changes no row at it: the rows are those of the log
-- without its entries.
abbrev pub UncommittedChangeNothing : Type 0
UncommittedChangeNothing =
    (log : List LogEntry) (t scn : ℕ) → has_committed t (upto scn log) ≡ false
    → (at : Place) → rows_at log scn at ≡ rows_at (without t log) scn at

-- what a session reads in the lines of a delivery: the SCNs of its replies in their order, then the end
abbrev pub scns_in : ℕ → Lines → List ℕ
scns_in session lines = filter_map scn_of (replies_to session lines.list) ++ lines.end ∷ []

abbrev pub scns_read : ℕ → List Lines → List ℕ
scns_read session lines = flat_map (scns_in session) lines

-- what a session reads in each delivery is at most the frontier of the records received so far
abbrev pub StayBelow : (threads session : ℕ) → List RawDelivery → List RawDelivery → List Lines → Type 0
StayBelow threads session earlier [] [] = Unit {0}
StayBelow threads session earlier [] (l ∷ ls) = ⊥
StayBelow threads session earlier (d ∷ ds) [] = ⊥
StayBelow threads session earlier (d ∷ ds) (l ∷ ls) =
    (records : List (List RedoRecord)) × (length records ≡ threads) × ReceivedFrom 1 (earlier ++ d ∷ []) records
    × AllByRecursion (λ scn. scn ≤ frontier records) (scns_in session l) × StayBelow threads session (earlier ++ d ∷ []) ds ls

-- In a legal transcript the SCNs that a session reads do not fall, from the floor on and from delivery
-- to delivery, and none is above the frontier then.
abbrev pub ScnsDoNotFall : Type 0
ScnsDoNotFall =
    (threads sessions floor : ℕ) (earlier deliveries : List RawDelivery) (lines : List Lines)
    → LegalFrom threads sessions earlier floor deliveries lines → (session : ℕ)
    → IsNonDecreasing (floor ∷ scns_read session lines) × StayBelow threads session earlier deliveries lines

-- No record's spelling begins another's: where one is a beginning of the other, they are the same record
-- and nothing is left over.
abbrev pub NoPrefix : Type 0
NoPrefix =
    (a b : RedoRecord) (rest : List ℕ) → IsRecord a → IsRecord b → record_bytes a ++ rest ≡ record_bytes b → (a ≡ b) × (rest ≡ [])

-- A text spells at most one command.
abbrev pub OneCommand : Type 0
OneCommand = (a b : Command) → IsCommand a → IsCommand b → command_bytes a ≡ command_bytes b → a ≡ b

-- Two replies say the same but for their counts. Two of rows may differ in how many of the rows came from
-- units and how many from blocks, while those are as many together. Two of a population may differ in the
-- units. Any other two are one reply.
abbrev pub SameButCounts : Reply → Reply → Type 0
SameButCounts (Rows scn answer col row) (Rows scn' answer' col' row') = (scn ≡ scn') × (answer ≡ answer') × (col + row ≡ col' + row')
SameButCounts (Populated scn units) (Populated scn' units') = scn ≡ scn'
SameButCounts r s = r ≡ s

-- A text has at most one reply at an SCN, its counts aside.
abbrev pub OneReply : Type 0
OneReply =
    (log : List LogEntry) (frontier : ℕ) (text : List ℕ) (r s : Reply)
    → IsReply log frontier text r → IsReply log frontier text s → scn_of r ≡ scn_of s → SameButCounts r s
