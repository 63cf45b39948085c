-- The laws of the core, each the promise of a function that does nothing.
use Rattle.std.specs.Prelude.{◌≡◌, ℕ, ◌+◌, ◌*◌, ◌<◌, ◌≤◌, true, List, length, map, count_by, Some, ◌⊎◌}
use Rattle.std.specs.List.{Contains, AllByRecursion}
use Rattle.adg_base.specs.Address.{Place}
use Rattle.adg_base.specs.Area.{HoldsPlace, HoldsBegin}
use Rattle.adg_base.specs.Shard.{shard_of_vector}
use Rattle.adg_base.specs.declared.log.LogEntry.{LogEntry}
use Rattle.adg_base.specs.declared.command.Command.TheVariants as command
use Rattle.adg_base.specs.declared.answer.Reply.{Reply}
use Rattle.adg_model.specs.declared.mined.Mined.TheVariants as mined
use Rattle.adg_model.specs.Mined.{mined_of}
use Rattle.adg_model.specs.Database.{rows_at}
use Rattle.adg_model.specs.Query.{select_lines, answer_of, row_count, table_rows}
use Rattle.adg_model.specs.Command.{Spells}
use Rattle.adg_model.specs.Reply.{IsReply}
use Rattle.core_rules.specs.declared.event.Event.{Event}
use Rattle.core_rules.specs.declared.event.Event.TheVariants as event
use Rattle.core_rules.specs.declared.event.CoreAnswer.{CoreAnswer}
use Rattle.core_rules.specs.declared.event.CoreAnswer.TheVariants.{NotReady, Moved, Said}
use Rattle.core_rules.specs.Share.{ends, begun_above, CommitsAt}
use Rattle.core_rules.specs.Extents.{IsInExtent}
use Rattle.core_rules.specs.State.{CoreState, Worker, Shard, ColumnUnit, Population, Scan, Populating, Scanning, Idle, Flushing, At, share_of, limit, is_unclaimed, is_finished, holds_begin}
use Rattle.core_rules.specs.Applying.{Receives}
use Rattle.core_rules.specs.Flush.{Publishes}
use Rattle.core_rules.specs.Populations.{IsSession}
use Rattle.core_rules.specs.Step.{Guard, Happens, Steps}
use Rattle.core_rules.specs.Invariant.{Invariant, Precise}
use Rattle.core_rules.specs.Runs.{Move, Takes, Leads, Runs}
use Rattle.core_rules.specs.Covering.{Covers}

-- Each step keeps the invariant, and the precision of marks beside it; and so does the receiving of redo.
abbrev pub StepsKeepInvariant : Type 0
StepsKeepInvariant = (c : CoreState) (e : Event) (answer : CoreAnswer) (new : CoreState) → Steps c e answer new → Invariant c → Invariant new

abbrev pub StepsKeepPrecision : Type 0
StepsKeepPrecision = (c : CoreState) (e : Event) (answer : CoreAnswer) (new : CoreState) → Steps c e answer new → Invariant c → Precise c → Precise new

abbrev pub ReceivingKeepsInvariant : Type 0
ReceivingKeepsInvariant =
    (c : CoreState) (entries : List LogEntry) (frontier : ℕ) (new : CoreState) → Receives c entries frontier new → Invariant c → Invariant new

abbrev pub ReceivingKeepsPrecision : Type 0
ReceivingKeepsPrecision =
    (c : CoreState) (entries : List LogEntry) (frontier : ℕ) (new : CoreState) → Receives c entries frontier new → Invariant c → Precise c → Precise new

-- So every state that a run reaches meets both.
abbrev pub RunsMeetInvariant : Type 0
RunsMeetInvariant = (workers sessions : ℕ) (moves : List Move) (c : CoreState) → 0 < workers → Runs workers sessions moves c → Invariant c × Precise c

-- An event has an outcome exactly where its guard holds, and then does not answer NotReady.
pub record IsExact (c : CoreState) (e : Event) : Type 0 where
  pub possible : Guard c e → (answer : CoreAnswer) × (new : CoreState) × Happens c e answer new
  pub guarded : (answer : CoreAnswer) (new : CoreState) → Happens c e answer new → Guard c e
  pub ready : (new : CoreState) → Happens c e NotReady new → ⊥

abbrev pub GuardsAreExact : Type 0
GuardsAreExact = (c : CoreState) (e : Event) → Invariant c → IsExact c e

-- Flush before publish: once an SCN is published, each address that was noted for a transaction which committed
-- above the old QuerySCN and at most at the new one is marked in the unit that stands for its extent, or the unit
-- is marked wholly; and no area holds anything of the transaction.
pub record IsFlushed (c new : CoreState) (t : ℕ) : Type 0 where
  pub marked : (a : Place) (e : LogEntry) (extent : ℕ) (u : ColumnUnit) → Contains c.log e → mined_of c.log e ≡ Some (mined.Note t a)
      → new.units a.obj extent ≡ Some u → IsInExtent a.obj extent a → (u.all ≡ true) ⊎ (u.marked a ≡ true)
  pub no_places : (worker : ℕ) (w : Worker) (a : Place) → At new.workers worker w → HoldsPlace w.area t a → ⊥
  pub no_begins : (worker : ℕ) (w : Worker) → At new.workers worker w → HoldsBegin w.area t → ⊥

abbrev pub FlushBeforePublish : Type 0
FlushBeforePublish =
    (c new : CoreState) (t scn : ℕ) → Invariant c → Publishes c new → CommitsAt c.log t scn → c.query < scn → scn ≤ new.query → IsFlushed c new t

-- A begun flush needs nobody but the coordinator: with so many worklinks unclaimed and none held, so many of its
-- events, each of which moves, lead to the publication.
abbrev pub IsOfCoordinator : Event → Type 0
IsOfCoordinator (event.Claim actor) = actor ≡ 0
IsOfCoordinator (event.Collect actor) = actor ≡ 0
IsOfCoordinator (event.Touch actor) = actor ≡ 0
IsOfCoordinator (event.Done actor) = actor ≡ 0
IsOfCoordinator event.Publish = Unit {0}
IsOfCoordinator other = ⊥

abbrev pub moving : List Event → List Move
moving events = map (λ e. Takes e Moved) events

pub record EndsFlush (c : CoreState) (through count : ℕ) : Type 0 where
  pub events : List Event
  pub coordinator : AllByRecursion IsOfCoordinator events
  pub count_is : length events ≡ count
  pub last : CoreState
  pub leads : Leads c (moving events) last
  pub idle : last.quiesce ≡ Idle
  pub published : last.query ≡ through

abbrev pub FlushEnds : Type 0
FlushEnds =
    (c : CoreState) (through : ℕ) → Invariant c → c.quiesce ≡ Flushing through
    → AllByRecursion (λ l. (is_unclaimed l.stage ≡ true) ⊎ (is_finished l.stage ≡ true)) c.links
    → EndsFlush c through (count_by (λ l. is_unclaimed l.stage) c.links * (length c.workers + 34) + 1)

-- A finished scan has the meaning of its SELECT: its rows are the committed rows of its object at its SCN, each as wide
-- as the object; the answer is that over them; and those from units and those from blocks are all of them together.
pub record HasMeaning (c : CoreState) (s : Scan) : Type 0 where
  pub rows : s.rows ≡ table_rows (rows_at c.log s.scn) s.select.obj s.table
  pub answer : select_lines s.select s.rows ≡ answer_of (rows_at c.log s.scn) s.select s.table
  pub split : s.col + s.row ≡ row_count (rows_at c.log s.scn) s.select.obj s.table

abbrev pub FinishedScansHaveMeaning : Type 0
FinishedScansHaveMeaning =
    (c : CoreState) (place : ℕ) (s : Scan) → Invariant c → At c.sessions place (Scanning s) → s.table.extents ≤ s.extents → HasMeaning c s

-- what an event replies is the reply to a text that spells the command of its session
abbrev pub IsTextOf : CoreState → Event → List ℕ → Type 0
IsTextOf c (event.PopBegin session obj) text = Spells text (command.Populate obj)
IsTextOf c (event.PopEnd session) text =
    (place : ℕ) × (p : Population) × IsSession c session place (Populating p) × Spells text (command.Populate p.obj)
IsTextOf c (event.ScanBegin session select) text = Spells text (command.Select select)
IsTextOf c (event.ScanEnd session) text =
    (place : ℕ) × (s : Scan) × IsSession c session place (Scanning s) × Spells text (command.Select s.select)
IsTextOf c other text = ⊥

abbrev pub RepliesHaveMeaning : Type 0
RepliesHaveMeaning =
    (c : CoreState) (e : Event) (said : Reply) (new : CoreState) (text : List ℕ) → Invariant c → Steps c e (Said said) new → IsTextOf c e text
    → IsReply c.log c.frontier text said

-- A look at a unit covers every SCN from the unit's snapshot up to the QuerySCN.
abbrev pub UnitsCover : Type 0
UnitsCover =
    (c : CoreState) (obj extent scn : ℕ) (u : ColumnUnit) → Invariant c → c.units obj extent ≡ Some u → u.snapshot ≤ scn → scn ≤ c.query
    → Covers c.log obj extent scn u

-- Every entry up to what is cut is applied: so the row store serves the QuerySCN, each snapshot and each scan's SCN.
abbrev pub CutIsApplied : Type 0
CutIsApplied =
    (c : CoreState) (e : LogEntry) (n : ℕ) (s : Shard) → Invariant c → Contains c.log e → e.scn ≤ limit c → shard_of_vector e.vector ≡ Some n → At c.shards n s
    → e.pos < s.applied

-- A worker's next entry is the next one of its shard, or one that the shard has.
abbrev pub NextClosesShard : Type 0
NextClosesShard =
    (c : CoreState) (worker : ℕ) (w : Worker) (e x : LogEntry) (n : ℕ) (s : Shard) → Invariant c → At c.workers worker w → At (share_of c worker) w.applied e
    → shard_of_vector e.vector ≡ Some n → At c.shards n s → Contains c.log x → shard_of_vector x.vector ≡ Some n → x.pos < e.pos → x.pos < s.applied

-- What a worker mines next lies above what is cut, and where it ends a transaction, the mark of the area tells whether
-- the transaction began since the last restart.
pub record NextMinedIs (c : CoreState) (w : Worker) (e : LogEntry) : Type 0 where
  pub above : limit c < e.scn
  pub complete : (t : ℕ) → ends t e.vector ≡ true → holds_begin w.area t ≡ begun_above c.log c.born t

abbrev pub NextMinedIsOpen : Type 0
NextMinedIsOpen = (c : CoreState) (worker : ℕ) (w : Worker) (e : LogEntry) → Invariant c → At c.workers worker w → At (share_of c worker) w.mined e → NextMinedIs c w e
