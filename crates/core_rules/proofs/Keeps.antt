-- The statements of the lemmas between the parts of the proof, so that each can be proved beside the others.
use Rattle.std.proofs.Common.{◌≡◌, ℕ, ◌<◌, ◌≤◌, Bool, true, false, List, take, ◌⊎◌}
use Rattle.std.specs.List.{Contains}
use Rattle.adg_base.specs.declared.vector.Vector.TheVariants.{Commit}
use Rattle.adg_base.specs.declared.log.LogEntry.{LogEntry}
use Rattle.adg_base.specs.declared.node.Item.{Item}
use Rattle.core_rules.specs.Share.{redefines, begun_above, EndedWithin}
use Rattle.core_rules.specs.State.{CoreState, Worker, Link, At, share_of, limit, has_txn, has_change, has_coarse, has_drop}
use Rattle.core_rules.specs.LogFacts.{LogHasFacts}
use Rattle.core_rules.specs.Invariant.{Invariant, Precise}

-- A change of the state keeps the invariant, the precision of marks beside it, and one of its parts. The facts of a
-- log are taken as given.
abbrev pub Keeps : (CoreState → CoreState → Type 0) → Type 0
Keeps R = LogHasFacts → (c new : CoreState) → R c new → Invariant c → Invariant new

abbrev pub KeepsPrecise : (CoreState → CoreState → Type 0) → Type 0
KeepsPrecise R = LogHasFacts → (c new : CoreState) → R c new → Invariant c → Precise c → Precise new

abbrev pub KeepsPart : (CoreState → Type 0) → (CoreState → CoreState → Type 0) → Type 0
KeepsPart P R = LogHasFacts → (c new : CoreState) → R c new → Invariant c → P new

-- Of a commit that is cut and not published.
pub record CutCommit (c : CoreState) (t : ℕ) (whole : Bool) : Type 0 where
  pub entry : LogEntry
  pub within : Contains c.log entry
  pub commits : entry.vector ≡ Commit t true
  pub above : c.query < entry.scn
  pub upto : entry.scn ≤ limit c
  pub begun : begun_above c.log c.born t ≡ whole

-- a worklink of the state
pub record HasItem (c : CoreState) (test : List Item → Bool) : Type 0 where
  pub number : ℕ
  pub link : Link
  pub found : At c.links number link
  pub has : test link.items ≡ true

-- A worklink's transaction ended and is cut; a Change is of a commit with the flag that began after the last
-- restart, a Coarse of one that began before; and so the other way round.
abbrev pub ItemsEnd : Type 0
ItemsEnd = (c : CoreState) → Invariant c → (n : ℕ) (l : Link) (t : ℕ) → At c.links n l → has_txn t l.items ≡ true → EndedWithin c.log c.query (limit c) t

abbrev pub ChangesCommit : Type 0
ChangesCommit = (c : CoreState) → Invariant c → (n : ℕ) (l : Link) (t : ℕ) → At c.links n l → has_change t l.items ≡ true → CutCommit c t true

abbrev pub CoarsesCommit : Type 0
CoarsesCommit = (c : CoreState) → Invariant c → (n : ℕ) (l : Link) → At c.links n l → has_coarse l.items ≡ true → (t : ℕ) × CutCommit c t false

abbrev pub EndsHaveItems : Type 0
EndsHaveItems = (c : CoreState) → Invariant c → (t : ℕ) → EndedWithin c.log c.query (limit c) t → HasItem c (has_txn t)

-- the worklink of a commit with the flag has its Change or a Coarse
abbrev pub CommitsHaveItems : Type 0
CommitsHaveItems =
    LogHasFacts → (c : CoreState) → Invariant c → (n : ℕ) (l : Link) (t : ℕ) (e : LogEntry) → At c.links n l → has_txn t l.items ≡ true
    → Contains c.log e → e.vector ≡ Commit t true
    → ((begun_above c.log c.born t ≡ true) × (has_change t l.items ≡ true)) ⊎ ((begun_above c.log c.born t ≡ false) × (has_coarse l.items ≡ true))

abbrev pub RedefinitionsHaveItems : Type 0
RedefinitionsHaveItems =
    (c : CoreState) → Invariant c → (obj : ℕ) (e : LogEntry) → Contains c.log e → redefines obj e.vector ≡ true → c.query < e.scn → e.scn ≤ limit c
    → HasItem c (has_drop obj)

-- Of a worker: an entry of its share up to its progress is mined, and one that is next lies above the progress.
abbrev pub MinedBelow : Type 0
MinedBelow =
    (c : CoreState) → Invariant c → (worker : ℕ) (w : Worker) (e : LogEntry) → At c.workers worker w → Contains (share_of c worker) e → e.scn ≤ w.progress
    → Contains (take w.mined (share_of c worker)) e

abbrev pub NextIsAbove : Type 0
NextIsAbove =
    (c : CoreState) → Invariant c → (worker : ℕ) (w : Worker) (e : LogEntry) → At c.workers worker w → At (share_of c worker) w.mined e
    → (w.progress < e.scn) × (limit c < e.scn)
