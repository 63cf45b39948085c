-- What the receiving of redo makes of a core.
use Rattle.std.specs.Prelude.{◌≡◌, ℕ, List, ◌++◌, length, take}
use Rattle.adg_base.specs.declared.log.LogEntry.{LogEntry}
use Rattle.adg_model.specs.Sound.{IsContinuation}
use Rattle.core_rules.specs.Share.{share}
use Rattle.core_rules.specs.State.{CoreState, At}
use Rattle.core_rules.specs.Applying.{Receives}
use Rattle.core_rules.specs.Invariant.{Precise}
use Rattle.standby_core.specs.declared.standby.Core.{Core}
use Rattle.standby_core.specs.declared.worker.Worker.{Worker}
use Rattle.standby_core.specs.Each.{EachAt}
use Rattle.standby_core.specs.Shows.{IsState}

-- the core shows a state that redo may be added to
pub record CanReceive (core : Core) (entries : List LogEntry) (frontier : ℕ) : Type 0 where
  pub state : CoreState
  pub is : IsState core state
  pub continues : IsContinuation state.log state.frontier entries frontier

-- the core shows the state with the entries and the frontier, which meets the invariant, and whose marks are precise if
-- they were
pub record HasReceived (core : Core) (c : CoreState) (entries : List LogEntry) (frontier : ℕ) : Type 0 where
  pub next : CoreState
  pub receives : Receives c entries frontier next
  pub is : IsState core next
  pub precise : Precise c → Precise next

-- of so many workers one has its share of entries behind what it had
abbrev pub GetsShare : (workers : ℕ) → List LogEntry → ℕ → Worker → Worker → Type 0
GetsShare workers entries n old new = new ≡ record old { share = old.share ++ share workers n entries }

-- entries are dealt out to the shares
abbrev pub AreDealt : List LogEntry → List Worker → List Worker → Type 0
AreDealt entries old new = EachAt (GetsShare (length old) entries) old new

-- a share has something behind what it had, and else the worker is as it was
pub record HasMore (n : ℕ) (old new : Worker) : Type 0 where
  pub more : List LogEntry
  pub same : new ≡ record old { share = old.share ++ more }

-- each share is cut back to so many entries, and else the workers are as they were
abbrev pub IsCutBack : List ℕ → ℕ → Worker → Worker → Type 0
IsCutBack counts n old new = (k : ℕ) → At counts n k → new ≡ record old { share = take k old.share }

abbrev pub AreCutBack : List ℕ → List Worker → List Worker → Type 0
AreCutBack counts old new = EachAt (IsCutBack counts) old new
