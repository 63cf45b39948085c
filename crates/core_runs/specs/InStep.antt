-- That the core of a bench is in step with its intake, and what its calls make of it.
use Rattle.std.specs.Prelude.{◌≡◌, ℕ, ◌+◌, ◌≤◌, List, [], ◌∷◌, ◌++◌}
use Rattle.adg_model.specs.declared.delivery.RawDelivery.{RawDelivery}
use Rattle.adg_model.specs.Log.{frontier, merged_log}
use Rattle.log_merger.specs.Merger.{highest_number}
use Rattle.redo_intake.specs.Intake.{HasTaken}
use Rattle.core_rules.specs.declared.event.Event.{Event}
use Rattle.core_rules.specs.declared.event.CoreAnswer.{CoreAnswer}
use Rattle.core_rules.specs.Invariant.{Precise}
use Rattle.core_rules.specs.State.{CoreState}
use Rattle.core_rules.specs.Step.{Steps}
use Rattle.standby_core.specs.Shows.{IsState}
use Rattle.core_runs.specs.declared.bench.Bench.{Bench}

-- redo bytes of the one thread as a delivery without commands
abbrev pub delivery_of : List ℕ → RawDelivery
delivery_of redo = record { pieces = (record { thread = 1; bytes = redo }) ∷ []; commands = []; schedule = [] }

-- The redo of some deliveries of the one thread was taken, and the core shows a state whose log is the whole merged log
-- of their records, up to the frontier. The state meets the invariant, and its marks are precise.
pub record IsInStep (bench : Bench) : Type 0 where
  pub deliveries : List RawDelivery
  pub taken : HasTaken bench.intake 1 deliveries
  pub state : CoreState
  pub is : IsState bench.core state
  pub precise : Precise state
  pub log : state.log ≡ merged_log taken.records
  pub frontier : state.frontier ≡ frontier taken.records
  pub numbers : highest_number bench.intake.merger ≤ bench.delivered + 1

-- one delivery more was taken and received, and the state is else as it was
pub record HasDelivered {old : Bench} (before : IsInStep old) (new : Bench) (redo : List ℕ) : Type 0 where
  pub after : IsInStep new
  pub taken : after.deliveries ≡ before.deliveries ++ delivery_of redo ∷ []
  pub received : after.state ≡ record before.state { log = after.state.log; frontier = after.state.frontier }

-- an event led to the state after it, with this answer, and nothing was delivered
pub record HasAsked {old : Bench} (before : IsInStep old) (new : Bench) (event : Event) (answer : CoreAnswer) : Type 0 where
  pub after : IsInStep new
  pub same : after.deliveries ≡ before.deliveries
  pub steps : Steps before.state event answer after.state
