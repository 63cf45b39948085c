-- Runs of the core: events and receivings from the opening state on.
use Rattle.std.specs.Prelude.{◌≡◌, ℕ, List, [], ◌∷◌}
use Rattle.adg_base.specs.declared.log.LogEntry.{LogEntry}
use Rattle.core_rules.specs.declared.event.Event.{Event}
use Rattle.core_rules.specs.declared.event.CoreAnswer.{CoreAnswer}
use Rattle.core_rules.specs.State.{CoreState, opening}
use Rattle.core_rules.specs.Applying.{Receives}
use Rattle.core_rules.specs.Step.{Steps}

-- what happens to the core: an event with its answer, or redo is received with a frontier
pub data Move : Type 0 where
  Takes : Event → CoreAnswer → Move
  Gets : List LogEntry → ℕ → Move

abbrev pub Makes : CoreState → Move → CoreState → Type 0
Makes c (Takes event answer) new = Steps c event answer new
Makes c (Gets entries frontier) new = Receives c entries frontier new

-- so many moves lead from one state to another
abbrev pub Leads : CoreState → List Move → CoreState → Type 0
Leads c [] last = last ≡ c
Leads c (move ∷ moves) last = (next : CoreState) × Makes c move next × Leads next moves last

-- a run: moves from the opening state of so many workers and sessions
abbrev pub Runs : (workers sessions : ℕ) → List Move → CoreState → Type 0
Runs workers sessions moves last = Leads (opening workers sessions) moves last
