-- What a delivery needs of a core, and what the driver makes of it.
use Rattle.std.specs.Prelude.{◌≡◌, ◌<◌, ◌^◌, List, [], ◌∷◌, ◌++◌, length, Option, ◌⊎◌}
use Rattle.std.specs.List.{AllByRecursion}
use Rattle.adg_base.specs.declared.command.CommandText.{CommandText}
use Rattle.adg_base.specs.declared.answer.Lines.{Lines}
use Rattle.adg_model.specs.declared.delivery.CheckedDelivery.{CheckedDelivery}
use Rattle.adg_model.specs.Sound.{IsContinuation}
use Rattle.dictionary.specs.Standing.{Known, StandsFor}
use Rattle.core_rules.specs.State.{CoreState}
use Rattle.core_rules.specs.Runs.{Move, Gets, Leads}
use Rattle.standby_core.specs.declared.standby.Core.{Core}
use Rattle.standby_core.specs.Shows.{IsState}
use Rattle.turn_rules.specs.Delivery.{Delivers, IsReady, IsTaken, Promises}

-- The core shows this state, in which it is ready for the delivery: no session populates or scans. The entries continue
-- its log, and the dictionary is that of the log with them.
pub record CanDeliver (core : Core) (d : CheckedDelivery) (dictionary : Known) (c : CoreState) : Type 0 where
  pub is : IsState core c
  pub ready : IsReady c d
  pub continues : IsContinuation c.log c.frontier d.entries d.frontier
  pub known : StandsFor dictionary (c.log ++ d.entries)

pub record HasReady (core : Core) (d : CheckedDelivery) (dictionary : Known) : Type 0 where
  pub state : CoreState
  pub can : CanDeliver core d dictionary state

-- a text that is short enough to be read
abbrev pub IsShort : CommandText → Type 0
IsShort command = length command.text < 2 ^ 32

-- The redo was received, and then just the turns of the rule were taken; the lines are what they tell, and keep all that
-- a delivery promises.
pub record HasDelivered (core : Core) (c : CoreState) (d : CheckedDelivery) (lines : Lines) : Type 0 where
  pub turns : List (Option Move)
  pub next : CoreState
  pub delivers : Delivers c d turns next lines
  pub promises : Promises c d turns next lines
  pub is : IsState core next

-- nothing happened, or the redo was received and then events were taken that could happen
abbrev pub AreOf : CheckedDelivery → List Move → Type 0
AreOf d moves = (moves ≡ []) ⊎ ((events : List Move) × (moves ≡ Gets d.entries d.frontier ∷ events) × AllByRecursion IsTaken events)

-- Want of memory stopped the delivery: the core shows a state that its steps reach.
pub record HasReached (core : Core) (c : CoreState) (d : CheckedDelivery) : Type 0 where
  pub moves : List Move
  pub next : CoreState
  pub leads : Leads c moves next
  pub of : AreOf d moves
  pub is : IsState core next
