-- A delivery as a whole: how it is run, and what that promises.
use Rattle.std.specs.Prelude.{◌≡◌, ℕ, ◌≤◌, true, List, ◌∷◌, ◌++◌, length, Option}
use Rattle.std.specs.List.{AllByRecursion}
use Rattle.adg_base.specs.declared.command.CommandText.{CommandText}
use Rattle.adg_base.specs.declared.answer.Lines.{Lines}
use Rattle.adg_model.specs.declared.delivery.CheckedDelivery.{CheckedDelivery}
use Rattle.adg_model.specs.Transcript.{IsLegal}
use Rattle.core_rules.specs.declared.event.CoreAnswer.TheVariants.{NotReady}
use Rattle.core_rules.specs.State.{CoreState, Free}
use Rattle.core_rules.specs.Applying.{Receives}
use Rattle.core_rules.specs.Invariant.{Invariant, Precise}
use Rattle.core_rules.specs.Runs.{Move, Takes, Gets, Leads}
use Rattle.core_rules.specs.ColumnUse.{told_by_units, ColumnUse, UnitsAfter}
use Rattle.turn_rules.specs.Round.{Seat, Round, is_over, AreSeats, opening_round}
use Rattle.turn_rules.specs.Turns.{Plays, moves_of}
use Rattle.turn_rules.specs.Telling.{lines_of}

-- Redo is received, and then the turns of the rule are taken until the round is over; its lines are these.
pub record Delivers (c : CoreState) (d : CheckedDelivery) (turns : List (Option Move)) (new : CoreState) (lines : Lines) : Type 0 where
  pub received : CoreState
  pub receives : Receives c d.entries d.frontier received
  pub seats : List Seat
  pub read : AreSeats (length c.sessions) d.commands seats
  pub last : Round
  pub plays : Plays d.schedule (opening_round received seats) turns last
  pub over : is_over last ≡ true
  pub core : new ≡ last.core
  pub says : lines ≡ lines_of last

-- the session of a command is one of the core's
abbrev pub IsOfSession : (sessions : ℕ) → CommandText → Type 0
IsOfSession sessions command = (1 ≤ command.session) × (command.session ≤ sessions)

-- A core that can run a delivery: no session populates or scans.
pub record IsReady (c : CoreState) (d : CheckedDelivery) : Type 0 where
  pub invariant : Invariant c
  pub precise : Precise c
  pub free : AllByRecursion (λ s. s ≡ Free) c.sessions
  pub asked : AllByRecursion (IsOfSession (length c.sessions)) d.commands

-- no event was answered NotReady
abbrev pub IsTaken : Move → Type 0
IsTaken (Takes event NotReady) = ⊥
IsTaken (Takes event answer) = Unit {0}
IsTaken (Gets entries frontier) = Unit {0}

-- What a delivery promises: the core received the redo and took these events, each of which moved it or said something;
-- it meets its invariant; the lines are legal, and meet column use; afterwards the QuerySCN is their end, no session
-- populates or scans, and the units are those that are stated.
pub record Promises (c : CoreState) (d : CheckedDelivery) (turns : List (Option Move)) (new : CoreState) (lines : Lines) : Type 0 where
  pub leads : Leads c (Gets d.entries d.frontier ∷ moves_of turns) new
  pub taken : AllByRecursion IsTaken (moves_of turns)
  pub invariant : Invariant new
  pub precise : Precise new
  pub log : new.log ≡ c.log ++ d.entries
  pub frontier : new.frontier ≡ d.frontier
  pub workers : length new.workers ≡ length c.workers
  pub sessions : length new.sessions ≡ length c.sessions
  pub legal : IsLegal (length c.sessions) new.log c.query d.frontier d.commands lines
  pub columns : ColumnUse new.log d.frontier c.query c.born (told_by_units new.log c.units) d.commands lines
  pub end : lines.end ≡ new.query
  pub free : AllByRecursion (λ s. s ≡ Free) new.sessions
  pub after : UnitsAfter new.log d.frontier c.born (told_by_units new.log c.units) d.commands lines new.units new.born
