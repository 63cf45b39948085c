-- What holds of a round at each turn.
use Rattle.std.specs.Prelude.{◌≡◌, ℕ, true, length, Option, Some}
use Rattle.adg_base.specs.declared.command.Command.TheVariants as command
use Rattle.core_rules.specs.State.{Session, Free, Populating, Scanning, At}
use Rattle.core_rules.specs.Invariant.{Invariant, Precise}
use Rattle.turn_rules.specs.Round.{Request, Asks, Seat, at_hand, Round}

-- a session that populates or scans does so for its request at hand
abbrev pub IsFor : Session → Option Request → Type 0
IsFor Free request = Unit {0}
IsFor (Populating p) request = request ≡ Some (Asks (command.Populate p.obj))
IsFor (Scanning s) request = request ≡ Some (Asks (command.Select s.select))

-- The core meets its invariant, and its marks are precise; there is a seat for each session, and what a session does is
-- for its request at hand; once an ABORT was answered no session does anything.
pub record RoundIs (r : Round) : Type 0 where
  pub core : Invariant r.core
  pub precise : Precise r.core
  pub seated : length r.seats ≡ length r.core.sessions
  pub busy : (place : ℕ) (seat : Seat) (session : Session) → At r.seats place seat → At r.core.sessions place session → IsFor session (at_hand seat)
  pub gone : r.aborted ≡ true → (place : ℕ) (session : Session) → At r.core.sessions place session → session ≡ Free
