-- A round: the core, a seat for each session, and whose turn it is.
use Rattle.std.specs.Prelude.{◌≡◌, ℕ, ◌+◌, Bool, false, nat_le, ◌==◌, ◌&&◌, ◌||◌, List, [], length, slice_get, Option}
use Rattle.std.specs.List.{list_all, AllZip}
use Rattle.adg_base.specs.declared.command.Command.{Command}
use Rattle.adg_base.specs.declared.command.CommandText.{CommandText}
use Rattle.adg_base.specs.declared.answer.Reply.{Reply}
use Rattle.adg_model.specs.Command.{Spells, IsBadQuery}
use Rattle.adg_model.specs.Transcript.{texts_of}
use Rattle.core_rules.specs.State.{CoreState, At}

-- what a session asks with a text: a command, or nothing, and then the byte up to which the text begins one
pub data Request : Type 0 where
  Asks : Command → Request
  Garbles : ℕ → Request

-- a text reads as a request
abbrev pub Reads : List ℕ → Request → Type 0
Reads text (Asks command) = Spells text command
Reads text (Garbles byte) = IsBadQuery text byte

-- the seat of a session: its requests, and the replies to the first of them
pub record Seat : Type 0 where
  pub requests : List Request
  pub replies : List Reply

-- the first request without a reply, and whether there is none
abbrev pub at_hand : Seat → Option Request
at_hand seat = slice_get seat.requests (length seat.replies)

abbrev pub is_through : Seat → Bool
is_through seat = nat_le (length seat.requests) (length seat.replies)

-- A round: the core, the seats, how many turns were taken, and whether an ABORT was answered.
pub record Round : Type 0 where
  pub core : CoreState
  pub seats : List Seat
  pub turns : ℕ
  pub aborted : Bool

-- how many actors take turns: the coordinator, the workers, and the sessions
abbrev pub actors : Round → ℕ
actors r = 1 + length r.core.workers + length r.seats

-- A round is over where an ABORT was answered, or where every session is through and the QuerySCN is the frontier.
abbrev pub is_over : Round → Bool
is_over r = r.aborted || (list_all is_through r.seats && (r.core.query == r.core.frontier))

-- as a round begins each session has a seat, with what its texts read as, and no reply
pub record IsSeat (texts : List (List ℕ)) (seat : Seat) : Type 0 where
  pub reads : AllZip Reads texts seat.requests
  pub unanswered : seat.replies ≡ []

pub record AreSeats (sessions : ℕ) (commands : List CommandText) (seats : List Seat) : Type 0 where
  pub count : length seats ≡ sessions
  pub each : (place : ℕ) (seat : Seat) → At seats place seat → IsSeat (texts_of (place + 1) commands) seat

abbrev pub opening_round : CoreState → List Seat → Round
opening_round core seats = record { core = core; seats = seats; turns = 0; aborted = false }
