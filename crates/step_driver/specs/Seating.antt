-- What the seats of a driver show of the seats of a round.
use Rattle.std.specs.Prelude.{◌≡◌, ℕ, ◌+◌, Bool, not, List, [], ◌∷◌, ◌++◌, map, length, count_by, Option, Some, None}
use Rattle.adg_base.specs.declared.command.CommandText.{CommandText}
use Rattle.adg_model.specs.Transcript.{texts_of}
use Rattle.core_rules.specs.State.{At}
use Rattle.turn_rules.specs.Round.{Request, Asks, Garbles, Seat, is_through, at_hand, IsSeat}
use Rattle.step_driver.specs.declared.request.Request.{Request as OwnRequest}
use Rattle.step_driver.specs.declared.request.Request.TheVariants as own
use Rattle.step_driver.specs.declared.seat.Seat.{Seat as OwnSeat}
use Rattle.step_driver.specs.declared.seats.Seats.{Seats}

abbrev pub request_shown : OwnRequest → Request
request_shown (own.Asks command) = Asks command
request_shown (own.Garbles byte) = Garbles byte

abbrev pub seat_shown : OwnSeat → Seat
seat_shown x = record { requests = map request_shown x.requests.items; replies = x.replies.items }

abbrev pub seats_shown : Seats → List Seat
seats_shown x = map seat_shown x.list.items

-- a seat with a request that has no reply
abbrev pub is_waiting : Seat → Bool
is_waiting seat = not (is_through seat)

-- the number of seats that wait is kept beside them
abbrev pub IsCounted : Seats → Type 0
IsCounted x = x.waiting ≡ count_by is_waiting (seats_shown x)

-- each of so many seats has the requests that the texts of its session read as, and no reply
abbrev pub AreRead : List CommandText → List OwnSeat → Type 0
AreRead commands seats = (place : ℕ) (x : OwnSeat) → At seats place x → IsSeat (texts_of (place + 1) commands) (seat_shown x)

-- a command more was read, where it is of the session of a seat
pub record TakesText (old : List OwnSeat) (command : CommandText) (new : List OwnSeat) : Type 0 where
  pub count : length new ≡ length old
  pub read : (before : List CommandText) → AreRead before old → AreRead (before ++ command ∷ []) new

-- the request at hand of a seat, if there is the seat
abbrev pub hand_of : Option Seat → Option Request
hand_of None = None
hand_of (Some seat) = at_hand seat
