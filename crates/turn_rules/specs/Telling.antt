-- The lines of a round.
use Rattle.std.specs.Prelude.{ℕ, ◌+◌, ◌-◌, List, [], ◌∷◌, ◌++◌, length, replicate}
use Rattle.adg_base.specs.declared.answer.Reply.{Reply}
use Rattle.adg_base.specs.declared.answer.Reply.TheVariants.{Down}
use Rattle.adg_base.specs.declared.answer.Line.{Line}
use Rattle.adg_base.specs.declared.answer.Lines.{Lines}
use Rattle.turn_rules.specs.Round.{Seat, Round}

-- the replies to all requests of a seat: Down to those that were not answered
abbrev pub all_replies : Seat → List Reply
all_replies seat = seat.replies ++ replicate (length seat.requests - length seat.replies) Down

-- the lines of a session, with numbers from one on, and those of the sessions from one on
abbrev pub session_lines : (session number : ℕ) → List Reply → List Line
session_lines session number [] = []
session_lines session number (reply ∷ replies) =
    record { session = session; number = number; reply = reply } ∷ session_lines session (number + 1) replies

abbrev pub seats_lines : (session : ℕ) → List Seat → List Line
seats_lines session [] = []
seats_lines session (seat ∷ seats) = session_lines session 1 (all_replies seat) ++ seats_lines (session + 1) seats

-- the lines of a round: session by session, and then the QuerySCN with which it ends
abbrev pub lines_of : Round → Lines
lines_of r = record { list = seats_lines 1 r.seats; end = r.core.query }
