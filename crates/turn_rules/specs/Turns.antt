-- What a turn makes of a round, and the turns of a whole round.
use Rattle.std.specs.Prelude.{◌≡◌, ℕ, ◌+◌, Bool, false, ◌||◌, List, [], ◌∷◌, ◌++◌, slice_get, slice_set, Option, Some, None}
use Rattle.std.specs.List.{filter_map}
use Rattle.adg_base.specs.declared.answer.Reply.{Reply}
use Rattle.adg_model.specs.Transcript.{is_aborted}
use Rattle.core_rules.specs.declared.event.CoreAnswer.{CoreAnswer}
use Rattle.core_rules.specs.declared.event.CoreAnswer.TheVariants.{NotReady, Moved, Said}
use Rattle.core_rules.specs.State.{CoreState}
use Rattle.core_rules.specs.Step.{Steps}
use Rattle.core_rules.specs.Runs.{Move, Takes}
use Rattle.turn_rules.specs.Round.{Seat, Round, is_over}
use Rattle.turn_rules.specs.Picks.{Act, Rests, Makes, Replies, MakesAndReplies, Actor, Coordinator, WorkerAt, SessionAt, actor_at, act_of}

-- the reply that an answer of the core says
abbrev pub said_by : CoreAnswer → Option Reply
said_by NotReady = None
said_by Moved = None
said_by (Said reply) = Some reply

-- An act makes this of the core: where it makes an event, the core takes it and answers it, and nothing else happens to
-- the core. What is told to the session is what the core says, or the act's own reply.
abbrev pub Acts : CoreState → Act → Option Move → Option Reply → CoreState → Type 0
Acts c Rests move told new = (move ≡ None) × (told ≡ None) × (new ≡ c)
Acts c (Makes event) move told new = (answer : CoreAnswer) × (move ≡ Some (Takes event answer)) × (told ≡ said_by answer) × Steps c event answer new
Acts c (Replies reply) move told new = (move ≡ None) × (told ≡ Some reply) × (new ≡ c)
Acts c (MakesAndReplies event reply) move told new = (answer : CoreAnswer) × (move ≡ Some (Takes event answer)) × (told ≡ Some reply) × Steps c event answer new

-- a seat with one reply more, the seats with one told to a session, and told to whom has the turn
abbrev pub with_reply : Reply → Seat → Seat
with_reply reply seat = record seat { replies = seat.replies ++ reply ∷ [] }

abbrev pub told_at : (place : ℕ) → Reply → Option Seat → List Seat → List Seat
told_at place reply None seats = seats
told_at place reply (Some seat) seats = slice_set seats place (with_reply reply seat)

abbrev pub told_to_session : (place : ℕ) → Option Reply → List Seat → List Seat
told_to_session place None seats = seats
told_to_session place (Some reply) seats = told_at place reply (slice_get seats place) seats

abbrev pub seats_after : Actor → Option Reply → List Seat → List Seat
seats_after Coordinator told seats = seats
seats_after (WorkerAt worker) told seats = seats
seats_after (SessionAt place) told seats = told_to_session place told seats

abbrev pub is_abort_told : Option Reply → Bool
is_abort_told None = false
is_abort_told (Some reply) = is_aborted reply

-- A turn: the round is not over; the actor whose turn it is does what the rule picks.
pub record TakesTurn (schedule : List ℕ) (r : Round) (move : Option Move) (next : Round) : Type 0 where
  pub goes_on : is_over r ≡ false
  pub told : Option Reply
  pub core : CoreState
  pub acts : Acts r.core (act_of r (actor_at schedule r r.turns)) move told core
  pub effect : next ≡ record {
    core = core;
    seats = seats_after (actor_at schedule r r.turns) told r.seats;
    turns = r.turns + 1;
    aborted = r.aborted || is_abort_told told;
  }

-- turns, one after another: of each, what happened to the core, if anything did
abbrev pub Plays : List ℕ → Round → List (Option Move) → Round → Type 0
Plays schedule r [] last = last ≡ r
Plays schedule r (move ∷ moves) last = (next : Round) × TakesTurn schedule r move next × Plays schedule next moves last

-- all that happened to the core
abbrev pub moves_of : List (Option Move) → List Move
moves_of turns = filter_map (λ move. move) turns
