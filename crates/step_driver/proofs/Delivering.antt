-- A delivery of the driver is one of the rule.
use Rattle.std.proofs.Common.{◌≡◌, ℕ, false, List, ◌∷◌, length, inr, refl, sym, ap, ap₂, ◌∙◌, subst}
use Rattle.adg_base.specs.declared.command.CommandText.{CommandText}
use Rattle.adg_base.specs.declared.answer.Line.{Line}
use Rattle.adg_base.specs.declared.answer.Lines.{Lines}
use Rattle.adg_model.specs.declared.delivery.CheckedDelivery.{CheckedDelivery}
use Rattle.dictionary.specs.Standing.{Known, StandsFor}
use Rattle.core_rules.specs.State.{CoreState}
use Rattle.core_rules.specs.Runs.{Gets}
use Rattle.standby_core.specs.declared.standby.Core.{Core}
use Rattle.standby_core.specs.Received.{HasReceived}
use Rattle.turn_rules.specs.Round.{AreSeats, opening_round}
use Rattle.turn_rules.specs.Turns.{Plays}
use Rattle.turn_rules.specs.Telling.{seats_lines, lines_of}
use Rattle.turn_rules.specs.Delivery.{Delivers, IsReady}
use Rattle.turn_rules.proofs.Kept.{rounds_begin}
use Rattle.turn_rules.proofs.Whole.{deliveries_keep_promises}
use Rattle.step_driver.specs.declared.seats.Seats.{Seats}
use Rattle.step_driver.specs.Seating.{seats_shown, IsCounted}
use Rattle.step_driver.specs.Rounds.{ShowsRound, HasEnded, HasStopped}
use Rattle.step_driver.specs.Delivered.{CanDeliver, HasDelivered, HasReached}
use Rattle.step_driver.proofs.Turned.{stopped_at_once}
use Rattle.step_driver.proofs.Played.{stopped_behind}

-- A delivery that has begun: the redo is received, and the texts are read.
pub record HasBegun (known : Known) (core : Core) (row : Seats) (c : CoreState) (d : CheckedDelivery) : Type 0 where
  pub received : HasReceived core c d.entries d.frontier
  pub read : AreSeats (length c.sessions) d.commands (seats_shown row)
  pub shows : ShowsRound known core row (opening_round received.next (seats_shown row))

pub begun : (known : Known) (old core : Core) (row : Seats) (c : CoreState) (d : CheckedDelivery) (sessions : ℕ) (commands : List CommandText) → CanDeliver old d known c → HasReceived core c d.entries d.frontier
    → sessions ≡ length c.sessions → commands ≡ d.commands → AreSeats sessions commands (seats_shown row) → IsCounted row → row.aborted ≡ false → HasBegun known core row c d
begun known old core row c d sessions commands can h count texts seats counted calm = record {
  received = h;
  read = read;
  shows = record {
    core = h.is;
    seats = refl;
    counted = counted;
    aborted = calm;
    stands = rounds_begin c d h.next (seats_shown row) can.ready h.receives read;
    known = subst (StandsFor known) (sym (ap (λ (y : CoreState). y.log) h.receives.effect)) can.known;
  };
}
  where
    read : AreSeats (length c.sessions) d.commands (seats_shown row)
    read = subst (λ n. AreSeats n d.commands (seats_shown row)) count (subst (λ ts. AreSeats sessions ts (seats_shown row)) texts seats)

-- the round is over: the lines are told
pub delivered : (known : Known) (first core : Core) (row seats : Seats) (c : CoreState) (d : CheckedDelivery) (schedule : List ℕ) (list : List Line) (end : ℕ) → IsReady c d → (b : HasBegun known first row c d)
    → schedule ≡ d.schedule → (e : HasEnded known core seats schedule (opening_round b.received.next (seats_shown row))) → list ≡ seats_lines 1 (seats_shown seats) → end ≡ e.played.last.core.query
    → HasDelivered core c d (record { list = list; end = end })
delivered known first core row seats c d schedule list end ready b same e told reached = record {
  turns = e.played.turns;
  next = e.played.last.core;
  delivers = delivers;
  promises = deliveries_keep_promises c d e.played.turns e.played.last.core lines ready delivers;
  is = e.played.shows.core;
}
  where
    lines : Lines
    lines = record { list = list; end = end }

    says : lines ≡ lines_of e.played.last
    says = ap₂ (λ (l : List Line) (q : ℕ). let x : Lines = record { list = l; end = q } in x) (told ∙ ap (seats_lines 1) e.played.shows.seats) reached

    delivers : Delivers c d e.played.turns e.played.last.core lines
    delivers = record {
      received = b.received.next;
      receives = b.received.receives;
      seats = seats_shown row;
      read = b.read;
      last = e.played.last;
      plays = subst (λ bytes. Plays bytes (opening_round b.received.next (seats_shown row)) e.played.turns e.played.last) same e.played.plays;
      over = e.over;
      core = refl;
      says = says;
    }

-- want of memory
pub stopped : (known : Known) (first core : Core) (row : Seats) (c : CoreState) (d : CheckedDelivery) → (b : HasBegun known first row c d) → HasStopped core b.received.next → HasReached core c d
stopped known first core row c d b s = record {
  moves = Gets d.entries d.frontier ∷ s.moves;
  next = s.next;
  leads = (b.received.next, b.received.receives, s.leads);
  of = inr (s.moves, refl, s.taken);
  is = s.is;
}

pub stopped_at_end : (known : Known) (first core : Core) (row seats : Seats) (c : CoreState) (d : CheckedDelivery) (schedule : List ℕ) → (b : HasBegun known first row c d)
    → HasEnded known core seats schedule (opening_round b.received.next (seats_shown row)) → HasReached core c d
stopped_at_end known first core row seats c d schedule b e =
    stopped known first core row c d b (stopped_behind known core core seats schedule (opening_round b.received.next (seats_shown row)) b.shows.stands e.played (stopped_at_once core e.played.last.core e.played.shows.core))
