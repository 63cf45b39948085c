-- Turns one after another.
use Rattle.std.proofs.Common.{◌≡◌, ℕ, ◌+◌, ◌-◌, ◌*◌, ◌%◌, ◌<◌, ◌≤◌, Bool, true, false, cond, ◌&&◌, ◌||◌, List, [], ◌∷◌, ◌++◌, length, Option, ◌⊎◌, inl, inr, refl, sym, ap, ◌∙◌, subst, arith, true≢false, zero-add, mul-add}
use Rattle.std.specs.Prelude.{not, ◌==◌, count_by}
use Rattle.std.specs.List.{list_all}
use Rattle.std.proofs.Math.Nat.{mul-add-mod_self_left, mod-eq_of_lt, mul_comm}
use Rattle.std.proofs.lemmas.Bool.{cases_lt, ne_eqb}
use Rattle.std.proofs.lemmas.List.Sums.{sum_by-cons}
use Rattle.dictionary.specs.Standing.{Known}
use Rattle.core_rules.specs.State.{CoreState, At}
use Rattle.core_rules.specs.Runs.{Move, Leads}
use Rattle.core_rules.proofs.Lists.{each_append}
use Rattle.standby_core.specs.declared.standby.Core.{Core}
use Rattle.turn_rules.specs.Round.{Seat, is_through, Round, actors, is_over}
use Rattle.turn_rules.specs.Turns.{Plays, moves_of}
use Rattle.turn_rules.specs.Standing.{RoundIs}
use Rattle.turn_rules.specs.Delivery.{IsTaken}
use Rattle.turn_rules.proofs.Kept.{turns_keep_rounds, rounds_are_runs}
use Rattle.turn_rules.proofs.Over.{plays_keep}
use Rattle.turn_rules.proofs.Ended.{as_many}
use Rattle.turn_rules.proofs.Waits.{nobody_waits}
use Rattle.turn_rules.proofs.Driving.{plays_more, number_inside, number_behind}
use Rattle.step_driver.specs.declared.seats.Seats.{Seats}
use Rattle.step_driver.specs.Seating.{seats_shown, is_waiting}
use Rattle.step_driver.specs.Work.{work_left}
use Rattle.step_driver.specs.Rounds.{ShowsRound, IsTurnOf, HasTurned, RestsAt, RestsOrActs, RestOrAct, HasPlayed, HasPlayedOn, HasPlayedTo, IsBehind, HasPlayedBehind, HasStopped}
use Rattle.step_driver.specs.Waiting.{HasCycled}

-- no turns
pub played_none : (known : Known) (core : Core) (seats : Seats) (schedule : List ℕ) (r : Round) → ShowsRound known core seats r → HasPlayedOn known core seats schedule r r.turns
played_none known core seats schedule r s = record { played = record { turns = []; last = r; plays = refl; shows = s }; count = refl }

-- a turn more
abbrev pub played_more : (known : Known) (old core : Core) (was seats : Seats) (schedule : List ℕ) (r : Round) (turns : ℕ) → (p : HasPlayedOn known old was schedule r turns)
    → HasTurned known core seats schedule p.played.last → HasPlayedOn known core seats schedule r (turns + 1)
played_more known old core was seats schedule r turns p t = record {
  played = record {
    turns = p.played.turns ++ t.move ∷ [];
    last = t.next;
    plays = plays_more schedule r p.played.turns p.played.last t.move t.next p.played.plays t.turn;
    shows = t.shows;
  };
  count = ap (λ (x : Round). x.turns) t.turn.effect ∙ ap (λ n. n + 1) p.count;
}

-- turns behind turns
pub plays_append : (schedule : List ℕ) (r : Round) (xs : List (Option Move)) (mid : Round) (ys : List (Option Move)) (last : Round) → Plays schedule r xs mid → Plays schedule mid ys last → Plays schedule r (xs ++ ys) last
plays_append schedule r [] mid ys last p q = subst (λ (x : Round). Plays schedule x ys last) p q
plays_append schedule r (x ∷ xs) mid ys last p q = (p.0, p.1, plays_append schedule p.0 xs mid ys last p.2 q)

abbrev pub played_append : (known : Known) (old core : Core) (was seats : Seats) (schedule : List ℕ) (r : Round) → (p : HasPlayed known old was schedule r) → HasPlayed known core seats schedule p.last → HasPlayed known core seats schedule r
played_append known old core was seats schedule r p q = record {
  turns = p.turns ++ q.turns;
  last = q.last;
  plays = plays_append schedule r p.turns p.last q.turns q.last p.plays q.plays;
  shows = q.shows;
}

-- moves behind moves
leads_append : (c : CoreState) (xs : List Move) (mid : CoreState) (ys : List Move) (last : CoreState) → Leads c xs mid → Leads mid ys last → Leads c (xs ++ ys) last
leads_append c [] mid ys last p q = subst (λ (x : CoreState). Leads x ys last) p q
leads_append c (x ∷ xs) mid ys last p q = (p.0, p.1, leads_append p.0 xs mid ys last p.2 q)

-- want of memory behind turns
pub stopped_behind : (known : Known) (old core : Core) (was : Seats) (schedule : List ℕ) (r : Round) → RoundIs r → (p : HasPlayed known old was schedule r) → HasStopped core p.last.core → HasStopped core r.core
stopped_behind known old core was schedule r is p s =
    let run = rounds_are_runs schedule r p.turns p.last is p.plays in
    record {
      moves = moves_of p.turns ++ s.moves;
      next = s.next;
      leads = leads_append r.core (moves_of p.turns) p.last.core s.moves s.next run.leads s.leads;
      taken = each_append IsTaken (moves_of p.turns) s.moves run.taken s.taken;
      is = s.is;
    }

-- as many actors at the end of turns
pub actors_stay : (schedule : List ℕ) (r : Round) (turns : List (Option Move)) (last : Round) → RoundIs r → Plays schedule r turns last → actors last ≡ actors r
actors_stay schedule r turns last is p = plays_keep (λ (x : Round). actors x ≡ actors r) schedule turns_keep_rounds
    (λ x move next stands later t h.
    let many = as_many schedule x move next stands t in
    let workers : length next.core.workers ≡ length x.core.workers = many.workers in
    let seats : length next.seats ≡ length x.seats = many.seats in
    let same : actors next ≡ actors x = omega arith in
    same ∙ h) r turns last is p refl

-- all rounds that a core and seats show have as many actors
pub same_actors : (known : Known) (core : Core) (seats : Seats) (r q : Round) → ShowsRound known core seats r → ShowsRound known core seats q → actors r ≡ actors q
same_actors known core seats r q s t =
    let a : core.worker_count ≡ length r.core.workers = s.core.shows.worker_count in
    let b : core.worker_count ≡ length q.core.workers = t.core.shows.worker_count in
    let e : length r.seats ≡ length q.seats = ap length (sym s.seats ∙ t.seats) in
    omega arith

-- the turn of a schedule byte, and the turn of an actor behind the bytes
pub turn_inside : (schedule : List ℕ) (r : Round) (byte number : ℕ) → At schedule r.turns byte → number ≡ byte % actors r → IsTurnOf schedule r number
turn_inside schedule r byte number at e = number_inside schedule (actors r) r.turns byte at ∙ sym e

pub turn_behind : (schedule : List ℕ) (r : Round) (k number : ℕ) → r.turns ≡ length schedule + k * actors r + number → number < actors r → IsTurnOf schedule r number
turn_behind schedule r k number e h =
    let behind : length schedule ≤ r.turns = omega arith in
    let left : r.turns - length schedule ≡ k * actors r + number = omega arith in
    number_behind schedule (actors r) r.turns behind ∙ ap (λ n. n % actors r) left ∙ cycle_number (actors r) k number h
  where
    cycle_number : (a j n : ℕ) → n < a → (j * a + n) % a ≡ n
    cycle_number a j n l =
        let e : j * a + n ≡ a * j + n = ap (λ m. m + n) (mul_comm j a) in
        ap (λ m. m % a) e ∙ mul-add-mod_self_left a j n ∙ mod-eq_of_lt l

-- no seat waits just where all are through
none_waits : (seats : List Seat) → (count_by is_waiting seats == 0) ≡ list_all is_through seats
none_waits [] = refl
none_waits (seat ∷ seats) = by_seat (none_waits seats) (is_through seat) refl
  where
    count_is : count_by is_waiting (seat ∷ seats) ≡ cond (is_waiting seat) 1 0 + count_by is_waiting seats
    count_is = sum_by-cons (λ (x : Seat). cond (is_waiting x) 1 0) seat seats

    by_seat : (count_by is_waiting seats == 0) ≡ list_all is_through seats → (b : Bool) → is_through seat ≡ b → (count_by is_waiting (seat ∷ seats) == 0) ≡ (is_through seat && list_all is_through seats)
    by_seat rest true t =
        let e : count_by is_waiting (seat ∷ seats) ≡ count_by is_waiting seats = count_is ∙ ap (λ b. cond (not b) 1 0 + count_by is_waiting seats) t ∙ zero-add (count_by is_waiting seats) in
        ap (λ n. n == 0) e ∙ rest ∙ sym (ap (λ b. b && list_all is_through seats) t)
    by_seat rest false t =
        let e : count_by is_waiting (seat ∷ seats) ≡ 1 + count_by is_waiting seats = count_is ∙ ap (λ b. cond (not b) 1 0 + count_by is_waiting seats) t in
        let f : (count_by is_waiting (seat ∷ seats) == 0) ≡ false = ne_eqb (count_by is_waiting (seat ∷ seats)) 0 (λ k. absurd (omega arith)) in
        f ∙ sym (ap (λ b. b && list_all is_through seats) t)

-- what a core and seats say of the end of their round
pub over_now : (known : Known) (core : Core) (seats : Seats) (r : Round) (query frontier : ℕ) → ShowsRound known core seats r → query ≡ r.core.query → frontier ≡ r.core.frontier
    → (seats.aborted || ((seats.waiting == 0) && (query == frontier))) ≡ is_over r
over_now known core seats r query frontier s q f =
    let waiting : (seats.waiting == 0) ≡ list_all is_through r.seats = ap (λ n. n == 0) s.counted ∙ none_waits (seats_shown seats) ∙ ap (list_all is_through) s.seats in
    let reached : (query == frontier) ≡ (r.core.query == r.core.frontier) = ap (λ n. n == frontier) q ∙ ap (λ n. r.core.query == n) f in
    ap (λ b. b || ((seats.waiting == 0) && (query == frontier))) s.aborted ∙ ap (λ b. r.aborted || (b && (query == frontier))) waiting ∙ ap (λ b. r.aborted || (list_all is_through r.seats && b)) reached

-- of all rounds that a core and seats show the same is over
pub same_over : (known : Known) (core : Core) (seats : Seats) (r q : Round) → ShowsRound known core seats r → ShowsRound known core seats q → is_over r ≡ is_over q
same_over known core seats r q s t =
    sym (over_now known core seats r core.query core.frontier s s.core.shows.query s.core.shows.frontier) ∙ over_now known core seats q core.query core.frontier t t.core.shows.query t.core.shows.frontier

-- Where so many actors rested before one more has had its turn.
pub rest_or_act : (known : Known) (first old core : Core) (begin was seats : Seats) (from count : ℕ) → RestOrAct known first begin old was from count → RestsOrActs known old was core seats count
    → RestOrAct known first begin core seats from (count + 1)
rest_or_act known first old core begin was seats from count (inr less) (inr more) = inr (omega arith)
rest_or_act known first old core begin was seats from count (inr less) (inl rest) = inr (subst (λ (x : Core). work_left x seats < work_left first begin) (sym rest.core) (subst (λ (x : Seats). work_left old x < work_left first begin) (sym rest.seats) less))
rest_or_act known first old core begin was seats from count (inl rest) (inr less) = inr (subst (λ (x : Core). work_left core seats < work_left x begin) rest.core (subst (λ (x : Seats). work_left core seats < work_left old x) rest.seats less))
rest_or_act known first old core begin was seats from count (inl rest) (inl more) = inl (record {
  core = more.core ∙ rest.core;
  seats = more.seats ∙ rest.seats;
  rest = λ number f h. by_number number f (cases_lt number count) h;
})
  where
    at_old : RestsAt known first begin count
    at_old = subst (λ (x : Core). RestsAt known x begin count) rest.core (subst (λ (x : Seats). RestsAt known old x count) rest.seats more.rests)

    by_number : (number : ℕ) → from ≤ number → (number < count) ⊎ (count ≤ number) → number < count + 1 → RestsAt known first begin number
    by_number number f (inl l) h = rest.rest number f l
    by_number number f (inr l) h = let same : count ≡ number = omega arith in subst (RestsAt known first begin) same at_old

-- no more is left to do
pub no_more_left : (known : Known) (first core : Core) (begin seats : Seats) (from count : ℕ) → RestOrAct known first begin core seats from count → work_left core seats ≤ work_left first begin
no_more_left known first core begin seats from count (inr less) = omega arith
no_more_left known first core begin seats from count (inl rest) =
    let same : work_left core seats ≡ work_left first begin = ap (λ (x : Core). work_left x seats) rest.core ∙ ap (λ (x : Seats). work_left first x) rest.seats in
    omega arith

-- Where all rested the round was over.
pub acted : (known : Known) (first core : Core) (begin seats : Seats) (r : Round) → ShowsRound known first begin r → is_over r ≡ false → RestOrAct known first begin core seats 0 (actors r) → work_left core seats < work_left first begin
acted known first core begin seats r s goes_on (inr less) = less
acted known first core begin seats r s goes_on (inl rest) = absurd (true≢false (sym (nobody_waits r s.stands (λ number h. rest.rest number (omega arith) h r s)) ∙ goes_on))

-- Where the round is over now somebody acted, if it was not over before.
pub acted_till_over : (known : Known) (first core : Core) (begin seats : Seats) (r last : Round) (from count : ℕ) → ShowsRound known first begin r → is_over r ≡ false → ShowsRound known core seats last → is_over last ≡ true
    → RestOrAct known first begin core seats from count → work_left core seats < work_left first begin
acted_till_over known first core begin seats r last from count s goes_on t over (inr less) = less
acted_till_over known first core begin seats r last from count s goes_on t over (inl rest) =
    let again : ShowsRound known first begin last = subst (λ (x : Core). ShowsRound known x begin last) rest.core (subst (λ (x : Seats). ShowsRound known core x last) rest.seats t) in
    absurd (true≢false (sym over ∙ same_over known first begin last r again s ∙ goes_on))

-- as many seats at the end of turns
pub seats_stay : (schedule : List ℕ) (r : Round) (turns : List (Option Move)) (last : Round) → RoundIs r → Plays schedule r turns last → length last.seats ≡ length r.seats
seats_stay schedule r turns last is p = plays_keep (λ (x : Round). length x.seats ≡ length r.seats) schedule turns_keep_rounds
    (λ x move next stands later t h. (as_many schedule x move next stands t).seats ∙ h) r turns last is p refl

-- one cycle more of all actors
pub cycle_more : (k a : ℕ) → k * a + a ≡ (k + 1) * a
cycle_more k a =
    let e : (k + 1) * a ≡ a * (k + 1) = mul_comm (k + 1) a in
    let f : a * (k + 1) ≡ a * k + a * 1 = mul-add a k 1 in
    let g : a * k ≡ k * a = mul_comm a k in
    let one : a * 1 ≡ a = omega arith in
    omega arith

-- turns up to the end of a cycle
pub cycle_ends : (known : Known) (core : Core) (seats : Seats) (schedule : List ℕ) (r : Round) (k : ℕ) → RoundIs r → HasPlayedTo known core seats schedule r (length schedule + (k + 1) * actors r) → HasPlayedBehind known core seats schedule r
cycle_ends known core seats schedule r k is t = by_end t.end
  where
    by_end : (is_over t.played.last ≡ true) ⊎ (t.played.last.turns ≡ length schedule + (k + 1) * actors r) → HasPlayedBehind known core seats schedule r
    by_end (inl over) = record { played = t.played; behind = inl over }
    by_end (inr e) = record { played = t.played; behind = inr (k + 1, e ∙ ap (λ a. length schedule + (k + 1) * a) (sym (actors_stay schedule r t.played.turns t.played.last is t.played.plays))) }

-- cycles behind cycles
pub cycled : (known : Known) (old core : Core) (was seats : Seats) (schedule : List ℕ) (r : Round) → (p : HasPlayedBehind known old was schedule r) → is_over p.played.last ≡ false
    → ((k : ℕ) → p.played.last.turns ≡ length schedule + k * actors p.played.last → HasPlayedBehind known core seats schedule p.played.last) → HasPlayedBehind known core seats schedule r
cycled known old core was seats schedule r p goes_on cycle = by_place p.behind
  where
    by_place : IsBehind schedule p.played.last → HasPlayedBehind known core seats schedule r
    by_place (inl over) = absurd (true≢false (sym over ∙ goes_on))
    by_place (inr q) =
        let t = cycle q.0 q.1 in
        record { played = played_append known old core was seats schedule r p.played t.played; behind = t.behind }

-- turns of a cycle, and the rest of it
pub cycled_on : (known : Known) (old core : Core) (was seats : Seats) (schedule : List ℕ) (r : Round) (k : ℕ) → RoundIs r → (h : HasCycled known old was schedule r k)
    → ((j : ℕ) → h.on.played.last.turns ≡ length schedule + j * actors h.on.played.last + 1 → HasPlayedTo known core seats schedule h.on.played.last (length schedule + (j + 1) * actors h.on.played.last))
    → HasPlayedBehind known core seats schedule r
cycled_on known old core was seats schedule r k is h behind =
    let p = h.on.played in
    let count : actors p.last ≡ actors r = actors_stay schedule r p.turns p.last is p.plays in
    let t = behind (k + h.cycles) (h.on.count ∙ ap (λ a. length schedule + (k + h.cycles) * a + 1) (sym count)) in
    let b = cycle_ends known core seats schedule p.last (k + h.cycles) p.shows.stands t in
    record { played = played_append known old core was seats schedule r p b.played; behind = b.behind }
