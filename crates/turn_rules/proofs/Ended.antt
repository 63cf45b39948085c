-- Every round ends: each turn makes the bound of the turns that are left fall.
use Rattle.std.proofs.Common.{◌≡◌, ℕ, zero, suc, ◌+◌, ◌-◌, ◌*◌, ◌/◌, ◌%◌, ◌<◌, ◌≤◌, Bool, List, [], ◌∷◌, ◌++◌, length, map, Option, Some, None, ◌⊎◌, inl, inr, refl, sym, ap, ◌∙◌, subst, arith, true≢false, length-set, mul-add, mul-le-mul_left}
use Rattle.std.specs.Prelude.{slice_get}
use Rattle.std.specs.List.{AllByRecursion, range_with_len}
use Rattle.std.proofs.Math.Nat.{div-add-mod, mod-lt, mod-eq_of_lt, mul-add-mod_self_left}
use Rattle.std.proofs.lemmas.Bool.{cases_lt}
use Rattle.std.proofs.lemmas.List.{length-map}
use Rattle.std.proofs.lemmas.List.FromFn.{length-range_with_len}
use Rattle.adg_base.specs.declared.answer.Reply.{Reply}
use Rattle.core_rules.specs.declared.event.Event.{Event}
use Rattle.core_rules.specs.declared.event.Event.TheVariants as event
use Rattle.core_rules.specs.declared.event.CoreAnswer.TheVariants.{Moved}
use Rattle.core_rules.specs.Share.{share}
use Rattle.core_rules.specs.State.{CoreState, Session}
use Rattle.core_rules.specs.Flush.{cut_worker}
use Rattle.core_rules.specs.Restarts.{rewound}
use Rattle.core_rules.specs.Step.{Happens}
use Rattle.core_rules.specs.Runs.{Move}
use Rattle.core_rules.proofs.Lists.{each_has, has_map, has_range}
use Rattle.turn_rules.specs.Round.{Request, Seat, Round, actors}
use Rattle.turn_rules.specs.Picks.{Act, Rests, Makes, Replies, MakesAndReplies, actor_of, number_by, number_at, act_of, act_at}
use Rattle.turn_rules.specs.Turns.{TakesTurn, with_reply}
use Rattle.turn_rules.specs.Measure.{measure, rests_first, waits, turns_left}
use Rattle.turn_rules.specs.Standing.{RoundIs}
use Rattle.turn_rules.specs.Laws.{NobodyWaits, ActsLowerMeasure, TurnsKeepRounds, TurnsComeToAnEnd, RoundsEnd}
use Rattle.turn_rules.proofs.View.{IsOfCrew, SessionIs, Replied, Aborts, Refused, Populates, Registers, Releases, ReadsOn, EndsExtent, EndsPopulation, BeginsScan, Gathers, EndsScan, SeatsAre}
use Rattle.turn_rules.proofs.Viewed.{MoveIs, CrewMoves, SessionMoves, turns_move, rest_is}
use Rattle.turn_rules.proofs.Waits.{get_beyond}

-- The number of actors stays.
crew_workers : (c : CoreState) (e : Event) (new : CoreState) → IsOfCrew e → Happens c e Moved new → length new.workers ≡ length c.workers
crew_workers c (event.Apply worker) new i h = ap (λ (x : CoreState). length x.workers) h.1.effect ∙ length-set c.workers worker (record h.1.was { applied = h.1.was.applied + 1 })
crew_workers c (event.Mine worker) new i h = ap (λ (x : CoreState). length x.workers) h.1.effect ∙ length-set c.workers worker _
crew_workers c (event.Raise worker through) new i h = ap (λ (x : CoreState). length x.workers) h.1.effect ∙ length-set c.workers worker (record h.1.was { progress = through })
crew_workers c (event.BeginFlush through) new i h = ap (λ (x : CoreState). length x.workers) h.1.effect ∙ length-map c.workers (cut_worker through)
crew_workers c (event.Claim actor) new i h = ap (λ (x : CoreState). length x.workers) h.1.effect
crew_workers c (event.Collect actor) new i h = ap (λ (x : CoreState). length x.workers) h.1.effect ∙ length-set c.workers h.1.cursor (record h.1.was { area = h.1.area })
crew_workers c (event.Touch actor) new i h = ap (λ (x : CoreState). length x.workers) h.1.effect
crew_workers c (event.Done actor) new i h = ap (λ (x : CoreState). length x.workers) h.1.effect
crew_workers c event.Publish new i h = ap (λ (x : CoreState). length x.workers) h.1.effect
crew_workers c (event.PopBegin session obj) new i h = absurd i
crew_workers c (event.PopRegister session) new i h = absurd i
crew_workers c (event.PopRelease session) new i h = absurd i
crew_workers c (event.PopRead session) new i h = absurd i
crew_workers c (event.PopEnd session) new i h = absurd i
crew_workers c (event.ScanBegin session select) new i h = absurd i
crew_workers c (event.ScanExtent session) new i h = absurd i
crew_workers c (event.ScanEnd session) new i h = absurd i
crew_workers c event.Restart new i h = absurd i

session_workers : (c : CoreState) (place : ℕ) (session : Session) (request : Request) (told : Option Reply) (aborted : Bool) (new : CoreState) → SessionIs c place session request told aborted new
    → length new.workers ≡ length c.workers
session_workers c place session request told aborted new (Replied said free alone t a same) = ap (λ (x : CoreState). length x.workers) same
session_workers c place session request told aborted new (Refused said free refuses speaks t a same) = ap (λ (x : CoreState). length x.workers) same
session_workers c place session request told aborted new (Aborts free asks t a same) =
    ap (λ (x : CoreState). length x.workers) same ∙ length-map (range_with_len 0 (length c.workers)) (λ w. rewound c.query (share (length c.workers) w c.log)) ∙ length-range_with_len 0 (length c.workers)
session_workers c place session request told aborted new (Populates obj free asks t a begins) = ap (λ (x : CoreState). length x.workers) begins.effect
session_workers c place session request told aborted new (Registers p is_p asks t a holds left effect) = ap (λ (x : CoreState). length x.workers) effect
session_workers c place session request told aborted new (Releases p is_p asks t a holds all effect) = ap (λ (x : CoreState). length x.workers) effect
session_workers c place session request told aborted new (ReadsOn p is_p asks t a released left effect) = ap (λ (x : CoreState). length x.workers) effect
session_workers c place session request told aborted new (EndsExtent p is_p asks t a released whole more effect) = ap (λ (x : CoreState). length x.workers) effect
session_workers c place session request told aborted new (EndsPopulation p is_p asks t a released whole more speaks effect) = ap (λ (x : CoreState). length x.workers) effect
session_workers c place session request told aborted new (BeginsScan select table free asks t a defined columns types effect) = ap (λ (x : CoreState). length x.workers) effect
session_workers c place session request told aborted new (Gathers s is_s asks t a left effect) = ap (λ (x : CoreState). length x.workers) effect
session_workers c place session request told aborted new (EndsScan s is_s asks t a whole speaks effect) = ap (λ (x : CoreState). length x.workers) effect

seats_count : (place : ℕ) (seat : Seat) (told : Option Reply) (seats new : List Seat) → SeatsAre place seat told seats new → length new ≡ length seats
seats_count place seat None seats new h = ap length h
seats_count place seat (Some said) seats new h = ap length h ∙ length-set seats place (with_reply said seat)

-- as many workers, and as many seats, after a turn as before
pub record AsMany (r next : Round) : Type 0 where
  pub workers : length next.core.workers ≡ length r.core.workers
  pub seats : length next.seats ≡ length r.seats

pub as_many : (schedule : List ℕ) (r : Round) (move : Option Move) (next : Round) → RoundIs r → TakesTurn schedule r move next → AsMany r next
as_many schedule r move next is t = by_move (turns_move schedule r move next is t)
  where
    by_move : (act_at schedule r r.turns ≡ Rests) ⊎ MoveIs r next → AsMany r next
    by_move (inl h) =
        let e = (rest_is schedule r move next t h).0 in
        record { workers = ap (λ (x : Round). length x.core.workers) e; seats = ap (λ (x : Round). length x.seats) e }
    by_move (inr (CrewMoves e i h seats b)) = record { workers = crew_workers r.core e next.core i h; seats = ap length seats }
    by_move (inr (SessionMoves place seat session request told at does)) = record {
      workers = session_workers r.core place session request told next.aborted next.core does;
      seats = seats_count place seat told r.seats next.seats at.seats;
    }

-- rests at the front of a list
rests_within : (acts : List Act) → rests_first acts ≤ length acts
rests_within [] = omega arith
rests_within (Rests ∷ acts) = let ih = rests_within acts in omega arith
rests_within (Makes e ∷ acts) = omega arith
rests_within (Replies said ∷ acts) = omega arith
rests_within (MakesAndReplies e said ∷ acts) = omega arith

-- all are rests, or there is an act among them, and what is put behind them does not count
abbrev HasAct : List Act → Type 0
HasAct acts = (more : List Act) → rests_first (acts ++ more) ≡ rests_first acts

rest_cases : (acts : List Act) → AllByRecursion (λ a. a ≡ Rests) acts ⊎ HasAct acts
rest_cases [] = inl tt
rest_cases (Makes e ∷ acts) = inr (λ more. refl)
rest_cases (Replies said ∷ acts) = inr (λ more. refl)
rest_cases (MakesAndReplies e said ∷ acts) = inr (λ more. refl)
rest_cases (Rests ∷ acts) = by_case (rest_cases acts)
  where
    by_case : AllByRecursion (λ a. a ≡ Rests) acts ⊎ HasAct acts → AllByRecursion (λ a. a ≡ Rests) (Rests ∷ acts) ⊎ HasAct (Rests ∷ acts)
    by_case (inl h) = inl (refl, h)
    by_case (inr h) = inr (λ more. ap (λ k. 1 + k) (h more))

act_cases : (a : Act) → (a ≡ Rests) ⊎ (a ≡ Rests → ⊥)
act_cases Rests = inl refl
act_cases (Makes e) = inr (λ h. let k : Makes e ≡ Rests = h in absurd cc)
act_cases (Replies said) = inr (λ h. let k : Replies said ≡ Rests = h in absurd cc)
act_cases (MakesAndReplies e said) = inr (λ h. let k : MakesAndReplies e said ≡ Rests = h in absurd cc)

-- a range, one further
range_on : (n a : ℕ) → range_with_len a (suc n) ≡ range_with_len a n ++ (a + n) ∷ []
range_on zero a = let e : a ≡ a + 0 = omega arith in ap (λ k. k ∷ []) e
range_on (suc n) a =
    let e : a + 1 + n ≡ a + suc n = omega arith in
    ap (λ xs. a ∷ xs) (range_on n (a + 1)) ∙ ap (λ k. a ∷ (range_with_len (a + 1) n ++ k ∷ [])) e

map_append : {X Y : Type 0} (f : X → Y) (xs ys : List X) → map f (xs ++ ys) ≡ map f xs ++ map f ys
map_append f [] ys = refl
map_append f (x ∷ xs) ys = ap (λ zs. f x ∷ zs) (map_append f xs ys)

-- Behind the schedule bytes each actor has one of so many turns, wherever one begins.
turn_of_actor : (n u number : ℕ) → number < n → (i : ℕ) × (i < n) × ((u + i) % n ≡ number)
turn_of_actor n u number h = by_case (cases_lt number (u % n))
  where
    rest : u % n < n
    rest = mod-lt u (omega arith)

    whole : n * (u / n) + u % n ≡ u
    whole = div-add-mod u n

    by_case : (number < u % n) ⊎ (u % n ≤ number) → (i : ℕ) × (i < n) × ((u + i) % n ≡ number)
    by_case (inr l) = (
      number - u % n,
      omega (arith, h, l),
      let e : u + (number - u % n) ≡ n * (u / n) + number = omega (arith, whole, l) in
          ap (λ k. k % n) e ∙ mul-add-mod_self_left n (u / n) number ∙ mod-eq_of_lt h,
    )
    by_case (inl l) = (
      number + n - u % n,
      omega (arith, h, l, rest),
      let one : n * 1 ≡ n = omega arith in
          let e : u + (number + n - u % n) ≡ n * (u / n) + (n * 1 + number) = omega (arith, whole, rest, l, one) in
          ap (λ k. k % n) e ∙ mul-add-mod_self_left n (u / n) (n * 1 + number) ∙ mul-add-mod_self_left n 1 number ∙ mod-eq_of_lt h,
    )

-- Behind the bytes, where the next turns of all actors are rests, all actors rest.
rests_all : (schedule : List ℕ) (r : Round) → length schedule ≤ r.turns → AllByRecursion (λ a. a ≡ Rests) (map (act_at schedule r) (range_with_len r.turns (actors r)))
    → (number : ℕ) → number < actors r → act_of r (actor_of (length r.core.workers) number) ≡ Rests
rests_all schedule r behind all number h =
    let p = turn_of_actor (actors r) (r.turns - length schedule) number h in
    let turn : ℕ = r.turns + p.0 in
    let rest : act_at schedule r turn ≡ Rests = each_has (λ a. a ≡ Rests) (map (act_at schedule r) (range_with_len r.turns (actors r))) (act_at schedule r turn) all
    (has_map (act_at schedule r) (range_with_len r.turns (actors r)) turn (has_range (actors r) r.turns p.0 p.1)) in
    let none : slice_get schedule turn ≡ None = get_beyond schedule turn (omega arith) in
    let past : turn - length schedule ≡ r.turns - length schedule + p.0 = omega arith in
    let number_is : number_at schedule (actors r) turn ≡ number = ap (λ o. number_by (actors r) o (turn - length schedule)) none ∙ ap (λ k. k % actors r) past ∙ p.2 in
    sym (ap (λ k. act_of r (actor_of (length r.core.workers) k)) number_is) ∙ rest

-- numbers
product_less : (k a b x y : ℕ) → a < b → x < k → k * a + x < k * b + y
product_less k a b x y h l =
    let e : k * (a + 1) ≡ k * a + k * 1 = mul-add k a 1 in
    let one : k * 1 ≡ k = omega arith in
    let m : k * (a + 1) ≤ k * b = mul-le-mul_left k (omega arith) in
    omega arith

-- A rest behind the bytes comes one nearer to an act.
waits_fall : (schedule : List ℕ) (r : Round) → length schedule ≤ r.turns → act_at schedule r r.turns ≡ Rests
    → (((number : ℕ) → number < actors r → act_of r (actor_of (length r.core.workers) number) ≡ Rests) → ⊥)
    → waits schedule (record r { turns = r.turns + 1 }) < waits schedule r
waits_fall schedule r behind rest some = by_cases (rest_cases (map (act_at schedule r) (range_with_len (r.turns + 1) others)))
  where
    others : ℕ
    others = length r.core.workers + length r.seats

    count : actors r ≡ suc others
    count = omega arith

    first : map (act_at schedule r) (range_with_len r.turns (actors r)) ≡ Rests ∷ map (act_at schedule r) (range_with_len (r.turns + 1) others)
    first = ap (λ k. map (act_at schedule r) (range_with_len r.turns k)) count ∙ ap (λ a. a ∷ map (act_at schedule r) (range_with_len (r.turns + 1) others)) rest

    last : map (act_at schedule r) (range_with_len (r.turns + 1) (actors r)) ≡ map (act_at schedule r) (range_with_len (r.turns + 1) others) ++ act_at schedule r (r.turns + 1 + others) ∷ []
    last = ap (λ k. map (act_at schedule r) (range_with_len (r.turns + 1) k)) count ∙ ap (map (act_at schedule r)) (range_on others (r.turns + 1))
        ∙ map_append (act_at schedule r) (range_with_len (r.turns + 1) others) ((r.turns + 1 + others) ∷ [])

    by_cases : AllByRecursion (λ a. a ≡ Rests) (map (act_at schedule r) (range_with_len (r.turns + 1) others)) ⊎ HasAct (map (act_at schedule r) (range_with_len (r.turns + 1) others))
        → waits schedule (record r { turns = r.turns + 1 }) < waits schedule r
    by_cases (inl all) = absurd (some (rests_all schedule r behind (subst (AllByRecursion (λ a. a ≡ Rests)) (sym first) (refl, all))))
    by_cases (inr h) =
        let was : waits schedule r ≡ 1 + rests_first (map (act_at schedule r) (range_with_len (r.turns + 1) others)) = ap rests_first first in
        let now : waits schedule (record r { turns = r.turns + 1 }) ≡ rests_first (map (act_at schedule r) (range_with_len (r.turns + 1) others)) =
        ap rests_first last ∙ h (act_at schedule r (r.turns + 1 + others) ∷ []) in
        omega arith

waits_within : (schedule : List ℕ) (r : Round) → waits schedule r ≤ actors r
waits_within schedule r =
    let a = rests_within (map (act_at schedule r) (range_with_len r.turns (actors r))) in
    let b : length (map (act_at schedule r) (range_with_len r.turns (actors r))) ≡ actors r = length-map (range_with_len r.turns (actors r)) (act_at schedule r) ∙ length-range_with_len r.turns (actors r) in
    omega arith

pub turns_come_to_an_end : NobodyWaits → ActsLowerMeasure → TurnsComeToAnEnd
turns_come_to_an_end waits_for falls schedule r move next is t = subst (λ k. k < turns_left schedule r) (sym left_is) (by_bytes (cases_lt r.turns (length schedule)))
  where
    many : AsMany r next
    many = as_many schedule r move next is t

    same : actors next ≡ actors r
    same = let a : length next.core.workers ≡ length r.core.workers = many.workers in let b : length next.seats ≡ length r.seats = many.seats in omega arith

    turns_are : next.turns ≡ r.turns + 1
    turns_are = ap (λ (x : Round). x.turns) t.effect

    left_is : turns_left schedule next ≡ (actors r + 1) * ((length schedule - (r.turns + 1)) + measure next) + waits schedule next
    left_is = ap (λ k. (k + 1) * ((length schedule - next.turns) + measure next) + waits schedule next) same ∙ ap (λ k. (actors r + 1) * ((length schedule - k) + measure next) + waits schedule next) turns_are

    few : waits schedule next < actors r + 1
    few = let w = waits_within schedule next in omega (arith, w, same)

    -- where the sum of bytes and measure falls
    less : (length schedule - (r.turns + 1)) + measure next < (length schedule - r.turns) + measure r
        → (actors r + 1) * ((length schedule - (r.turns + 1)) + measure next) + waits schedule next < turns_left schedule r
    less h = product_less (actors r + 1) ((length schedule - (r.turns + 1)) + measure next) ((length schedule - r.turns) + measure r) (waits schedule next) (waits schedule r) h few

    not_more : (act_at schedule r r.turns ≡ Rests) ⊎ (act_at schedule r r.turns ≡ Rests → ⊥) → measure next ≤ measure r
    not_more (inl h) = let e : measure next ≡ measure r = (falls schedule r move next is t).rests h in omega arith
    not_more (inr d) = let l : measure next < measure r = (falls schedule r move next is t).acts d in omega arith

    behind : length schedule ≤ r.turns → (act_at schedule r r.turns ≡ Rests) ⊎ (act_at schedule r r.turns ≡ Rests → ⊥)
        → (actors r + 1) * ((length schedule - (r.turns + 1)) + measure next) + waits schedule next < turns_left schedule r
    behind l (inr d) = let m : measure next < measure r = (falls schedule r move next is t).acts d in less (omega arith)
    behind l (inl h) =
        let e : measure next ≡ measure r = (falls schedule r move next is t).rests h in
        let stays : (length schedule - (r.turns + 1)) + measure next ≡ (length schedule - r.turns) + measure r = omega arith in
        let w : waits schedule next < waits schedule r = subst (λ (x : Round). waits schedule x < waits schedule r) (sym (rest_is schedule r move next t h).0)
        (waits_fall schedule r l h (λ all. true≢false (sym (waits_for r is all) ∙ t.goes_on))) in
        let f : (actors r + 1) * ((length schedule - (r.turns + 1)) + measure next) ≡ (actors r + 1) * ((length schedule - r.turns) + measure r) = ap (λ k. (actors r + 1) * k) stays in
        omega arith

    by_bytes : (r.turns < length schedule) ⊎ (length schedule ≤ r.turns) → (actors r + 1) * ((length schedule - (r.turns + 1)) + measure next) + waits schedule next < turns_left schedule r
    by_bytes (inl l) = let m : measure next ≤ measure r = not_more (act_cases (act_at schedule r r.turns)) in less (omega arith)
    by_bytes (inr l) = behind l (act_cases (act_at schedule r r.turns))

pub rounds_end : TurnsKeepRounds → TurnsComeToAnEnd → RoundsEnd
rounds_end keep end schedule r [] last is p = let e : turns_left schedule last ≡ turns_left schedule r = ap (turns_left schedule) p in omega arith
rounds_end keep end schedule r (move ∷ turns) last is p =
    let ih = rounds_end keep end schedule p.0 turns last (keep schedule r move p.0 p.1 is) p.2 in
    let less = end schedule r move p.0 is p.1 in
    omega arith
