-- What the looks at a core tell of what can be done next.
use Rattle.std.proofs.Common.{◌≡◌, ℕ, suc, ◌+◌, ◌<◌, ◌≤◌, min, Bool, true, false, cond, ◌&&◌, List, [], ◌∷◌, length, map, drop, drop-cons, Option, Some, None, ◌⊎◌, inl, inr, refl, sym, ap, ◌∙◌, subst, arith}
use Rattle.std.specs.Prelude.{IfSome, slice_get, nat_lt, nat_le, count_by, ◌==◌}
use Rattle.std.specs.List.{list_all, list_any}
use Rattle.std.proofs.lemmas.Bool.{lt-ltb, le-ltb, le-leb, leb-true, eqb-true, eqb-false, eq-eqb, ne_eqb, cases_lt}
use Rattle.std.proofs.lemmas.Option.{get_or_from_slice_get}
use Rattle.std.proofs.lemmas.List.Sums.{count_by-le-length}
use Rattle.adg_base.specs.declared.log.LogEntry.{LogEntry}
use Rattle.adg_model.specs.Log.{least}
use Rattle.core_rules.specs.Share.{share}
use Rattle.core_rules.specs.State.{CoreState, Worker, Idle, Collected, Link, Session, At, share_of}
use Rattle.core_rules.specs.State as rules
use Rattle.core_rules.proofs.Lists.{at_same, at_within, at_exists, at_contains, contains_at, any_contains, any_none}
use Rattle.standby_core.specs.declared.duties.Duty.{Duty}
use Rattle.standby_core.specs.declared.duties.Duty.TheVariants as duty
use Rattle.standby_core.specs.declared.flush.Quiesce.{Quiesce as OwnQuiesce}
use Rattle.standby_core.specs.declared.flush.Quiesce.TheVariants as keeper
use Rattle.standby_core.specs.declared.link.Stage.{Stage as OwnStage}
use Rattle.standby_core.specs.declared.link.Stage.TheVariants.{Unclaimed, Claimed, Finished}
use Rattle.standby_core.specs.declared.link.Link.{Link as OwnLink}
use Rattle.standby_core.specs.declared.session.Session.{Session as OwnSession}
use Rattle.standby_core.specs.declared.session.Session.TheVariants as seat
use Rattle.standby_core.specs.declared.standby.Core.{Core}
use Rattle.standby_core.specs.declared.worker.Worker.{Worker as OwnWorker}
use Rattle.standby_core.specs.Links.{quiesce_shown, stage_with, is_unclaimed, is_finished, ShowsLink}
use Rattle.standby_core.specs.Parts.{ShowsSession, ShowsWorker}
use Rattle.standby_core.specs.Shows.{IsState}
use Rattle.standby_core.specs.Duty.{HasCursor, CanFlush, cursor_in, below_next, through_mined, least_progress, lowest, duty_of, own_duty}
use Rattle.standby_core.proofs.Claiming.{bit, count_cons}
use Rattle.standby_core.proofs.Each.{each_left}
use Rattle.standby_core.proofs.HeldLinks.{HeldLink, held_link, held_number}

-- the stage of the state's worklink
same_unclaimed : (collected : List Collected) (x : OwnStage) → rules.is_unclaimed (stage_with collected x) ≡ is_unclaimed x
same_unclaimed collected Unclaimed = refl
same_unclaimed collected (Claimed actor cursor) = refl
same_unclaimed collected Finished = refl

same_finished : (collected : List Collected) (x : OwnStage) → rules.is_finished (stage_with collected x) ≡ is_finished x
same_finished collected Unclaimed = refl
same_finished collected (Claimed actor cursor) = refl
same_finished collected Finished = refl

-- all pass a test where as many do as there are
all_counted : {X : Type 0} (p : X → Bool) (xs : List X) → (count_by p xs == length xs) ≡ list_all p xs
all_counted p [] = refl
all_counted p (x ∷ xs) = by_test (all_counted p xs) (p x) refl
  where
    count : count_by p (x ∷ xs) ≡ bit (p x) + count_by p xs
    count = count_cons p x xs

    by_rest : (count_by p xs == length xs) ≡ list_all p xs → bit (p x) ≡ 1 → (b : Bool) → list_all p xs ≡ b → (count_by p (x ∷ xs) == length (x ∷ xs)) ≡ list_all p xs
    by_rest same one true f =
        let k : count_by p xs ≡ length xs = eqb-true (count_by p xs) (length xs) (same ∙ f) in
        eq-eqb (count_by p (x ∷ xs)) (length (x ∷ xs)) (omega (arith, k, count, one)) ∙ sym f
    by_rest same one false f =
        ne_eqb (count_by p (x ∷ xs)) (length (x ∷ xs)) (λ k. eqb-false (count_by p xs) (length xs) (same ∙ f) (omega (arith, k, count, one))) ∙ sym f

    by_test : (count_by p xs == length xs) ≡ list_all p xs → (b : Bool) → p x ≡ b → (count_by p (x ∷ xs) == length (x ∷ xs)) ≡ (p x && list_all p xs)
    by_test same false e =
        let none : bit (p x) ≡ 0 = ap bit e in
        let most : count_by p xs ≤ length xs = count_by-le-length p xs in
        ne_eqb (count_by p (x ∷ xs)) (length (x ∷ xs)) (λ k. absurd (omega (arith, k, count, none, most))) ∙ sym (ap (λ b. b && list_all p xs) e)
    by_test same true e = by_rest same (ap bit e) (list_all p xs) refl ∙ sym (ap (λ b. b && list_all p xs) e)

-- a test that two lists pass alike
all_alike : {X Y : Type 0} (p : X → Bool) (q : Y → Bool) (xs : List X) (ys : List Y) → length xs ≡ length ys → ((n : ℕ) (x : X) (y : Y) → At xs n x → At ys n y → p x ≡ q y) → list_all p xs ≡ list_all q ys
all_alike p q [] [] same each = refl
all_alike p q [] (y ∷ ys) same each = absurd (omega arith)
all_alike p q (x ∷ xs) [] same each = absurd (omega arith)
all_alike p q (x ∷ xs) (y ∷ ys) same each =
    ap (λ b. b && list_all p xs) (each 0 x y refl refl) ∙ ap (λ b. q y && b) (all_alike p q xs ys (omega arith) (λ n u v at_u at_v. each (suc n) u v at_u at_v))

-- the least of some numbers
lowest_is : (n m : ℕ) (more : List ℕ) → lowest n (m ∷ more) ≡ min n (least (m ∷ more))
lowest_is n m [] = refl
lowest_is n m (k ∷ more) =
    let regrouped : min (min n m) (least (k ∷ more)) ≡ min n (min m (least (k ∷ more))) = omega arith in
    lowest_is (min n m) k more ∙ regrouped

lowest_most : (n : ℕ) (ms : List ℕ) → lowest n ms ≤ n
lowest_most n [] = omega arith
lowest_most n (m ∷ ms) = let l : lowest (min n m) ms ≤ min n m = lowest_most (min n m) ms in omega arith

pub none_above : (n query : ℕ) (ms : List ℕ) → n ≤ query → lowest n ms ≤ query
none_above n query ms l = let k : lowest n ms ≤ n = lowest_most n ms in omega arith

drop_at : (xs : List OwnWorker) (n : ℕ) (x : OwnWorker) → At xs n x → drop n xs ≡ x ∷ drop (suc n) xs
drop_at xs n x h = drop-cons xs n x (at_within xs n x h) ∙ ap (λ z. z ∷ drop (suc n) xs) (get_or_from_slice_get xs n x x h)

pub one_not_above : (least query i : ℕ) (xs : List OwnWorker) (x : OwnWorker) → At xs i x → x.progress ≤ query → lowest least (map (λ (y : OwnWorker). y.progress) (drop i xs)) ≤ query
one_not_above least query i xs x at l =
    let k : lowest (min least x.progress) (map (λ (y : OwnWorker). y.progress) (drop (suc i) xs)) ≤ query = none_above (min least x.progress) query (map (λ (y : OwnWorker). y.progress) (drop (suc i) xs)) (omega arith) in
    subst (λ (ys : List OwnWorker). lowest least (map (λ (y : OwnWorker). y.progress) ys) ≤ query) (sym (drop_at xs i x at)) k

least_first : (m : ℕ) (more : List ℕ) → least (m ∷ more) ≤ m
least_first m [] = omega arith
least_first m (k ∷ more) = let l : min m (least (k ∷ more)) ≤ m = omega arith in l

below_least : (n m : ℕ) (more : List ℕ) → m ≤ n → min n (least (m ∷ more)) ≡ least (m ∷ more)
below_least n m more h = let l : least (m ∷ more) ≤ m = least_first m more in omega (arith, l, h)

-- the progresses of the workers, on both sides
same_progress : (xs : List OwnWorker) (ws : List Worker) → length xs ≡ length ws → ((n : ℕ) (x : OwnWorker) (w : Worker) → At xs n x → At ws n w → x.progress ≡ w.progress)
    → map (λ (x : OwnWorker). x.progress) xs ≡ map (λ (w : Worker). w.progress) ws
same_progress [] [] same each = refl
same_progress [] (w ∷ ws) same each = absurd (omega arith)
same_progress (x ∷ xs) [] same each = absurd (omega arith)
same_progress (x ∷ xs) (w ∷ ws) same each =
    ap (λ n. n ∷ map (λ (y : OwnWorker). y.progress) xs) (each 0 x w refl refl)
    ∙ ap (λ ns. w.progress ∷ ns) (same_progress xs ws (omega arith) (λ n u v at_u at_v. each (suc n) u v at_u at_v))

-- a value that is told, if one is
pub if_is : {X : Type 0} (P : X → Type 0) (o : Option X) → ((x : X) → o ≡ Some x → P x) → IfSome o P
if_is P None f = tt
if_is P (Some x) f = f x refl

pub if_both : {X : Type 0} (P Q R : X → Type 0) (o : Option X) → ((x : X) → P x → Q x → R x) → IfSome o P → IfSome o Q → IfSome o R
if_both P Q R None f p q = tt
if_both P Q R (Some x) f p q = f x p q

-- a session of the core, and one of the state
abbrev next_of_population : (holds : Bool) (registered extents blocks : ℕ) → Duty
next_of_population holds registered extents blocks = cond holds (cond (nat_lt registered extents) duty.Register duty.Release) (cond (nat_lt blocks 16) duty.Read duty.Install)

same_duty : (x : OwnSession) (s : Session) → ShowsSession x s → own_duty x ≡ duty_of s
same_duty seat.Free rules.Free h = refl
same_duty seat.Free (rules.Populating p) h = absurd h
same_duty seat.Free (rules.Scanning s) h = absurd h
same_duty (seat.Populating x) rules.Free h = absurd h
same_duty (seat.Populating x) (rules.Scanning s) h = absurd h
same_duty (seat.Scanning x) rules.Free h = absurd h
same_duty (seat.Scanning x) (rules.Populating p) h = absurd h
same_duty (seat.Populating x) (rules.Populating p) h =
    ap (λ b. next_of_population b x.registered x.extents x.build.blocks) h.holds
    ∙ ap (λ n. next_of_population p.holds n x.extents x.build.blocks) h.registered
    ∙ ap (λ n. next_of_population p.holds p.registered n x.build.blocks) h.extents
    ∙ ap (λ n. next_of_population p.holds p.registered p.table.extents n) h.blocks
same_duty (seat.Scanning x) (rules.Scanning s) h =
    ap (λ n. cond (nat_lt n x.definition.extents) duty.Gather duty.Answer) h.extents ∙ ap (λ n. cond (nat_lt s.extents n) duty.Gather duty.Answer) h.defined.extents

module _ (core : Core) (c : CoreState) (h : IsState core c) where
  -- The worklink of an actor.
  cursor_at : (actor number : ℕ) → At core.flush.held.items actor (Some number) → HeldLink core.worker_count core.flush c.links actor number
  cursor_at actor number k = held_link core.worker_count core.flush c.quiesce c.links h.shows.flush actor number k

  pub cursor_some : (actor number cursor : ℕ) (x : OwnLink) → At core.flush.held.items actor (Some number) → At core.flush.links.items number x → cursor_in x.stage ≡ Some cursor → HasCursor c.links actor cursor
  cursor_some actor number cursor x held at is =
      let k = cursor_at actor number held in
      let same : k.own ≡ x = at_same core.flush.links.items number k.own x k.at at in
      let there : Some k.cursor ≡ Some cursor = sym (ap cursor_in k.own_stage) ∙ ap (λ (y : OwnLink). cursor_in y.stage) same ∙ is in
      record {
        number = number;
        link = k.link;
        collected = k.shows.collected;
        found = k.found;
        stage = k.stage ∙ ap (λ n. rules.Claimed actor n k.shows.collected) (let e : k.cursor ≡ cursor = cc in e);
      }

  number_is : (actor cursor : ℕ) → (u : HasCursor c.links actor cursor) → At core.flush.held.items actor (Some u.number)
  number_is actor cursor u = held_number core.worker_count core.flush c.quiesce c.links h.shows.flush actor u.number cursor u.link u.collected u.found u.stage

  pub holds_none : (actor : ℕ) → ((n : ℕ) (x : OwnLink) → At core.flush.held.items actor (Some n) → At core.flush.links.items n x → ⊥) → (cursor : ℕ) → HasCursor c.links actor cursor → ⊥
  holds_none actor none cursor u =
      let held = number_is actor cursor u in
      let k = cursor_at actor u.number held in
      none u.number k.own held k.at

  pub cursor_none : (actor number cursor : ℕ) (x : OwnLink) → At core.flush.held.items actor (Some number) → At core.flush.links.items number x → cursor_in x.stage ≡ None → HasCursor c.links actor cursor → ⊥
  cursor_none actor number cursor x held at none u =
      let k = cursor_at actor number held in
      let same : k.own ≡ x = at_same core.flush.links.items number k.own x k.at at in
      let there : Some k.cursor ≡ None = sym (ap cursor_in k.own_stage) ∙ ap (λ (y : OwnLink). cursor_in y.stage) same ∙ none in
      absurd cc

  -- Whether a worklink is unclaimed, and whether all are done.
  count : length core.flush.links.items ≡ length c.links
  count = h.shows.flush.links.same_length

  own_unclaimed : (n : ℕ) (l : Link) → At c.links n l → rules.is_unclaimed l.stage ≡ nat_le core.flush.claimed n
  own_unclaimed n l at =
      let r = each_left (λ k. ShowsLink core.worker_count) core.flush.links.items c.links h.shows.flush.links n l at in
      ap rules.is_unclaimed r.2.stage ∙ same_unclaimed r.2.collected r.0.stage ∙ h.shows.flush.numbers.claimed n r.0 r.1

  pub unclaimed_is : nat_lt core.flush.claimed (length core.flush.links.items) ≡ list_any (λ (l : Link). rules.is_unclaimed l.stage) c.links
  unclaimed_is = by_case (cases_lt core.flush.claimed (length core.flush.links.items))
    where
      by_case : (core.flush.claimed < length core.flush.links.items) ⊎ (length core.flush.links.items ≤ core.flush.claimed)
          → nat_lt core.flush.claimed (length core.flush.links.items) ≡ list_any (λ (l : Link). rules.is_unclaimed l.stage) c.links
      by_case (inl l) =
          let within : core.flush.claimed < length c.links = omega (arith, l, count) in
          let r = at_exists c.links core.flush.claimed within in
          lt-ltb core.flush.claimed (length core.flush.links.items) l
          ∙ sym (any_contains (λ (x : Link). rules.is_unclaimed x.stage) c.links r.0 (at_contains c.links core.flush.claimed r.0 r.1) (own_unclaimed core.flush.claimed r.0 r.1 ∙ le-leb core.flush.claimed core.flush.claimed (omega arith)))
      by_case (inr l) =
          le-ltb core.flush.claimed (length core.flush.links.items) l
          ∙ sym (any_none (λ (x : Link). rules.is_unclaimed x.stage) c.links (λ x in_links e. barred x (contains_at c.links x in_links) e))
        where
          barred : (x : Link) → (n : ℕ) × At c.links n x → rules.is_unclaimed x.stage ≡ true → ⊥
          barred x k e =
              let within : k.0 < length c.links = at_within c.links k.0 x k.1 in
              let behind : core.flush.claimed ≤ k.0 = leb-true core.flush.claimed k.0 (sym (own_unclaimed k.0 x k.1) ∙ e) in
              omega (arith, within, behind, l, count)

  pub finished_is : (core.flush.done == length core.flush.links.items) ≡ list_all (λ (l : Link). rules.is_finished l.stage) c.links
  finished_is =
      ap (λ n. n == length core.flush.links.items) h.shows.flush.numbers.done
      ∙ all_counted (λ (x : OwnLink). is_finished x.stage) core.flush.links.items
      ∙ all_alike (λ (x : OwnLink). is_finished x.stage) (λ (l : Link). rules.is_finished l.stage) core.flush.links.items c.links count alike
    where
      alike : (n : ℕ) (x : OwnLink) (l : Link) → At core.flush.links.items n x → At c.links n l → is_finished x.stage ≡ rules.is_finished l.stage
      alike n x l at found =
          let k = h.shows.flush.links.each n x l at found in
          sym (ap rules.is_finished k.stage ∙ same_finished k.collected x.stage)

  -- A worker.
  pub worker_is : (worker : ℕ) (x : OwnWorker) (w : Worker) → At core.workers.items worker x → At c.workers worker w → ShowsWorker core.worker_count c.log worker x w
  worker_is worker x w at found = h.shows.workers.each worker x w at found

  own_share : (worker : ℕ) (x : OwnWorker) (w : Worker) → At core.workers.items worker x → At c.workers worker w → x.share ≡ share_of c worker
  own_share worker x w at found = (worker_is worker x w at found).share ∙ ap (λ n. share n worker c.log) h.shows.worker_count

  pub through_is : (worker : ℕ) (x : OwnWorker) (w : Worker) → At core.workers.items worker x → At c.workers worker w → below_next core.frontier (slice_get x.share x.mined) ≡ through_mined c worker w
  through_is worker x w at found =
      ap (λ f. below_next f (slice_get x.share x.mined)) h.shows.frontier
      ∙ ap (λ (es : List LogEntry). below_next c.frontier (slice_get es x.mined)) (own_share worker x w at found)
      ∙ ap (λ n. below_next c.frontier (slice_get (share_of c worker) n)) (worker_is worker x w at found).mined

  pub not_ahead : (worker : ℕ) (x : OwnWorker) (w : Worker) → At core.workers.items worker x → At c.workers worker w → below_next core.frontier (slice_get x.share x.mined) ≤ x.progress → through_mined c worker w ≤ w.progress
  not_ahead worker x w at found l =
      let t = through_is worker x w at found in
      let p : x.progress ≡ w.progress = (worker_is worker x w at found).progress in
      omega (arith, l, t, p)

  pub is_ahead : (worker : ℕ) (x : OwnWorker) (w : Worker) → At core.workers.items worker x → At c.workers worker w → (through : ℕ) → through ≡ below_next core.frontier (slice_get x.share x.mined) → x.progress < through
      → (through ≡ through_mined c worker w) × (w.progress < through)
  is_ahead worker x w at found through is l =
      let p : x.progress ≡ w.progress = (worker_is worker x w at found).progress in
      (is ∙ through_is worker x w at found, omega (arith, l, p))

  pub to_mine : (worker : ℕ) (x : OwnWorker) (w : Worker) → At core.workers.items worker x → At c.workers worker w → nat_lt x.mined x.applied ≡ nat_lt w.mined w.applied
  to_mine worker x w at found =
      let k = worker_is worker x w at found in
      ap (λ n. nat_lt n x.applied) k.mined ∙ ap (nat_lt w.mined) k.applied

  pub to_apply : (worker : ℕ) (x : OwnWorker) (w : Worker) → At core.workers.items worker x → At c.workers worker w → nat_lt x.applied (length x.share) ≡ nat_lt w.applied (length (share_of c worker))
  to_apply worker x w at found =
      ap (λ n. nat_lt n (length x.share)) (worker_is worker x w at found).applied ∙ ap (λ (es : List LogEntry). nat_lt w.applied (length es)) (own_share worker x w at found)

  -- The least SCN that a worker has come to.
  pub least_is : lowest core.frontier (map (λ (x : OwnWorker). x.progress) core.workers.items) ≡ least_progress c
  least_is = ap (lowest core.frontier) progresses ∙ ap (λ f. lowest f (map (λ (w : Worker). w.progress) c.workers)) h.shows.frontier ∙ by_workers c.workers refl
    where
      progresses : map (λ (x : OwnWorker). x.progress) core.workers.items ≡ map (λ (w : Worker). w.progress) c.workers
      progresses = same_progress core.workers.items c.workers h.shows.workers.same_length (λ n x w at found. (h.shows.workers.each n x w at found).progress)

      by_workers : (ws : List Worker) → c.workers ≡ ws → lowest c.frontier (map (λ (w : Worker). w.progress) ws) ≡ least (map (λ (w : Worker). w.progress) ws)
      by_workers [] e = let some : 0 < length c.workers = h.invariant.manned in let none : length c.workers ≡ 0 = ap length e in absurd (omega arith)
      by_workers (w ∷ ws) e =
          let at : At c.workers 0 w = ap (λ xs. slice_get xs 0) e in
          let received : w.progress ≤ c.frontier = (h.invariant.workers 0 w at).progress.received in
          lowest_is c.frontier w.progress (map (λ (x : Worker). x.progress) ws) ∙ below_least c.frontier w.progress (map (λ (x : Worker). x.progress) ws) received

  -- A flush can begin.
  pub not_above : c.quiesce ≡ Idle → (ps : List OwnWorker) → ps ≡ core.workers.items → lowest core.frontier (map (λ (x : OwnWorker). x.progress) ps) ≤ core.query → least_progress c ≤ c.query
  not_above idle ps same l =
      let q : core.query ≡ c.query = h.shows.query in
      let p : lowest core.frontier (map (λ (x : OwnWorker). x.progress) ps) ≡ least_progress c = ap (λ (xs : List OwnWorker). lowest core.frontier (map (λ (x : OwnWorker). x.progress) xs)) same ∙ least_is in
      omega (arith, l, q, p)

  pub flush_can : core.flush.quiesce ≡ keeper.Idle → (ps : List OwnWorker) → ps ≡ core.workers.items → (through : ℕ) → through ≡ lowest core.frontier (map (λ (x : OwnWorker). x.progress) ps) → core.query < through → CanFlush c through
  flush_can idle ps same through is above =
      let q : core.query ≡ c.query = h.shows.query in
      record {
        idle = h.shows.flush.quiesce ∙ ap quiesce_shown idle;
        is = is ∙ ap (λ (xs : List OwnWorker). lowest core.frontier (map (λ (x : OwnWorker). x.progress) xs)) same ∙ least_is;
        above = omega (arith, q, above);
      }

  pub not_idle : (q : OwnQuiesce) → core.flush.quiesce ≡ q → (quiesce_shown q ≡ Idle → ⊥) → c.quiesce ≡ Idle → ⊥
  not_idle q is other idle = other (sym (h.shows.flush.quiesce ∙ ap quiesce_shown is) ∙ idle)

  -- What comes next of what a session has begun.
  pub duty_is : (place : ℕ) (x : OwnSession) (s : Session) → At core.sessions.items place x → At c.sessions place s → own_duty x ≡ duty_of s
  duty_is place x s at found = same_duty x s (h.shows.sessions.each place x s at found)

  pub no_session : (place : ℕ) (s : Session) → slice_get core.sessions.items place ≡ None → At c.sessions place s → ⊥
  no_session place s none found =
      let r = each_left (λ n. ShowsSession) core.sessions.items c.sessions h.shows.sessions place s found in
      let k : None ≡ Some r.0 = sym none ∙ r.1 in
      absurd cc
