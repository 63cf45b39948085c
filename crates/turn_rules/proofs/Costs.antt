-- How the parts of the measure change with one worker, one worklink, one session or one seat.
use Rattle.std.proofs.Common.{◌≡◌, ℕ, zero, suc, ◌+◌, ◌-◌, ◌*◌, ◌<◌, ◌≤◌, Bool, true, false, cond, List, [], ◌∷◌, ◌++◌, length, map, filter, Option, Some, None, refl, sym, ap, ◌∙◌, arith, mul-add, mul-le-mul_left}
use Rattle.std.specs.Prelude.{slice_set, nat_lt, nat_le, option_to_list}
use Rattle.std.specs.List.{flat_map}
use Rattle.std.proofs.lemmas.Bool.{ltb-true, ltb-false, le-leb, lt-leb}
use Rattle.std.proofs.lemmas.List.{length-append}
use Rattle.adg_base.specs.Area.{Held}
use Rattle.adg_base.specs.declared.log.LogEntry.{LogEntry}
use Rattle.adg_base.specs.declared.node.Node.{Node}
use Rattle.adg_base.specs.declared.node.DdlNode.{DdlNode}
use Rattle.adg_base.specs.declared.node.Item.{Item}
use Rattle.adg_model.specs.declared.mined.Mined.{Mined}
use Rattle.adg_model.specs.declared.mined.Mined.TheVariants as mined
use Rattle.core_rules.specs.Share.{share}
use Rattle.core_rules.specs.State.{CoreState, Worker, Quiesce, Idle, Shared, Flushing, Link, Session, At, held_once_more, held_once_less}
use Rattle.core_rules.specs.Applying.{mined_node, mined_ddl, entered, entered_if}
use Rattle.core_rules.specs.Flush.{cut_worker, nodes_upto, AreFull, unclaimed}
use Rattle.turn_rules.specs.Round.{Seat}
use Rattle.turn_rules.specs.Measure.{link_cost, links_cost, worker_cost, workers_cost, calm_cost, core_cost, seat_cost, seats_cost}

-- the cost of a core by its parts, with the number of its workers apart
abbrev pub cost_at : (n : ℕ) → List Worker → List LogEntry → (frontier : ℕ) → List DdlNode → List Link → (query : ℕ) → Quiesce → ℕ
cost_at n workers log frontier ddl links query quiesce =
    workers_cost n 0 log frontier workers + (n + 34) * length ddl + links_cost n links + 2 * (frontier - query) + calm_cost quiesce

pub cost_with : (c : CoreState) (n : ℕ) → length c.workers ≡ n → core_cost c ≡ cost_at n c.workers c.log c.frontier c.ddl c.links c.query c.quiesce
cost_with c n e = ap (λ k. cost_at k c.workers c.log c.frontier c.ddl c.links c.query c.quiesce) e

-- one worker set
workers_set_from : (n place : ℕ) (log : List LogEntry) (frontier : ℕ) (ws : List Worker) (i at : ℕ) (was new : Worker) → At ws i was → place + i ≡ at
    → workers_cost n place log frontier (slice_set ws i new) + worker_cost n (length (share n at log)) frontier was
    ≡ workers_cost n place log frontier ws + worker_cost n (length (share n at log)) frontier new
workers_set_from n place log frontier [] i at was new h e = let f : None ≡ Some was = h in absurd cc
workers_set_from n place log frontier (w ∷ ws) zero at was new h e =
    let f : Some w ≡ Some was = h in
    let g : w ≡ was = cc in
    let same : worker_cost n (length (share n place log)) frontier w ≡ worker_cost n (length (share n place log)) frontier was = ap (worker_cost n (length (share n place log)) frontier) g in
    let p : place ≡ at = omega arith in
    let moved : worker_cost n (length (share n place log)) frontier was ≡ worker_cost n (length (share n at log)) frontier was = ap (λ k. worker_cost n (length (share n k log)) frontier was) p in
    let moved_new : worker_cost n (length (share n place log)) frontier new ≡ worker_cost n (length (share n at log)) frontier new = ap (λ k. worker_cost n (length (share n k log)) frontier new) p in
    sums (worker_cost n (length (share n place log)) frontier w) (worker_cost n (length (share n place log)) frontier new) (worker_cost n (length (share n at log)) frontier was)
    (worker_cost n (length (share n at log)) frontier new) (workers_cost n (place + 1) log frontier ws) (same ∙ moved) moved_new
  where
    sums : (a b c d x : ℕ) → a ≡ c → b ≡ d → (b + x) + c ≡ (a + x) + d
    sums a b c d x e f = omega arith
workers_set_from n place log frontier (w ∷ ws) (suc i) at was new h e =
    sums (worker_cost n (length (share n place log)) frontier w) (workers_cost n (place + 1) log frontier (slice_set ws i new)) (worker_cost n (length (share n at log)) frontier was)
    (workers_cost n (place + 1) log frontier ws) (worker_cost n (length (share n at log)) frontier new)
    (workers_set_from n (place + 1) log frontier ws i at was new h (omega arith))
  where
    sums : (a b c d x : ℕ) → b + c ≡ d + x → (a + b) + c ≡ (a + d) + x
    sums a b c d x e = omega arith

pub workers_set : (n : ℕ) (log : List LogEntry) (frontier : ℕ) (ws : List Worker) (i : ℕ) (was new : Worker) → At ws i was
    → workers_cost n 0 log frontier (slice_set ws i new) + worker_cost n (length (share n i log)) frontier was
    ≡ workers_cost n 0 log frontier ws + worker_cost n (length (share n i log)) frontier new
workers_set n log frontier ws i was new h = workers_set_from n 0 log frontier ws i i was new h (omega arith)

-- one worklink at another stage
pub links_set : (n : ℕ) (links : List Link) (i : ℕ) (was new : Link) → At links i was
    → links_cost n (slice_set links i new) + link_cost n was.stage ≡ links_cost n links + link_cost n new.stage
links_set n [] i was new h = let e : None ≡ Some was = h in absurd cc
links_set n (l ∷ ls) zero was new h =
    let e : Some l ≡ Some was = h in
    let f : l ≡ was = cc in
    let g : link_cost n l.stage ≡ link_cost n was.stage = ap (λ (x : Link). link_cost n x.stage) f in
    omega arith
links_set n (l ∷ ls) (suc i) was new h = let ih = links_set n ls i was new h in omega arith

-- what is mined gives a node or a change of a definition, or neither
entered_length : (d : DdlNode) (ds : List DdlNode) → length (entered d ds) ≡ length ds + 1
entered_length d [] = refl
entered_length d (m ∷ ms) = by_test (nat_le m.scn d.scn) (entered_length d ms)
  where
    by_test : (b : Bool) → length (entered d ms) ≡ length ms + 1 → length (cond b (m ∷ entered d ms) (d ∷ m ∷ ms)) ≡ length (m ∷ ms) + 1
    by_test true ih = omega arith
    by_test false ih = omega arith

pub mined_lengths : (e : LogEntry) (area : List Held) (what : Option Mined) (ddl : List DdlNode)
    → length (option_to_list (mined_node e area what)) + length (entered_if (mined_ddl e what) ddl) ≤ length ddl + 1
mined_lengths e area None ddl = omega arith
mined_lengths e area (Some (mined.Begin txn)) ddl = omega arith
mined_lengths e area (Some (mined.Note txn at)) ddl = omega arith
mined_lengths e area (Some (mined.End txn flag committed)) ddl = omega arith
mined_lengths e area (Some (mined.Ddl obj)) ddl = let l = entered_length (record { scn = e.scn; obj = obj }) ddl in omega arith

-- a number of times a sum
pub times_sum : (k a b c : ℕ) → a + b ≡ c → k * a + k * b ≡ k * c
times_sum k a b c e = sym (mul-add k a b) ∙ ap (λ x. k * x) e

pub times_less : (k a b c d : ℕ) → a + b ≤ c + d → k * a + k * b ≤ k * c + k * d
times_less k a b c d h =
    let e : k * (a + b) ≡ k * a + k * b = mul-add k a b in
    let f : k * (c + d) ≡ k * c + k * d = mul-add k c d in
    let l : k * (a + b) ≤ k * (c + d) = mul-le-mul_left k h in
    omega arith

-- the nodes up to an SCN, and those above it
pub cut_lengths : {X : Type 0} (f : X → ℕ) (t : ℕ) (xs : List X) → length (filter (λ x. nat_lt t (f x)) xs) + length (filter (λ x. nat_le (f x) t) xs) ≡ length xs
cut_lengths f t [] = refl
cut_lengths f t (x ∷ xs) = by_test (nat_lt t (f x)) refl (cut_lengths f t xs)
  where
    by_test : (b : Bool) → nat_lt t (f x) ≡ b → length (filter (λ y. nat_lt t (f y)) xs) + length (filter (λ y. nat_le (f y) t) xs) ≡ length xs
        → length (filter (λ y. nat_lt t (f y)) (x ∷ xs)) + length (filter (λ y. nat_le (f y) t) (x ∷ xs)) ≡ length (x ∷ xs)
    by_test true u ih =
        let above : t < f x = ltb-true t (f x) u in
        let not : nat_le (f x) t ≡ false = lt-leb (f x) t above in
        rw (u, not) (omega (arith, ih))
    by_test false u ih =
        let below : f x ≤ t = ltb-false t (f x) u in
        let is : nat_le (f x) t ≡ true = le-leb (f x) t below in
        rw (u, is) (omega (arith, ih))

pub workers_cut : (n place : ℕ) (log : List LogEntry) (frontier t : ℕ) (ws : List Worker)
    → workers_cost n place log frontier (map (cut_worker t) ws) + (n + 34) * length (nodes_upto t ws) ≡ workers_cost n place log frontier ws
workers_cut n place log frontier t [] = times_none (n + 34)
  where
    times_none : (k : ℕ) → 0 + k * 0 ≡ 0
    times_none k = omega arith
workers_cut n place log frontier t (w ∷ ws) =
    let entries : ℕ = length (share n place log) in
    let kept : List Node = filter (λ (x : Node). nat_lt t x.scn) w.ends in
    let cut : List Node = filter (λ (x : Node). nat_le x.scn t) w.ends in
    sums (entries - w.applied) ((n + 35) * (entries - w.mined)) (frontier - w.progress) ((n + 34) * length kept) ((n + 34) * length cut) ((n + 34) * length w.ends)
    (workers_cost n (place + 1) log frontier (map (cut_worker t) ws)) (workers_cost n (place + 1) log frontier ws) ((n + 34) * length (nodes_upto t ws)) ((n + 34) * length (cut ++ nodes_upto t ws))
    (times_sum (n + 34) (length kept) (length cut) (length w.ends) (cut_lengths (λ (x : Node). x.scn) t w.ends))
    (workers_cut n (place + 1) log frontier t ws)
    (times_sum (n + 34) (length cut) (length (nodes_upto t ws)) (length (cut ++ nodes_upto t ws)) (sym (length-append cut (nodes_upto t ws))))
  where
    sums : (a b c kept cut all new old upto both : ℕ) → kept + cut ≡ all → new + upto ≡ old → cut + upto ≡ both → ((a + b + c + kept) + new) + both ≡ (a + b + c + all) + old
    sums a b c kept cut all new old upto both e f g = omega arith

-- items in worklinks
pub links_unclaimed : (n : ℕ) (parts : List (List Item)) → links_cost n (map unclaimed parts) ≡ (n + 34) * length parts
links_unclaimed n [] = times_none (n + 34)
  where
    times_none : (k : ℕ) → 0 ≡ k * 0
    times_none k = omega arith
links_unclaimed n (p ∷ ps) =
    sums (n + 34) (links_cost n (map unclaimed ps)) ((n + 34) * length ps) ((n + 34) * 1) ((n + 34) * length (p ∷ ps)) (links_unclaimed n ps) (once (n + 34)) (times_sum (n + 34) 1 (length ps) (length (p ∷ ps)) (omega arith))
  where
    once : (k : ℕ) → k * 1 ≡ k
    once k = omega arith

    sums : (a b c d e : ℕ) → b ≡ c → d ≡ a → d + c ≡ e → a + b ≡ e
    sums a b c d e f g h = omega arith

pub parts_within : (parts : List (List Item)) → AreFull parts → length parts ≤ length (flat_map (λ (p : List Item). p) parts)
parts_within [] h = omega arith
parts_within (p ∷ []) h =
    let one : 1 ≤ length p = h.0 in
    let e : length (p ++ []) ≡ length p + 0 = length-append p [] in
    omega arith
parts_within (p ∷ q ∷ more) h =
    let full : length p ≡ 64 = h.0 in
    let ih = parts_within (q ∷ more) h.1 in
    let e = length-append p (flat_map (λ (x : List Item). x) (q ∷ more)) in
    omega arith

-- holding publication back, and giving that back, costs nothing
pub calm_more : (q : Quiesce) → calm_cost (held_once_more q) ≡ calm_cost q
calm_more Idle = refl
calm_more (Shared n) = refl
calm_more (Flushing t) = refl

pub calm_less : (q : Quiesce) → calm_cost (held_once_less q) ≡ calm_cost q
calm_less Idle = refl
calm_less (Shared n) = by_test (nat_le n 1)
  where
    by_test : (b : Bool) → calm_cost (cond b Idle (Shared (n - 1))) ≡ 1
    by_test true = refl
    by_test false = refl
calm_less (Flushing t) = refl

-- one session, one seat, or both
pub session_set : (seats : List Seat) (sessions : List Session) (place : ℕ) (seat : Seat) (was what : Session) → At seats place seat → At sessions place was
    → seats_cost seats (slice_set sessions place what) + seat_cost seat was ≡ seats_cost seats sessions + seat_cost seat what
session_set [] sessions place seat was what h k = let e : None ≡ Some seat = h in absurd cc
session_set (x ∷ xs) [] place seat was what h k = let e : None ≡ Some was = k in absurd cc
session_set (x ∷ xs) (y ∷ ys) zero seat was what h k =
    let e : Some x ≡ Some seat = h in
    let f : x ≡ seat = cc in
    let g : Some y ≡ Some was = k in
    let i : y ≡ was = cc in
    sums (seat_cost x y) (seat_cost x what) (seat_cost seat was) (seat_cost seat what) (seats_cost xs ys) (ap (λ (z : Seat). seat_cost z y) f ∙ ap (seat_cost seat) i) (ap (λ (z : Seat). seat_cost z what) f)
  where
    sums : (a b c d r : ℕ) → a ≡ c → b ≡ d → (b + r) + c ≡ (a + r) + d
    sums a b c d r e f = omega arith
session_set (x ∷ xs) (y ∷ ys) (suc place) seat was what h k =
    sums (seat_cost x y) (seats_cost xs (slice_set ys place what)) (seat_cost seat was) (seats_cost xs ys) (seat_cost seat what) (session_set xs ys place seat was what h k)
  where
    sums : (a b c d e : ℕ) → b + c ≡ d + e → (a + b) + c ≡ (a + d) + e
    sums a b c d e f = omega arith

pub seat_set : (seats : List Seat) (sessions : List Session) (place : ℕ) (seat new : Seat) (was : Session) → At seats place seat → At sessions place was
    → seats_cost (slice_set seats place new) sessions + seat_cost seat was ≡ seats_cost seats sessions + seat_cost new was
seat_set [] sessions place seat new was h k = let e : None ≡ Some seat = h in absurd cc
seat_set (x ∷ xs) [] place seat new was h k = let e : None ≡ Some was = k in absurd cc
seat_set (x ∷ xs) (y ∷ ys) zero seat new was h k =
    let e : Some x ≡ Some seat = h in
    let f : x ≡ seat = cc in
    let g : Some y ≡ Some was = k in
    let i : y ≡ was = cc in
    sums (seat_cost x y) (seat_cost new y) (seat_cost seat was) (seat_cost new was) (seats_cost xs ys) (ap (λ (z : Seat). seat_cost z y) f ∙ ap (seat_cost seat) i) (ap (seat_cost new) i)
  where
    sums : (a b c d r : ℕ) → a ≡ c → b ≡ d → (b + r) + c ≡ (a + r) + d
    sums a b c d r e f = omega arith
seat_set (x ∷ xs) (y ∷ ys) (suc place) seat new was h k =
    sums (seat_cost x y) (seats_cost (slice_set xs place new) ys) (seat_cost seat was) (seats_cost xs ys) (seat_cost new was) (seat_set xs ys place seat new was h k)
  where
    sums : (a b c d e : ℕ) → b + c ≡ d + e → (a + b) + c ≡ (a + d) + e
    sums a b c d e f = omega arith
