-- The law of the SCNs that a session reads.
use Rattle.std.proofs.Common.{ℕ, zero, suc, ◌≤◌, List, [], ◌∷◌, ◌++◌, filter_map, arith, append_assoc}
use Rattle.std.specs.List.{AllByRecursion}
use Rattle.std.specs.List.Sorted.{IsNonDecreasing}
use Rattle.std.proofs.lemmas.List.Elements.{All-from_recursion}
use Rattle.adg_base.specs.declared.answer.Lines.{Lines}
use Rattle.adg_model.specs.declared.delivery.RawDelivery.{RawDelivery}
use Rattle.adg_model.specs.Log.{frontier}
use Rattle.adg_model.specs.Transcript.{Rises, scn_of, replies_to, LegalFrom}
use Rattle.adg_model.specs.Laws.{scns_read, StayBelow, ScnsDoNotFall}
use Rattle.adg_model.proofs.LogLaws.{each_append, each_weaker}

-- SCNs that rise to one, that one, and SCNs that rise from it
Rises_append : (low mid high : ℕ) (xs ys : List ℕ) → Rises low mid xs → Rises mid high ys → Rises low high (xs ++ mid ∷ ys)
Rises_append low mid high [] ys h k = (h, k)
Rises_append low mid high (x ∷ xs) ys h k = (h.0, Rises_append x mid high xs ys h.1 k)

-- the ends of SCNs that rise
rises_ends : (low high : ℕ) (xs : List ℕ) → Rises low high xs → low ≤ high
rises_ends low high [] h = h
rises_ends low high (x ∷ xs) h = let ih = rises_ends x high xs h.1 in omega (arith, h.0, ih)

rises_above : (least low high : ℕ) (xs : List ℕ) → least ≤ low → Rises low high xs → AllByRecursion (λ x. least ≤ x) xs
rises_above least low high [] l h = tt
rises_above least low high (x ∷ xs) l h = let here : least ≤ x = omega (arith, h.0) in (here, rises_above least x high xs here h.1)

rises_below : (low high : ℕ) (xs : List ℕ) → Rises low high xs → AllByRecursion (λ x. x ≤ high) xs
rises_below low high [] h = tt
rises_below low high (x ∷ xs) h = (rises_ends x high xs h.1, rises_below x high xs h.1)

not_falling : (low high : ℕ) (xs : List ℕ) → Rises low high xs → IsNonDecreasing (low ∷ xs)
not_falling low high xs h zero zero d le lt = omega arith
not_falling low high xs h zero (suc j) d le lt = All-from_recursion (λ x. low ≤ x) xs (rises_above low low high xs (omega arith) h) j d (omega (arith, lt))
not_falling low high [] h (suc i) j d le lt = absurd (omega (arith, le, lt))
not_falling low high (x ∷ xs) h (suc i) zero d le lt = absurd (omega (arith, le))
not_falling low high (x ∷ xs) h (suc i) (suc j) d le lt = not_falling x high xs h.1 i j d (omega (arith, le)) (omega (arith, lt))

last_end : ℕ → List Lines → ℕ
last_end floor [] = floor
last_end floor (l ∷ ls) = last_end l.end ls

read_rises : (threads sessions session floor : ℕ) (earlier ds : List RawDelivery) (ls : List Lines) → LegalFrom threads sessions earlier floor ds ls → Rises floor (last_end floor ls) (scns_read session ls)
unfolding last_end
read_rises threads sessions session floor earlier [] [] h = omega arith
read_rises threads sessions session floor earlier [] (l ∷ ls) h = absurd h
read_rises threads sessions session floor earlier (d ∷ ds) [] h = absurd h
read_rises threads sessions session floor earlier (d ∷ ds) (l ∷ ls) h =
    let here = h.3.rises session in
    let later = read_rises threads sessions session l.end (earlier ++ d ∷ []) ds ls h.4 in
    rw append_assoc (Rises_append floor l.end (last_end l.end ls) (filter_map scn_of (replies_to session l.list)) (scns_read session ls) here later)

stay_below : (threads sessions session floor : ℕ) (earlier ds : List RawDelivery) (ls : List Lines) → LegalFrom threads sessions earlier floor ds ls → StayBelow threads session earlier ds ls
stay_below threads sessions session floor earlier [] [] h = tt
stay_below threads sessions session floor earlier [] (l ∷ ls) h = absurd h
stay_below threads sessions session floor earlier (d ∷ ds) [] h = absurd h
stay_below threads sessions session floor earlier (d ∷ ds) (l ∷ ls) h =
    let qs = filter_map scn_of (replies_to session l.list) in
    let f = frontier h.0 in
    let end : l.end ≤ f = h.3.ends in
    let below = each_weaker (λ q. q ≤ l.end) (λ q. q ≤ f) (λ q k. omega (arith, k, end)) qs (rises_below floor l.end qs (h.3.rises session)) in
    (h.0, h.1, h.2, each_append (λ q. q ≤ f) qs (l.end ∷ []) below (end, tt), stay_below threads sessions session l.end (earlier ++ d ∷ []) ds ls h.4)

pub scns_do_not_fall : ScnsDoNotFall
scns_do_not_fall threads sessions floor earlier ds ls h session =
    (not_falling floor (last_end floor ls) (scns_read session ls) (read_rises threads sessions session floor earlier ds ls h), stay_below threads sessions session floor earlier ds ls h)
