-- What the program asks of a state before it applies and mines.
use Rattle.std.proofs.Common.{◌≡◌, ℕ, ◌<◌, ◌≤◌, true, List, length, take, Some, ◌⊎◌, inl, inr, sym, ap, ◌∙◌, subst, arith}
use Rattle.std.specs.List.{Contains}
use Rattle.std.proofs.lemmas.Bool.{cases_lt}
use Rattle.adg_base.specs.Shard.{shard_of_vector}
use Rattle.adg_base.specs.declared.log.LogEntry.{LogEntry}
use Rattle.core_rules.specs.Share.{is_shared_by}
use Rattle.core_rules.specs.State.{At, share_of, limit}
use Rattle.core_rules.specs.LogFacts.{LogFacts, LogHasFacts}
use Rattle.core_rules.specs.Laws.{CutIsApplied, NextClosesShard, NextMinedIsOpen}
use Rattle.core_rules.proofs.Lists.{at_exists, at_contains, contains_at, at_take, at_take_back, filter_order}
use Rattle.core_rules.proofs.Shares.{share_with, share_own, share_contains}
use Rattle.core_rules.proofs.Items.{mined_below}
use Rattle.core_rules.proofs.MinedEntry.{next_mined, mark_tells}

-- what is mined is applied
mined_applied : (xs : List LogEntry) (mined applied : ℕ) (e : LogEntry) → mined ≤ applied → Contains (take mined xs) e → Contains (take applied xs) e
mined_applied xs mined applied e l h =
    let at = contains_at (take mined xs) e h in
    let back = at_take_back xs mined at.0 e at.1 in
    let below : at.0 < mined = back.1 in
    at_contains (take applied xs) at.0 e (at_take xs applied at.0 e (omega arith) back.0)

pub cut_is_applied : CutIsApplied
cut_is_applied c e n s v h l own at =
    let r = share_with (length c.workers) n c.log e v.manned h own in
    let w = at_exists c.workers r.0 r.1 in
    let is = v.workers r.0 w.0 w.1 in
    let reached : limit c ≤ w.0.progress = is.progress.reached in
    let upto : e.scn ≤ w.0.progress = omega arith in
    let mined = mined_below c v r.0 w.0 e w.1 r.2 upto in
    is.applied e (mined_applied (share_of c r.0) w.0.mined w.0.applied e is.counts.behind mined) n s own at

pub next_closes_shard : LogHasFacts → NextClosesShard
next_closes_shard facts c worker w e x n s v h k own at there same less = by_place (cases_lt at_x.0 w.applied)
  where
    log : LogFacts c.log c.frontier
    log = facts c.log c.frontier v.log

    shared : is_shared_by (length c.workers) worker (shard_of_vector x.vector) ≡ true
    shared = subst (λ o. is_shared_by (length c.workers) worker o ≡ true) (own ∙ sym same) (share_own (length c.workers) worker c.log e (at_contains (share_of c worker) w.applied e k))

    at_x : (i : ℕ) × At (share_of c worker) i x
    at_x = contains_at (share_of c worker) x (share_contains (length c.workers) worker c.log x there shared)

    not_later : w.applied ≤ at_x.0 → x.pos < e.pos → ⊥
    not_later l m = by_order (cases_lt w.applied at_x.0)
      where
        by_order : (w.applied < at_x.0) ⊎ (at_x.0 ≤ w.applied) → ⊥
        by_order (inl b) =
            let r = filter_order (λ (y : LogEntry). is_shared_by (length c.workers) worker (shard_of_vector y.vector)) c.log w.applied at_x.0 e x b k at_x.1 in
            let e_pos : e.pos ≡ r.0 = log.positions r.0 e r.2 in
            let x_pos : x.pos ≡ r.1 = log.positions r.1 x r.3 in
            let before : r.0 < r.1 = r.4 in
            omega arith
        by_order (inr b) =
            let place : at_x.0 ≡ w.applied = omega arith in
            let here : At (share_of c worker) w.applied x = subst (λ i. At (share_of c worker) i x) place at_x.1 in
            let one : Some x ≡ Some e = sym here ∙ k in
            let same_entry : x ≡ e = cc in
            let poses : x.pos ≡ e.pos = ap (λ (y : LogEntry). y.pos) same_entry in
            omega arith

    by_place : (at_x.0 < w.applied) ⊎ (w.applied ≤ at_x.0) → x.pos < s.applied
    by_place (inr l) = absurd (not_later l less)
    by_place (inl l) = (v.workers worker w h).applied x (at_contains (take w.applied (share_of c worker)) at_x.0 x (at_take (share_of c worker) w.applied at_x.0 x l at_x.1)) n s same at

pub next_mined_is_open : LogHasFacts → NextMinedIsOpen
next_mined_is_open facts c worker w e v h k =
    let n = next_mined c v worker w e h k in
    record { above = n.above; complete = mark_tells c facts v worker w e n }
