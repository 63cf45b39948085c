-- The last frontier: all threads have ended, and the last end has the SCN that is the number of the records.
use Rattle.std.proofs.Common.{◌≡◌, ℕ, ◌+◌, true, max, List, [], ◌∷◌, ◌++◌, map, filter, length, refl, sym, ap, ap₂, ◌∙◌, arith, append_assoc, append-nil}
use Rattle.std.proofs.lemmas.List.{map-append}
use Rattle.adg_base.specs.declared.vector.RedoRecord.{RedoRecord}
use Rattle.adg_model.specs.Records.{Mark, first_mark, mark_after, mark_of, raw_of}
use Rattle.adg_model.specs.Log.{thread_mark, is_open, scns_of, or_greatest, frontier}
use Rattle.adg_model.proofs.LogLaws.{mark_after_append}
use Rattle.feed_gen.specs.declared.writing.Writing.{Writing}
use Rattle.feed_gen.specs.declared.bank.Bank.{Bank}
use Rattle.feed_gen.specs.Tables.{creates, loads}
use Rattle.feed_gen.specs.Transfers.{all_kept, end_of, ends, opened, transfers, after_transfers}
use Rattle.feed_gen.specs.Generated.{portions, transfer_drafts, drafts}
use Rattle.feed_gen.proofs.Threads.{record_at, records_of, records_append, all_written}

abbrev ended_at : ℕ → Mark
ended_at scn = record { scn = scn; ended = true }

-- a thread that ends with a record
mark_behind : (thread : ℕ) (ws : List Writing) (e : RedoRecord) (vs : List Writing) → records_of thread (1 + length ws) vs ≡ e ∷ [] → thread_mark (records_of thread 1 (ws ++ vs)) ≡ mark_of (raw_of e)
mark_behind thread ws e vs one =
    ap thread_mark (records_append thread 1 ws vs ∙ ap (λ rs. records_of thread 1 ws ++ rs) one)
    ∙ ap (mark_after first_mark) (map-append raw_of (records_of thread 1 ws) (e ∷ []))
    ∙ mark_after_append first_mark (map raw_of (records_of thread 1 ws)) (raw_of e ∷ [])

three_marks : (a b c : Mark) (s : ℕ) → a ≡ ended_at s → b ≡ ended_at (s + 1) → c ≡ ended_at (s + 1 + 1) → or_greatest (scns_of (filter is_open (a ∷ b ∷ c ∷ []))) (scns_of (a ∷ b ∷ c ∷ [])) ≡ s + 2
three_marks a b c s x y z =
    ap₂ (λ a b. or_greatest (scns_of (filter is_open (a ∷ b ∷ c ∷ []))) (scns_of (a ∷ b ∷ c ∷ []))) x y
    ∙ ap (λ c. or_greatest (scns_of (filter is_open (ended_at s ∷ ended_at (s + 1) ∷ c ∷ []))) (scns_of (ended_at s ∷ ended_at (s + 1) ∷ c ∷ []))) z
    ∙ highest
  where
    highest : max s (max (s + 1) (max (s + 1 + 1) 0)) ≡ s + 2
    highest = omega arith

pub ends_frontier : (ws : List Writing) → frontier (records_of 1 1 (ws ++ ends) ∷ records_of 2 1 (ws ++ ends) ∷ records_of 3 1 (ws ++ ends) ∷ []) ≡ length ws + 3
unfolding frontier
ends_frontier ws =
    let s = 1 + length ws in
    three_marks _ _ _ s (mark_behind 1 ws (record_at s (end_of 1)) ends refl) (mark_behind 2 ws (record_at (s + 1) (end_of 2)) ends refl) (mark_behind 3 ws (record_at (s + 1 + 1) (end_of 3)) ends refl)
    ∙ omega arith

-- what comes before the ends
pub record HasEnds (all : List Writing) : Type 0 where
  pub front : List Writing
  pub split : all ≡ front ++ ends

drafts_ends : (ns : List ℕ) (delivery : ℕ) (bank : Bank) → HasEnds (all_written (transfer_drafts delivery ns bank))
drafts_ends [] delivery bank = record { front = all_kept bank.kept; split = append-nil (all_kept bank.kept ++ ends) }
drafts_ends (n ∷ ns) delivery bank =
    let later = drafts_ends ns (delivery + 1) (after_transfers n bank) in
    record { front = transfers n bank ++ later.front; split = ap (λ l. transfers n bank ++ l) later.split ∙ sym (append_assoc (transfers n bank) later.front ends) }

pub all_ends : (seed txns : ℕ) → HasEnds (all_written (drafts seed txns))
unfolding drafts
all_ends seed txns =
    let later = drafts_ends (portions txns) 2 (opened seed) in
    record { front = (creates ++ loads) ++ later.front; split = ap (λ l. (creates ++ loads) ++ l) later.split ∙ sym (append_assoc (creates ++ loads) later.front ends) }
