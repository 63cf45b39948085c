use Rattle.std.proofs.Common.{◌≡◌, ◌+◌, ◌++◌, List, Vec, Global, length, length-append, sym, ap, subst, ◌∙◌, arith}
use Rattle.std.specs.List.{AllByRecursion, AllZip}
use Rattle.std.specs.Vec.{with_items}
use Rattle.std.proofs.lemmas.List.{with_items_is}
use Rattle.std.proofs.lemmas.List.Elements.{length_all_zip}
use Rattle.adg_base.specs.declared.log.LogEntry.{LogEntry}
use Rattle.adg_model.specs.Log.{greatest}
use Rattle.log_merger.specs.declared.thread.RedoThread.{RedoThread}
use Rattle.log_merger.specs.Thread.{Receiving, IsRead}
use Rattle.log_merger.specs.Merge.{AreQueues, KeepsRest, TakesAll, marks_of, frontier_of}
use Rattle.log_merger.specs.Merger.{Merging, StandsFor, Merges, highest_number}
use Rattle.log_merger.proofs.Merged.{queues_whole, merged_whole}
use Rattle.log_merger.proofs.Numbers.{numbers, numbers_kept}
use Rattle.log_merger.proofs.merger.Merger.merge.Goals as goal

-- the threads from which entries were taken, as the merger holds them
kept-items : (v : Vec RedoThread Global) (us : List Receiving) → AllZip KeepsRest v.items us → (with_items v us).items ≡ us
kept-items v us h = with_items_is v us (sym (length_all_zip KeepsRest v.items us h) ∙ sym v.ok.0)

pub returns-clause-merged : goal.returns-clause-merged
returns-clause-merged c texts given s =
    let v = c.self.inside.threads in
    let vs = c.merge.new.threads in
    let through = c.frontier-through.result in
    let entries = c.in_ok-entries.entries.items in
    let keeps = subst (λ (l : List Receiving). AllZip KeepsRest l vs) c.deref_mut.ensures.value c.merge.ensures.rest in
    let takes = subst (λ (l : List Receiving). AreQueues 1 l → TakesAll through c.self.inside.given l vs entries) c.deref_mut.ensures.value c.in_ok-entries.ensures.merges in
    let at = c.frontier-through.ensures ∙ ap (λ (l : List Receiving). frontier_of (marks_of l)) c.deref.ensures.value in
    let old : Merging = record { threads = v.items; given = c.self.inside.given; refused = c.self.inside.refused } in
    let new : Merging = record { threads = (with_items v vs).items; given = c.self.inside.given + c.len.result; refused = c.self.inside.refused } in
    let before : StandsFor old texts given = subst (λ (m : Merging). StandsFor m texts given) (sym c.self.view_is) s in
    let whole : AllByRecursion IsRead v.items = subst (λ (m : Merging). AllByRecursion IsRead m.threads) (sym c.self.view_is) c.requires in
    let m = merged_whole old vs texts given entries through before whole at keeps (takes (queues_whole old texts given before)) in
    let count : c.self.inside.given + c.len.result ≡ length (given ++ entries) = omega (arith, before.count, c.len.ensures, c.in_ok-entries.entries.ok.0, length-append given entries) in
    let result : Merges old new texts given entries = record { stands = m.stands new (kept-items v vs keeps) count; merged = m.merged } in
    subst (λ (m : Merging). Merges m new texts given c.from_vec.result) c.self.view_is (subst (λ (l : List LogEntry). Merges old new texts given l) (sym c.from_vec.ensures) result)

pub returns-clause-number : goal.returns-clause-number
returns-clause-number c =
    let v = c.self.inside.threads in
    let vs = c.merge.new.threads in
    let keeps = subst (λ (l : List Receiving). AllZip KeepsRest l vs) c.deref_mut.ensures.value c.merge.ensures.rest in
    ap (λ (l : List Receiving). greatest (numbers l)) (kept-items v vs keeps) ∙ ap greatest (numbers_kept v.items vs keeps) ∙ ap highest_number c.self.view_is
