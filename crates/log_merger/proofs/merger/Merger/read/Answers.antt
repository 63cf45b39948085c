use Rattle.std.proofs.Common.{◌≡◌, List, Vec, Global, Some, length, refl, sym, ap, subst, ◌∙◌}
use Rattle.std.specs.List.{AllZip}
use Rattle.std.specs.Vec.{with_items}
use Rattle.std.proofs.lemmas.List.{with_items_is}
use Rattle.std.proofs.lemmas.List.Elements.{length_all_zip}
use Rattle.adg_model.specs.Log.{greatest}
use Rattle.log_merger.specs.declared.thread.RedoThread.{RedoThread}
use Rattle.log_merger.specs.Thread.{Receiving, ReadsOn}
use Rattle.log_merger.specs.Merger.{Merging, StandsFor, IsFirstBad, RefusesFirst, highest_number}
use Rattle.log_merger.proofs.Merged.{stands_read, first_bad}
use Rattle.log_merger.proofs.Numbers.{numbers, numbers_read}
use Rattle.log_merger.proofs.merger.Merger.read.Goals as goal

-- the threads that were read, as the merger holds them
read-items : (v : Vec RedoThread Global) (us : List Receiving) → AllZip ReadsOn v.items us → (with_items v us).items ≡ us
read-items v us h = with_items_is v us (sym (length_all_zip ReadsOn v.items us h) ∙ sym v.ok.0)

pub returns-in-Ok-clause-stands : goal.returns-in-Ok-clause-stands
returns-in-Ok-clause-stands c texts given s =
    let v = c.self.inside.threads in
    let us = c.read_all.new.threads in
    let each = subst (λ (l : List Receiving). AllZip ReadsOn l us) c.deref_mut.ensures.value c.read_all.ensures.each in
    let old : Merging = record { threads = v.items; given = c.self.inside.given; refused = c.self.inside.refused } in
    let new : Merging = record { threads = (with_items v us).items; given = c.self.inside.given; refused = c.self.inside.refused } in
    stands_read old new texts given (subst (AllZip ReadsOn v.items) (sym (read-items v us each)) each) refl (subst (λ (m : Merging). StandsFor m texts given) (sym c.self.view_is) s)

pub returns-in-Ok-clause-number : goal.returns-in-Ok-clause-number
returns-in-Ok-clause-number c =
    let v = c.self.inside.threads in
    let us = c.read_all.new.threads in
    let each = subst (λ (l : List Receiving). AllZip ReadsOn l us) c.deref_mut.ensures.value c.read_all.ensures.each in
    ap (λ (l : List Receiving). greatest (numbers l)) (read-items v us each) ∙ ap greatest (numbers_read v.items us each) ∙ ap highest_number c.self.view_is

pub returns-in-Err-Redo-clause-stands : goal.returns-in-Err-Redo-clause-stands
returns-in-Err-Redo-clause-stands c texts given s =
    let v = c.self.inside.threads in
    let us = c.read_all.new.threads in
    let each = subst (λ (l : List Receiving). AllZip ReadsOn l us) c.deref_mut.ensures.value c.read_all.ensures.each in
    let old : Merging = record { threads = v.items; given = c.self.inside.given; refused = c.self.inside.refused } in
    let new : Merging = record { threads = (with_items v us).items; given = c.self.inside.given; refused = Some c.in-Err-Redo.fault } in
    stands_read old new texts given (subst (AllZip ReadsOn v.items) (sym (read-items v us each)) each) refl (subst (λ (m : Merging). StandsFor m texts given) (sym c.self.view_is) s)

pub returns-in-Err-Redo-clause-bad : goal.returns-in-Err-Redo-clause-bad
returns-in-Err-Redo-clause-bad c fault e texts given s =
    let v = c.self.inside.threads in
    let us = c.read_all.new.threads in
    let each = subst (λ (l : List Receiving). AllZip ReadsOn l us) c.deref_mut.ensures.value c.read_all.ensures.each in
    let refuses = subst (λ (l : List Receiving). RefusesFirst l us fault) c.deref_mut.ensures.value (c.in-Err-Redo.ensures.refused fault (cc (c.in-Err-Redo.field-0-is, e))) in
    let old : Merging = record { threads = v.items; given = c.self.inside.given; refused = c.self.inside.refused } in
    subst (λ (m : Merging). IsFirstBad (length m.threads) texts fault) c.self.view_is
    (first_bad old us texts given fault each refuses (subst (λ (m : Merging). StandsFor m texts given) (sym c.self.view_is) s))

pub returns-in-Err-Redo-clause-number : goal.returns-in-Err-Redo-clause-number
returns-in-Err-Redo-clause-number c =
    let v = c.self.inside.threads in
    let us = c.read_all.new.threads in
    let each = subst (λ (l : List Receiving). AllZip ReadsOn l us) c.deref_mut.ensures.value c.read_all.ensures.each in
    ap (λ (l : List Receiving). greatest (numbers l)) (read-items v us each) ∙ ap greatest (numbers_read v.items us each) ∙ ap highest_number c.self.view_is

pub returns-in-Err-Memory-clause-stands : goal.returns-in-Err-Memory-clause-stands
returns-in-Err-Memory-clause-stands c texts given s =
    let v = c.self.inside.threads in
    let us = c.read_all.new.threads in
    let each = subst (λ (l : List Receiving). AllZip ReadsOn l us) c.deref_mut.ensures.value c.read_all.ensures.each in
    let old : Merging = record { threads = v.items; given = c.self.inside.given; refused = c.self.inside.refused } in
    let new : Merging = record { threads = (with_items v us).items; given = c.self.inside.given; refused = c.self.inside.refused } in
    stands_read old new texts given (subst (AllZip ReadsOn v.items) (sym (read-items v us each)) each) refl (subst (λ (m : Merging). StandsFor m texts given) (sym c.self.view_is) s)

pub returns-in-Err-Memory-clause-number : goal.returns-in-Err-Memory-clause-number
returns-in-Err-Memory-clause-number c =
    let v = c.self.inside.threads in
    let us = c.read_all.new.threads in
    let each = subst (λ (l : List Receiving). AllZip ReadsOn l us) c.deref_mut.ensures.value c.read_all.ensures.each in
    ap (λ (l : List Receiving). greatest (numbers l)) (read-items v us each) ∙ ap greatest (numbers_read v.items us each) ∙ ap highest_number c.self.view_is
