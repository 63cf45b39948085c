use Rattle.std.proofs.Common.{ℕ, ◌-◌, ◌<◌, List, length, refl, subst, sym, ap, ◌∙◌, arith}
use Rattle.std.proofs.Math.ListN.{set}
use Rattle.std.proofs.lemmas.Result.{on_ok_weaker, on_err_weaker}
use Rattle.redo_frames.specs.Assembly.{next_number}
use Rattle.log_merger.specs.Thread.{Receiving, HasRead}
use Rattle.log_merger.specs.Merger.{Merging, StandsFor, with_piece, highest_number}
use Rattle.log_merger.proofs.Merged.{stands_set, piece_other, piece_own}
use Rattle.log_merger.proofs.Numbers.{number_within, number_set}
use Rattle.log_merger.proofs.merger.Merger.accept.Goals as goal

pub accept-requires : goal.accept-requires
accept-requires c =
    let ts = c.self.inside.threads.items in
    let i = c.args.thread - 1 in
    let d = c.index_mut.result.now in
    let within : i < length ts = omega (arith, c.requires.thread, ap (λ (m : Merging). length m.threads) c.self.view_is) in
    omega (arith, number_within ts i d within, ap (λ (t : Receiving). next_number t.assembly) c.index_mut.ensures.value, ap highest_number c.self.view_is, c.requires.room)

pub returns-clause-ok : goal.returns-clause-ok
returns-clause-ok c =
    let ts = c.self.inside.threads.items in
    let i = c.args.thread - 1 in
    let d = c.index_mut.result.now in
    let m = c.accept.new.self in
    let value = c.index_mut.ensures.value in
    let within : i < length ts = omega (arith, c.requires.thread, ap (λ (m : Merging). length m.threads) c.self.view_is) in
    let old : Merging = record { threads = ts; given = c.self.inside.given; refused = c.self.inside.refused } in
    let new : Merging = record { threads = set ts i m; given = c.self.inside.given; refused = c.self.inside.refused } in
    on_ok_weaker c.accept.result
    (λ ok texts given s. stands_set old new texts (with_piece c.args.thread c.args.piece.now texts) given c.args.thread i d m refl refl (omega (arith, c.requires.thread)) within
    (piece_other c.args.thread c.args.piece.now texts) (c.accept.ensures.number ∙ ap (λ (t : Receiving). t.number) value) (c.accept.ensures.waiting ∙ ap (λ (t : Receiving). t.waiting) value)
    (λ records h. subst (λ (text : List ℕ). HasRead m text records) (piece_own c.args.thread c.args.piece.now texts) (ok (texts c.args.thread) records (subst (λ (t : Receiving). HasRead t (texts c.args.thread) records) (sym value) h)))
    (subst (λ (x : Merging). StandsFor x texts given) (sym c.self.view_is) s))
    c.accept.ensures.ok

pub returns-clause-memory : goal.returns-clause-memory
returns-clause-memory c =
    let ts = c.self.inside.threads.items in
    let i = c.args.thread - 1 in
    let d = c.index_mut.result.now in
    let m = c.accept.new.self in
    let value = c.index_mut.ensures.value in
    let within : i < length ts = omega (arith, c.requires.thread, ap (λ (m : Merging). length m.threads) c.self.view_is) in
    let old : Merging = record { threads = ts; given = c.self.inside.given; refused = c.self.inside.refused } in
    let new : Merging = record { threads = set ts i m; given = c.self.inside.given; refused = c.self.inside.refused } in
    on_err_weaker c.accept.result
    (λ memory texts given s. stands_set old new texts texts given c.args.thread i d m refl refl (omega (arith, c.requires.thread)) within
    (λ k ne. refl) (c.accept.ensures.number ∙ ap (λ (t : Receiving). t.number) value) (c.accept.ensures.waiting ∙ ap (λ (t : Receiving). t.waiting) value)
    (λ records h. memory (texts c.args.thread) records (subst (λ (t : Receiving). HasRead t (texts c.args.thread) records) (sym value) h))
    (subst (λ (x : Merging). StandsFor x texts given) (sym c.self.view_is) s))
    c.accept.ensures.memory

pub returns-clause-number : goal.returns-clause-number
returns-clause-number c =
    let ts = c.self.inside.threads.items in
    let i = c.args.thread - 1 in
    let d = c.index_mut.result.now in
    let within : i < length ts = omega (arith, c.requires.thread, ap (λ (m : Merging). length m.threads) c.self.view_is) in
    let next = ap (λ (t : Receiving). next_number t.assembly) c.index_mut.ensures.value in
    omega (arith, number_set ts i (length c.args.piece.now) d c.accept.new.self within (omega (arith, next, c.accept.ensures.next)), ap highest_number c.self.view_is)
