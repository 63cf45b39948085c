use Rattle.std.proofs.Common.{◌+◌, ◌++◌, ◌∷◌, [], List, length, append_assoc, ap, ap₂, ℕ, ◌≡◌, sym, ◌∙◌, arith}
use Rattle.std.specs.Vec.Iter.{into_iter_items}
use Rattle.std.proofs.lemmas.List.{length_push}
use Rattle.adg_base.specs.declared.vector.Vector.{Vector}
use Rattle.adg_base.specs.declared.log.LogEntry.{LogEntry}
use Rattle.adg_model.specs.Log.{record_entries}
use Rattle.log_merger.proofs.ThreadLaws.{record_entries_push}
use Rattle.log_merger.proofs.thread.push_entries.Goals as goal

pub loop-vector-preserved : goal.loop-vector-preserved
loop-vector-preserved c =
    let y = c.loop-vector.yielded in
    let v = c.in-Some.vector in
    let inv = c.loop-vector.invariant in
    let one = ap (λ (l : List Vector). length l) c.in-Some.ensures.steps.0 in
    let entry : ℕ → ℕ → LogEntry = λ p i. record { pos = p; scn = c.args.scn; thread = c.args.thread; number = c.args.number; index = i; vector = v } in
    let index : c.loop-vector.index + 1 ≡ 1 + length y = omega (arith, inv.index) in
    let same : entry c.new.result (c.loop-vector.index + 1) ≡ entry 0 (1 + length y) = ap₂ entry c.new.ensures index in
    let front = record_entries c.args.thread c.args.number c.args.scn 1 y in
    record {
      split = append_assoc y (v ∷ []) (into_iter_items c.next.new.self) ∙ ap (λ (t : List Vector). y ++ t) (sym c.in-Some.ensures.steps.0) ∙ inv.split;
      index = omega (arith, length_push y v, inv.index);
      room = omega (arith, inv.room, one, c.push_back_reserved.ensures.len, c.push_back_reserved.ensures.capacity);
      entries = c.push_back_reserved.ensures.items ∙ ap₂ (λ (l : List LogEntry) (e : LogEntry). l ++ e ∷ []) inv.entries same ∙ append_assoc c.args.waiting.now.items front (entry 0 (1 + length y) ∷ []) ∙ ap (λ (l : List LogEntry). c.args.waiting.now.items ++ l) (sym (record_entries_push c.args.thread c.args.number c.args.scn 1 y v));
    }
