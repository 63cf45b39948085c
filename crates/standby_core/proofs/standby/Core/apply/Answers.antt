use Rattle.std.proofs.Common.{◌≡◌, ◌+◌, ◌<◌, ◌^◌, length, arith, Some, None, rules, sym, ap, ◌∙◌, subst, refl}
use Rattle.std.specs.Prelude.{slice_get, slice_set}
use Rattle.std.specs.Vec.{with_item}
use Rattle.std.proofs.lemmas.Option.{slice_get-get_or}
use Rattle.adg_base.specs.Shard.{shard_of_vector}
use Rattle.core_rules.specs.declared.event.Event.TheVariants as event
use Rattle.core_rules.specs.declared.event.CoreAnswer.TheVariants.{NotReady, Moved}
use Rattle.core_rules.specs.State.{At}
use Rattle.core_rules.proofs.Lists.{at_same, at_within}
use Rattle.core_rules.proofs.Whole.{steps_keep_invariant}
use Rattle.standby_core.specs.declared.worker.Worker.{Worker}
use Rattle.standby_core.specs.Shows.{HasStepped}
use Rattle.standby_core.proofs.Applied.{not_ready_apply, none_left, has_shard, shard_number, shards_count, applied_fits, apply_moves, apply_stays}
use Rattle.standby_core.proofs.Exits.{at_err, lent_at}
use Rattle.standby_core.proofs.standby.Core.apply.Goals as goal

pub returns-in_default-next_to_apply-clause-ok : goal.returns-in_default-next_to_apply-clause-ok
returns-in_default-next_to_apply-clause-ok c c' h =
    let core = c.args.self.now in
    let x = c.in-Some.own.now in
    let at : At core.workers.items c.from-index.result x = lent_at c.deref.result.now core.workers.items c.from-index.result x c.deref.ensures.value c.in-Some.ensures.lookup.0 c.in-Some.ensures.lookup.1 in
    let none : slice_get x.share x.applied ≡ None = search rules in
    subst (λ w. HasStepped core c' (event.Apply w) NotReady) c.from-index.ensures (not_ready_apply core c' h c.from-index.result (none_left core c' h c.from-index.result x at none))

pub returns-in_default-shard_of-clause-ok : goal.returns-in_default-shard_of-clause-ok
returns-in_default-shard_of-clause-ok c c' h =
    let core = c.args.self.now in
    let x = c.in-Some.own.now in
    let e = c.in-Some-next_to_apply.entry.now in
    let at : At core.workers.items c.from-index.result x = lent_at c.deref.result.now core.workers.items c.from-index.result x c.deref.ensures.value c.in-Some.ensures.lookup.0 c.in-Some.ensures.lookup.1 in
    let next : At x.share x.applied e = search rules in
    let none : shard_of_vector e.vector ≡ None = search rules in
    absurd (has_shard core c' h c.from-index.result x at e next none)

pub apply_at-requires : goal.apply_at-requires
apply_at-requires c =
    let core = c.args.self.now in
    let e = c.in-Some-next_to_apply.entry.now in
    let number = c.from.result in
    let own : shard_of_vector e.vector ≡ Some c.in-Some-shard_of.number = search rules in
    let place : number ≡ c.in-Some-shard_of.number = c.from.ensures in
    let range : c.in-Some-shard_of.number < 64 = c.in-Some-shard_of.ensures.range in
    let count : length core.shards.items ≡ 64 = shards_count core c.requires.state c.requires.is in
    let at_s : At core.shards.items number c.index_mut.result.now = slice_get-get_or core.shards.items number c.index_mut.result.now (omega arith) ∙ ap Some (sym c.index_mut.ensures.value) in
    own ∙ ap Some (sym place) ∙ ap Some (sym (shard_number core c.requires.state c.requires.is number c.index_mut.result.now at_s))

pub returns-in_err-apply_at-clause-err : goal.returns-in_err-apply_at-clause-err
returns-in_err-apply_at-clause-err c =
    let core = c.args.self.now in
    let number = c.from.result in
    let place : number ≡ c.in-Some-shard_of.number = c.from.ensures in
    let range : c.in-Some-shard_of.number < 64 = c.in-Some-shard_of.ensures.range in
    let count : length core.shards.items ≡ 64 = shards_count core c.requires.state c.requires.is in
    let at_s : At core.shards.items number c.index_mut.result.now = slice_get-get_or core.shards.items number c.index_mut.result.now (omega arith) ∙ ap Some (sym c.index_mut.ensures.value) in
    at_err c.from_residual.result (λ c' h. apply_stays core c' number c.index_mut.result.now c.apply_at.new.shard (with_item core.shards number c.apply_at.new.shard) h at_s c.in_err-apply_at.ensures.err c.apply_at.ensures.settled refl)

pub settle-requires-clause-state : goal.settle-requires-clause-state
settle-requires-clause-state c =
    let h = c.requires.is in
    let c' = c.requires.state in
    let core = c.args.self.now in
    let i = c.from-index.result in
    let x = c.in-Some.own.now in
    let e = c.in-Some-next_to_apply.entry.now in
    let number = c.from.result in
    let s = c.index_mut.result.now in
    let y = c.index_mut-2.result.now in
    let at : At core.workers.items i x = lent_at c.deref.result.now core.workers.items i x c.deref.ensures.value c.in-Some.ensures.lookup.0 c.in-Some.ensures.lookup.1 in
    let at_y : At core.workers.items i y = slice_get-get_or core.workers.items i y (at_within core.workers.items i x at) ∙ ap Some (sym c.index_mut-2.ensures.value) in
    let next : At x.share x.applied e = search rules in
    let place : number ≡ c.in-Some-shard_of.number = c.from.ensures in
    let range : c.in-Some-shard_of.number < 64 = c.in-Some-shard_of.ensures.range in
    let count : length core.shards.items ≡ 64 = shards_count core c.requires.state c.requires.is in
    let own' : shard_of_vector e.vector ≡ Some c.in-Some-shard_of.number = search rules in
    let own : shard_of_vector e.vector ≡ Some number = own' ∙ ap Some (sym place) in
    let at_s : At core.shards.items number s = slice_get-get_or core.shards.items number s (omega arith) ∙ ap Some (sym c.index_mut.ensures.value) in
    let same : y ≡ x = at_same core.workers.items i y x at_y at in
    let ws = with_item core.workers i (record y { applied = y.applied + 1 }) in
    let ss = with_item core.shards number c.apply_at.new.shard in
    let moved : HasStepped (record core { workers = ws; shards = ss }) c' (event.Apply c.args.worker) Moved =
    subst (λ w. HasStepped (record core { workers = ws; shards = ss }) c' (event.Apply w) Moved) c.from-index.ensures
    (apply_moves core c' h i x at e next number s c.apply_at.new.shard ws ss own at_s c.in_ok-apply_at.ensures.ok
    (ap (λ (w : Worker). slice_set core.workers.items i (record w { applied = w.applied + 1 })) same) refl) in
    record { state = moved.next; is = record { shows = moved.shows; invariant = steps_keep_invariant c' (event.Apply c.args.worker) Moved moved.next moved.steps h.invariant } }

pub returns-clause-ok : goal.returns-clause-ok
returns-clause-ok c c' h =
    let core = c.args.self.now in
    let i = c.from-index.result in
    let x = c.in-Some.own.now in
    let e = c.in-Some-next_to_apply.entry.now in
    let number = c.from.result in
    let s = c.index_mut.result.now in
    let y = c.index_mut-2.result.now in
    let at : At core.workers.items i x = lent_at c.deref.result.now core.workers.items i x c.deref.ensures.value c.in-Some.ensures.lookup.0 c.in-Some.ensures.lookup.1 in
    let at_y : At core.workers.items i y = slice_get-get_or core.workers.items i y (at_within core.workers.items i x at) ∙ ap Some (sym c.index_mut-2.ensures.value) in
    let next : At x.share x.applied e = search rules in
    let place : number ≡ c.in-Some-shard_of.number = c.from.ensures in
    let range : c.in-Some-shard_of.number < 64 = c.in-Some-shard_of.ensures.range in
    let count : length core.shards.items ≡ 64 = shards_count core c.requires.state c.requires.is in
    let own' : shard_of_vector e.vector ≡ Some c.in-Some-shard_of.number = search rules in
    let own : shard_of_vector e.vector ≡ Some number = own' ∙ ap Some (sym place) in
    let at_s : At core.shards.items number s = slice_get-get_or core.shards.items number s (omega arith) ∙ ap Some (sym c.index_mut.ensures.value) in
    let same : y ≡ x = at_same core.workers.items i y x at_y at in
    let ws = with_item core.workers i (record y { applied = y.applied + 1 }) in
    let ss = with_item core.shards number c.apply_at.new.shard in
    let moved : HasStepped (record core { workers = ws; shards = ss }) c' (event.Apply c.args.worker) Moved =
    subst (λ w. HasStepped (record core { workers = ws; shards = ss }) c' (event.Apply w) Moved) c.from-index.ensures
    (apply_moves core c' h i x at e next number s c.apply_at.new.shard ws ss own at_s c.in_ok-apply_at.ensures.ok
    (ap (λ (w : Worker). slice_set core.workers.items i (record w { applied = w.applied + 1 })) same) refl) in
    record {
      next = moved.next;
      steps = moved.steps;
      shows = c.settle.ensures moved.next (record { shows = moved.shows; invariant = steps_keep_invariant c' (event.Apply c.args.worker) Moved moved.next moved.steps h.invariant });
    }

pub overflow_add-index_mut : goal.overflow_add-index_mut
overflow_add-index_mut c =
    let core = c.args.self.now in
    let i = c.from-index.result in
    let x = c.in-Some.own.now in
    let e = c.in-Some-next_to_apply.entry.now in
    let y = c.index_mut-2.result.now in
    let at : At core.workers.items i x = lent_at c.deref.result.now core.workers.items i x c.deref.ensures.value c.in-Some.ensures.lookup.0 c.in-Some.ensures.lookup.1 in
    let at_y : At core.workers.items i y = slice_get-get_or core.workers.items i y (at_within core.workers.items i x at) ∙ ap Some (sym c.index_mut-2.ensures.value) in
    let next : At x.share x.applied e = search rules in
    let same : x ≡ y = at_same core.workers.items i x y at at_y in
    let few : y.applied + 1 < 2 ^ 64 = subst (λ (w : Worker). w.applied + 1 < 2 ^ 64) same (applied_fits core c.requires.state c.requires.is i x at e next) in
    omega arith
