use Rattle.std.proofs.Common.{[], ◌∷◌, ◌++◌, Some, None, ap, subst, ◌∙◌}
use Rattle.std.proofs.lemmas.Result.{on_ok_weaker, on_err_weaker}
use Rattle.row_blocks.specs.Held.{slots_from, IsPlaceOf}
use Rattle.row_blocks.proofs.Held.{few, sets_read, sets_first, kept_after, set_same, on_both}
use Rattle.row_blocks.proofs.block.Block.push.Goals as goal

pub open-requires-clause-few : goal.open-requires-clause-few
open-requires-clause-few c = few c.self.inside.places c.self.inside.used.items c.self.invariant.1

pub returns-in-Some-clause-ok : goal.returns-in-Some-clause-ok
returns-in-Some-clause-ok c =
    on_ok_weaker c.push.result (λ pushed.
    sets_read (λ vs. vs ++ c.args.version ∷ []) c.args.slot c.in-Some.place c.self.inside.used.items c.self.inside.places c.args.self.now c.index_mut.result.now c.push.new.self
    c.self.invariant.0 c.requires c.self.view_is (subst (λ u. IsPlaceOf c.args.slot c.self.inside.places u (Some c.in-Some.place)) c.deref.ensures.value c.in-Some.ensures) c.index_mut.ensures.value c.push.ensures.number pushed) c.push.ensures.ok

pub returns-in-Some-clause-err : goal.returns-in-Some-clause-err
returns-in-Some-clause-err c =
    on_err_weaker c.push.result (λ same.
    ap (λ used. slots_from 0 used c.self.inside.places) (set_same c.in-Some.place c.self.inside.used.items c.index_mut.result.now c.push.new.self c.index_mut.ensures.value same)
    ∙ c.self.view_is) c.push.ensures.err

pub returns-in-None-clause-ok : goal.returns-in-None-clause-ok
returns-in-None-clause-ok c =
    on_both c.open.result (λ placed opened.
    sets_first c.args.slot c.self.inside.used.items c.open.new.used.items c.self.inside.places c.open.new.places c.args.self.now c.args.version
    c.self.invariant.0 c.requires c.self.view_is (subst (λ u. IsPlaceOf c.args.slot c.self.inside.places u None) c.deref.ensures.value c.in-None.ensures) placed opened) c.open.ensures.places c.open.ensures.used

pub invariant_of-self-in-None : goal.invariant_of-self-in-None
invariant_of-self-in-None c =
    kept_after c.args.slot c.self.inside.used.items c.open.new.used.items c.self.inside.places c.open.new.places c.args.version c.open.result
    c.self.invariant.0 c.requires c.self.invariant.1 (subst (λ u. IsPlaceOf c.args.slot c.self.inside.places u None) c.deref.ensures.value c.in-None.ensures) c.open.ensures.places c.open.ensures.used c.open.ensures.err
