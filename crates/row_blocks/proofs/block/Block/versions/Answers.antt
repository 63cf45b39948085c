use Rattle.std.proofs.Common.{[], Some, None, sym, ap, subst, ◌∙◌, ◌<◌, slice_index_or}
use Rattle.row_blocks.specs.Held.{IsPlaceOf}
use Rattle.row_blocks.proofs.Held.{read_known, seen_none}
use Rattle.row_blocks.proofs.block.Block.versions.Goals as goal

pub returns-in-Some : goal.returns-in-Some
returns-in-Some c =
    c.as_slice.ensures
    ∙ read_known c.args.slot c.in-Some.place c.self.inside.used.items c.self.inside.places c.args.self.now c.index.result.now c.self.invariant.0 c.requires c.self.view_is (subst (λ u. IsPlaceOf c.args.slot c.self.inside.places u (Some c.in-Some.place)) c.deref.ensures.value c.in-Some.ensures) c.index.ensures

pub returns-in-None : goal.returns-in-None
returns-in-None c =
    sym (ap (λ b. slice_index_or b c.args.slot []) (sym c.self.view_is)
    ∙ seen_none c.args.slot c.self.inside.used.items c.self.inside.places (subst (λ k. c.args.slot < k) (sym c.self.invariant.0) c.requires) (subst (λ u. IsPlaceOf c.args.slot c.self.inside.places u None) c.deref.ensures.value c.in-None.ensures))
