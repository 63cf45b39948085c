use Rattle.std.proofs.Common.{Some, None, refl, subst}
use Rattle.row_blocks.specs.Versions.{strike}
use Rattle.row_blocks.specs.Held.{IsPlaceOf}
use Rattle.row_blocks.proofs.Held.{sets_read, sets_nothing}
use Rattle.row_blocks.proofs.block.Block.strike.Goals as goal

pub returns-in-Some : goal.returns-in-Some
returns-in-Some c =
    sets_read (strike c.args.txn) c.args.slot c.in-Some.place c.self.inside.used.items c.self.inside.places c.args.self.now c.index_mut.result.now c.strike.new.self
    c.self.invariant.0 c.requires c.self.view_is (subst (λ u. IsPlaceOf c.args.slot c.self.inside.places u (Some c.in-Some.place)) c.deref.ensures.value c.in-Some.ensures)
    c.index_mut.ensures.value c.strike.ensures.number c.strike.ensures.versions

pub returns-in_default : goal.returns-in_default
returns-in_default c =
    sets_nothing (strike c.args.txn) c.args.slot c.self.inside.used.items c.self.inside.places c.args.self.now
    c.self.invariant.0 c.requires c.self.view_is (subst (λ u. IsPlaceOf c.args.slot c.self.inside.places u None) c.deref.ensures.value c.in_default.ensures) refl
