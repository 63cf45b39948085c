use Rattle.std.proofs.Common.{inl, refl}
use Rattle.standby_core.proofs.Claiming.{claim_barred, claim_moves}
use Rattle.std.proofs.lemmas.Option.{slice_get_within}
use Rattle.std.specs.Prelude.{None}
use Rattle.standby_core.proofs.standby.Core.claim.Goals as goal

-- src/claim.rt:23:13
pub returns-in_default : goal.returns-in_default
returns-in_default c = λ c' h. record {
  next = c';
  steps = inl (refl, claim_barred c.args.self.now c' h c.args.actor (c.in_default.ensures.none refl), refl);
  shows = h.shows;
}

-- src/claim.rt:25:9
pub take-requires-clause-known : goal.take-requires-clause-known
take-requires-clause-known c = slice_get_within c.args.self.now.flush.held.items c.args.actor None c.in-Some.ensures.free

-- src/claim.rt:18:5
pub returns : goal.returns
returns c = λ c' h. claim_moves c.args.self.now c' h c.args.actor c.in-Some.number c.in-Some.ensures.first c.in-Some.ensures.within c.in-Some.ensures.free
    c.take.new.self c.take.ensures.held c.take.ensures.links c.take.ensures.claimed c.take.ensures.same c.take.ensures.done
