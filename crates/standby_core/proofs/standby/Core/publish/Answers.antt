use Rattle.std.proofs.Common.{inl, refl}
use Rattle.standby_core.proofs.Claiming.{publish_barred, publish_moves}
use Rattle.standby_core.proofs.standby.Core.publish.Goals as goal

-- src/claim.rt:49:13
pub returns-in_default : goal.returns-in_default
returns-in_default c = λ c' h. record {
  next = c';
  steps = inl (refl, publish_barred c.args.self.now c' h (c.in_default.ensures.none refl), refl);
  shows = h.shows;
}

-- src/claim.rt:45:5
pub returns : goal.returns
returns c = λ c' h. publish_moves c.args.self.now c' h c.close.new.self c.in-Some.through c.in-Some.ensures.some c.in-Some.ensures.done
    c.close.ensures.quiesce c.close.ensures.links c.close.ensures.claimed c.close.ensures.done c.close.ensures.held
