use Rattle.std.proofs.Common.{◌≡◌, replicate}
use Rattle.standby_core.specs.declared.session.Session.TheVariants.{Free}
use Rattle.standby_core.proofs.start.free_sessions.Given as goal

abbrev pub invariant-loop : goal.invariant-loop
invariant-loop l = l.sessions.items ≡ replicate l.counter Free
