use Rattle.std.proofs.Common.{◌≡◌, ◌++◌, map, take, drop}
use Rattle.standby_core.specs.declared.session.Session.TheVariants as seat
use Rattle.standby_core.proofs.restart.free_all.Given as goal

abbrev pub invariant-loop-session : goal.invariant-loop-session
invariant-loop-session l = l.sessions ≡ map (λ s. seat.Free) (take l.session-index l.initial.sessions) ++ drop l.session-index l.initial.sessions
