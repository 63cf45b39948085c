use Rattle.std.proofs.Common.{map, string_bytes, length}
use Rattle.soak_run.specs.Words.{AreRead}
use Rattle.soak_run.proofs.words.settings_of.Given as goal

abbrev pub invariant-loop-rest : goal.invariant-loop-rest
invariant-loop-rest l = AreRead (map (λ w. string_bytes w) l.words) (map (λ w. string_bytes w) l.rest) l.settings

abbrev pub decreases-loop-rest : goal.decreases-loop-rest
decreases-loop-rest l = length l.rest
