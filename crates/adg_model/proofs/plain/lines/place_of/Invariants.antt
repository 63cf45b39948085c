use Rattle.std.proofs.Common.{◌≡◌, ◌+◌, drop, option_map}
use Rattle.adg_model.specs.Plain.{key_place}
use Rattle.adg_model.proofs.plain.lines.place_of.Given as goal

abbrev pub invariant-loop-place : goal.invariant-loop-place
invariant-loop-place l = option_map (λ n. n + l.place) (key_place l.key (drop l.place l.keys)) ≡ key_place l.key l.keys
