use Rattle.std.proofs.Common.{◌≡◌, drop}
use Rattle.adg_model.specs.Query.{chosen}
use Rattle.adg_model.specs.Plain.{prefers}
use Rattle.adg_model.proofs.plain.lines.chosen.Given as goal

abbrev pub invariant-loop-value : goal.invariant-loop-value
invariant-loop-value l = chosen (prefers l.extreme) l.best (drop l.value-index l.others) ≡ chosen (prefers l.extreme) l.first l.others
