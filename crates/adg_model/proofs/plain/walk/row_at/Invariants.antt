use Rattle.std.proofs.Common.{◌≡◌, drop}
use Rattle.adg_model.specs.Database.{played}
use Rattle.adg_base.specs.Address.{place}
use Rattle.adg_model.specs.Plain.{no_rows}
use Rattle.adg_model.proofs.plain.walk.row_at.Given as goal

abbrev pub invariant-loop-change : goal.invariant-loop-change
invariant-loop-change l = played (drop l.change-index l.changes) no_rows (place l.obj l.block l.slot) ≡ played l.changes no_rows (place l.obj l.block l.slot)
