use Rattle.std.proofs.Common.{◌≡◌, ◌++◌, map}
use Rattle.std.specs.List.{filter_map, range_with_len}
use Rattle.adg_model.specs.Database.{played}
use Rattle.adg_base.specs.Address.{place}
use Rattle.adg_model.specs.Query.{padded}
use Rattle.adg_model.specs.Plain.{no_rows}
use Rattle.adg_model.proofs.plain.meaning.add_rows.Given as goal

abbrev pub invariant-loop-slot : goal.invariant-loop-slot
invariant-loop-slot l = l.rows ≡ l.initial.rows ++ map (padded l.width) (filter_map (played l.changes no_rows) (map (place l.obj l.block) (range_with_len 0 l.slot)))
