use Rattle.std.proofs.Common.{◌≡◌, map}
use Rattle.std.specs.List.{filter_map, flat_map, range_with_len}
use Rattle.adg_model.specs.Database.{played}
use Rattle.adg_model.specs.Query.{padded}
use Rattle.adg_base.specs.Address.{block_places}
use Rattle.adg_model.specs.Plain.{no_rows}
use Rattle.adg_model.proofs.plain.meaning.rows_of.Given as goal

abbrev pub invariant-loop-block : goal.invariant-loop-block
invariant-loop-block l = l.rows ≡ map (padded l.width) (filter_map (played l.changes no_rows) (flat_map (block_places l.obj) (range_with_len 0 l.block)))
