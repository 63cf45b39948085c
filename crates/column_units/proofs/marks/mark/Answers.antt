use Rattle.std.proofs.Common.{◌∙◌}
use Rattle.column_units.proofs.Map.{marked_at}
use Rattle.column_units.proofs.marks.mark.Goals as goal

pub returns : goal.returns
returns c b here = marked_at c.args.map.now c.args.addr b c.from-block.result c.slot.result (c.from-block.ensures ∙ c.block.ensures) c.slot.ensures.value c.told-map c.slot.ensures.range here
