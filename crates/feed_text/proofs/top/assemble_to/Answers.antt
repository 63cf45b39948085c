use Rattle.feed_text.specs.declared.top.Turn.TheVariants.{Assemble}
use Rattle.feed_text.proofs.RunLaws.{wrote_ends, told_ends}
use Rattle.feed_text.proofs.top.assemble_to.Goals as goal

pub returns-in-Ok : goal.returns-in-Ok
returns-in-Ok g c = wrote_ends Assemble c.args.text.now c.in-Ok.feed.items _ _ _ c.write_and_end.result c.in-Ok.ensures.assembled (rw c.as_slice.ensures.value at c.write_and_end.ensures)
