use Rattle.feed_text.specs.declared.top.Turn.TheVariants.{Show}
use Rattle.feed_text.proofs.RunLaws.{wrote_ends}
use Rattle.feed_text.proofs.top.show_to.Goals as goal

pub returns-in-Ok : goal.returns-in-Ok
returns-in-Ok g c errors = wrote_ends Show c.args.feed.now c.in-Ok.text.items _ _ errors c.write_and_end.result c.in-Ok.ensures (rw c.as_slice.ensures.value at c.write_and_end.ensures)
