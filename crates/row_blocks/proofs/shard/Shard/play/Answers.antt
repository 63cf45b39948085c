use Rattle.row_blocks.specs.Shard.{shown}
use Rattle.row_blocks.proofs.Slots.{strikes_entry}
use Rattle.row_blocks.proofs.shard.Shard.play.Goals as goal

pub returns-in-Undo-clause-ok : goal.returns-in-Undo-clause-ok
returns-in-Undo-clause-ok c =
    let u = c.in-Undo in
    strikes_entry (shown c.args.self.now) (shown c.strike.new.self) c.args.entry.now u.txn u.obj u.block u.slot u.is (c.strike.ensures.strikes c.args.entry.now.pos)
