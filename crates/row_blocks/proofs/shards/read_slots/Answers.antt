use Rattle.std.proofs.Common.{option_copied, ap, ◌∙◌, arith}
use Rattle.row_blocks.specs.Pick.{picked_by}
use Rattle.row_blocks.specs.Shards.{shards_in, commits_in}
use Rattle.row_blocks.specs.Lent.{lent}
use Rattle.row_blocks.proofs.Lending.{rows_more}
use Rattle.row_blocks.proofs.shards.read_slots.Goals as goal

pub loop-slot-preserved : goal.loop-slot-preserved
loop-slot-preserved g c =
    let commits = commits_in (shards_in c.args.shards.now) c.args.q in
    record {
      rows = rows_more commits c.args.found.now c.loop-slot.slot (lent c.args.rows.now.items) (lent c.loop-slot.rows.items) (lent c.add_row.new.rows.items) (option_copied c.pick_in.result)
          c.loop-slot.invariant.rows (c.pick_in.ensures.row ∙ ap (picked_by commits) c.versions.ensures) c.in_ok-add_row.ensures.rows;
      cost = omega (arith, c.loop-slot.invariant.cost, c.pick_in.ensures.cost, c.in_ok-add_row.ensures.count);
    }
