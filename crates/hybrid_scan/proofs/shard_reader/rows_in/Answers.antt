use Rattle.std.proofs.Common.{◌++◌, sym, ap, ap₂, ◌∙◌, arith}
use Rattle.std.specs.Prelude.{option_to_list, option_map}
use Rattle.adg_base.specs.Address.{place}
use Rattle.row_blocks.specs.Pick.{picked_by}
use Rattle.row_blocks.specs.Shards.{shards_in, commits_in}
use Rattle.hybrid_scan.specs.Reader.{placed_at, picked_in}
use Rattle.hybrid_scan.proofs.Blocks.{placed_more}
use Rattle.column_units.proofs.Rows.{found_is}
use Rattle.hybrid_scan.proofs.shard_reader.rows_in.Goals as goal

pub loop-slot-preserved : goal.loop-slot-preserved
loop-slot-preserved g c =
    let commits = commits_in (shards_in c.args.shards.now) c.args.q in
    let n = c.loop-slot.slot in
    let at = found_is c.new.result c.unwrap-addr.result (place c.args.obj c.args.block n) c.new.ensures.value c.unwrap-addr.ensures in
    let row = c.pick_with-row.ensures.row ∙ ap (picked_by commits) c.versions.ensures in
    record {
      rows = c.in_ok-push_row.ensures.rows ∙ ap₂ (λ l x. l ++ option_to_list x) c.loop-slot.invariant.rows (ap₂ (λ a r. option_map (placed_at a) r) at row)
          ∙ sym (placed_more (picked_in commits c.args.found.now) c.args.obj c.args.block n);
      cost = omega (arith, c.loop-slot.invariant.cost, c.pick_with-row.ensures.cost, c.in_ok-push_row.ensures.count);
    }
