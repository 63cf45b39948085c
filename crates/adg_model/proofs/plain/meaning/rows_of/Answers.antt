use Rattle.std.proofs.Common.{◌≡◌, ℕ, List, ◌++◌, map, length, sym, ap, ◌∙◌, arith, ap₂, ◌*◌}
use Rattle.std.specs.List.{filter_map, flat_map, range_with_len}
use Rattle.adg_base.specs.declared.value.Value.{Value}
use Rattle.adg_model.specs.Database.{played}
use Rattle.adg_model.specs.Query.{padded}
use Rattle.adg_base.specs.Address.{block_places}
use Rattle.adg_model.specs.Plain.{no_rows}
use Rattle.adg_model.proofs.PlainMeaning.{block_more}
use Rattle.adg_model.proofs.plain.meaning.rows_of.Goals as goal

pub loop-block-preserved : goal.loop-block-preserved
loop-block-preserved c =
    let one = map (padded (length c.kinds-width.result.now)) (filter_map (played c.args.changes.now no_rows) (block_places c.args.obj c.loop-block.block)) in
    c.in_ok-add_rows.ensures
    ∙ ap (λ (rs : List (List Value)). rs ++ one) c.loop-block.invariant
    ∙ sym (block_more (played c.args.changes.now no_rows) (length c.kinds-width.result.now) (block_places c.args.obj) c.loop-block.block)

pub returns : goal.returns
returns c =
    let wide : length c.kinds-width.result.now ≡ length c.args.table.now.kinds = ap length c.kinds-width.ensures in
    let all : c.loop-block.block ≡ 16 * c.args.table.now.extents = omega arith in
    c.loop-block.invariant
    ∙ ap₂ (λ (w n : ℕ). map (padded w) (filter_map (played c.args.changes.now no_rows) (flat_map (block_places c.args.obj) (range_with_len 0 n)))) wide all
