use Rattle.std.proofs.Common.{◌≡◌, ◌∙◌, ◌-◌, ap, subst, arith}
use Rattle.std.specs.List.{flat_map, range_with_len}
use Rattle.feed_gen.specs.Tables.{load, loads}
use Rattle.feed_gen.specs.Written.{with_writings}
use Rattle.feed_gen.proofs.Loops.{records_of, loaded_len, flattened_more}
use Rattle.feed_gen.proofs.opening.write_loads.Goals as goal

pub write_load-requires-clause-room : goal.write_load-requires-clause-room
write_load-requires-clause-room c =
    let before = flat_map load (range_with_len 1 (c.loop-number.number - 1)) in
    omega (arith, records_of c.loop-number.feed c.args.feed.now before c.loop-number.invariant, loaded_len 1 (c.loop-number.number - 1))

pub loop-number-preserved : goal.loop-number-preserved
loop-number-preserved c =
    flattened_more c.args.feed.now c.loop-number.feed c.write_load.new.feed load c.loop-number.number (omega arith) c.loop-number.invariant
    (c.in_ok-write_load.ensures ∙ ap (λ k. with_writings c.loop-number.feed (load k)) c.table_of-table.ensures)

pub returns : goal.returns
unfolding loads
returns c =
    let e : c.loop-number.number - 1 ≡ 20 = omega arith in
    subst (λ n. c.loop-number.feed ≡ with_writings c.args.feed.now (flat_map load (range_with_len 1 n))) e c.loop-number.invariant
