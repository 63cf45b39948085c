use Rattle.std.proofs.Common.{◌≡◌, ◌∙◌, ◌-◌, [], ◌∷◌, map, ap, subst, arith}
use Rattle.std.specs.List.{range_with_len}
use Rattle.feed_gen.specs.Tables.{create, creates}
use Rattle.feed_gen.specs.Written.{with_writings}
use Rattle.feed_gen.proofs.Loops.{records_of, created_len, mapped_more}
use Rattle.feed_gen.proofs.opening.write_creates.Goals as goal

pub write-requires : goal.write-requires
write-requires c =
    let before = map create (range_with_len 1 (c.loop-number.number - 1)) in
    omega (arith, records_of c.loop-number.feed c.args.feed.now before c.loop-number.invariant, created_len (c.loop-number.number - 1))

pub loop-number-preserved : goal.loop-number-preserved
loop-number-preserved c =
    mapped_more c.args.feed.now c.loop-number.feed c.write.new.self create c.loop-number.number (omega arith) c.loop-number.invariant
    (c.in_ok-write.ensures ∙ ap (λ r. with_writings c.loop-number.feed (r ∷ [])) (c.in_ok-record.ensures ∙ ap create c.table_of-table.ensures))

pub returns : goal.returns
unfolding creates
returns c =
    let e : c.loop-number.number - 1 ≡ 20 = omega arith in
    subst (λ n. c.loop-number.feed ≡ with_writings c.args.feed.now (map create (range_with_len 1 n))) e c.loop-number.invariant
