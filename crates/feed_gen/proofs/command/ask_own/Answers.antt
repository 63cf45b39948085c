use Rattle.std.proofs.Common.{◌≡◌, ◌-◌, subst, arith}
use Rattle.std.specs.List.{range_with_len}
use Rattle.feed_gen.specs.Commands.{asks_own, all_tables}
use Rattle.feed_gen.specs.Written.{with_asked}
use Rattle.feed_gen.proofs.Loops.{own_more}
use Rattle.feed_gen.proofs.command.ask_own.Goals as goal

pub loop-table-preserved : goal.loop-table-preserved
loop-table-preserved c =
    own_more c.args.feed.now c.loop-table.feed c.ask_if_own.new.feed c.args.question c.args.session c.loop-table.table (omega arith) c.loop-table.invariant c.in_ok-ask_if_own.ensures

pub returns : goal.returns
unfolding all_tables
returns c =
    let e : c.loop-table.table - 1 ≡ 20 = omega arith in
    subst (λ n. c.loop-table.feed ≡ with_asked c.args.feed.now (asks_own c.args.question c.args.session (range_with_len 1 n))) e c.loop-table.invariant
