use Rattle.std.proofs.Common.{◌≡◌, ◌-◌, subst, arith}
use Rattle.std.specs.List.{flat_map, range_with_len}
use Rattle.feed_gen.specs.Commands.{transfer_asked}
use Rattle.feed_gen.specs.Written.{with_asked}
use Rattle.feed_gen.proofs.Loops.{asked_more}
use Rattle.feed_gen.proofs.command.ask_transfers.Goals as goal

pub loop-session-preserved : goal.loop-session-preserved
loop-session-preserved c = asked_more c.args.feed.now c.loop-session.feed c.ask_transfers_of.new.feed (transfer_asked c.args.delivery) c.loop-session.session (omega arith) c.loop-session.invariant c.in_ok-ask_transfers_of.ensures

pub returns : goal.returns
returns c =
    let e : c.loop-session.session - 1 ≡ 4 = omega arith in
    subst (λ n. c.loop-session.feed ≡ with_asked c.args.feed.now (flat_map (transfer_asked c.args.delivery) (range_with_len 1 n))) e c.loop-session.invariant
