use Rattle.std.proofs.Common.{◌≡◌, ◌-◌, subst, arith}
use Rattle.std.specs.List.{flat_map, range_with_len}
use Rattle.feed_gen.specs.Commands.{opening_asked}
use Rattle.feed_gen.specs.Written.{with_asked}
use Rattle.feed_gen.proofs.Loops.{asked_more}
use Rattle.feed_gen.proofs.command.ask_opening.Goals as goal

pub loop-session-preserved : goal.loop-session-preserved
loop-session-preserved c = asked_more c.args.feed.now c.loop-session.feed c.ask_opening_of.new.feed opening_asked c.loop-session.session (omega arith) c.loop-session.invariant c.in_ok-ask_opening_of.ensures

pub returns : goal.returns
returns c =
    let e : c.loop-session.session - 1 ≡ 4 = omega arith in
    subst (λ n. c.loop-session.feed ≡ with_asked c.args.feed.now (flat_map opening_asked (range_with_len 1 n))) e c.loop-session.invariant
