use Rattle.feed_gen.specs.declared.question.Question.TheVariants.{Sums}
use Rattle.std.proofs.Common.{◌++◌}
use Rattle.feed_gen.specs.Commands.{asks_own, all_tables, again_asked, abort_asked, transfer_asked}
use Rattle.feed_gen.proofs.Loops.{asked_then}
use Rattle.feed_gen.proofs.command.ask_transfers_of.Goals as goal

pub returns : goal.returns
unfolding transfer_asked
returns c =
    let again = again_asked c.args.delivery c.args.session in
    let own = asks_own Sums c.args.session all_tables in
    asked_then c.args.feed.now c.ask_own.new.feed c.ask_abort.new.feed (again ++ own) (abort_asked c.args.delivery c.args.session)
    (asked_then c.args.feed.now c.ask_again.new.feed c.ask_own.new.feed again own c.in_ok-ask_again.ensures c.in_ok-ask_own.ensures) c.in_ok-ask_abort.ensures
