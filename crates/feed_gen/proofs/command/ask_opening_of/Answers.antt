use Rattle.std.proofs.Common.{[], ◌∷◌, refl}
use Rattle.adg_base.specs.declared.command.Command.TheVariants as command
use Rattle.feed_gen.specs.declared.question.Question.TheVariants.{Populate}
use Rattle.feed_gen.specs.Commands.{ask, asks_own, all_tables, opening_asked}
use Rattle.feed_gen.proofs.Loops.{asked_then, text_asked}
use Rattle.feed_gen.proofs.command.ask_opening_of.Goals as goal

pub returns : goal.returns
unfolding opening_asked
returns c =
    asked_then c.args.feed.now c.ask.new.self c.ask_own.new.feed (ask c.args.session command.Sync ∷ []) (asks_own Populate c.args.session all_tables)
    (text_asked c.args.feed.now c.ask.new.self c.args.session command.Sync _ refl c.in_ok-ask.ensures) c.in_ok-ask_own.ensures
