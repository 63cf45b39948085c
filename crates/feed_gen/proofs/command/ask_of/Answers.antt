use Rattle.std.proofs.Common.{◌∙◌, length, ap, arith}
use Rattle.feed_gen.proofs.Texts.{text_few}
use Rattle.feed_gen.proofs.Loops.{text_asked}
use Rattle.feed_gen.specs.Commands.{command_of}
use Rattle.feed_gen.proofs.command.ask_of.Goals as goal

pub ask-requires : goal.ask-requires
ask-requires c = omega (arith, ap length (c.as_str.ensures.value ∙ c.in_ok-text.ensures), text_few c.args.question c.args.table (omega (arith, c.ranges.table)))

pub returns : goal.returns
returns c = text_asked c.args.feed.now c.ask.new.self c.args.session (command_of c.args.question c.args.table) c.as_str.result.now (c.as_str.ensures.value ∙ c.in_ok-text.ensures) c.in_ok-ask.ensures
