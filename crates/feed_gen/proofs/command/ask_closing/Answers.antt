use Rattle.std.proofs.Common.{◌≡◌, ℕ, ◌∙◌, ◌-◌, [], ◌∷◌, map, ap, refl, subst, arith}
use Rattle.std.specs.List.{flat_map, range_with_len}
use Rattle.std.proofs.lemmas.List.Concat.{flat_map_single}
use Rattle.adg_base.specs.declared.command.Command.TheVariants as command
use Rattle.feed_gen.specs.declared.question.Question.TheVariants.{CountsAndSums}
use Rattle.feed_gen.specs.Commands.{ask, command_of, all_tables, closing_asked}
use Rattle.feed_gen.specs.Written.{with_asked}
use Rattle.feed_gen.proofs.Loops.{asked_more, asked_then, text_asked}
use Rattle.feed_gen.proofs.command.ask_closing.Goals as goal

pub loop-table-preserved : goal.loop-table-preserved
loop-table-preserved c =
    asked_more c.ask.new.self c.loop-table.feed c.ask_of.new.feed (λ k. ask 1 (command_of CountsAndSums k) ∷ []) c.loop-table.table (omega arith) c.loop-table.invariant c.in_ok-ask_of.ensures

pub returns : goal.returns
unfolding closing_asked all_tables
returns c =
    let one = λ (k : ℕ). ask 1 (command_of CountsAndSums k) in
    let e : c.loop-table.table - 1 ≡ 20 = omega arith in
    let all = subst (λ n. c.loop-table.feed ≡ with_asked c.ask.new.self (flat_map (λ k. one k ∷ []) (range_with_len 1 n))) e c.loop-table.invariant in
    asked_then c.args.feed.now c.ask.new.self c.loop-table.feed (ask 1 command.Sync ∷ []) (map one (range_with_len 1 20))
    (text_asked c.args.feed.now c.ask.new.self 1 command.Sync _ refl c.in_ok-ask.ensures)
    (all ∙ ap (with_asked c.ask.new.self) (flat_map_single one (range_with_len 1 20)))
