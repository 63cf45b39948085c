use Rattle.std.proofs.Common.{cond, Ok, sym, ap, ◌∙◌, arith, get_or}
use Rattle.std.proofs.lemmas.Bool.{le-ltb}
use Rattle.row_blocks.specs.declared.shard.Applied.TheVariants.{Done, Already}
use Rattle.row_blocks.proofs.ShardLists.{set_same, set_numbers, set_passes, on_err}
use Rattle.row_blocks.proofs.shards.apply_in.Goals as goal

pub returns-in_err-apply-clause-err : goal.returns-in_err-apply-clause-err
returns-in_err-apply-clause-err c =
    on_err c.from_residual.result
    (set_same c.args.shards.now c.in-Some.number c.index-shards-number.result c.apply.new.self (omega (arith, c.in-Some.ensures.range, c.requires.count)) c.in_err-apply.ensures.err)

pub returns-in_ok-apply-clause-numbers : goal.returns-in_ok-apply-clause-numbers
returns-in_ok-apply-clause-numbers c =
    set_numbers c.args.shards.now c.in-Some.number c.index-shards-number.result c.apply.new.self (omega (arith, c.in-Some.ensures.range, c.requires.count))
    c.apply.ensures.number c.requires.numbers

pub returns-in_ok-apply-clause-passes : goal.returns-in_ok-apply-clause-passes
returns-in_ok-apply-clause-passes c below =
    let e = c.args.entry.now in
    let was = get_or c.args.shards.now c.in-Some.number c.index-shards-number.result in
    set_passes c.args.shards.now c.in-Some.number c.index-shards-number.result c.apply.new.self (omega (arith, c.in-Some.ensures.range, c.requires.count))
    e (sym c.in-Some.ensures.value)
    (λ past. c.in_ok-apply.ensures.done (ap Ok (c.in_ok-apply.ensures.answer ∙ ap (λ t. cond t Already Done) (le-ltb e.pos was.applied past))) below)
