use Rattle.std.proofs.lemmas.Result.{err_from_is_err_and}
use Rattle.query_text.proofs.Aggregates.{aggregate_refused, behind_refused, more_asked, asked_done}
use Rattle.query_text.proofs.aggregate.aggregates_of.Goals as goal

pub returns-in_err-aggregate : goal.returns-in_err-aggregate
returns-in_err-aggregate c =
    let p = err_from_is_err_and c.from_residual.result c.from_residual.ensures.1 in
    rw (p.1, p.2) (aggregate_refused c.args.bytes.now c.loop-aggregates.aggregates.items c.loop-aggregates.rest.now c.in_err-aggregate.field-0.0 c.loop-aggregates.invariant c.in_err-aggregate.ensures)

pub returns-in_err-behind : goal.returns-in_err-behind
returns-in_err-behind c =
    let p = err_from_is_err_and c.from_residual-in_err-behind.result c.from_residual-in_err-behind.ensures.1 in
    rw (p.1, p.2) (behind_refused c.args.bytes.now c.loop-aggregates.aggregates.items c.loop-aggregates.rest.now c.in_ok-aggregate.behind.now c.in_ok-aggregate.aggregate c.in_err-behind.field-0.0 c.loop-aggregates.invariant c.in_ok-aggregate.ensures c.in_err-behind.ensures)

pub loop-aggregates-preserved : goal.loop-aggregates-preserved
loop-aggregates-preserved c = rw c.in_ok-push.ensures.items (more_asked c.args.bytes.now c.loop-aggregates.aggregates.items c.loop-aggregates.rest.now c.in_ok-aggregate.behind.now c.in_ok-behind.field-0.1.now c.in_ok-aggregate.aggregate c.loop-aggregates.invariant c.in_ok-aggregate.ensures (rw c.in-Aggregate-default.is-0 at c.in_ok-behind.ensures))

pub returns-in-Table-default : goal.returns-in-Table-default
returns-in-Table-default c = rw c.in_ok-push.ensures.items (asked_done c.args.bytes.now c.loop-aggregates.aggregates.items c.loop-aggregates.rest.now c.in_ok-aggregate.behind.now c.in_ok-behind.field-0.1.now c.in_ok-aggregate.aggregate c.loop-aggregates.invariant c.in_ok-aggregate.ensures (rw c.in-Table-default.is-0 at c.in_ok-behind.ensures))
