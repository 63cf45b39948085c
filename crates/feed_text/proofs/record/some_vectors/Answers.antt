use Rattle.std.proofs.Common.{codes}
use Rattle.std.proofs.lemmas.Result.{err_from_is_err_and}
use Rattle.feed_text.specs.Reading.{vector_at, list_at}
use Rattle.feed_text.proofs.Many.{begins, none_begins, goes_on, ends, stops, is_done}
use Rattle.feed_text.proofs.record.some_vectors.Goals as goal

pub returns-in_err-first : goal.returns-in_err-first
returns-in_err-first c =
    let p = err_from_is_err_and c.from_residual.result c.from_residual.ensures.1 in
    rw (p.1, p.2) (none_begins vector_at (codes "; ") 254 c.args.text.now c.in_err-first.field-0.0 c.in_err-first.ensures)

pub loop-init : goal.loop-init
loop-init c = rw (c.in_ok-push.ensures.items, c.new-vectors.ensures.items) (begins vector_at (codes "; ") 254 c.args.text.now c.in_ok-first.first c.in_ok-first.after.now c.in_ok-first.ensures)

pub returns-in_default : goal.returns-in_default
returns-in_default c = stops vector_at (codes "; ") c.loop.vectors.items 254 c.loop.counter c.loop.rest.now (list_at vector_at (codes "; ") 254 c.args.text.now) c.loop-test.true c.in_default.ensures c.loop.invariant

pub returns-in_err-vector : goal.returns-in_err-vector
returns-in_err-vector c =
    let p = err_from_is_err_and c.from_residual-in_err-vector.result c.from_residual-in_err-vector.ensures.1 in
    rw (p.1, p.2) (ends vector_at (codes "; ") c.in_err-vector.field-0.0 c.loop.vectors.items 254 c.loop.counter c.loop.rest.now c.in-Ok.inside.now (list_at vector_at (codes "; ") 254 c.args.text.now) c.loop-test.true c.in-Ok.ensures c.in_err-vector.ensures c.loop.invariant)

pub loop-preserved : goal.loop-preserved
loop-preserved c =
    rw c.in_ok-push-2.ensures.items (goes_on vector_at (codes "; ") c.loop.vectors.items 254 c.loop.counter c.loop.rest.now c.in-Ok.inside.now c.in_ok-vector.vector c.in_ok-vector.after.now (list_at vector_at (codes "; ") 254 c.args.text.now) c.loop-test.true c.in-Ok.ensures c.in_ok-vector.ensures c.loop.invariant)

pub returns : goal.returns
returns c = is_done vector_at (codes "; ") c.loop.vectors.items 254 c.loop.counter c.loop.rest.now (list_at vector_at (codes "; ") 254 c.args.text.now) c.loop-test.false c.loop.invariant
