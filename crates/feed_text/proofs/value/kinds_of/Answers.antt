use Rattle.std.proofs.Common.{codes}
use Rattle.std.proofs.lemmas.Result.{err_from_is_err_and}
use Rattle.change_vectors.specs.declared.unread.Unread.TheVariants.{Bad}
use Rattle.feed_text.specs.Reading.{kind_at, list_at}
use Rattle.feed_text.proofs.Many.{begins, none_begins, goes_on, ends, stops, is_done}
use Rattle.feed_text.proofs.value.kinds_of.Goals as goal

pub returns-in_err-first : goal.returns-in_err-first
returns-in_err-first c =
    let p = err_from_is_err_and c.from_residual.result c.from_residual.ensures.1 in
    rw (p.1, p.2) (none_begins kind_at (codes ", ") 15 c.args.text.now Bad c.in_err-first.ensures)

pub loop-init : goal.loop-init
loop-init c = rw (c.in_ok-push.ensures.items, c.new-kinds.ensures.items) (begins kind_at (codes ", ") 15 c.args.text.now c.in_ok-first.first c.in_ok-first.after.now c.in_ok-first.ensures)

pub returns-in_default : goal.returns-in_default
returns-in_default c = stops kind_at (codes ", ") c.loop.kinds.items 15 c.loop.counter c.loop.rest.now (list_at kind_at (codes ", ") 15 c.args.text.now) c.loop-test.true c.in_default.ensures c.loop.invariant

pub returns-in_err-kind : goal.returns-in_err-kind
returns-in_err-kind c =
    let p = err_from_is_err_and c.from_residual-in_err-kind.result c.from_residual-in_err-kind.ensures.1 in
    rw (p.1, p.2) (ends kind_at (codes ", ") Bad c.loop.kinds.items 15 c.loop.counter c.loop.rest.now c.in-Ok.inside.now (list_at kind_at (codes ", ") 15 c.args.text.now) c.loop-test.true c.in-Ok.ensures c.in_err-kind.ensures c.loop.invariant)

pub loop-preserved : goal.loop-preserved
loop-preserved c =
    rw c.in_ok-push-2.ensures.items (goes_on kind_at (codes ", ") c.loop.kinds.items 15 c.loop.counter c.loop.rest.now c.in-Ok.inside.now c.in_ok-kind.kind c.in_ok-kind.after.now (list_at kind_at (codes ", ") 15 c.args.text.now) c.loop-test.true c.in-Ok.ensures c.in_ok-kind.ensures c.loop.invariant)

pub returns : goal.returns
returns c = is_done kind_at (codes ", ") c.loop.kinds.items 15 c.loop.counter c.loop.rest.now (list_at kind_at (codes ", ") 15 c.args.text.now) c.loop-test.false c.loop.invariant
