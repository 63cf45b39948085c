use Rattle.std.proofs.Common.{codes, length}
use Rattle.feed_text.specs.Reading.{record_at, list_at}
use Rattle.feed_text.proofs.Many.{begins, none_begins, goes_on, ends, stops, is_done}
use Rattle.feed_text.proofs.record.some_records.Goals as goal

pub returns-in-Err : goal.returns-in-Err
returns-in-Err c = none_begins record_at (codes " | @") (length c.args.text.now) c.args.text.now c.in-Err.unread c.in-Err.ensures

pub loop-init : goal.loop-init
loop-init c = rw (c.in_ok-push.ensures.items, c.new-records.ensures.items) (begins record_at (codes " | @") (length c.args.text.now) c.args.text.now c.in-Ok.found.0 c.in-Ok.found.1.now c.in-Ok.ensures)

pub returns-in_default : goal.returns-in_default
returns-in_default c = stops record_at (codes " | @") c.loop.records.items (length c.args.text.now) c.loop.counter c.loop.rest.now (list_at record_at (codes " | @") (length c.args.text.now) c.args.text.now) c.loop-test.true c.in_default.ensures c.loop.invariant

pub returns-in-Err-record_of : goal.returns-in-Err-record_of
returns-in-Err-record_of c = ends record_at (codes " | @") c.in-Err-record_of.unread c.loop.records.items (length c.args.text.now) c.loop.counter c.loop.rest.now c.in-Ok-behind.inside.now (list_at record_at (codes " | @") (length c.args.text.now) c.args.text.now) c.loop-test.true c.in-Ok-behind.ensures c.in-Err-record_of.ensures c.loop.invariant

pub loop-preserved : goal.loop-preserved
loop-preserved c =
    rw c.in_ok-push-in-Ok-record_of.ensures.items (goes_on record_at (codes " | @") c.loop.records.items (length c.args.text.now) c.loop.counter c.loop.rest.now c.in-Ok-behind.inside.now c.in-Ok-record_of.redo c.in-Ok-record_of.after.now (list_at record_at (codes " | @") (length c.args.text.now) c.args.text.now) c.loop-test.true c.in-Ok-behind.ensures c.in-Ok-record_of.ensures c.loop.invariant)

pub returns : goal.returns
returns c = is_done record_at (codes " | @") c.loop.records.items (length c.args.text.now) c.loop.counter c.loop.rest.now (list_at record_at (codes " | @") (length c.args.text.now) c.args.text.now) c.loop-test.false c.loop.invariant
