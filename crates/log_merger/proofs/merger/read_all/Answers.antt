use Rattle.std.proofs.Common.{◌<◌, length, arith}
use Rattle.std.proofs.lemmas.Result.{err_from_is_err_and}
use Rattle.log_merger.proofs.Readings.{reading_start, reading_next, reading_stops, reading_refuses}
use Rattle.log_merger.proofs.merger.read_all.Goals as goal

pub loop-index-init : goal.loop-index-init
loop-index-init c = reading_start c.args.threads.now

pub loop-index-preserved : goal.loop-index-preserved
loop-index-preserved c =
    let within : c.loop-index.index < length c.args.threads.now = omega (arith, c.loop-index-test.true, c.loop-index.auto.threads) in
    reading_next c.args.threads.now c.loop-index.threads c.loop-index.index c.index-threads-index.result c.read.new.self c.loop-index.invariant (omega (arith, within, c.loop-index.auto.threads)) within c.read.ensures.reads c.in_ok-read.ensures.all

pub returns-in_err-read-clause-each : goal.returns-in_err-read-clause-each
returns-in_err-read-clause-each c =
    let within : c.loop-index.index < length c.args.threads.now = omega (arith, c.loop-index-test.true, c.loop-index.auto.threads) in
    reading_stops c.args.threads.now c.loop-index.threads c.loop-index.index c.index-threads-index.result c.read.new.self c.loop-index.invariant (omega (arith, within, c.loop-index.auto.threads)) within c.read.ensures.reads

pub returns-in_err-read-clause-refused : goal.returns-in_err-read-clause-refused
returns-in_err-read-clause-refused c fault e =
    let p = err_from_is_err_and c.from_residual.result c.from_residual.ensures.1 in
    let q = p.2 in
    let within : c.loop-index.index < length c.args.threads.now = omega (arith, c.loop-index-test.true, c.loop-index.auto.threads) in
    reading_refuses c.args.threads.now c.loop-index.threads c.loop-index.index c.index-threads-index.result c.read.new.self fault c.loop-index.invariant (omega (arith, within, c.loop-index.auto.threads)) within
    (c.in_err-read.ensures.bad fault (cc (p.1, q, e)))
