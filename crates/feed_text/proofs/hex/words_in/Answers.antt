use Rattle.std.proofs.Common.{sym}
use Rattle.std.proofs.lemmas.Result.{err_from_is_err_and}
use Rattle.feed_text.specs.LineReading.{runs_of, split}
use Rattle.feed_text.proofs.HexReading.{words_on, words_end, words_fail}
use Rattle.feed_text.proofs.hex.words_in.Goals as goal

pub returns-in_err-byte : goal.returns-in_err-byte
returns-in_err-byte c =
    let p = err_from_is_err_and c.from_residual.result c.from_residual.ensures.1 in
    rw (p.1, p.2) (words_fail c.loop-bytes.bytes.items c.loop-bytes.rest.now c.cut.result.0.now _ (runs_of (split 32 c.args.text.now)) (sym c.cut.ensures.parts) c.in_err-byte.ensures c.loop-bytes.invariant)

pub loop-bytes-preserved : goal.loop-bytes-preserved
loop-bytes-preserved c = words_on c.loop-bytes.bytes.items c.put_times.new.bytes.items c.loop-bytes.rest.now c.cut.result.0.now c.in-Some.more.now c.in_ok-byte.byte c.in_ok-byte.times (runs_of (split 32 c.args.text.now)) (sym (rw c.in-Some.is at c.cut.ensures.parts)) c.in_ok-byte.ensures c.in_ok-put_times.ensures c.loop-bytes.invariant

pub returns-in-None : goal.returns-in-None
returns-in-None c = words_end c.loop-bytes.bytes.items c.put_times.new.bytes.items c.loop-bytes.rest.now c.cut.result.0.now c.in_ok-byte.byte c.in_ok-byte.times (runs_of (split 32 c.args.text.now)) (sym (rw c.in-None.is at c.cut.ensures.parts)) c.in_ok-byte.ensures c.in_ok-put_times.ensures c.loop-bytes.invariant
