use Rattle.std.proofs.Common.{arith}
use Rattle.std.proofs.lemmas.Result.{err_from_is_err_and}
use Rattle.feed_frames.proofs.Stages.{before_tag, at_tag, in_length, at_length}
use Rattle.feed_frames.proofs.head.read_head.Goals as goal

pub returns-in_err-take_byte-clause-head : goal.returns-in_err-take_byte-clause-head
returns-in_err-take_byte-clause-head g c = λ before counts.
    let p = err_from_is_err_and c.from_residual.result c.from_residual.ensures.1 in
    rw (p.1, p.2) (before_tag _ before c.in_err-take_byte.ensures.took)

pub returns-in_err-tag-clause-head : goal.returns-in_err-tag-clause-head
returns-in_err-tag-clause-head g c = λ before counts.
    let p = err_from_is_err_and c.from_residual-in_err-tag.result c.from_residual-in_err-tag.ensures.1 in
    rw (p.1, p.2) (at_tag _ before c.in_ok-take_byte.ensures.took (c.in_err-tag.ensures.fault before counts) c.in_err-tag.ensures.shown)

pub returns-in_err-len-clause-head : goal.returns-in_err-len-clause-head
returns-in_err-len-clause-head g c = λ before counts.
    let p = err_from_is_err_and c.from_residual-in_err-len.result c.from_residual-in_err-len.ensures.1 in
    rw (p.1, p.2) (in_length _ before c.in_ok-take_byte.ensures.took (c.in_ok-tag.ensures.fault before counts) c.in_err-len.ensures.took)

pub returns-in_err-check_length-clause-head : goal.returns-in_err-check_length-clause-head
returns-in_err-check_length-clause-head g c = λ before counts.
    let p = err_from_is_err_and c.from_residual-in_err-check_length.result c.from_residual-in_err-check_length.ensures.1 in
    let same = c.in_ok-tag.ensures.tag in
    let fault = rw same at c.in_err-check_length.ensures.fault before counts in
    rw (p.1, p.2) (at_length _ before c.in_ok-take_byte.ensures.took (c.in_ok-tag.ensures.fault before counts) c.in_ok-len.ensures.took (omega arith) fault c.in_err-check_length.ensures.shown)
