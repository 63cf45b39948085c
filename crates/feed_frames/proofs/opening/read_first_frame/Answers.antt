use Rattle.std.proofs.Common.{arith, sym, ◌∙◌, refl}
use Rattle.std.proofs.lemmas.Result.{err_from_is_err_and}
use Rattle.feed_frames.proofs.OpeningLaws.{before_tag, at_tag, in_length, at_length, headed, no_threads, at_threads, no_sessions, at_sessions, header, in_range}
use Rattle.feed_frames.proofs.opening.read_first_frame.Goals as goal

pub returns-in_err-take_byte-clause-header : goal.returns-in_err-take_byte-clause-header
returns-in_err-take_byte-clause-header g c =
    let p = err_from_is_err_and c.from_residual.result c.from_residual.ensures.1 in
    rw (p.1, p.2) (before_tag c.in_err-take_byte.ensures.took)

pub returns-in_err-check_first_tag-clause-header : goal.returns-in_err-check_first_tag-clause-header
returns-in_err-check_first_tag-clause-header g c =
    let p = err_from_is_err_and c.from_residual-in_err-check_first_tag.result c.from_residual-in_err-check_first_tag.ensures.1 in
    rw (p.1, p.2) (at_tag c.in_ok-take_byte.ensures.took c.in_err-check_first_tag.ensures.fault c.in_err-check_first_tag.ensures.shown)

pub returns-in_err-len-clause-header : goal.returns-in_err-len-clause-header
returns-in_err-len-clause-header g c =
    let p = err_from_is_err_and c.from_residual-in_err-len.result c.from_residual-in_err-len.ensures.1 in
    rw (p.1, p.2) (in_length c.in_ok-take_byte.ensures.took c.in_ok-check_first_tag.ensures.fault c.in_err-len.ensures.took)

pub returns-then-len-ne2-clause-header : goal.returns-then-len-ne2-clause-header
returns-then-len-ne2-clause-header g c =
    at_length c.in_ok-take_byte.ensures.took c.in_ok-check_first_tag.ensures.tag c.in_ok-len.ensures.took (omega arith) c.if-len-ne2.true

pub returns-in_err-threads-clause-header : goal.returns-in_err-threads-clause-header
returns-in_err-threads-clause-header g c =
    let p = err_from_is_err_and c.from_residual-in_err-threads.result c.from_residual-in_err-threads.ensures.1 in
    let head = headed c.in_ok-take_byte.ensures.took c.in_ok-check_first_tag.ensures.tag c.in_ok-len.ensures.took c.if-len-ne2.false in
    rw (p.1, p.2) (no_threads head c.in_err-threads.ensures.took)

pub returns-then-not-is_in-clause-header : goal.returns-then-not-is_in-clause-header
returns-then-not-is_in-clause-header g c =
    let head = headed c.in_ok-take_byte.ensures.took c.in_ok-check_first_tag.ensures.tag c.in_ok-len.ensures.took c.if-len-ne2.false in
    at_threads head c.in_ok-threads.ensures.took (sym c.is_in.ensures ∙ c.if-not-is_in.true)

pub returns-in_err-sessions-clause-header : goal.returns-in_err-sessions-clause-header
returns-in_err-sessions-clause-header g c =
    let p = err_from_is_err_and c.from_residual-in_err-sessions.result c.from_residual-in_err-sessions.ensures.1 in
    let head = headed c.in_ok-take_byte.ensures.took c.in_ok-check_first_tag.ensures.tag c.in_ok-len.ensures.took c.if-len-ne2.false in
    rw (p.1, p.2) (no_sessions head c.in_ok-threads.ensures.took (sym c.is_in.ensures ∙ c.if-not-is_in.false) c.in_err-sessions.ensures.took)

pub returns-then-not-is_in-2-clause-header : goal.returns-then-not-is_in-2-clause-header
returns-then-not-is_in-2-clause-header g c =
    let head = headed c.in_ok-take_byte.ensures.took c.in_ok-check_first_tag.ensures.tag c.in_ok-len.ensures.took c.if-len-ne2.false in
    at_sessions head c.in_ok-threads.ensures.took (sym c.is_in.ensures ∙ c.if-not-is_in.false) c.in_ok-sessions.ensures.took (sym c.is_in-2.ensures ∙ c.if-not-is_in-2.true)

pub returns-clause-header : goal.returns-clause-header
returns-clause-header g c =
    let head = headed c.in_ok-take_byte.ensures.took c.in_ok-check_first_tag.ensures.tag c.in_ok-len.ensures.took c.if-len-ne2.false in
    ((in_range _ (sym c.is_in.ensures ∙ c.if-not-is_in.false), in_range _ (sym c.is_in-2.ensures ∙ c.if-not-is_in-2.false)), refl, header head c.in_ok-threads.ensures.took c.in_ok-sessions.ensures.took)
