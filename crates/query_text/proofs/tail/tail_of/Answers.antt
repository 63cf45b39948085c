use Rattle.std.proofs.Common.{◌≡◌, ◌≤◌, length, arith}
use Rattle.std.proofs.lemmas.List.{nil_from_length}
use Rattle.std.proofs.lemmas.Result.{err_from_is_err_and}
use Rattle.query_text.proofs.Tails.{next_refused, test_refused, more_tests, group_refused, group_ends_tail, tail_done}
use Rattle.query_text.proofs.tail.tail_of.Goals as goal

pub returns-in_err-behind : goal.returns-in_err-behind
returns-in_err-behind c =
    let some : 1 ≤ length c.loop-test.rest.now = grind arith in
    let p = err_from_is_err_and c.from_residual.result c.from_residual.ensures.1 in
    rw (p.1, p.2) (next_refused c.args.grouped c.args.bytes.now c.loop-test.conditions.items c.loop-test.test.now c.loop-test.rest.now c.in_err-behind.field-0.0 c.loop-test.invariant some c.in_err-behind.ensures)

pub returns-in_err-condition-in-Test-default : goal.returns-in_err-condition-in-Test-default
returns-in_err-condition-in-Test-default c =
    let p = err_from_is_err_and c.from_residual-in_err-condition-in-Test-default.result c.from_residual-in_err-condition-in-Test-default.ensures.1 in
    rw (p.1, p.2) (test_refused c.args.grouped c.args.bytes.now c.loop-test.conditions.items c.loop-test.test.now c.loop-test.rest.now c.in_ok-behind.field-0.1.now c.in_err-condition-in-Test-default.field-0.0 c.loop-test.invariant (rw c.in-Test-default.is-0 at c.in_ok-behind.ensures) c.in_err-condition-in-Test-default.ensures)

pub loop-test-preserved : goal.loop-test-preserved
loop-test-preserved c =
    rw (c.in_ok-push-in-Test-default.ensures.items, c.as_slice-test-in-Test-default.ensures) (more_tests c.args.grouped c.args.bytes.now c.loop-test.conditions.items c.loop-test.test.now c.loop-test.rest.now c.in_ok-behind.field-0.1.now c.in_ok-condition-in-Test-default.behind.now c.in_ok-condition-in-Test-default.condition c.loop-test.invariant (rw c.in-Test-default.is-0 at c.in_ok-behind.ensures) c.in_ok-condition-in-Test-default.ensures)

pub returns-in_err-column-in-Group-default : goal.returns-in_err-column-in-Group-default
returns-in_err-column-in-Group-default c =
    let p = err_from_is_err_and c.from_residual-in_err-column-in-Group-default.result c.from_residual-in_err-column-in-Group-default.ensures.1 in
    rw (p.1, p.2) (group_refused c.args.grouped c.args.bytes.now c.loop-test.conditions.items c.loop-test.test.now c.loop-test.rest.now c.in_ok-behind.field-0.1.now c.in_err-column-in-Group-default.field-0.0 c.loop-test.invariant (rw c.in-Group-default.is-0 at c.in_ok-behind.ensures) c.in_err-column-in-Group-default.ensures)

pub returns-in-Group-default : goal.returns-in-Group-default
returns-in-Group-default c = group_ends_tail c.args.grouped c.args.bytes.now c.loop-test.conditions.items c.loop-test.test.now c.loop-test.rest.now c.in_ok-behind.field-0.1.now c.in_ok-column-in-Group-default.column c.loop-test.invariant (rw c.in-Group-default.is-0 at c.in_ok-behind.ensures) c.in_ok-column-in-Group-default.ensures

pub returns : goal.returns
returns c =
    let none : length c.loop-test.rest.now ≡ 0 = grind arith in
    tail_done c.args.grouped c.args.bytes.now c.loop-test.conditions.items c.loop-test.test.now c.loop-test.rest.now c.loop-test.invariant (nil_from_length c.loop-test.rest.now none)
