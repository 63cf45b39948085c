use Rattle.std.proofs.Common.{◌≡◌, ◌+◌, ◌≤◌, length, arith}
use Rattle.change_vectors.proofs.Bodies.{goes_on, ends, remains, is_whole, shows_bad, none_is_left, is_the_one}
use Rattle.change_vectors.proofs.read.read_vectors.Goals as goal

pub returns-in-Err-Bad-clause-bad : goal.returns-in-Err-Bad-clause-bad
returns-in-Err-Bad-clause-bad c = shows_bad c.args.count (c.loop-before.before + 1) c.args.body.now (ends c.args.count c.loop-before.before c.args.body.now c.loop-before.vectors.items c.loop-before.rest.now c.loop-before.invariant c.loop-before-test.true (rw c.in-Err-Bad.field-0-is at c.in-Err-Bad.ensures))

pub returns-in-Err-Bad-clause-only : goal.returns-in-Err-Bad-clause-only
returns-in-Err-Bad-clause-only c = none_is_left c.args.count (c.loop-before.before + 1) c.args.body.now (ends c.args.count c.loop-before.before c.args.body.now c.loop-before.vectors.items c.loop-before.rest.now c.loop-before.invariant c.loop-before-test.true (rw c.in-Err-Bad.field-0-is at c.in-Err-Bad.ensures))

pub loop-before-preserved : goal.loop-before-preserved
loop-before-preserved c = rw c.in_ok-push-in-Ok.ensures.items (goes_on c.args.count c.loop-before.before c.args.body.now c.loop-before.vectors.items c.loop-before.rest.now c.in-Ok.vector c.in-Ok.after.now c.loop-before.invariant c.in-Ok.ensures)

pub returns-then-is_empty-clause-only : goal.returns-then-is_empty-clause-only
returns-then-is_empty-clause-only c =
    let ended : c.loop-before.before ≡ c.args.count = omega arith in
    let empty : length c.loop-before.rest.now ≡ 0 = grind arith in
    rw c.from_vec.ensures (is_the_one c.args.count c.args.body.now c.loop-before.vectors.items (is_whole c.args.count c.loop-before.before c.args.body.now c.loop-before.vectors.items c.loop-before.rest.now c.loop-before.invariant ended empty))

pub returns-else-is_empty-clause-only : goal.returns-else-is_empty-clause-only
returns-else-is_empty-clause-only c =
    let ended : c.loop-before.before ≡ c.args.count = omega arith in
    let some : 1 ≤ length c.loop-before.rest.now = grind arith in
    none_is_left c.args.count (c.args.count + 1) c.args.body.now (remains c.args.count c.loop-before.before c.args.body.now c.loop-before.vectors.items c.loop-before.rest.now c.loop-before.invariant ended some)
