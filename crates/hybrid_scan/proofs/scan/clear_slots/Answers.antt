use Rattle.std.proofs.Common.{◌/◌, ◌^◌, refl, arith}
use Rattle.std.proofs.Math.Nat.{div-le_self}
use Rattle.hybrid_scan.proofs.Marks.{rest_none, rest_some}
use Rattle.hybrid_scan.proofs.scan.clear_slots.Goals as goal

pub returns-then-rest-eq0-clause-clear : goal.returns-then-rest-eq0-clause-clear
returns-then-rest-eq0-clause-clear c k above below = rest_none c.args.word c.args.slot (omega (arith, c.if-rest-eq0.true)) k above

pub returns-else-rest-eq0-clause-most : goal.returns-else-rest-eq0-clause-most
returns-else-rest-eq0-clause-most c =
    let rest = c.args.word / 2 ^ c.args.slot in
    let few = div-le_self c.args.word (2 ^ c.args.slot) in
    let n = rest_some c.args.word c.args.slot rest refl c.ranges.word.fits (omega (arith, c.if-rest-eq0.false)) (omega (arith, few, c.ranges.word.fits)) in
    omega (arith, n.most)

pub returns-else-rest-eq0-clause-clear : goal.returns-else-rest-eq0-clause-clear
returns-else-rest-eq0-clause-clear c =
    let rest = c.args.word / 2 ^ c.args.slot in
    let few = div-le_self c.args.word (2 ^ c.args.slot) in
    (rest_some c.args.word c.args.slot rest refl c.ranges.word.fits (omega (arith, c.if-rest-eq0.false)) (omega (arith, few, c.ranges.word.fits))).clear

pub returns-else-rest-eq0-clause-marked : goal.returns-else-rest-eq0-clause-marked
returns-else-rest-eq0-clause-marked c =
    let rest = c.args.word / 2 ^ c.args.slot in
    let few = div-le_self c.args.word (2 ^ c.args.slot) in
    (rest_some c.args.word c.args.slot rest refl c.ranges.word.fits (omega (arith, c.if-rest-eq0.false)) (omega (arith, few, c.ranges.word.fits))).marked
