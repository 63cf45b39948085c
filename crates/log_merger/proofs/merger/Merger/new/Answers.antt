use Rattle.std.proofs.Common.{◌+◌, ◌∷◌, [], None, length, length-append, ap, subst, sym, arith}
use Rattle.log_merger.proofs.Merged.{FreshFrom, fresh_push, stands_new}
use Rattle.log_merger.proofs.Numbers.{number_push}
use Rattle.log_merger.proofs.merger.Merger.new.Goals as goal

pub loop-index-preserved : goal.loop-index-preserved
loop-index-preserved c =
    let inv = c.loop-index.invariant in
    let push = c.in_ok-push.ensures.items in
    let ts = c.loop-index.list.items in
    let t = c.new.result in
    record {
      many = omega (arith, ap length push, length-append ts (t ∷ []), inv.many);
      fresh = subst (FreshFrom 1) (sym push) (fresh_push 1 (c.loop-index.index + 1) ts t inv.fresh (omega (arith, inv.many)) (record { number_is = c.new.ensures.number; read = c.new.ensures.read; waiting = c.new.ensures.waiting }));
      numbers = rw push (number_push ts t inv.numbers c.new.ensures.next);
    }

pub returns-clause-stands : goal.returns-clause-stands
returns-clause-stands c = stands_new c.loop-index.list.items None c.loop-index.invariant.fresh
