use Rattle.std.proofs.Common.{sym, ◌∙◌}
use Rattle.dictionary.proofs.Counts.{left_at_first, left_after_one, left_at_end, left_at_known}
use Rattle.dictionary.proofs.pending.PendingChanges.forget.Goals as goal

pub loop-next-init : goal.loop-next-init
loop-next-init c h = left_at_first c.args.self.now c.self.inside.kept.entries c.args.txn c.args.latest c.self.view_is h

pub loop-next-preserved : goal.loop-next-preserved
loop-next-preserved c h =
    left_after_one c.args.self.now c.loop-next.self-inside.kept.entries c.remove.new.self.entries c.args.txn c.loop-next.next c.in-Some.addr c.in-Some-remove.pending c.in-Some.is (sym c.remove.ensures.value ∙ c.in-Some-remove.is) c.remove.ensures.updates.0 (c.loop-next.invariant h)

pub returns-in-None : goal.returns-in-None
returns-in-None c h =
    absurd (left_at_known c.args.self.now c.loop-next.self-inside.kept.entries c.args.txn c.loop-next.next c.in-Some.addr c.in-Some.is (sym c.remove.ensures.value ∙ c.in-None.is) (c.loop-next.invariant h))

pub returns-in_default : goal.returns-in_default
returns-in_default c h =
    left_at_end c.args.self.now c.loop-next.self-inside.kept.entries c.args.txn c.loop-next.next c.in_default.is (c.loop-next.invariant h)
