use Rattle.std.proofs.Common.{length}
use Rattle.dictionary.specs.Pending.{earlier_at, HasChain}
use Rattle.dictionary.proofs.Counts.{IsLeft}
use Rattle.dictionary.proofs.pending.PendingChanges.forget.Given as goal

abbrev pub invariant-loop-next : goal.invariant-loop-next
invariant-loop-next l =
    HasChain (earlier_at l.fn.self l.txn) l.fn.latest → IsLeft l.fn.self l.self-inside.kept.entries l.txn l.next

abbrev pub decreases-loop-next : goal.decreases-loop-next
decreases-loop-next l = length l.self-inside.kept.entries
