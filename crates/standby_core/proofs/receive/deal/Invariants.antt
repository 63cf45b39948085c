use Rattle.std.proofs.Common.{◌≡◌, ◌++◌, length}
use Rattle.std.specs.Vec.Iter.{into_iter_items}
use Rattle.standby_core.specs.Received.{AreDealt}
use Rattle.standby_core.proofs.receive.deal.Given as goal

-- the entries so far are dealt out
abbrev pub invariant-loop-entry : goal.invariant-loop-entry
invariant-loop-entry l = record {
  split : l.yielded ++ into_iter_items l.entry-iterator ≡ l.fn.entries.items;
  count : length l.workers ≡ l.count;
  dealt : AreDealt l.yielded l.initial.workers l.workers;
}
