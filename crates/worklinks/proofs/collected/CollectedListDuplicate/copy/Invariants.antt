use Rattle.std.proofs.Common.{◌≡◌, ◌≤◌, take, length}
use Rattle.worklinks.proofs.collected.CollectedListDuplicate.copy.Given as goal

abbrev pub invariant-loop-list : goal.invariant-loop-list
invariant-loop-list l = record {
  lists : l.copied.lists ≡ take l.list-index l.list-items;
  room : l.copied.room ≡ l.self.room;
  fits : length l.list-items ≤ l.self.room;
}
