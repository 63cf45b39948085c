use Rattle.std.proofs.Common.{◌≡◌, drop}
use Rattle.scn_queue.proofs.queue.ScnQueue.drop_through.Given as goal

-- so many of the first entries are gone
abbrev pub invariant-loop : goal.invariant-loop
invariant-loop g l = l.self-inside.entries.items ≡ drop l.counter l.initial.self-inside.entries.items
