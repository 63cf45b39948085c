use Rattle.std.proofs.Common.{◌≡◌, take}
use Rattle.adg_journal.proofs.places.Places.make_index.Given as goal

-- the first addresses are in the index, in their order
abbrev pub invariant-loop-addr : goal.invariant-loop-addr
invariant-loop-addr l = l.index.keys ≡ take l.addr-index l.addr-items
