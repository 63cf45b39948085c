use Rattle.std.proofs.Common.{length, ◌-◌, ◌≡◌, ◌≤◌, take}
use Rattle.std.specs.Io.KnownBytes.{Appends}
use Rattle.adg_io.proofs.transfer.write_whole.Given as goal

-- the front of the piece went to the sink, which has not failed
abbrev pub invariant-loop-count : goal.invariant-loop-count
invariant-loop-count g l = record {
  inside : l.count ≤ length l.piece;
  bytes : Appends (g.K.Sink.held l.initial.sink) (g.K.Sink.held l.sink) (take l.count l.piece);
  honest : g.K.Sink.faults l.sink ≡ g.K.Sink.faults l.initial.sink;
  empty : length l.piece ≡ 0 → l.sink ≡ l.initial.sink;
}

-- what is left of the piece
abbrev pub decreases-loop-count : goal.decreases-loop-count
decreases-loop-count g l = length l.piece - l.count
