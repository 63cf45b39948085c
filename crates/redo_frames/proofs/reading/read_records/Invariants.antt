use Rattle.std.proofs.Common.{◌≤◌, ◌-◌, length, take}
use Rattle.redo_frames.specs.Reading.{Reads}
use Rattle.redo_frames.proofs.reading.read_records.Given as goal

abbrev pub invariant-loop-stop : goal.invariant-loop-stop
invariant-loop-stop l = record {
  inside : l.used ≤ length l.bytes;
  reads : Reads l.fn.held.items l.held.items l.fn.mark l.mark (take l.used l.bytes);
}

abbrev pub decreases-loop-stop : goal.decreases-loop-stop
decreases-loop-stop l = length l.bytes - l.used
