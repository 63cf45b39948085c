use Rattle.std.proofs.Common.{arith}
use Rattle.std.proofs.lemmas.List.{length-take}
use Rattle.redo_frames.proofs.ReadingLaws.{length_reads}
use Rattle.redo_frames.proofs.reading.read_rest.Goals as goal

pub returns-clause-count : goal.returns-clause-count
returns-clause-count c = omega (arith, length_reads _ _ _ _ _ c.in_ok-whole.ensures.reads, length-take c.in_ok-whole.whole.used c.args.bytes.now)
