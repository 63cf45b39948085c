use Rattle.std.proofs.Common.{take}
use Rattle.feed_text.specs.Shown.{IsLine}
use Rattle.feed_text.proofs.show.is_line.Given as goal

abbrev pub invariant-loop-byte : goal.invariant-loop-byte
invariant-loop-byte l = IsLine (take l.byte-index l.text)
