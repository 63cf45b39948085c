use Rattle.std.specs.Int.{div_ceil}
use Rattle.feed_gen.specs.Generated.{portions, transfer_drafts}
use Rattle.feed_gen.specs.Written.{with_drafts}
use Rattle.feed_gen.proofs.Runs.{GoesOn}
use Rattle.feed_gen.proofs.generate.write_portions.Given as goal

abbrev pub invariant-loop-portion : goal.invariant-loop-portion
invariant-loop-portion l = GoesOn l.txns l.portion (div_ceil l.txns 500) l.bank l.feed (with_drafts l.initial.feed (transfer_drafts 2 (portions l.txns) l.initial.bank))
