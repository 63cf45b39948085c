use Rattle.feed_gen.proofs.Runs.{Runs}
use Rattle.feed_gen.proofs.bank.Bank.transfers.Given as goal

abbrev pub invariant-loop-number : goal.invariant-loop-number
invariant-loop-number l = Runs l.count l._number l.initial.self l.self l.initial.feed l.feed
