use Rattle.std.proofs.Common.{arith}
use Rattle.feed_gen.proofs.Runs.{runs_first, runs_more, runs_room, runs_end_bank, runs_end_feed}
use Rattle.feed_gen.proofs.bank.Bank.transfers.Goals as goal

pub loop-number-init : goal.loop-number-init
loop-number-init c = runs_first c.args.count c.args.self.now c.args.feed.now c.requires.good

pub transfer-requires-clause-good : goal.transfer-requires-clause-good
transfer-requires-clause-good c = c.loop-number.invariant.good

pub transfer-requires-clause-few : goal.transfer-requires-clause-few
transfer-requires-clause-few c = omega (arith, c.loop-number.invariant.made, c.requires.few)

pub transfer-requires-clause-room : goal.transfer-requires-clause-room
transfer-requires-clause-room c = omega (arith, runs_room c.args.count c.loop-number._number c.args.self.now c.loop-number.self c.args.feed.now c.loop-number.feed c.loop-number.invariant, c.requires.room, c.requires.few)

pub loop-number-preserved : goal.loop-number-preserved
loop-number-preserved c = runs_more c.args.count c.loop-number._number c.args.self.now c.loop-number.self c.transfer.new.self c.args.feed.now c.loop-number.feed c.transfer.new.feed (omega arith) c.loop-number.invariant c.in_ok-transfer.ensures.bank c.in_ok-transfer.ensures.feed

pub returns-clause-bank : goal.returns-clause-bank
returns-clause-bank c = runs_end_bank c.args.count c.loop-number._number c.args.self.now c.loop-number.self c.args.feed.now c.loop-number.feed (omega arith) c.loop-number.invariant

pub returns-clause-feed : goal.returns-clause-feed
returns-clause-feed c = runs_end_feed c.args.count c.loop-number._number c.args.self.now c.loop-number.self c.args.feed.now c.loop-number.feed (omega arith) c.loop-number.invariant
