use Rattle.std.proofs.Common.{◌∙◌, ap, ap₂}
use Rattle.std.specs.Int.{w64, cast_signed, cast_unsigned}
use Rattle.std.proofs.lemmas.Int.{to_z-of_z}
use Rattle.feed_gen.specs.Transfers.{second_of, first_record, left_over}
use Rattle.feed_gen.specs.Written.{with_writings}
use Rattle.feed_gen.proofs.Small.{debited_fits, credited_fits}
use Rattle.feed_gen.proofs.Runs.{bank_is, feed_is}
use Rattle.feed_gen.proofs.bank.Bank.transfer.Goals as goal

pub returns-clause-bank : goal.returns-clause-bank
returns-clause-bank c =
    let t = c.draw-transfer.result in
    let z = c.settle-settlement.result.credited in
    let read = to_z-of_z w64 z (credited_fits c.args.self.now t z c.requires.few c.requires.good c.draw-transfer.ensures.good c.settle-settlement.ensures.credited) in
    bank_is c.args.self.now t c.draw-transfer.ensures.drawn c.thread_of-thread.result c.thread_of-thread.ensures
    c.draw-transfer.new.source c.settle-settlement.new.self c.replace-earlier.new.self (second_of c.next_txn-txn.result t (cast_signed w64 (cast_unsigned w64 z)))
    c.draw-transfer.ensures.source c.settle-settlement.ensures.settled
    (ap₂ (λ n b. second_of n t b) c.next_txn-txn.ensures (read ∙ c.settle-settlement.ensures.credited)) c.replace-earlier.ensures.kept

pub returns-clause-feed : goal.returns-clause-feed
returns-clause-feed c =
    let t = c.draw-transfer.result in
    let z = c.settle-settlement.result.debited in
    let thread = c.thread_of-thread.result in
    let read = to_z-of_z w64 z (debited_fits c.args.self.now t z c.requires.few c.requires.good c.draw-transfer.ensures.good c.settle-settlement.ensures.debited) in
    feed_is c.args.self.now t c.draw-transfer.ensures.drawn thread c.thread_of-thread.ensures
    c.args.feed.now c.write_left_over.new.feed c.write.new.self c.in_ok-first.first
    (c.in_ok-write_left_over.ensures ∙ ap (λ o. with_writings c.args.feed.now (left_over thread o)) c.replace-earlier.ensures.earlier)
    (c.in_ok-first.ensures ∙ ap₂ (λ n b. first_record n t b) c.next_txn-txn.ensures (read ∙ c.settle-settlement.ensures.debited))
    c.in_ok-write.ensures
