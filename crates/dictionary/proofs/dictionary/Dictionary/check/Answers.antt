use Rattle.std.proofs.Common.{refl}
use Rattle.dictionary.proofs.Follows.{takes_up_transaction}
use Rattle.dictionary.proofs.dictionary.Dictionary.check.Goals as goal

pub returns-in-EndThread-clause-accepted : goal.returns-in-EndThread-clause-accepted
returns-in-EndThread-clause-accepted c log s f =
    takes_up_transaction c.args.self.now c.args.self.now log c.args.entry.now _ s f c.in-EndThread.is refl (λ obj. refl) (λ obj. refl) refl s.transactions
