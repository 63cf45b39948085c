use Rattle.std.proofs.Common.{◌≡◌, false, refl, sym, subst, ◌∙◌}
use Rattle.adg_model.specs.Database.{database}
use Rattle.dictionary.specs.Standing.{Known, StandsFor}
use Rattle.dictionary.proofs.Follows.{takes_up_transaction}
use Rattle.dictionary.proofs.dictionary.Dictionary.begin.Goals as goal

pub returns-clause-accepted : goal.returns-clause-accepted
returns-clause-accepted c scn log e s f at is =
    let db = database log in
    let old : Known = record { transactions = c.self.inside.transactions; objects = c.self.inside.objects } in
    let new : Known = record old { transactions = c.begin.new.self } in
    let t : StandsFor old log = subst (λ (k : Known). StandsFor k log) (sym c.self.view_is) s in
    let fresh : db.begun c.args.txn ≡ false = sym (c.is_begun.ensures db t.transactions) ∙ c.if-is_begun.false in
    takes_up_transaction old new log e _ t f is (rw fresh refl) (λ obj. refl) (λ obj. refl) refl (c.in_ok-begin.ensures.ok db t.transactions fresh)
