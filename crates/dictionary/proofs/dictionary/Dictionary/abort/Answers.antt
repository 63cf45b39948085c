use Rattle.std.proofs.Common.{◌≡◌, true, refl, sym, subst}
use Rattle.adg_model.specs.Database.{database}
use Rattle.adg_model.specs.Sound.{is_running}
use Rattle.dictionary.specs.Standing.{Known, StandsFor}
use Rattle.dictionary.proofs.Follows.{takes_up_transaction}
use Rattle.dictionary.proofs.dictionary.Dictionary.abort.Goals as goal

pub returns-clause-accepted : goal.returns-clause-accepted
returns-clause-accepted c scn log e s f at is =
    let db = database log in
    let old : Known = record { transactions = c.self.inside.transactions; objects = c.self.inside.objects } in
    let t : StandsFor old log = subst (λ (k : Known). StandsFor k log) (sym c.self.view_is) s in
    let new : Known = record old { transactions = c.end.new.self } in
    let run : is_running db c.args.txn ≡ true = sym (c.if-not-is_running.ensures db t.transactions) in
    takes_up_transaction old new log e _ t f is (rw run refl) (λ obj. refl) (λ obj. refl) refl (c.in_ok-end.ensures.ok db t.transactions run)
