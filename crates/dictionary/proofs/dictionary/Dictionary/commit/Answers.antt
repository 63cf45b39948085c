use Rattle.std.proofs.Common.{◌≡◌, true, refl, sym, subst, ◌∙◌}
use Rattle.adg_model.specs.Database.{database}
use Rattle.adg_model.specs.Sound.{is_running}
use Rattle.dictionary.specs.Standing.{Known, StandsFor}
use Rattle.dictionary.proofs.Follows.{takes_up_transaction, passes_commit, flag_is}
use Rattle.dictionary.proofs.dictionary.Dictionary.commit.Goals as goal

pub returns-clause-accepted : goal.returns-clause-accepted
returns-clause-accepted c scn log e s f at is =
    let db = database log in
    let old : Known = record { transactions = c.self.inside.transactions; objects = c.self.inside.objects } in
    let t : StandsFor old log = subst (λ (k : Known). StandsFor k log) (sym c.self.view_is) s in
    let new : Known = record old { transactions = c.end.new.self } in
    let run : is_running db c.args.txn ≡ true = sym (c.if-not-is_running.ensures db t.transactions) in
    let noted : db.noted c.args.txn ≡ c.args.flag = sym (c.is_noted.ensures db t.transactions run) ∙ flag_is _ _ c.if-is_noted-flag.false in
    takes_up_transaction old new log e _ t f is (passes_commit db c.args.txn c.args.flag run noted) (λ obj. refl) (λ obj. refl) refl (c.in_ok-end.ensures.ok db t.transactions run)
