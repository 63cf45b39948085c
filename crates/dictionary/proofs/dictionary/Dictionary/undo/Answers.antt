use Rattle.std.proofs.Common.{◌≡◌, true, refl, sym, subst, ◌∙◌}
use Rattle.adg_base.specs.Address.{Place}
use Rattle.adg_model.specs.Database.{database, after}
use Rattle.adg_model.specs.Sound.{is_running}
use Rattle.adg_base.specs.declared.vector.Vector.TheVariants.{Undo}
use Rattle.dictionary.specs.Standing.{Known, StandsFor}
use Rattle.dictionary.specs.Transactions.{TracksIn}
use Rattle.dictionary.specs.Checks.{IsPlaced}
use Rattle.dictionary.proofs.Follows.{takes_up_transaction, undo_placed}
use Rattle.dictionary.proofs.dictionary.Dictionary.undo.Goals as goal

pub returns-clause-accepted : goal.returns-clause-accepted
returns-clause-accepted c scn log e s f at is =
    let db = database log in
    let old : Known = record { transactions = c.self.inside.transactions; objects = c.self.inside.objects } in
    let t : StandsFor old log = subst (λ (k : Known). StandsFor k log) (sym c.self.view_is) s in
    let new : Known = record old { transactions = c.undo.new.self } in
    let run : is_running db c.args.txn ≡ true = sym (c.if-not-is_running.ensures db t.transactions) in
    let p : IsPlaced db c.args.obj c.args.block c.args.slot c.in-Ok.found.0 c.in-Ok.found.1.now = c.in-Ok.ensures log s in
    let has = sym (c.has_pending.ensures db t.transactions) ∙ c.if-not-has_pending.false in
    let tracks = subst (λ (a : Place). TracksIn new.transactions (after db (Undo c.args.txn a.obj a.block a.slot))) p.at (c.undo.ensures db t.transactions has) in
    takes_up_transaction old new log e _ t f is (undo_placed db c.args.txn c.args.obj c.args.block c.args.slot c.in-Ok.found.0 c.in-Ok.found.1.now p true run has) (λ obj. refl) (λ obj. refl) refl tracks
