use Rattle.std.proofs.Common.{◌≡◌, Bool, true, Some, None, Result, refl, sym, ap, subst, ◌∙◌}
use Rattle.adg_base.specs.Address.{Place}
use Rattle.adg_model.specs.Database.{database, with_change}
use Rattle.adg_model.specs.Sound.{fits_row, demand, is_running}
use Rattle.adg_model.specs.declared.fault.CheckKind.TheVariants.{TxnUnknown}
use Rattle.dictionary.specs.declared.refused.RedoRefused.{RedoRefused}
use Rattle.dictionary.specs.Standing.{IsAnswer}
use Rattle.dictionary.specs.Transactions.{TracksIn}
use Rattle.dictionary.specs.Checks.{IsPlaced}
use Rattle.dictionary.proofs.Follows.{takes_up_transaction, placed_flag, row_placed, on_ok_from, is_met}
use Rattle.dictionary.proofs.dictionary.Dictionary.put.Goals as goal

pub returns-clause-accepted : goal.returns-clause-accepted
returns-clause-accepted c = on_ok_from c.change.result _ _ _ c.change.ensures.objects c.change.ensures.accepted (λ v ok same changes scn log e s f at is.
    let db = database log in
    let new = c.change.new.self in
    let addr = c.in-Ok.found.0 in
    let definition = c.in-Ok.found.1.now in
    let p : IsPlaced db c.args.obj c.args.block c.args.slot addr definition = c.in-Ok.ensures log s in
    let answer = subst (λ (r : Result (Unit {0}) RedoRefused). IsAnswer r (demand (is_running db c.args.txn) TxnUnknown None)) ok (c.change.ensures.answer log s) in
    let run : is_running db c.args.txn ≡ true = is_met (is_running db c.args.txn) TxnUnknown answer in
    let fits : fits_row c.args.row.now p.table.kinds ≡ true = rw (← c.as_slice.ensures, ← c.kinds_of.ensures c.args.obj p.table p.defined) (sym c.fits_row.ensures ∙ c.if-not-fits_row.false) in
    let passes = row_placed db c.args.txn c.args.obj c.args.block c.args.slot c.args.row.now addr definition p true fits ∙ ap (λ (b : Bool). demand b TxnUnknown None) run in
    let flag = placed_flag db c.args.obj c.args.block c.args.slot addr definition p in
    let tracks = subst (λ (a : Place). TracksIn new.transactions (with_change db c.args.txn (record { at = a; row = (Some c.args.row.now) }))) p.at (changes log (Some c.args.row.now) s flag) in
    takes_up_transaction c.args.self.now new log e _ s f is passes (λ obj. refl) (λ obj. refl) same tracks)
