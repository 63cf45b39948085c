use Rattle.std.proofs.Common.{Some, sym, subst}
use Rattle.adg_model.specs.Database.{database}
use Rattle.adg_model.specs.Defined.{AreDefined}
use Rattle.dictionary.specs.Standing.{Known, StandsFor}
use Rattle.dictionary.proofs.Follows.{placed}
use Rattle.dictionary.proofs.dictionary.Dictionary.place_of.Goals as goal

pub returns-in-Some-address_in : goal.returns-in-Some-address_in
returns-in-Some-address_in c log s =
    let db = database log in
    let old : Known = record { transactions = c.self.inside.transactions; objects = c.self.inside.objects } in
    let t : StandsFor old log = subst (λ (k : Known). StandsFor k log) (sym c.self.view_is) s in
    let defined : AreDefined c.args.obj (db.tables c.args.obj) (Some c.in-Some.definition.now) = subst (AreDefined c.args.obj (db.tables c.args.obj)) (sym c.in-Some.ensures) (t.objects.described c.args.obj).latest in
    placed db c.args.obj c.args.block c.args.slot c.in-Some-address_in.addr c.in-Some.definition.now defined (c.in-Some-address_in.ensures c.args.obj)
