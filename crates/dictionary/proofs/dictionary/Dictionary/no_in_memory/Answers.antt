use Rattle.std.proofs.Common.{ℕ, Option, Some, None, refl, sym, ap, subst}
use Rattle.adg_base.specs.declared.definition.Definition.{Definition}
use Rattle.adg_model.specs.Database.{Table, database, set_at, without_flag}
use Rattle.dictionary.specs.Standing.{Known, StandsFor}
use Rattle.dictionary.specs.Objects.{AddsStep}
use Rattle.dictionary.proofs.Follows.{takes_up_change, found, IsFound, passes_on_table}
use Rattle.dictionary.proofs.dictionary.Dictionary.no_in_memory.Goals as goal

pub returns-clause-accepted : goal.returns-clause-accepted
returns-clause-accepted c log e s f at is =
    let db = database log in
    let old : Known = record { transactions = c.self.inside.transactions; objects = c.self.inside.objects } in
    let t : StandsFor old log = subst (λ (k : Known). StandsFor k log) (sym c.self.view_is) s in
    let new : Known = record old { objects = c.change.new.self } in
    let was = c.in-Some.definition.now in
    let there : IsFound db old.objects c.args.obj was = found old.objects log c.args.obj was t.objects c.in-Some.ensures in
    let made : Option Definition = Some c.without_flag-plain.result in
    let adds : AddsStep old.objects new.objects c.args.obj (record { scn = e.scn; definition = made }) =
    subst (λ (n : ℕ). AddsStep old.objects new.objects c.args.obj (record { scn = n; definition = made })) (sym at) (c.in_ok-change.ensures.ok there.known) in
    let plain = c.without_flag-plain.ensures c.args.obj there.table there.defined in
    takes_up_change old new log e _ t f is (passes_on_table db c.args.obj there.table (λ table. None) there.there) c.args.obj (without_flag (Some there.table)) made (ap (λ (o : Option Table). set_at c.args.obj (without_flag o) db.tables) there.there) refl refl t.transactions adds plain there.created
