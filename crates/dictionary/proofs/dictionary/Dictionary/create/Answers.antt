use Rattle.std.proofs.Common.{◌≡◌, ℕ, false, Some, refl, sym, subst, ◌∙◌}
use Rattle.adg_base.specs.declared.vector.Vector.{Vector}
use Rattle.adg_model.specs.Database.{database}
use Rattle.adg_model.specs.Spelling.{IsVector}
use Rattle.dictionary.specs.Standing.{Known, StandsFor}
use Rattle.dictionary.specs.Objects.{AddsStep}
use Rattle.dictionary.proofs.Follows.{takes_up_create, none_from}
use Rattle.dictionary.proofs.dictionary.Dictionary.create.Goals as goal

pub returns-clause-accepted : goal.returns-clause-accepted
returns-clause-accepted c log e s f at is =
    let db = database log in
    let old : Known = record { transactions = c.self.inside.transactions; objects = c.self.inside.objects } in
    let t : StandsFor old log = subst (λ (k : Known). StandsFor k log) (sym c.self.view_is) s in
    let new : Known = record old { objects = c.create.new.self } in
    let definition = c.definition_of-definition.result in
    let absent = sym c.is_created.ensures ∙ c.if-is_created.false in
    let fresh : db.created c.args.obj ≡ false = sym (t.objects.created c.args.obj) ∙ absent in
    let spelled = subst (λ (v : Vector). IsVector 1 v) is f.spelled in
    let adds : AddsStep old.objects new.objects c.args.obj (record { scn = e.scn; definition = Some definition }) =
    subst (λ (n : ℕ). AddsStep old.objects new.objects c.args.obj (record { scn = n; definition = Some definition })) (sym at) (c.in_ok-create.ensures.ok (none_from _ absent)) in
    takes_up_create old new log e _ t f is (rw fresh refl) c.args.obj c.args.extents c.args.flag c.args.columns.now definition refl refl adds (c.definition_of-definition.ensures spelled.few_columns)
