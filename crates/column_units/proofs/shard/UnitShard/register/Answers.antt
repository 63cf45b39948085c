use Rattle.std.proofs.Common.{Some, refl, ap, sym, subst, ◌∙◌}
use Rattle.column_units.specs.Shard.{KeepsOthers}
use Rattle.column_units.proofs.Units.{of_shard, sets_at, all_belong, others_stay, new_belongs}
use Rattle.column_units.proofs.shard.UnitShard.register.Goals as goal

pub invariant_of-self-2 : goal.invariant_of-self-2
invariant_of-self-2 c =
    let o = c.args.obj in
    let e = c.args.extent in
    let n = c.self.inside.number in
    let from = c.self.inside.units.entries in
    let to = c.insert.new.self.entries in
    let unit = c.new-unit.result in
    all_belong n o e from to (Some unit) c.self.invariant
    (sets_at o e c.get.result e from to (Some unit) c.get.ensures.value refl c.in_ok-insert.ensures.updates.0)
    (new_belongs n o e c.args.snapshot c.args.ticket unit (c.requires ∙ ap (λ v. v.number) (sym c.self.view_is)) c.new-unit.ensures)

pub returns-clause-others : goal.returns-clause-others
returns-clause-others c =
    let o = c.args.obj in
    let e = c.args.extent in
    let n = c.self.inside.number in
    let from = c.self.inside.units.entries in
    let to = c.insert.new.self.entries in
    let unit = c.new-unit.result in
    subst (λ v. KeepsOthers o e v (of_shard n to)) c.self.view_is
    (others_stay n o e from to (Some unit) (sets_at o e c.get.result e from to (Some unit) c.get.ensures.value refl c.in_ok-insert.ensures.updates.0))
