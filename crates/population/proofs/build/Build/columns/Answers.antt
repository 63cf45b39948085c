use Rattle.std.proofs.Common.{map, sym, ap, subst, ◌∙◌}
use Rattle.std.specs.List.{range_with_len}
use Rattle.column_codec.specs.Extent.{AreColumns, placed_rows}
use Rattle.population.specs.Building.{IsRead, addresses_of, column_of, columns_of, widened}
use Rattle.population.proofs.Columns.{made_of, columns_hold, columns_fit}
use Rattle.population.proofs.build.Build.columns.Goals as goal

pub returns-clause-rows : goal.returns-clause-rows
returns-clause-rows c =
    let inside = c.self.inside in
    let rows = inside.rows.items in
    let is = made_of c.in_ok-new.field-0 c.in_ok-addresses.addresses c.in_ok-columns.columns inside.width rows c.in_ok-new.ensures
    (c.in_ok-addresses.ensures ∙ ap addresses_of c.as_slice-rows.ensures.value)
    (c.in_ok-columns.ensures ∙ ap (λ r. map (column_of r) (range_with_len 0 inside.width)) c.as_slice-rows.ensures.value) in
    ap placed_rows is ∙ columns_hold inside.width rows c.self.invariant.fit ∙ ap (λ b. widened b.width b.rows) c.self.view_is

pub returns-clause-fit : goal.returns-clause-fit
returns-clause-fit c =
    let inside = c.self.inside in
    let rows = inside.rows.items in
    let is = made_of c.in_ok-new.field-0 c.in_ok-addresses.addresses c.in_ok-columns.columns inside.width rows c.in_ok-new.ensures
    (c.in_ok-addresses.ensures ∙ ap addresses_of c.as_slice-rows.ensures.value)
    (c.in_ok-columns.ensures ∙ ap (λ r. map (column_of r) (range_with_len 0 inside.width)) c.as_slice-rows.ensures.value) in
    let b = c.args.self.now in
    let read = subst IsRead c.self.view_is c.self.invariant in
    subst (AreColumns b.obj b.extent) (sym (is ∙ ap (λ x. columns_of x.width x.rows) c.self.view_is)) (columns_fit b.obj b.extent b.width b.blocks b.rows read.places c.requires)
