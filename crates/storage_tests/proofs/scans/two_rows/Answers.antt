use Rattle.std.proofs.Common.{◌∷◌, [], length, ap, ◌∙◌}
use Rattle.adg_base.specs.Address.{place}
use Rattle.column_units.proofs.Rows.{two_are_columns, found_is}
use Rattle.storage_tests.proofs.scans.two_rows.Goals as goal

pub returns : goal.returns
returns c =
    two_are_columns c.args.obj c.in_ok-new.field-0 c.in_ok-first.first c.in_ok-second.second c.in_ok-values.values.items c.requires
    (ap (λ x. x.addresses) c.in_ok-new.ensures ∙ c.from_vec-2.ensures ∙ c.in_ok-addresses.ensures.items)
    (found_is c.new.result c.in_ok-first.first (place c.args.obj 0 0) c.new.ensures.value c.in_ok-first.ensures.ok_part)
    (found_is c.new-2.result c.in_ok-second.second (place c.args.obj 0 1) c.new-2.ensures.value c.in_ok-second.ensures.ok_part)
    (ap (λ x. x.columns) c.in_ok-new.ensures ∙ c.from_vec-3.ensures ∙ c.in_ok-columns.ensures.items ∙ ap (λ v. v ∷ []) c.in_ok-from_vec.ensures)
    (ap length c.in_ok-values.ensures.items)
