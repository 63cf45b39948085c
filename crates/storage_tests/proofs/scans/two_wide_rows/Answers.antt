use Rattle.std.proofs.Common.{◌∷◌, [], length, ap, ap₂, ◌∙◌}
use Rattle.adg_base.specs.Address.{place}
use Rattle.column_units.proofs.Rows.{found_is}
use Rattle.hybrid_scan.proofs.Tested.{wide_are_columns}
use Rattle.storage_tests.proofs.scans.two_wide_rows.Goals as goal

pub returns : goal.returns
returns c =
    wide_are_columns c.args.obj c.in_ok-new.field-0 c.in_ok-first.first c.in_ok-last.last c.in_ok-values.values.items c.in_ok-nulls.nulls.items c.requires
    (ap (λ x. x.addresses) c.in_ok-new.ensures ∙ c.from_vec-3.ensures ∙ c.in_ok-addresses.ensures.items)
    (found_is c.new.result c.in_ok-first.first (place c.args.obj 0 1) c.new.ensures.value c.in_ok-first.ensures.ok_part)
    (found_is c.new-2.result c.in_ok-last.last (place c.args.obj 15 63) c.new-2.ensures.value c.in_ok-last.ensures.ok_part)
    (ap (λ x. x.columns) c.in_ok-new.ensures ∙ c.from_vec-4.ensures ∙ c.in_ok-columns.ensures.items ∙ ap₂ (λ v w. v ∷ w ∷ []) c.in_ok-from_vec.ensures c.in_ok-from_vec-2.ensures)
    (ap length c.in_ok-values.ensures.items)
    (ap length c.in_ok-nulls.ensures.items)
