use Rattle.std.proofs.Common.{◌≡◌, ℕ, true, false, nat_le, List, option_to_list, length, refl, sym, ap, ◌∙◌, true≢false}
use Rattle.std.specs.List.{list_all}
use Rattle.adg_base.specs.declared.command.Condition.{Condition}
use Rattle.adg_model.specs.Query.{columns_in}
use Rattle.adg_model.proofs.PlainMeaning.{all_columns}
use Rattle.adg_model.proofs.admission.has_columns.Goals as goal
use Rattle.adg_model.proofs.admission.has_columns.Goals.{then-has_asked, else-has_asked}

pub returns-then-has_tested : goal.returns-then-has_tested
returns-then-has_tested g c =
    let select = c.args.select.now in
    let wide : length c.kinds-width.result.now ≡ length (g.C.Columns.table c.args.columns.now).kinds = ap length c.kinds-width.ensures in
    let asked = c.has_asked.ensures ∙ ap (λ (n : ℕ). list_all (λ k. nat_le k n) (columns_in select.what)) wide in
    let grouped = c.has_group.ensures ∙ ap (λ (n : ℕ). list_all (λ k. nat_le k n) (option_to_list select.group)) wide in
    elim c.if-has_asked.branch [
      | then-has_asked w ↦
          let tested = w.has_tested.ensures
          ∙ ap (λ (cs : List Condition). list_all (λ k. nat_le k.column (length c.kinds-width.result.now)) cs) w.as_slice.ensures
          ∙ ap (λ (n : ℕ). list_all (λ k. nat_le k.column n) select.conditions) wide in
          all_columns select (g.C.Columns.table c.args.columns.now) true true c.has_group.result (sym w.if-has_asked.true ∙ asked) (sym c.if-has_tested.true ∙ w.value-is ∙ tested) grouped
      | else-has_asked w ↦ absurd (true≢false (sym c.if-has_tested.true ∙ w.value-is ∙ w.if-has_asked.false))
    ]

pub returns-else-has_tested : goal.returns-else-has_tested
returns-else-has_tested g c =
    let select = c.args.select.now in
    let wide : length c.kinds-width.result.now ≡ length (g.C.Columns.table c.args.columns.now).kinds = ap length c.kinds-width.ensures in
    let width = length (g.C.Columns.table c.args.columns.now).kinds in
    let asked = c.has_asked.ensures ∙ ap (λ (n : ℕ). list_all (λ k. nat_le k n) (columns_in select.what)) wide in
    elim c.if-has_asked.branch [
      | then-has_asked w ↦
          let tested = w.has_tested.ensures
          ∙ ap (λ (cs : List Condition). list_all (λ k. nat_le k.column (length c.kinds-width.result.now)) cs) w.as_slice.ensures
          ∙ ap (λ (n : ℕ). list_all (λ k. nat_le k.column n) select.conditions) wide in
          c.if-has_tested.false
          ∙ all_columns select (g.C.Columns.table c.args.columns.now) true false (list_all (λ k. nat_le k width) (option_to_list select.group)) (sym w.if-has_asked.true ∙ asked) (sym c.if-has_tested.false ∙ w.value-is ∙ tested) refl
      | else-has_asked w ↦
          c.if-has_tested.false
          ∙ all_columns select (g.C.Columns.table c.args.columns.now) false (list_all (λ k. nat_le k.column width) select.conditions) (list_all (λ k. nat_le k width) (option_to_list select.group)) (sym w.if-has_asked.false ∙ asked) refl refl
    ]
