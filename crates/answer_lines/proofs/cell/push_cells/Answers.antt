use Rattle.std.proofs.Common.{◌++◌, List, ℕ, sym, ap, ◌∙◌, append_assoc, codes, string_bytes}
use Rattle.std.specs.List.{flat_map}
use Rattle.adg_base.specs.declared.answer.Cell.{Cell}
use Rattle.adg_model.specs.Reply.{cell_bytes, cells_bytes}
use Rattle.answer_lines.proofs.Cells.{behind_bars}
use Rattle.answer_lines.proofs.cell.push_cells.Goals as goal

pub returns-in_ok-push_others-in-Some : goal.returns-in_ok-push_others-in-Some
returns-in_ok-push_others-in-Some c =
    let first = c.in-Some.first.now in
    let others = c.in-Some.others.now in
    let parts = c.in-Some.ensures.cases in
    let bars = flat_map (λ c. codes "|" ++ cell_bytes c) others in
    c.in_ok-push_others-in-Some.ensures
    ∙ ap (λ (t : List ℕ). t ++ bars) c.in_ok-push_cell-in-Some.ensures
    ∙ append_assoc (string_bytes c.args.text.now) (cell_bytes first) bars
    ∙ ap (λ (t : List ℕ). string_bytes c.args.text.now ++ t) (behind_bars first others)
    ∙ ap (λ (cs : List Cell). string_bytes c.args.text.now ++ cells_bytes cs) (sym parts.0)
