use Rattle.std.proofs.Common.{◌≡◌, ◌++◌, take, string_bytes, codes}
use Rattle.std.specs.List.{flat_map}
use Rattle.adg_model.specs.Reply.{cell_bytes}
use Rattle.answer_lines.proofs.cell.push_others.Given as goal

abbrev pub invariant-loop-cell : goal.invariant-loop-cell
invariant-loop-cell l = string_bytes l.text ≡ string_bytes l.initial.text ++ flat_map (λ c. codes "|" ++ cell_bytes c) (take l.cell-index l.cells)
