use Rattle.std.proofs.Common.{◌≡◌, ◌++◌, take, string_bytes}
use Rattle.std.specs.List.{flat_map}
use Rattle.adg_model.specs.Reply.{result_line_bytes}
use Rattle.answer_lines.proofs.reply.push_answer.Given as goal

abbrev pub invariant-loop-cells : goal.invariant-loop-cells
invariant-loop-cells l = string_bytes l.text ≡ string_bytes l.initial.text ++ flat_map result_line_bytes (take l.cells-index l.answer)
