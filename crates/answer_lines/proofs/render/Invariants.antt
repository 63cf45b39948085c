use Rattle.std.proofs.Common.{◌≡◌, take, string_bytes}
use Rattle.std.specs.List.{flat_map}
use Rattle.adg_model.specs.Reply.{line_bytes}
use Rattle.answer_lines.proofs.render.Given as goal

abbrev pub invariant-loop-line : goal.invariant-loop-line
invariant-loop-line l = string_bytes l.text ≡ flat_map (line_bytes l.delivery) (take l.line-index l.line-items)
