use Rattle.std.proofs.Common.{◌≡◌, ◌≤◌, take, true}
use Rattle.std.specs.List.{list_all}
use Rattle.adg_base.specs.Text.{is_text_byte}
use Rattle.query_text.proofs.literal.text_len.Given as goal

abbrev pub invariant-loop-len : goal.invariant-loop-len
invariant-loop-len l = (l.len ≤ 64) × (list_all is_text_byte (take l.len l.bytes) ≡ true)
