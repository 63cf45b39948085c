-- What a text holds, wherever its bytes lie. No public clause cites this module.
use Rattle.std.specs.Prelude.{ℕ, List}
use Rattle.adg_base.specs.declared.text.Held.{Held}
use Rattle.adg_base.specs.declared.text.Held.TheVariants.{Short, Long}

abbrev pub held_bytes : Held → List ℕ
held_bytes (Short piece) = piece
held_bytes (Long piece) = piece.value
