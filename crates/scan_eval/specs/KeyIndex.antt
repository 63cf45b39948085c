-- The places of keys.
use Rattle.std.specs.Prelude.{ℕ, Option}
use Rattle.adg_base.specs.declared.value.Value.{Value}
use Rattle.adg_base.specs.declared.value.Value.TheVariants.{Null, Int, Text}
use Rattle.scan_eval.specs.declared.key_index.KeyIndex.{KeyIndex}
use Rattle.scan_eval.specs.Places.{number_place, text_place}

-- the place of a key, where it has one
abbrev pub place_at : KeyIndex → Value → Option ℕ
place_at index Null = index.null
place_at index (Int n) = number_place index.numbers n
place_at index (Text t) = text_place index.texts t
