-- What a column stands for.
use Rattle.std.specs.Prelude.{ℤ, Bool, true, false, List, map, Option, Some, None}
use Rattle.adg_base.specs.declared.value.Value.{Value}
use Rattle.adg_base.specs.declared.value.Value.TheVariants.{Null, Int, Text}
use Rattle.column_codec.specs.declared.column.Plain.{Plain}
use Rattle.column_codec.specs.declared.column.Plain.TheVariants.{Ints, Mixed}

-- a number, or no value
abbrev pub int_of : Option ℤ → Value
int_of None = Null
int_of (Some n) = Int n

-- the values that are kept
abbrev pub values_of : Plain → List Value
values_of (Ints numbers) = map int_of numbers.value.items
values_of (Mixed values) = values.value.items

abbrev pub is_text : Value → Bool
is_text Null = false
is_text (Int n) = false
is_text (Text t) = true
