-- The order of values, the cells that print them, and a value where it lies.
use Rattle.std.specs.Prelude.{Bool, true, false}
use Rattle.std.specs.Ordering.{nat_cmp, int_cmp, is_eq}
use Rattle.std.specs.Cmp.Lexicographic.{slice_cmp}
use Rattle.std.specs.declared.cmp.Ordering.{Ordering}
use Rattle.std.specs.declared.cmp.Ordering.TheVariants.{Less, Equal, Greater}
use Rattle.adg_base.specs.declared.value.Value.{Value}
use Rattle.adg_base.specs.declared.value.Value.TheVariants.{Null, Int, Text}
use Rattle.adg_base.specs.declared.answer.Cell.{Cell}
use Rattle.adg_base.specs.declared.answer.Cell.TheVariants as cell
use Rattle.adg_base.specs.declared.value_ref.ValueRef.{ValueRef}
use Rattle.adg_base.specs.declared.value_ref.ValueRef.TheVariants as lent

-- values of one kind in their order, Null before all; texts compare by bytes
abbrev pub value_cmp : Value → Value → Ordering
value_cmp Null Null = Equal
value_cmp Null (Int b) = Less
value_cmp Null (Text b) = Less
value_cmp (Int a) Null = Greater
value_cmp (Int a) (Int b) = int_cmp a b
value_cmp (Int a) (Text b) = Less
value_cmp (Text a) Null = Greater
value_cmp (Text a) (Int b) = Greater
value_cmp (Text a) (Text b) = slice_cmp nat_cmp a b

-- two values are the same
abbrev pub same : Value → Value → Bool
same v w = is_eq (value_cmp v w)

abbrev pub is_null : Value → Bool
is_null Null = true
is_null (Int n) = false
is_null (Text t) = false

-- the cell that prints a value
abbrev pub cell_of : Value → Cell
cell_of Null = cell.Null
cell_of (Int n) = cell.Number n
cell_of (Text t) = cell.Text t

-- a value where it lies, as the value that it shows
abbrev pub shown : ValueRef → Value
shown lent.Null = Null
shown (lent.Int n) = Int n
shown (lent.Text t) = Text t.now
