-- What a tally holds of the rows that it has seen.
use Rattle.std.specs.Prelude.{ℕ, ◌+◌, pos, Bool, not, ◌&&◌, ◌||◌, ◌==◌, if◌then◌else◌, List, [], ◌∷◌, length, map}
use Rattle.std.specs.Ordering.{is_lt, is_gt}
use Rattle.std.specs.declared.cmp.Ordering.{Ordering}
use Rattle.adg_base.specs.declared.value.Value.{Value}
use Rattle.adg_base.specs.declared.value.Value.TheVariants.{Null}
use Rattle.adg_base.specs.declared.answer.Cell.{Cell}
use Rattle.adg_base.specs.declared.answer.Cell.TheVariants as cell
use Rattle.adg_base.specs.declared.command.Aggregate.{Aggregate}
use Rattle.adg_base.specs.declared.command.Aggregate.TheVariants as aggregate
use Rattle.adg_model.specs.Query.{value_in, values_in, chosen}
use Rattle.adg_base.specs.Values.{value_cmp, is_null, cell_of}
use Rattle.scan_eval.specs.Summed.{Summed, summed, with_term, joined}
use Rattle.scan_eval.specs.declared.tally.Tally.{Tally}
use Rattle.scan_eval.specs.declared.tally.Tally.TheVariants.{Count, Sum, Least, Greatest}

-- the value that is chosen of a list, or Null of none
abbrev pub best : (Ordering → Bool) → List Value → Value
best better [] = Null
best better (v ∷ vs) = chosen better v vs

-- what a tally holds of these rows
abbrev pub tally_of : List (List Value) → Aggregate → Tally
tally_of rows aggregate.Count = Count (length rows)
tally_of rows (aggregate.Sum c) = Sum c (summed (values_in c rows))
tally_of rows (aggregate.Min c) = Least c (best is_lt (values_in c rows))
tally_of rows (aggregate.Max c) = Greatest c (best is_gt (values_in c rows))

abbrev pub tallies_of : List Aggregate → List (List Value) → List Tally
tallies_of aggregates rows = map (tally_of rows) aggregates

-- the lesser and the greater of two values, of which either may be Null
abbrev pub is_lower : Value → Value → Bool
is_lower w v = not (is_null w) && (is_null v || is_lt (value_cmp w v))

abbrev pub lesser : Value → Value → Value
lesser v w = if is_lower w v then w else v

abbrev pub greater : Value → Value → Value
greater v w = if is_gt (value_cmp w v) then w else v

-- a tally with one row more
abbrev pub with_row : List Value → Tally → Tally
with_row row (Count n) = Count (n + 1)
with_row row (Sum c s) = Sum c (with_term s (value_in c row))
with_row row (Least c v) = Least c (lesser v (value_in c row))
with_row row (Greatest c v) = Greatest c (greater v (value_in c row))

-- a tally with the rows of another of the same aggregate
abbrev pub with_tally : Tally → Tally → Tally
with_tally (Count n) (Count m) = Count (n + m)
with_tally (Sum c s) (Sum d t) = Sum c (joined s t)
with_tally (Least c v) (Least d w) = Least c (lesser v w)
with_tally (Greatest c v) (Greatest d w) = Greatest c (greater v w)
with_tally t u = t

-- how many rows or values it has counted at most
abbrev pub size_of : Tally → ℕ
size_of (Count n) = n
size_of (Sum c s) = s.terms
size_of (Least c v) = 0
size_of (Greatest c v) = 0

-- the cell that prints it
abbrev pub sum_cell_of : Summed → Cell
sum_cell_of s = if s.terms == 0 then cell.Null else cell.Number s.amount

abbrev pub tally_cell : Tally → Cell
tally_cell (Count n) = cell.Number (pos n)
tally_cell (Sum c s) = sum_cell_of s
tally_cell (Least c v) = cell_of v
tally_cell (Greatest c v) = cell_of v
