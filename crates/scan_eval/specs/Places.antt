-- The places of numbers and texts: each stands in its slot, or in a map where another has that.
use Rattle.std.specs.Prelude.{ℕ, ℤ, Bool, true, List, Option, None, Some, nat_eq, unsigned_abs, length, ◌+◌, ◌-◌, ◌*◌, ◌%◌, if◌then◌else◌}
use Rattle.std.specs.Option.{option_or}
use Rattle.std.specs.List.{slice_index_or}
use Rattle.std.specs.Ordering.{int_eq}
use Rattle.std.specs.Cmp.Lexicographic.{pointwise}
use Rattle.std.specs.HashMap.{get, get_by}
use Rattle.scan_eval.specs.declared.number_index.NumberIndex.{NumberIndex}
use Rattle.scan_eval.specs.declared.number_index.NumberPlace.{NumberPlace}
use Rattle.scan_eval.specs.declared.text_index.TextIndex.{TextIndex}
use Rattle.scan_eval.specs.declared.text_index.TextPlace.{TextPlace}

-- the slot of a number
abbrev pub number_slot : ℤ → ℕ
number_slot n = unsigned_abs n % 128

-- the slot of a text, by its first byte and its last two
abbrev pub text_slot : List ℕ → ℕ
text_slot t = (slice_index_or t 0 0 + 16 * slice_index_or t (length t - 2) 0 + slice_index_or t (length t - 1) 0) % 128

-- the place of a number, where it is the one in a slot
abbrev pub near_number : Option NumberPlace → ℤ → Option ℕ
near_number None n = None
near_number (Some e) n = if int_eq e.number n then Some e.place else None

-- the same of a text
abbrev pub near_text : Option TextPlace → List ℕ → Option ℕ
near_text None t = None
near_text (Some e) t = if pointwise nat_eq t e.text then Some e.place else None

-- a slot has no other number
abbrev pub is_number_open : Option NumberPlace → ℤ → Bool
is_number_open None n = true
is_number_open (Some e) n = int_eq e.number n

-- a slot has no other text
abbrev pub is_text_open : Option TextPlace → List ℕ → Bool
is_text_open None t = true
is_text_open (Some e) t = pointwise nat_eq t e.text

-- the place of a number, where it has one
abbrev pub number_place : NumberIndex → ℤ → Option ℕ
number_place index n = option_or (near_number (slice_index_or index.near.items (number_slot n) None) n) (get int_eq index.far n)

-- the place of a text, where it has one
abbrev pub text_place : TextIndex → List ℕ → Option ℕ
text_place index t = option_or (near_text (slice_index_or index.near.items (text_slot t) None) t) (get_by (λ key. pointwise nat_eq t key.items) index.far)
