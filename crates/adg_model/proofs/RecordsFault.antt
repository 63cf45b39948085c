-- The answer of record_fault, case by case.
use Rattle.std.proofs.Common.{◌≡◌, ℕ, ◌-◌, ◌<◌, ◌≤◌, ◌^◌, true, false, List, length, take, drop, Some, None, arith}
use Rattle.std.specs.Int.{w16, from_be_bytes}
use Rattle.adg_model.specs.declared.fault.FrameKind.TheVariants.{BadLength, BadTrailer, ScnRange, ScnOrder, AfterEnd}
use Rattle.adg_model.specs.Records.{Mark, stated_len, stated_scn, whole_fault, record_fault}

-- the two bytes at the end of a whole record
abbrev pub trailer_at : List ℕ → ℕ → ℕ
trailer_at bytes len = from_be_bytes w16 (take 2 (drop (len - 2) bytes))

pub fault_after_end : (mark : Mark) (bytes : List ℕ) → mark.ended ≡ true → 0 < length bytes → record_fault mark bytes ≡ Some AfterEnd
unfolding record_fault
fault_after_end mark bytes ended some = grind arith

pub fault_nothing : (mark : Mark) (bytes : List ℕ) → mark.ended ≡ true → length bytes ≡ 0 → record_fault mark bytes ≡ None
unfolding record_fault
fault_nothing mark bytes ended none = grind arith

pub fault_begun : (mark : Mark) (bytes : List ℕ) → mark.ended ≡ false → length bytes < 2 → record_fault mark bytes ≡ None
unfolding record_fault
fault_begun mark bytes ended few = grind arith

pub fault_length : (mark : Mark) (bytes : List ℕ) → mark.ended ≡ false → 2 ≤ length bytes → stated_len bytes < 13 → record_fault mark bytes ≡ Some BadLength
unfolding record_fault
fault_length mark bytes ended some short = grind arith

pub fault_part : (mark : Mark) (bytes : List ℕ) → mark.ended ≡ false → 2 ≤ length bytes → 13 ≤ stated_len bytes → length bytes < stated_len bytes → record_fault mark bytes ≡ None
unfolding record_fault
fault_part mark bytes ended some long part = grind arith

pub fault_whole : (mark : Mark) (bytes : List ℕ) → mark.ended ≡ false → 13 ≤ stated_len bytes → stated_len bytes ≤ length bytes → record_fault mark bytes ≡ whole_fault mark.scn bytes (stated_len bytes)
unfolding record_fault
fault_whole mark bytes ended long whole = grind arith

pub whole_trailer : (last : ℕ) (bytes : List ℕ) (len : ℕ) → (trailer_at bytes len ≡ len → ⊥) → whole_fault last bytes len ≡ Some BadTrailer
whole_trailer last bytes len bad = grind arith

pub whole_range : (last : ℕ) (bytes : List ℕ) (len : ℕ) → trailer_at bytes len ≡ len → ((1 ≤ stated_scn bytes) × (stated_scn bytes < 2 ^ 48) → ⊥) → whole_fault last bytes len ≡ Some ScnRange
whole_range last bytes len good bad = grind arith

pub whole_order : (last : ℕ) (bytes : List ℕ) (len : ℕ) → trailer_at bytes len ≡ len → 1 ≤ stated_scn bytes → stated_scn bytes < 2 ^ 48 → stated_scn bytes ≤ last → whole_fault last bytes len ≡ Some ScnOrder
whole_order last bytes len good from to bad = grind arith
