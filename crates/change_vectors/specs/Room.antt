-- When a record is too long, and the room that a spelling leaves.
use Rattle.std.specs.Prelude.{ℕ, ◌-◌, ◌≤◌, ◌^◌, nat_lt, if◌then◌else◌, List, ◌∷◌, ◌++◌, length, Option, Some, None, ◌⊎◌}
use Rattle.std.specs.Int.{w16, w64, to_be_bytes}
use Rattle.adg_base.specs.declared.vector.Vector.{Vector}
use Rattle.adg_base.specs.declared.vector.RedoRecord.{RedoRecord}
use Rattle.adg_model.specs.Spelling.{vectors_bytes}
use Rattle.adg_model.specs.Records.{raw_of, raw_len}

-- more vectors than one byte counts, or more bytes than two bytes count
abbrev pub IsTooLong : RedoRecord → Type 0
IsTooLong r = (2 ^ 8 ≤ length r.vectors) ⊎ (2 ^ 16 ≤ raw_len (raw_of r))

-- what is left of a room after so many bytes, where they fit into it
abbrev pub room_after : ℕ → ℕ → Option ℕ
room_after room len = if nat_lt room len then None else Some (room - len)

-- the bytes of a record whose length is said to be this
abbrev pub framed : ℕ → ℕ → List Vector → List ℕ
framed len scn vectors = to_be_bytes w16 len ++ to_be_bytes w64 scn ++ length vectors ∷ vectors_bytes vectors ++ to_be_bytes w16 len
