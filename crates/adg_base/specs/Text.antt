use Rattle.std.specs.Prelude.{ℕ, Bool, List, length, nat_le, ◌&&◌, ◌==◌, not, IsTrue}
use Rattle.std.specs.List.{list_all}

-- a printable ASCII byte, the quotation mark ' and the bar | left out
abbrev pub is_text_byte : ℕ → Bool
is_text_byte byte = nat_le 0x20 byte && nat_le byte 0x7e && not (byte == 0x27) && not (byte == 0x7c)

-- at most 64 such bytes
abbrev pub is_text : List ℕ → Bool
is_text bytes = nat_le (length bytes) 64 && list_all is_text_byte bytes

abbrev pub IsText : List ℕ → Type 0
IsText bytes = IsTrue (is_text bytes)
