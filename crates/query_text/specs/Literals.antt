-- How much of some bytes a text may hold.
use Rattle.std.specs.Prelude.{◌≡◌, ℕ, ◌<◌, ◌≤◌, true, false, List, length, take, slice_index_or}
use Rattle.std.specs.List.{list_all}
use Rattle.adg_base.specs.Text.{is_text_byte}

-- so many bytes in front may stand in a text, and it may hold no more of them
pub record IsTextLen (bytes : List ℕ) (n : ℕ) : Type 0 where
  pub small : n ≤ 64
  pub within : n ≤ length bytes
  pub allowed : list_all is_text_byte (take n bytes) ≡ true
  pub ended : n < 64 → n < length bytes → is_text_byte (slice_index_or bytes n 0) ≡ false
