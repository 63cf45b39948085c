-- The numbers that byteorder reads, the highest byte first, are those of std, which the definitions name.
use Rattle.std.proofs.Common.{◌≡◌, ℕ, List, take, arith}
use Rattle.std.specs.Int.{w16, w64, from_be_bytes}
use Rattle.std.proofs.lemmas.List.{get_or-take}
use Rattle.byteorder.specs.Endian.{big_number}

pub number_of_2 : (bytes : List ℕ) → big_number 2 bytes ≡ from_be_bytes w16 (take 2 bytes)
number_of_2 bytes = omega (arith, get_or-take 2 bytes 0 0 (omega arith), get_or-take 2 bytes 1 0 (omega arith))

pub number_of_8 : (bytes : List ℕ) → big_number 8 bytes ≡ from_be_bytes w64 (take 8 bytes)
number_of_8 bytes = omega (arith, get_or-take 8 bytes 0 0 (omega arith), get_or-take 8 bytes 1 0 (omega arith), get_or-take 8 bytes 2 0 (omega arith), get_or-take 8 bytes 3 0 (omega arith), get_or-take 8 bytes 4 0 (omega arith), get_or-take 8 bytes 5 0 (omega arith), get_or-take 8 bytes 6 0 (omega arith), get_or-take 8 bytes 7 0 (omega arith))
