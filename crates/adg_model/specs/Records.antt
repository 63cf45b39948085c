-- The records of a redo thread, first as bytes alone and then with their vectors.
use Rattle.std.specs.Prelude.{◌≡◌, ℕ, ◌+◌, ◌-◌, ◌<◌, ◌≤◌, ◌^◌, Bool, false, not, ◌==◌, nat_lt, nat_le, ◌&&◌, ◌||◌, if◌then◌else◌, List, [], ◌∷◌, ◌++◌, length, take, drop, map, Option, Some, None, ◌⊎◌}
use Rattle.std.specs.List.{flat_map, AllByRecursion}
use Rattle.std.specs.Int.{w16, w64, to_be_bytes, from_be_bytes}
use Rattle.adg_base.specs.declared.vector.RedoRecord.{RedoRecord}
use Rattle.adg_model.specs.declared.delivery.RedoPiece.{RedoPiece}
use Rattle.adg_model.specs.declared.delivery.RawDelivery.{RawDelivery}
use Rattle.adg_model.specs.declared.fault.FrameKind.{FrameKind}
use Rattle.adg_model.specs.declared.fault.FrameKind.TheVariants.{BadLength, BadTrailer, ScnRange, ScnOrder, AfterEnd}
use Rattle.adg_model.specs.declared.fault.RedoKind.{RedoKind}
use Rattle.adg_model.specs.declared.fault.RedoKind.TheVariants as redo
use Rattle.adg_model.specs.Spelling.{vectors_bytes, AreVectors, IsBadVector}

-- a record as bytes: its SCN, how many vectors it says that it has, and the bytes of the vectors
pub record Raw : Type 0 where
  pub scn : ℕ
  pub count : ℕ
  pub body : List ℕ

-- the length of the whole record, which stands at both of its ends
abbrev pub raw_len : Raw → ℕ
raw_len r = 13 + length r.body

-- the one spelling of a record
unfoldable pub raw_bytes : Raw → List ℕ
raw_bytes r = to_be_bytes w16 (raw_len r) ++ to_be_bytes w64 r.scn ++ r.count ∷ r.body ++ to_be_bytes w16 (raw_len r)

abbrev pub IsByte : ℕ → Type 0
IsByte byte = byte < 2 ^ 8

pub record IsRaw (r : Raw) : Type 0 where
  pub from : 1 ≤ r.scn
  pub to : r.scn < 2 ^ 48
  pub count : r.count < 2 ^ 8
  pub len : raw_len r < 2 ^ 16

-- whether a record ends its thread: it has one vector, whose first byte is that of the end of a thread
abbrev pub begins_with_end : List ℕ → Bool
begins_with_end [] = false
begins_with_end (byte ∷ bytes) = byte == 0x0b

abbrev pub is_end : Raw → Bool
is_end r = (r.count == 1) && begins_with_end r.body

-- where a thread stands: the SCN of its last record, 0 before the first, and whether it has ended
pub record Mark : Type 0 where
  pub scn : ℕ
  pub ended : Bool

abbrev pub first_mark : Mark
first_mark = record { scn = 0; ended = false }

abbrev pub mark_of : Raw → Mark
mark_of r = record { scn = r.scn; ended = is_end r }

-- where a thread stands after some more records
abbrev pub mark_after : Mark → List Raw → Mark
mark_after mark [] = mark
mark_after mark (r ∷ rs) = mark_after (mark_of r) rs

-- records that may follow: their SCNs rise, and none comes after the end of the thread
abbrev pub AreRaws : Mark → List Raw → Type 0
AreRaws mark [] = Unit {0}
AreRaws mark (r ∷ rs) = IsRaw r × (mark.ended ≡ false) × (mark.scn < r.scn) × AreRaws (mark_of r) rs

-- the length that the first two bytes of a record say
abbrev pub stated_len : List ℕ → ℕ
stated_len bytes = from_be_bytes w16 (take 2 bytes)

abbrev pub stated_scn : List ℕ → ℕ
stated_scn bytes = from_be_bytes w64 (take 8 (drop 2 bytes))

-- the first of the three checks that a whole record of this length fails
abbrev pub whole_fault : ℕ → List ℕ → ℕ → Option FrameKind
whole_fault last bytes len =
    if not (from_be_bytes w16 (take 2 (drop (len - 2) bytes)) == len) then Some BadTrailer
    else if (stated_scn bytes == 0) || nat_le (2 ^ 48) (stated_scn bytes) then Some ScnRange
    else if nat_le (stated_scn bytes) last then Some ScnOrder
    else None

-- What is wrong with the record that begins here, where the thread stands at a mark: bytes after the
-- end of the thread, then a short length, then, on the whole record, its trailer, its SCN and the order.
-- Nothing is, as long as the record is not whole and its length is right.
unfoldable pub record_fault : Mark → List ℕ → Option FrameKind
record_fault mark bytes =
    if mark.ended then (if length bytes == 0 then None else Some AfterEnd)
    else if nat_lt (length bytes) 2 then None
    else if nat_lt (stated_len bytes) 13 then Some BadLength
    else if nat_lt (length bytes) (stated_len bytes) then None
    else whole_fault mark.scn bytes (stated_len bytes)

-- no whole record begins here
abbrev pub IsPart : List ℕ → Type 0
IsPart bytes = (length bytes < 2) ⊎ (length bytes < stated_len bytes)

-- A text from a mark on is these records, and then less than a whole one with nothing wrong so far.
pub record SplitsFrom (mark : Mark) (text : List ℕ) (records : List Raw) (rest : List ℕ) : Type 0 where
  pub spelled : text ≡ flat_map raw_bytes records ++ rest
  pub follow : AreRaws mark records
  pub part : IsPart rest
  pub good : record_fault (mark_after mark records) rest ≡ None

-- A text from a mark on is these records, and the record after them has this fault.
pub record FailsFrom (mark : Mark) (text : List ℕ) (records : List Raw) (fault : FrameKind) : Type 0 where
  pub rest : List ℕ
  pub spelled : text ≡ flat_map raw_bytes records ++ rest
  pub follow : AreRaws mark records
  pub shown : record_fault (mark_after mark records) rest ≡ Some fault

-- a record with its vectors as bytes, and what such a record is
abbrev pub raw_of : RedoRecord → Raw
raw_of r = record { scn = r.scn; count = length r.vectors; body = vectors_bytes r.vectors }

abbrev pub record_bytes : RedoRecord → List ℕ
record_bytes r = raw_bytes (raw_of r)

pub record IsRecord (r : RedoRecord) : Type 0 where
  pub raw : IsRaw (raw_of r)
  pub vectors : AreVectors (length r.vectors) r.vectors

-- the text of a thread: the redo bytes of its pieces in some deliveries, one after another
abbrev pub bytes_for : ℕ → RedoPiece → List ℕ
bytes_for thread piece = if piece.thread == thread then piece.bytes else []

abbrev pub thread_text : ℕ → List RawDelivery → List ℕ
thread_text thread deliveries = flat_map (λ d. flat_map (bytes_for thread) d.pieces) deliveries

-- records whose vectors can all be read
abbrev pub AreReadable : List RedoRecord → Type 0
AreReadable records = AllByRecursion (λ r. AreVectors (length r.vectors) r.vectors) records

-- these are the records of a text: their spellings, and less than a whole record, are the text
pub record HasRecords (text : List ℕ) (records : List RedoRecord) : Type 0 where
  pub rest : List ℕ
  pub raws : SplitsFrom first_mark text (map raw_of records) rest
  pub vectors : AreReadable records

-- After these records of a text comes a whole one with good frame whose vector of this index cannot be read.
pub record HasBadVector (text : List ℕ) (records : List RedoRecord) (index : ℕ) : Type 0 where
  pub bad : Raw
  pub rest : List ℕ
  pub spelled : text ≡ flat_map raw_bytes (map raw_of records ++ bad ∷ []) ++ rest
  pub follow : AreRaws first_mark (map raw_of records ++ bad ∷ [])
  pub vectors : AreReadable records
  pub shown : IsBadVector bad.count bad.body index

-- The first bad record of a text: it follows these records, and this is what is wrong with it.
abbrev pub HasBadRecord : List ℕ → List RedoRecord → RedoKind → Type 0
HasBadRecord text records (redo.Frame fault) = FailsFrom first_mark text (map raw_of records) fault × AreReadable records
HasBadRecord text records (redo.BadVector index) = HasBadVector text records index
HasBadRecord text records (redo.Unsound index check) = ⊥
