-- The one spelling of a value, a row, a vector and the vectors of a record, and what has one.
use Rattle.std.specs.Prelude.{◌≡◌, ℕ, ◌+◌, ◌<◌, ◌≤◌, ◌^◌, Bool, true, false, List, [], ◌∷◌, ◌++◌, length, FitsSigned}
use Rattle.std.specs.List.{flat_map, AllByRecursion}
use Rattle.std.specs.Int.{w16, w64, to_be_bytes, cast_unsigned}
use Rattle.adg_base.specs.Text.{IsText}
use Rattle.adg_base.specs.declared.value.ColKind.{ColKind}
use Rattle.adg_base.specs.declared.value.ColKind.TheVariants as kind
use Rattle.adg_base.specs.declared.value.Value.{Value}
use Rattle.adg_base.specs.declared.value.Value.TheVariants.{Null, Int, Text}
use Rattle.adg_base.specs.declared.vector.Vector.{Vector}
use Rattle.adg_base.specs.declared.vector.Vector.TheVariants.{Begin, Put, Delete, Undo, Commit, Abort, Create, DropObject, AddColumn, NoInMemory, EndThread}

-- a byte for a flag and for the kind of a column
abbrev pub flag_byte : Bool → ℕ
flag_byte false = 0
flag_byte true = 1

abbrev pub kind_byte : ColKind → ℕ
kind_byte kind.Int = 1
kind_byte kind.Text = 2

-- a tag, and behind it a number in two's complement, or a length and that many bytes
abbrev pub value_bytes : Value → List ℕ
value_bytes Null = 0 ∷ []
value_bytes (Int n) = 1 ∷ to_be_bytes w64 (cast_unsigned w64 n)
value_bytes (Text text) = 2 ∷ length text ∷ text

-- how many values there are, and the values
abbrev pub row_bytes : List Value → List ℕ
row_bytes row = length row ∷ flat_map value_bytes row

abbrev pub txn_bytes : ℕ → List ℕ
txn_bytes txn = to_be_bytes w64 txn

abbrev pub obj_bytes : ℕ → List ℕ
obj_bytes obj = to_be_bytes w16 obj

-- a transaction and an address
abbrev pub change_bytes : ℕ → ℕ → ℕ → ℕ → List ℕ
change_bytes txn obj block slot = txn_bytes txn ++ obj_bytes obj ++ to_be_bytes w16 block ++ slot ∷ []

-- a tag, and the fields in their order
abbrev pub vector_bytes : Vector → List ℕ
vector_bytes (Begin txn) = 0x01 ∷ txn_bytes txn
vector_bytes (Put txn obj block slot row) = 0x02 ∷ change_bytes txn obj block slot ++ row_bytes row
vector_bytes (Delete txn obj block slot) = 0x03 ∷ change_bytes txn obj block slot
vector_bytes (Undo txn obj block slot) = 0x04 ∷ change_bytes txn obj block slot
vector_bytes (Commit txn flag) = 0x05 ∷ txn_bytes txn ++ flag_byte flag ∷ []
vector_bytes (Abort txn) = 0x06 ∷ txn_bytes txn
vector_bytes (Create obj extents flag columns) =
    0x07 ∷ obj_bytes obj ++ to_be_bytes w16 extents ++ flag_byte flag ∷ length columns ∷ flat_map (λ k. kind_byte k ∷ []) columns
vector_bytes (DropObject obj) = 0x08 ∷ obj_bytes obj
vector_bytes (AddColumn obj k) = 0x09 ∷ obj_bytes obj ++ kind_byte k ∷ []
vector_bytes (NoInMemory obj) = 0x0a ∷ obj_bytes obj
vector_bytes EndThread = 0x0b ∷ []

-- the vectors of a record, one after another
abbrev pub vectors_bytes : List Vector → List ℕ
vectors_bytes vectors = flat_map vector_bytes vectors

-- What has a spelling: numbers of their ranges, texts, and lists that are neither empty nor too long.
abbrev pub IsTxn : ℕ → Type 0
IsTxn txn = (1 ≤ txn) × (txn < 2 ^ 64)

abbrev pub IsObj : ℕ → Type 0
IsObj obj = (1 ≤ obj) × (obj < 2 ^ 16)

abbrev pub IsValue : Value → Type 0
IsValue Null = Unit {0}
IsValue (Int n) = FitsSigned w64 n
IsValue (Text text) = IsText text

pub record IsRow (row : List Value) : Type 0 where
  pub some : 1 ≤ length row
  pub few : length row ≤ 16
  pub values : AllByRecursion IsValue row

pub record IsChange (txn obj block slot : ℕ) : Type 0 where
  pub good_txn : IsTxn txn
  pub good_obj : IsObj obj
  pub good_block : block < 2 ^ 16
  pub good_slot : slot < 2 ^ 8

pub record IsCreate (obj extents : ℕ) (columns : List ColKind) : Type 0 where
  pub good_obj : IsObj obj
  pub some_extents : 1 ≤ extents
  pub few_extents : extents ≤ 256
  pub some_columns : 1 ≤ length columns
  pub few_columns : length columns ≤ 16

-- a vector that a record with so many vectors may have: the end of a thread stands alone
abbrev pub IsVector : ℕ → Vector → Type 0
IsVector count (Begin txn) = IsTxn txn
IsVector count (Put txn obj block slot row) = IsChange txn obj block slot × IsRow row
IsVector count (Delete txn obj block slot) = IsChange txn obj block slot
IsVector count (Undo txn obj block slot) = IsChange txn obj block slot
IsVector count (Commit txn flag) = IsTxn txn
IsVector count (Abort txn) = IsTxn txn
IsVector count (Create obj extents flag columns) = IsCreate obj extents columns
IsVector count (DropObject obj) = IsObj obj
IsVector count (AddColumn obj k) = IsObj obj
IsVector count (NoInMemory obj) = IsObj obj
IsVector count EndThread = count ≡ 1

-- vectors that a record with so many vectors may have
abbrev pub AreVectors : ℕ → List Vector → Type 0
AreVectors count vectors = AllByRecursion (IsVector count) vectors

-- The index, from 1, of the first vector that cannot be read in these bytes of a record with so many
-- vectors: the vectors before it are there, and no vector begins after them. Where all of them can be
-- read and bytes remain, the index is one more than the count.
pub record IsBadVector (count : ℕ) (body : List ℕ) (index : ℕ) : Type 0 where
  pub before : List Vector
  pub rest : List ℕ
  pub place : length before + 1 ≡ index
  pub within : index ≤ count + 1
  pub readable : AreVectors count before
  pub spelled : body ≡ vectors_bytes before ++ rest
  pub none : index ≤ count → (vector : Vector) (more : List ℕ) → IsVector count vector → rest ≡ vector_bytes vector ++ more → ⊥
  pub remains : index ≡ count + 1 → 1 ≤ length rest
