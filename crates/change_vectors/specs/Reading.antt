-- Reading from left to right: what stands at the front, and the bytes after it.
use Rattle.std.specs.Prelude.{◌≡◌, ℕ, zero, suc, Bool, true, false, List, [], ◌∷◌, length, take, drop, Option, Some, None, Result, Ok, Err, nat_lt, nat_le, ◌==◌, ◌&&◌, if◌then◌else◌}
use Rattle.std.specs.Int.{Width, w16, w64, byte_len, from_be_bytes, cast_signed}
use Rattle.adg_base.specs.Text.{is_text}
use Rattle.adg_base.specs.declared.value.ColKind.{ColKind}
use Rattle.adg_base.specs.declared.value.ColKind.TheVariants as kind
use Rattle.adg_base.specs.declared.value.Value.{Value}
use Rattle.adg_base.specs.declared.value.Value.TheVariants.{Null, Int, Text}
use Rattle.adg_base.specs.declared.vector.Vector.{Vector}
use Rattle.adg_base.specs.declared.vector.Vector.TheVariants.{Begin, Put, Delete, Undo, Commit, Abort, Create, DropObject, AddColumn, NoInMemory, EndThread}
use Rattle.change_vectors.specs.declared.unread.Unread.{Unread}
use Rattle.change_vectors.specs.declared.unread.Unspelled.{Unspelled}
use Rattle.change_vectors.specs.declared.unread.Unread.TheVariants.{Memory, Bad}
use Rattle.change_vectors.specs.declared.change.Change.{Change}

infixl 10 ◌>>=◌
abbrev pub ◌>>=◌ : {A B : Type 0} → Option A → (A → Option B) → Option B
(Some x) >>= f = f x
None >>= f = None

-- What a function returned, seen by view, is what reading gives, unless memory ran out.
abbrev pub Fails : {Y : Type 0} → Unread → Option Y → Type 0
Fails Memory read = Unit {0}
Fails Bad read = read ≡ None

abbrev pub Gives : {X Y : Type 0} → (X → Y) → Result X Unread → Option Y → Type 0
Gives view (Ok x) read = read ≡ Some (view x)
Gives view (Err e) read = Fails e read

-- What a function that takes no memory returned, seen by view, is what reading gives.
abbrev pub Finds : {X Y : Type 0} → (X → Y) → Result X Unspelled → Option Y → Type 0
Finds view (Ok x) read = read ≡ Some (view x)
Finds view (Err e) read = read ≡ None

-- A byte, and a number of some bytes.
abbrev pub byte_at : List ℕ → Option (ℕ × List ℕ)
byte_at [] = None
byte_at (byte ∷ bytes) = Some (byte, bytes)

abbrev pub number_at : Width → List ℕ → Option (ℕ × List ℕ)
number_at w bytes = if nat_lt (length bytes) (byte_len w) then None else Some (from_be_bytes w (take (byte_len w) bytes), drop (byte_len w) bytes)

-- a transaction or an object: a number that is not 0
abbrev pub not_zero : Option (ℕ × List ℕ) → Option (ℕ × List ℕ)
not_zero None = None
not_zero (Some n) = if n.0 == 0 then None else Some n

abbrev pub flag_of : ℕ → Option Bool
flag_of byte = if byte == 0 then Some false else if byte == 1 then Some true else None

abbrev pub kind_of : ℕ → Option ColKind
kind_of byte = if byte == 1 then Some kind.Int else if byte == 2 then Some kind.Text else None

unfoldable pub flag_at : List ℕ → Option (Bool × List ℕ)
flag_at bytes = do
  byte ← byte_at bytes
  flag ← flag_of byte.0
  Some (flag, byte.1)

unfoldable pub kind_at : List ℕ → Option (ColKind × List ℕ)
kind_at bytes = do
  byte ← byte_at bytes
  k ← kind_of byte.0
  Some (k, byte.1)

-- a transaction and an address
unfoldable pub change_at : List ℕ → Option (Change × List ℕ)
change_at bytes = do
  txn ← not_zero (number_at w64 bytes)
  obj ← not_zero (number_at w16 txn.1)
  block ← number_at w16 obj.1
  slot ← byte_at block.1
  Some (record { txn = txn.0; obj = obj.0; block = block.0; slot = slot.0 }, slot.1)

-- so many things, one after another
unfoldable pub many_at : {X : Type 0} → (List ℕ → Option (X × List ℕ)) → ℕ → List ℕ → Option (List X × List ℕ)
many_at read zero bytes = Some ([], bytes)
many_at read (suc n) bytes = do
  first ← read bytes
  others ← many_at read n first.1
  Some (first.0 ∷ others.0, others.1)

-- how many columns there are: 1 to 16
unfoldable pub width_at : List ℕ → Option (ℕ × List ℕ)
width_at bytes = do
  width ← byte_at bytes
  if nat_le 1 width.0 && nat_le width.0 16 then Some width else None

unfoldable pub int_at : List ℕ → Option (Value × List ℕ)
int_at bytes = do
  n ← number_at w64 bytes
  Some (Int (cast_signed w64 n.0), n.1)

-- a length, and that many bytes of a text
unfoldable pub text_at : List ℕ → Option (Value × List ℕ)
text_at bytes = do
  n ← byte_at bytes
  if nat_lt (length n.1) n.0 then None else if is_text (take n.0 n.1) then Some (Text (take n.0 n.1), drop n.0 n.1) else None

unfoldable pub value_at : List ℕ → Option (Value × List ℕ)
value_at bytes = do
  tag ← byte_at bytes
  if tag.0 == 0 then Some (Null, tag.1) else if tag.0 == 1 then int_at tag.1 else if tag.0 == 2 then text_at tag.1 else None

unfoldable pub row_at : List ℕ → Option (List Value × List ℕ)
row_at bytes = do
  width ← width_at bytes
  many_at value_at width.0 width.1

unfoldable pub columns_at : List ℕ → Option (List ColKind × List ℕ)
columns_at bytes = do
  width ← width_at bytes
  many_at kind_at width.0 width.1

-- The fields of each vector.
unfoldable pub begin_at : List ℕ → Option (Vector × List ℕ)
begin_at bytes = do
  txn ← not_zero (number_at w64 bytes)
  Some (Begin txn.0, txn.1)

unfoldable pub put_at : List ℕ → Option (Vector × List ℕ)
put_at bytes = do
  change ← change_at bytes
  row ← row_at change.1
  Some (Put change.0.txn change.0.obj change.0.block change.0.slot row.0, row.1)

unfoldable pub delete_at : List ℕ → Option (Vector × List ℕ)
delete_at bytes = do
  change ← change_at bytes
  Some (Delete change.0.txn change.0.obj change.0.block change.0.slot, change.1)

unfoldable pub undo_at : List ℕ → Option (Vector × List ℕ)
undo_at bytes = do
  change ← change_at bytes
  Some (Undo change.0.txn change.0.obj change.0.block change.0.slot, change.1)

unfoldable pub commit_at : List ℕ → Option (Vector × List ℕ)
commit_at bytes = do
  txn ← not_zero (number_at w64 bytes)
  flag ← flag_at txn.1
  Some (Commit txn.0 flag.0, flag.1)

unfoldable pub abort_at : List ℕ → Option (Vector × List ℕ)
abort_at bytes = do
  txn ← not_zero (number_at w64 bytes)
  Some (Abort txn.0, txn.1)

-- how many extents there are: 1 to 256
unfoldable pub extents_at : List ℕ → Option (ℕ × List ℕ)
extents_at bytes = do
  extents ← number_at w16 bytes
  if nat_le 1 extents.0 && nat_le extents.0 256 then Some extents else None

unfoldable pub create_at : List ℕ → Option (Vector × List ℕ)
create_at bytes = do
  obj ← not_zero (number_at w16 bytes)
  extents ← extents_at obj.1
  flag ← flag_at extents.1
  columns ← columns_at flag.1
  Some (Create obj.0 extents.0 flag.0 columns.0, columns.1)

unfoldable pub drop_object_at : List ℕ → Option (Vector × List ℕ)
drop_object_at bytes = do
  obj ← not_zero (number_at w16 bytes)
  Some (DropObject obj.0, obj.1)

unfoldable pub add_column_at : List ℕ → Option (Vector × List ℕ)
add_column_at bytes = do
  obj ← not_zero (number_at w16 bytes)
  k ← kind_at obj.1
  Some (AddColumn obj.0 k.0, k.1)

unfoldable pub no_in_memory_at : List ℕ → Option (Vector × List ℕ)
no_in_memory_at bytes = do
  obj ← not_zero (number_at w16 bytes)
  Some (NoInMemory obj.0, obj.1)

-- the end of a thread, which has no fields and stands alone in its record
unfoldable pub end_at : ℕ → List ℕ → Option (Vector × List ℕ)
end_at count bytes = if count == 1 then Some (EndThread, bytes) else None

-- the fields behind a tag, in a record with so many vectors
unfoldable pub fields_at : ℕ → ℕ → List ℕ → Option (Vector × List ℕ)
fields_at count tag bytes =
    if tag == 0x01 then begin_at bytes
    else if tag == 0x02 then put_at bytes
    else if tag == 0x03 then delete_at bytes
    else if tag == 0x04 then undo_at bytes
    else if tag == 0x05 then commit_at bytes
    else if tag == 0x06 then abort_at bytes
    else if tag == 0x07 then create_at bytes
    else if tag == 0x08 then drop_object_at bytes
    else if tag == 0x09 then add_column_at bytes
    else if tag == 0x0a then no_in_memory_at bytes
    else if tag == 0x0b then end_at count bytes
    else None

unfoldable pub vector_at : ℕ → List ℕ → Option (Vector × List ℕ)
vector_at count bytes = do
  tag ← byte_at bytes
  fields_at count tag.0 tag.1
