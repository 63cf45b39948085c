-- Reading from left to right: what stands in front, and the bytes behind it.
use Rattle.std.specs.Prelude.{ℕ, pos, negsuc, zero, suc, ◌+◌, ◌-◌, ◌*◌, ◌^◌, Bool, true, false, List, [], ◌∷◌, Option, Some, None, nat_le, ◌==◌, ◌&&◌, if◌then◌else◌, codes}
use Rattle.adg_base.specs.Text.{is_text}
use Rattle.adg_base.specs.declared.value.ColKind.{ColKind}
use Rattle.adg_base.specs.declared.value.ColKind.TheVariants as kind
use Rattle.adg_base.specs.declared.value.Value.{Value}
use Rattle.adg_base.specs.declared.value.Value.TheVariants.{Null, Int, Text}
use Rattle.adg_base.specs.declared.vector.RedoRecord.{RedoRecord}
use Rattle.adg_base.specs.declared.vector.Vector.{Vector}
use Rattle.adg_base.specs.declared.vector.Vector.TheVariants.{Begin, Put, Delete, Undo, Commit, Abort, Create, DropObject, AddColumn, NoInMemory, EndThread}
use Rattle.change_vectors.specs.Reading.{◌>>=◌, not_zero}
use Rattle.change_vectors.specs.declared.change.Change.{Change}

-- what stands behind a word that is in front
abbrev pub behind : List ℕ → List ℕ → Option (List ℕ)
behind [] text = Some text
behind (w ∷ word) [] = None
behind (w ∷ word) (c ∷ text) = if c == w then behind word text else None

-- where a word was in front, what is behind it is read so; else what comes later is
abbrev pub choose : {X : Type 0} → Option (List ℕ) → (List ℕ → Option X) → Option X → Option X
choose (Some rest) read later = read rest
choose None read later = later

-- what stands before the first byte of a sort, and behind it where there is one
abbrev pub cut : ℕ → List ℕ → List ℕ × Option (List ℕ)
cut sep [] = ([], None)
cut sep (c ∷ text) = if c == sep then ([], Some text) else (c ∷ (cut sep text).0, (cut sep text).1)

abbrev pub is_digit : ℕ → Bool
is_digit c = nat_le 48 c && nat_le c 57

-- whether a digit is in front
abbrev pub has_digit : List ℕ → Bool
has_digit [] = false
has_digit (c ∷ text) = is_digit c

-- the number that the digits in front go on to; there is none above the limit
unfoldable pub digits_at : (limit number : ℕ) → List ℕ → Option (ℕ × List ℕ)
digits_at limit n [] = Some (n, [])
digits_at limit n (c ∷ text) =
    if is_digit c then (if nat_le (n * 10 + (c - 48)) limit then digits_at limit (n * 10 + (c - 48)) text else None)
    else Some (n, c ∷ text)

-- a number up to a limit
unfoldable pub number_at : ℕ → List ℕ → Option (ℕ × List ℕ)
number_at limit text = if has_digit text then digits_at limit 0 text else None

abbrev pub txn_at : List ℕ → Option (ℕ × List ℕ)
txn_at text = number_at (2 ^ 64 - 1) text

abbrev pub two_bytes_at : List ℕ → Option (ℕ × List ℕ)
two_bytes_at text = number_at 65535 text

abbrev pub byte_at : List ℕ → Option (ℕ × List ℕ)
byte_at text = number_at 255 text

-- a transaction and an address, as `7 t1.0.0`
unfoldable pub change_at : List ℕ → Option (Change × List ℕ)
change_at text = do
  txn ← not_zero (txn_at text)
  table ← behind (codes " t") txn.1
  obj ← not_zero (two_bytes_at table)
  dot ← behind (codes ".") obj.1
  block ← two_bytes_at dot
  last ← behind (codes ".") block.1
  slot ← byte_at last
  Some (record { txn = txn.0; obj = obj.0; block = block.0; slot = slot.0 }, slot.1)

-- one of two words, the first for true
unfoldable pub flag_at : List ℕ → List ℕ → List ℕ → Option (Bool × List ℕ)
flag_at yes_word no_word text =
    choose (behind yes_word text) (λ rest. Some (true, rest))
    (choose (behind no_word text) (λ rest. Some (false, rest)) None)

unfoldable pub kind_at : List ℕ → Option (ColKind × List ℕ)
kind_at text =
    choose (behind (codes "int") text) (λ rest. Some (kind.Int, rest))
    (choose (behind (codes "text") text) (λ rest. Some (kind.Text, rest)) None)

-- a text, behind its first quotation mark
abbrev pub quoted : List ℕ → Option (List ℕ) → Option (Value × List ℕ)
quoted text None = None
quoted text (Some rest) = if is_text text then Some (Text text, rest) else None

unfoldable pub text_at : List ℕ → Option (Value × List ℕ)
text_at text = quoted (cut 39 text).0 (cut 39 text).1

-- the integer of a sign and a size
abbrev pub negative : (ℕ × List ℕ) → Option (Value × List ℕ)
negative n = if n.0 == 0 then None else Some (Int (negsuc (n.0 - 1)), n.1)

unfoldable pub negative_at : List ℕ → Option (Value × List ℕ)
negative_at text = do
  n ← number_at (2 ^ 63) text
  negative n

unfoldable pub positive_at : List ℕ → Option (Value × List ℕ)
positive_at text = do
  n ← number_at (2 ^ 63 - 1) text
  Some (Int (pos n.0), n.1)

unfoldable pub value_at : List ℕ → Option (Value × List ℕ)
value_at text =
    choose (behind (codes "NULL") text) (λ rest. Some (Null, rest))
    (choose (behind (codes "'") text) text_at
    (choose (behind (codes "-") text) negative_at (positive_at text)))

-- So many things at most, each behind a word.
unfoldable pub more_at : {X : Type 0} → (List ℕ → Option (X × List ℕ)) → List ℕ → ℕ → List ℕ → Option (List X × List ℕ)
more_at read word zero text = Some ([], text)
more_at read word (suc n) text = choose (behind word text) (λ rest. read rest >>= λ x. more_at read word n x.1 >>= λ xs. Some (x.0 ∷ xs.0, xs.1)) (Some ([], text))

-- one thing, and more of them
unfoldable pub list_at : {X : Type 0} → (List ℕ → Option (X × List ℕ)) → List ℕ → ℕ → List ℕ → Option (List X × List ℕ)
list_at read word n text = do
  first ← read text
  others ← more_at read word n first.1
  Some (first.0 ∷ others.0, others.1)

-- things between brackets, a comma between them: 1 to 16
unfoldable pub bracketed_at : {X : Type 0} → (List ℕ → Option (X × List ℕ)) → List ℕ → Option (List X × List ℕ)
bracketed_at read text = do
  inside ← behind (codes " (") text
  things ← list_at read (codes ", ") 15 inside
  rest ← behind (codes ")") things.1
  Some (things.0, rest)

-- The fields of each vector.
unfoldable pub begin_at : List ℕ → Option (Vector × List ℕ)
begin_at text = do
  txn ← not_zero (txn_at text)
  Some (Begin txn.0, txn.1)

unfoldable pub put_at : List ℕ → Option (Vector × List ℕ)
put_at text = do
  change ← change_at text
  row ← bracketed_at value_at change.1
  Some (Put change.0.txn change.0.obj change.0.block change.0.slot row.0, row.1)

unfoldable pub delete_at : List ℕ → Option (Vector × List ℕ)
delete_at text = do
  change ← change_at text
  Some (Delete change.0.txn change.0.obj change.0.block change.0.slot, change.1)

unfoldable pub undo_at : List ℕ → Option (Vector × List ℕ)
undo_at text = do
  change ← change_at text
  Some (Undo change.0.txn change.0.obj change.0.block change.0.slot, change.1)

unfoldable pub commit_at : List ℕ → Option (Vector × List ℕ)
commit_at text = do
  txn ← not_zero (txn_at text)
  flag ← flag_at (codes " +") (codes " -") txn.1
  Some (Commit txn.0 flag.0, flag.1)

unfoldable pub abort_at : List ℕ → Option (Vector × List ℕ)
abort_at text = do
  txn ← not_zero (txn_at text)
  Some (Abort txn.0, txn.1)

unfoldable pub create_at : List ℕ → Option (Vector × List ℕ)
create_at text = do
  obj ← not_zero (two_bytes_at text)
  size ← behind (codes " x") obj.1
  extents ← two_bytes_at size
  flag ← flag_at (codes " im") (codes " plain") extents.1
  columns ← bracketed_at kind_at flag.1
  Some (Create obj.0 extents.0 flag.0 columns.0, columns.1)

unfoldable pub drop_object_at : List ℕ → Option (Vector × List ℕ)
drop_object_at text = do
  obj ← not_zero (two_bytes_at text)
  Some (DropObject obj.0, obj.1)

unfoldable pub add_column_at : List ℕ → Option (Vector × List ℕ)
add_column_at text = do
  obj ← not_zero (two_bytes_at text)
  blank ← behind (codes " ") obj.1
  k ← kind_at blank
  Some (AddColumn obj.0 k.0, k.1)

unfoldable pub no_in_memory_at : List ℕ → Option (Vector × List ℕ)
no_in_memory_at text = do
  obj ← not_zero (two_bytes_at text)
  Some (NoInMemory obj.0, obj.1)

-- a vector that changes an object or ends a thread
unfoldable pub definition_at : List ℕ → Option (Vector × List ℕ)
definition_at text =
    choose (behind (codes "Create t") text) create_at
    (choose (behind (codes "DropObject t") text) drop_object_at
    (choose (behind (codes "AddColumn t") text) add_column_at
    (choose (behind (codes "NoInMemory t") text) no_in_memory_at
    (choose (behind (codes "EndThread") text) (λ rest. Some (EndThread, rest)) None))))

unfoldable pub vector_at : List ℕ → Option (Vector × List ℕ)
vector_at text =
    choose (behind (codes "Begin ") text) begin_at
    (choose (behind (codes "Put ") text) put_at
    (choose (behind (codes "Delete ") text) delete_at
    (choose (behind (codes "Undo ") text) undo_at
    (choose (behind (codes "Commit ") text) commit_at
    (choose (behind (codes "Abort ") text) abort_at
    (definition_at text))))))

-- the vectors of a record; where a bar comes next it has none
unfoldable pub vectors_at : List ℕ → Option (List Vector × List ℕ)
vectors_at text =
    choose (behind (codes " |") text) (λ rest. Some ([], text))
    (choose (behind (codes " ") text) (list_at vector_at (codes "; ") 254)
    (Some ([], text)))

-- a record, from its SCN on
unfoldable pub record_at : List ℕ → Option (RedoRecord × List ℕ)
record_at text = do
  scn ← number_at (2 ^ 48 - 1) text
  colon ← behind (codes ":") scn.1
  vectors ← vectors_at colon
  Some (record { scn = scn.0; vectors = vectors.0 }, vectors.1)
