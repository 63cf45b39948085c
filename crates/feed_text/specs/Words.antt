-- How values, vectors and records are written.
use Rattle.std.specs.Prelude.{ℕ, Bool, true, false, List, [], ◌∷◌, ◌++◌, codes}
use Rattle.std.specs.List.{flat_map}
use Rattle.std.specs.Fmt.{decimal, signed_decimal}
use Rattle.adg_base.specs.declared.value.ColKind.{ColKind}
use Rattle.adg_base.specs.declared.value.ColKind.TheVariants as kind
use Rattle.adg_base.specs.declared.value.Value.{Value}
use Rattle.adg_base.specs.declared.value.Value.TheVariants.{Null, Int, Text}
use Rattle.adg_base.specs.declared.vector.RedoRecord.{RedoRecord}
use Rattle.adg_base.specs.declared.vector.Vector.{Vector}
use Rattle.adg_base.specs.declared.vector.Vector.TheVariants.{Begin, Put, Delete, Undo, Commit, Abort, Create, DropObject, AddColumn, NoInMemory, EndThread}

-- a value: NULL, an integer in decimal, or a text between quotation marks
abbrev pub value_text : Value → List ℕ
value_text Null = codes "NULL"
value_text (Int n) = signed_decimal n
value_text (Text text) = codes "'" ++ text ++ codes "'"

abbrev pub kind_text : ColKind → List ℕ
kind_text kind.Int = codes "int"
kind_text kind.Text = codes "text"

-- things between brackets, a comma between them
abbrev pub bracketed : {X : Type 0} → (X → List ℕ) → List X → List ℕ
bracketed show [] = codes " ()"
bracketed show (x ∷ xs) = codes " (" ++ show x ++ flat_map (λ y. codes ", " ++ show y) xs ++ codes ")"

-- a transaction and an address
abbrev pub change_text : (txn obj block slot : ℕ) → List ℕ
change_text txn obj block slot = decimal txn ++ codes " t" ++ decimal obj ++ codes "." ++ decimal block ++ codes "." ++ decimal slot

-- whether a transaction changed an in-memory object, and whether an object is in-memory
abbrev pub commit_flag : Bool → List ℕ
commit_flag true = codes " +"
commit_flag false = codes " -"

abbrev pub create_flag : Bool → List ℕ
create_flag true = codes " im"
create_flag false = codes " plain"

-- the name of a vector, and its fields in their order
abbrev pub vector_text : Vector → List ℕ
vector_text (Begin txn) = codes "Begin " ++ decimal txn
vector_text (Put txn obj block slot row) = codes "Put " ++ change_text txn obj block slot ++ bracketed value_text row
vector_text (Delete txn obj block slot) = codes "Delete " ++ change_text txn obj block slot
vector_text (Undo txn obj block slot) = codes "Undo " ++ change_text txn obj block slot
vector_text (Commit txn flag) = codes "Commit " ++ decimal txn ++ commit_flag flag
vector_text (Abort txn) = codes "Abort " ++ decimal txn
vector_text (Create obj extents flag columns) =
    codes "Create t" ++ decimal obj ++ codes " x" ++ decimal extents ++ create_flag flag ++ bracketed kind_text columns
vector_text (DropObject obj) = codes "DropObject t" ++ decimal obj
vector_text (AddColumn obj k) = codes "AddColumn t" ++ decimal obj ++ codes " " ++ kind_text k
vector_text (NoInMemory obj) = codes "NoInMemory t" ++ decimal obj
vector_text EndThread = codes "EndThread"

-- vectors behind a colon, a semicolon between them
abbrev pub vectors_text : List Vector → List ℕ
vectors_text [] = []
vectors_text (v ∷ vs) = codes " " ++ vector_text v ++ flat_map (λ w. codes "; " ++ vector_text w) vs

-- a record: its SCN and its vectors
abbrev pub record_text : RedoRecord → List ℕ
record_text r = decimal r.scn ++ codes ":" ++ vectors_text r.vectors

-- the records of a thread in one frame, a bar between them
abbrev pub records_text : List RedoRecord → List ℕ
records_text [] = []
records_text (r ∷ rs) = record_text r ++ flat_map (λ s. codes " | @" ++ record_text s) rs
