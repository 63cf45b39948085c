-- Vectors are read as they are spelled.
use Rattle.std.proofs.Common.{◌≡◌, ℕ, ◌^◌, ◌<◌, ◌≤◌, Bool, true, cond, leb, eqb, ◌&&◌, List, [], ◌∷◌, ◌++◌, Some, None, refl, ap, subst, ◌∙◌, append_assoc, arith}
use Rattle.std.specs.Int.{w16, w64, to_be_bytes}
use Rattle.std.proofs.lemmas.Bool.{leb-true, le-leb, eqb-true, and_parts, and_from}
use Rattle.adg_base.specs.declared.value.ColKind.{ColKind}
use Rattle.adg_base.specs.declared.value.Value.{Value}
use Rattle.adg_base.specs.declared.vector.Vector.{Vector}
use Rattle.adg_base.specs.declared.vector.Vector.TheVariants.{Begin, Put, Delete, Undo, Commit, Abort, Create, DropObject, AddColumn, NoInMemory, EndThread}
use Rattle.adg_model.specs.Spelling.{row_bytes, txn_bytes, obj_bytes, change_bytes, vector_bytes, IsTxn, IsObj, IsRow, IsChange, IsCreate, IsVector}
use Rattle.change_vectors.specs.declared.change.Change.{Change}
use Rattle.change_vectors.specs.Reading.{◌>>=◌, byte_at, number_at, flag_at, kind_at, change_at, row_at, columns_at, begin_at, put_at, delete_at, undo_at, commit_at, abort_at, extents_at, create_at, drop_object_at, add_column_at, no_in_memory_at, end_at, fields_at, vector_at}
use Rattle.adg_model.specs.Records.{IsByte}
use Rattle.adg_model.proofs.Bytes.{IsBytes}
use Rattle.change_vectors.proofs.Readers.{IsBytes_rest, some_is, Takes, Takes_then, Reads, step}
use Rattle.change_vectors.proofs.Fields.{byte_reads, wide16, wide64, number_reads, name_at, name_reads, when_some}
use Rattle.change_vectors.proofs.Values.{choose, Always, flag_bytes, kind_bytes, flag_reads, kind_reads, row_reads, columns_bytes, AreColumns, columns_reads}

abbrev txn_reads : Reads (name_at w64) txn_bytes IsTxn
txn_reads = name_reads w64 (2 ^ 64) wide64

abbrev obj_reads : Reads (name_at w16) obj_bytes IsObj
obj_reads = name_reads w16 (2 ^ 16) wide16

abbrev IsBlock : ℕ → Type 0
IsBlock block = block < 2 ^ 16

abbrev block_reads : Reads (number_at w16) (to_be_bytes w16) IsBlock
block_reads = number_reads w16 (2 ^ 16) wide16

-- ---- a transaction and an address

abbrev bytes_of : Change → List ℕ
bytes_of c = change_bytes c.txn c.obj c.block c.slot

abbrev IsGood : Change → Type 0
IsGood c = IsChange c.txn c.obj c.block c.slot

abbrev TakesChange : List ℕ → Change × List ℕ → Type 0
TakesChange bytes x = Takes bytes (bytes_of x.0) x.1 × IsGood x.0

taken : (bytes : List ℕ) (x y : Change × List ℕ) → x ≡ y → TakesChange bytes x → TakesChange bytes y
taken bytes x y e t = subst (λ (z : Change × List ℕ). TakesChange bytes z) e t

change_takes : (bytes : List ℕ) (c : Change) (rest : List ℕ) → IsBytes bytes → change_at bytes ≡ Some (c, rest) → Takes bytes (bytes_of c) rest × IsGood c
unfolding change_at
change_takes bytes c rest fits e =
    let s1 = step (name_at w64) txn_bytes IsTxn txn_reads (λ txn. name_at w16 txn.1 >>= λ obj. number_at w16 obj.1 >>= λ block. byte_at block.1 >>= λ slot. Some (record { txn = txn.0; obj = obj.0; block = block.0; slot = slot.0 }, slot.1)) bytes (c, rest) fits e in
    let s2 = step (name_at w16) obj_bytes IsObj obj_reads (λ obj. number_at w16 obj.1 >>= λ block. byte_at block.1 >>= λ slot. Some (record { txn = s1.value; obj = obj.0; block = block.0; slot = slot.0 }, slot.1)) s1.rest (c, rest) s1.took.rest_fits s1.later in
    let s3 = step (number_at w16) (to_be_bytes w16) IsBlock block_reads (λ block. byte_at block.1 >>= λ slot. Some (record { txn = s1.value; obj = s2.value; block = block.0; slot = slot.0 }, slot.1)) s2.rest (c, rest) s2.took.rest_fits s2.later in
    let s4 = step byte_at (λ x. x ∷ []) IsByte byte_reads (λ slot. Some (record { txn = s1.value; obj = s2.value; block = s3.value; slot = slot.0 }, slot.1)) s3.rest (c, rest) s3.took.rest_fits s3.later in
    let t2 = Takes_then bytes (txn_bytes s1.value) s1.rest (obj_bytes s2.value) s2.rest s1.took s2.took in
    let t3 = Takes_then bytes (txn_bytes s1.value ++ obj_bytes s2.value) s2.rest (to_be_bytes w16 s3.value) s3.rest t2 s3.took in
    let t4 = Takes_then bytes (txn_bytes s1.value ++ obj_bytes s2.value ++ to_be_bytes w16 s3.value) s3.rest (s4.value ∷ []) s4.rest t3 s4.took in
    let made : Change = record { txn = s1.value; obj = s2.value; block = s3.value; slot = s4.value } in
    taken bytes (made, s4.rest) (c, rest) (some_is (made, s4.rest) (c, rest) s4.later) (t4, record { good_txn = s1.good; good_obj = s2.good; good_block = s3.good; good_slot = s4.good })

change_again : (c : Change) (rest : List ℕ) → IsGood c → change_at (bytes_of c ++ rest) ≡ Some (c, rest)
unfolding change_at
change_again c rest good =
    let whole : bytes_of c ++ rest ≡ txn_bytes c.txn ++ (obj_bytes c.obj ++ (to_be_bytes w16 c.block ++ (c.slot ∷ rest))) = simp append_assoc in
    ap change_at whole ∙ rw (txn_reads.again c.txn (obj_bytes c.obj ++ (to_be_bytes w16 c.block ++ (c.slot ∷ rest))) good.good_txn, obj_reads.again c.obj (to_be_bytes w16 c.block ++ (c.slot ∷ rest)) good.good_obj, block_reads.again c.block (c.slot ∷ rest) good.good_block) refl

change_reads : Reads change_at bytes_of IsGood
change_reads = record { takes = change_takes; again = change_again }

-- ---- what stands behind a tag

-- what a reader of the fields behind a tag took, with the tag
abbrev Behind : ℕ → ℕ → List ℕ → Vector → List ℕ → Type 0
Behind count tag bytes v rest = Takes (tag ∷ bytes) (vector_bytes v) rest × IsVector count v

behind : (count tag : ℕ) (bytes : List ℕ) (x y : Vector × List ℕ) → x ≡ y → Behind count tag bytes x.0 x.1 → Behind count tag bytes y.0 y.1
behind count tag bytes x y e t = subst (λ (z : Vector × List ℕ). Behind count tag bytes z.0 z.1) e t

tagged : (tag : ℕ) (bytes text rest : List ℕ) → Takes bytes text rest → Takes (tag ∷ bytes) (tag ∷ text) rest
tagged tag bytes text rest t = record { parts = ap (λ (x : List ℕ). tag ∷ x) t.parts; rest_fits = t.rest_fits }

begin_takes : (count : ℕ) (bytes : List ℕ) (v : Vector) (rest : List ℕ) → IsBytes bytes → begin_at bytes ≡ Some (v, rest) → Behind count 0x01 bytes v rest
unfolding begin_at
begin_takes count bytes v rest fits e =
    let s = step (name_at w64) txn_bytes IsTxn txn_reads (λ txn. Some (Begin txn.0, txn.1)) bytes (v, rest) fits e in
    behind count 0x01 bytes (Begin s.value, s.rest) (v, rest) (some_is (Begin s.value, s.rest) (v, rest) s.later) (tagged 0x01 bytes (txn_bytes s.value) s.rest s.took, s.good)

begin_again : (txn : ℕ) (rest : List ℕ) → IsTxn txn → begin_at (txn_bytes txn ++ rest) ≡ Some (Begin txn, rest)
unfolding begin_at
begin_again txn rest good = rw (txn_reads.again txn rest good) refl

abort_takes : (count : ℕ) (bytes : List ℕ) (v : Vector) (rest : List ℕ) → IsBytes bytes → abort_at bytes ≡ Some (v, rest) → Behind count 0x06 bytes v rest
unfolding abort_at
abort_takes count bytes v rest fits e =
    let s = step (name_at w64) txn_bytes IsTxn txn_reads (λ txn. Some (Abort txn.0, txn.1)) bytes (v, rest) fits e in
    behind count 0x06 bytes (Abort s.value, s.rest) (v, rest) (some_is (Abort s.value, s.rest) (v, rest) s.later) (tagged 0x06 bytes (txn_bytes s.value) s.rest s.took, s.good)

abort_again : (txn : ℕ) (rest : List ℕ) → IsTxn txn → abort_at (txn_bytes txn ++ rest) ≡ Some (Abort txn, rest)
unfolding abort_at
abort_again txn rest good = rw (txn_reads.again txn rest good) refl

delete_takes : (count : ℕ) (bytes : List ℕ) (v : Vector) (rest : List ℕ) → IsBytes bytes → delete_at bytes ≡ Some (v, rest) → Behind count 0x03 bytes v rest
unfolding delete_at
delete_takes count bytes v rest fits e =
    let s = step change_at bytes_of IsGood change_reads (λ c. Some (Delete c.0.txn c.0.obj c.0.block c.0.slot, c.1)) bytes (v, rest) fits e in
    behind count 0x03 bytes (Delete s.value.txn s.value.obj s.value.block s.value.slot, s.rest) (v, rest) (some_is (Delete s.value.txn s.value.obj s.value.block s.value.slot, s.rest) (v, rest) s.later) (tagged 0x03 bytes (bytes_of s.value) s.rest s.took, s.good)

delete_again : (c : Change) (rest : List ℕ) → IsGood c → delete_at (bytes_of c ++ rest) ≡ Some (Delete c.txn c.obj c.block c.slot, rest)
unfolding delete_at
delete_again c rest good = rw (change_again c rest good) refl

undo_takes : (count : ℕ) (bytes : List ℕ) (v : Vector) (rest : List ℕ) → IsBytes bytes → undo_at bytes ≡ Some (v, rest) → Behind count 0x04 bytes v rest
unfolding undo_at
undo_takes count bytes v rest fits e =
    let s = step change_at bytes_of IsGood change_reads (λ c. Some (Undo c.0.txn c.0.obj c.0.block c.0.slot, c.1)) bytes (v, rest) fits e in
    behind count 0x04 bytes (Undo s.value.txn s.value.obj s.value.block s.value.slot, s.rest) (v, rest) (some_is (Undo s.value.txn s.value.obj s.value.block s.value.slot, s.rest) (v, rest) s.later) (tagged 0x04 bytes (bytes_of s.value) s.rest s.took, s.good)

undo_again : (c : Change) (rest : List ℕ) → IsGood c → undo_at (bytes_of c ++ rest) ≡ Some (Undo c.txn c.obj c.block c.slot, rest)
unfolding undo_at
undo_again c rest good = rw (change_again c rest good) refl

put_takes : (count : ℕ) (bytes : List ℕ) (v : Vector) (rest : List ℕ) → IsBytes bytes → put_at bytes ≡ Some (v, rest) → Behind count 0x02 bytes v rest
unfolding put_at
put_takes count bytes v rest fits e =
    let s1 = step change_at bytes_of IsGood change_reads (λ c. row_at c.1 >>= λ row. Some (Put c.0.txn c.0.obj c.0.block c.0.slot row.0, row.1)) bytes (v, rest) fits e in
    let s2 = step row_at row_bytes IsRow row_reads (λ row. Some (Put s1.value.txn s1.value.obj s1.value.block s1.value.slot row.0, row.1)) s1.rest (v, rest) s1.took.rest_fits s1.later in
    let both = Takes_then bytes (bytes_of s1.value) s1.rest (row_bytes s2.value) s2.rest s1.took s2.took in
    behind count 0x02 bytes (Put s1.value.txn s1.value.obj s1.value.block s1.value.slot s2.value, s2.rest) (v, rest) (some_is (Put s1.value.txn s1.value.obj s1.value.block s1.value.slot s2.value, s2.rest) (v, rest) s2.later) (tagged 0x02 bytes (bytes_of s1.value ++ row_bytes s2.value) s2.rest both, (s1.good, s2.good))

put_again : (c : Change) (row : List Value) (rest : List ℕ) → IsGood c → IsRow row → put_at ((bytes_of c ++ row_bytes row) ++ rest) ≡ Some (Put c.txn c.obj c.block c.slot row, rest)
unfolding put_at
put_again c row rest good rows =
    ap put_at (append_assoc (bytes_of c) (row_bytes row) rest) ∙ rw (change_again c (row_bytes row ++ rest) good, row_reads.again row rest rows) refl

commit_takes : (count : ℕ) (bytes : List ℕ) (v : Vector) (rest : List ℕ) → IsBytes bytes → commit_at bytes ≡ Some (v, rest) → Behind count 0x05 bytes v rest
unfolding commit_at
commit_takes count bytes v rest fits e =
    let s1 = step (name_at w64) txn_bytes IsTxn txn_reads (λ txn. flag_at txn.1 >>= λ flag. Some (Commit txn.0 flag.0, flag.1)) bytes (v, rest) fits e in
    let s2 = step flag_at flag_bytes Always flag_reads (λ flag. Some (Commit s1.value flag.0, flag.1)) s1.rest (v, rest) s1.took.rest_fits s1.later in
    let both = Takes_then bytes (txn_bytes s1.value) s1.rest (flag_bytes s2.value) s2.rest s1.took s2.took in
    behind count 0x05 bytes (Commit s1.value s2.value, s2.rest) (v, rest) (some_is (Commit s1.value s2.value, s2.rest) (v, rest) s2.later) (tagged 0x05 bytes (txn_bytes s1.value ++ flag_bytes s2.value) s2.rest both, s1.good)

commit_again : (txn : ℕ) (flag : Bool) (rest : List ℕ) → IsTxn txn → commit_at ((txn_bytes txn ++ flag_bytes flag) ++ rest) ≡ Some (Commit txn flag, rest)
unfolding commit_at
commit_again txn flag rest good =
    ap commit_at (append_assoc (txn_bytes txn) (flag_bytes flag) rest) ∙ rw (txn_reads.again txn (flag_bytes flag ++ rest) good, flag_reads.again flag rest tt) refl

drop_takes : (count : ℕ) (bytes : List ℕ) (v : Vector) (rest : List ℕ) → IsBytes bytes → drop_object_at bytes ≡ Some (v, rest) → Behind count 0x08 bytes v rest
unfolding drop_object_at
drop_takes count bytes v rest fits e =
    let s = step (name_at w16) obj_bytes IsObj obj_reads (λ obj. Some (DropObject obj.0, obj.1)) bytes (v, rest) fits e in
    behind count 0x08 bytes (DropObject s.value, s.rest) (v, rest) (some_is (DropObject s.value, s.rest) (v, rest) s.later) (tagged 0x08 bytes (obj_bytes s.value) s.rest s.took, s.good)

drop_again : (obj : ℕ) (rest : List ℕ) → IsObj obj → drop_object_at (obj_bytes obj ++ rest) ≡ Some (DropObject obj, rest)
unfolding drop_object_at
drop_again obj rest good = rw (obj_reads.again obj rest good) refl

no_in_memory_takes : (count : ℕ) (bytes : List ℕ) (v : Vector) (rest : List ℕ) → IsBytes bytes → no_in_memory_at bytes ≡ Some (v, rest) → Behind count 0x0a bytes v rest
unfolding no_in_memory_at
no_in_memory_takes count bytes v rest fits e =
    let s = step (name_at w16) obj_bytes IsObj obj_reads (λ obj. Some (NoInMemory obj.0, obj.1)) bytes (v, rest) fits e in
    behind count 0x0a bytes (NoInMemory s.value, s.rest) (v, rest) (some_is (NoInMemory s.value, s.rest) (v, rest) s.later) (tagged 0x0a bytes (obj_bytes s.value) s.rest s.took, s.good)

no_in_memory_again : (obj : ℕ) (rest : List ℕ) → IsObj obj → no_in_memory_at (obj_bytes obj ++ rest) ≡ Some (NoInMemory obj, rest)
unfolding no_in_memory_at
no_in_memory_again obj rest good = rw (obj_reads.again obj rest good) refl

add_column_takes : (count : ℕ) (bytes : List ℕ) (v : Vector) (rest : List ℕ) → IsBytes bytes → add_column_at bytes ≡ Some (v, rest) → Behind count 0x09 bytes v rest
unfolding add_column_at
add_column_takes count bytes v rest fits e =
    let s1 = step (name_at w16) obj_bytes IsObj obj_reads (λ obj. kind_at obj.1 >>= λ k. Some (AddColumn obj.0 k.0, k.1)) bytes (v, rest) fits e in
    let s2 = step kind_at kind_bytes Always kind_reads (λ k. Some (AddColumn s1.value k.0, k.1)) s1.rest (v, rest) s1.took.rest_fits s1.later in
    let both = Takes_then bytes (obj_bytes s1.value) s1.rest (kind_bytes s2.value) s2.rest s1.took s2.took in
    behind count 0x09 bytes (AddColumn s1.value s2.value, s2.rest) (v, rest) (some_is (AddColumn s1.value s2.value, s2.rest) (v, rest) s2.later) (tagged 0x09 bytes (obj_bytes s1.value ++ kind_bytes s2.value) s2.rest both, s1.good)

add_column_again : (obj : ℕ) (k : ColKind) (rest : List ℕ) → IsObj obj → add_column_at ((obj_bytes obj ++ kind_bytes k) ++ rest) ≡ Some (AddColumn obj k, rest)
unfolding add_column_at
add_column_again obj k rest good =
    ap add_column_at (append_assoc (obj_bytes obj) (kind_bytes k) rest) ∙ rw (obj_reads.again obj (kind_bytes k ++ rest) good, kind_reads.again k rest tt) refl

-- ---- how many extents

abbrev AreExtents : ℕ → Type 0
AreExtents n = (1 ≤ n) × (n ≤ 256)

extents_takes : (bytes : List ℕ) (n : ℕ) (rest : List ℕ) → IsBytes bytes → extents_at bytes ≡ Some (n, rest) → Takes bytes (to_be_bytes w16 n) rest × AreExtents n
unfolding extents_at
extents_takes bytes n rest fits e =
    let s = step (number_at w16) (to_be_bytes w16) IsBlock block_reads (λ n. cond (leb 1 n.0 && leb n.0 256) (Some n) None) bytes (n, rest) fits e in
    let g = when_some (leb 1 s.value && leb s.value 256) (s.value, s.rest) (n, rest) s.later in
    let p = and_parts (leb 1 s.value) (leb s.value 256) g.0 in
    subst (λ (y : ℕ × List ℕ). Takes bytes (to_be_bytes w16 y.0) y.1 × AreExtents y.0) g.1 (s.took, (leb-true 1 s.value p.0, leb-true s.value 256 p.1))

extents_again : (n : ℕ) (rest : List ℕ) → AreExtents n → extents_at (to_be_bytes w16 n ++ rest) ≡ Some (n, rest)
unfolding extents_at
extents_again n rest good =
    let test : (leb 1 n && leb n 256) ≡ true = and_from (leb 1 n) (leb n 256) (le-leb 1 n good.0) (le-leb n 256 good.1) in
    rw (block_reads.again n rest (omega (arith, good.1))) (rw test refl)

extents_reads : Reads extents_at (to_be_bytes w16) AreExtents
extents_reads = record { takes = extents_takes; again = extents_again }

create_takes : (count : ℕ) (bytes : List ℕ) (v : Vector) (rest : List ℕ) → IsBytes bytes → create_at bytes ≡ Some (v, rest) → Behind count 0x07 bytes v rest
unfolding create_at
create_takes count bytes v rest fits e =
    let s1 = step (name_at w16) obj_bytes IsObj obj_reads (λ obj. extents_at obj.1 >>= λ extents. flag_at extents.1 >>= λ flag. columns_at flag.1 >>= λ columns. Some (Create obj.0 extents.0 flag.0 columns.0, columns.1)) bytes (v, rest) fits e in
    let s2 = step extents_at (to_be_bytes w16) AreExtents extents_reads (λ extents. flag_at extents.1 >>= λ flag. columns_at flag.1 >>= λ columns. Some (Create s1.value extents.0 flag.0 columns.0, columns.1)) s1.rest (v, rest) s1.took.rest_fits s1.later in
    let s3 = step flag_at flag_bytes Always flag_reads (λ flag. columns_at flag.1 >>= λ columns. Some (Create s1.value s2.value flag.0 columns.0, columns.1)) s2.rest (v, rest) s2.took.rest_fits s2.later in
    let s4 = step columns_at columns_bytes AreColumns columns_reads (λ columns. Some (Create s1.value s2.value s3.value columns.0, columns.1)) s3.rest (v, rest) s3.took.rest_fits s3.later in
    let t3 = Takes_then s2.rest (flag_bytes s3.value) s3.rest (columns_bytes s4.value) s4.rest s3.took s4.took in
    let t2 = Takes_then bytes (obj_bytes s1.value) s1.rest (to_be_bytes w16 s2.value) s2.rest s1.took s2.took in
    let t4 = Takes_then bytes (obj_bytes s1.value ++ to_be_bytes w16 s2.value) s2.rest (flag_bytes s3.value ++ columns_bytes s4.value) s4.rest t2 t3 in
    let good : IsCreate s1.value s2.value s4.value = record { good_obj = s1.good; some_extents = s2.good.0; few_extents = s2.good.1; some_columns = s4.good.0; few_columns = s4.good.1 } in
    behind count 0x07 bytes (Create s1.value s2.value s3.value s4.value, s4.rest) (v, rest) (some_is (Create s1.value s2.value s3.value s4.value, s4.rest) (v, rest) s4.later) (tagged 0x07 bytes (obj_bytes s1.value ++ to_be_bytes w16 s2.value ++ (flag_bytes s3.value ++ columns_bytes s4.value)) s4.rest t4, good)

create_again : (obj extents : ℕ) (flag : Bool) (columns : List ColKind) (rest : List ℕ) → IsCreate obj extents columns → create_at ((obj_bytes obj ++ to_be_bytes w16 extents ++ (flag_bytes flag ++ columns_bytes columns)) ++ rest) ≡ Some (Create obj extents flag columns, rest)
unfolding create_at
create_again obj extents flag columns rest good =
    let whole : (obj_bytes obj ++ to_be_bytes w16 extents ++ (flag_bytes flag ++ columns_bytes columns)) ++ rest ≡ obj_bytes obj ++ (to_be_bytes w16 extents ++ (flag_bytes flag ++ (columns_bytes columns ++ rest))) = simp append_assoc in
    ap create_at whole ∙ rw (obj_reads.again obj (to_be_bytes w16 extents ++ (flag_bytes flag ++ (columns_bytes columns ++ rest))) good.good_obj, extents_again extents (flag_bytes flag ++ (columns_bytes columns ++ rest)) (good.some_extents, good.few_extents), flag_reads.again flag (columns_bytes columns ++ rest) tt, columns_reads.again columns rest (good.some_columns, good.few_columns)) refl

end_takes : (count : ℕ) (bytes : List ℕ) (v : Vector) (rest : List ℕ) → IsBytes bytes → end_at count bytes ≡ Some (v, rest) → Behind count 0x0b bytes v rest
unfolding end_at
end_takes count bytes v rest fits e =
    let g = when_some (eqb count 1) (EndThread, bytes) (v, rest) e in
    subst (λ (y : Vector × List ℕ). Behind count 0x0b bytes y.0 y.1) g.1 (record { parts = refl; rest_fits = fits }, eqb-true count 1 g.0)

end_again : (count : ℕ) (rest : List ℕ) → count ≡ 1 → end_at count rest ≡ Some (EndThread, rest)
unfolding end_at
end_again count rest is = rw is refl

-- ---- vectors

fields_take : (count tag : ℕ) (bytes : List ℕ) (v : Vector) (rest : List ℕ) → IsBytes bytes → fields_at count tag bytes ≡ Some (v, rest) → Behind count tag bytes v rest
unfolding fields_at
fields_take count tag bytes v rest fits e =
    let P : ℕ → Type 0 = λ t. Behind count t bytes v rest in
    choose P tag 0x01 _ _ _ (λ is. begin_takes count bytes v rest fits is) (
    choose P tag 0x02 _ _ _ (λ is. put_takes count bytes v rest fits is) (
    choose P tag 0x03 _ _ _ (λ is. delete_takes count bytes v rest fits is) (
    choose P tag 0x04 _ _ _ (λ is. undo_takes count bytes v rest fits is) (
    choose P tag 0x05 _ _ _ (λ is. commit_takes count bytes v rest fits is) (
    choose P tag 0x06 _ _ _ (λ is. abort_takes count bytes v rest fits is) (
    choose P tag 0x07 _ _ _ (λ is. create_takes count bytes v rest fits is) (
    choose P tag 0x08 _ _ _ (λ is. drop_takes count bytes v rest fits is) (
    choose P tag 0x09 _ _ _ (λ is. add_column_takes count bytes v rest fits is) (
    choose P tag 0x0a _ _ _ (λ is. no_in_memory_takes count bytes v rest fits is) (
    choose P tag 0x0b _ _ _ (λ is. end_takes count bytes v rest fits is) (λ is. absurd cc))))))))))) e

vector_takes : (count : ℕ) (bytes : List ℕ) (v : Vector) (rest : List ℕ) → IsBytes bytes → vector_at count bytes ≡ Some (v, rest) → Takes bytes (vector_bytes v) rest × IsVector count v
unfolding vector_at
vector_takes count [] v rest fits e = absurd cc
vector_takes count (tag ∷ bytes) v rest fits e = fields_take count tag bytes v rest (IsBytes_rest tag bytes fits) e

vector_again : (count : ℕ) (v : Vector) (rest : List ℕ) → IsVector count v → vector_at count (vector_bytes v ++ rest) ≡ Some (v, rest)
unfolding vector_at fields_at
vector_again count (Begin txn) rest good = begin_again txn rest good
vector_again count (Put txn obj block slot row) rest good = put_again (record { txn = txn; obj = obj; block = block; slot = slot }) row rest good.0 good.1
vector_again count (Delete txn obj block slot) rest good = delete_again (record { txn = txn; obj = obj; block = block; slot = slot }) rest good
vector_again count (Undo txn obj block slot) rest good = undo_again (record { txn = txn; obj = obj; block = block; slot = slot }) rest good
vector_again count (Commit txn flag) rest good = commit_again txn flag rest good
vector_again count (Abort txn) rest good = abort_again txn rest good
vector_again count (Create obj extents flag columns) rest good = create_again obj extents flag columns rest good
vector_again count (DropObject obj) rest good = drop_again obj rest good
vector_again count (AddColumn obj k) rest good = add_column_again obj k rest good
vector_again count (NoInMemory obj) rest good = no_in_memory_again obj rest good
vector_again count EndThread rest good = end_again count rest good

pub vector_reads : (count : ℕ) → Reads (vector_at count) vector_bytes (IsVector count)
vector_reads count = record { takes = vector_takes count; again = vector_again count }
