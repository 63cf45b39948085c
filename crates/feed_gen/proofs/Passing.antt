-- What was written passes the checks of a log.
use Rattle.std.proofs.Common.{◌≡◌, ℕ, zero, suc, ◌+◌, ◌*◌, ◌/◌, ◌<◌, ◌≤◌, Bool, true, false, cond, List, [], ◌∷◌, ◌++◌, Some, None, refl, sym, ap, ◌∙◌, subst, arith, inl, inr, eq-eqb}
use Rattle.std.specs.Prelude.{◌==◌, ◌||◌, ℤ}
use Rattle.std.specs.List.{AllByRecursion, flat_map, range_with_len}
use Rattle.std.proofs.Math.Nat.{div-mul-le_self, mul-le-mul_left}
use Rattle.std.proofs.lemmas.Bool.{cases_eq, lt-ltb, eqb-true}
use Rattle.adg_base.specs.Address.{Place, place, same_place}
use Rattle.adg_base.specs.declared.vector.Vector.{Vector}
use Rattle.adg_base.specs.declared.vector.Vector.TheVariants.{Begin, Put, Delete, Undo, Commit, Abort, Create, DropObject, AddColumn, NoInMemory, EndThread}
use Rattle.adg_model.specs.Database.{Database, Table, set_at, has_change, after, no_database}
use Rattle.adg_model.specs.Sound.{refusal, has_address}
use Rattle.feed_gen.specs.Tables.{extents_of, block_of, slot_of, kinds, put, undo, first_balance, puts}
use Rattle.feed_gen.specs.Bounds.{IsTable, IsRowNumber}

-- vectors that no check refuses, and what they make
abbrev pub Passes : Database → List Vector → Type 0
Passes db [] = Unit {0}
Passes db (v ∷ vs) = (refusal db v ≡ None) × Passes (after db v) vs

abbrev pub made_by : Database → List Vector → Database
made_by db [] = db
made_by db (v ∷ vs) = made_by (after db v) vs

pub passes_append : (db : Database) (vs ws : List Vector) → Passes db vs → Passes (made_by db vs) ws → Passes db (vs ++ ws)
passes_append db [] ws h k = k
passes_append db (v ∷ vs) ws h k = (h.0, passes_append (after db v) vs ws h.1 k)

pub made_append : (db : Database) (vs ws : List Vector) → made_by db (vs ++ ws) ≡ made_by (made_by db vs) ws
made_append db [] ws = refl
made_append db (v ∷ vs) ws = made_append (after db v) vs ws

-- ---- a function with another value at one number

pub set_same : {X : Type 0} (k : ℕ) (x : X) (f : ℕ → X) → set_at k x f k ≡ x
set_same k x f = ap (λ b. cond b x (f k)) (eq-eqb k k refl)

pub set_other : {X : Type 0} (k : ℕ) (x : X) (f : ℕ → X) (n : ℕ) → (n ≡ k → ⊥) → set_at k x f n ≡ f n
set_other k x f n ne = by_test (n == k) refl
  where
    by_test : (b : Bool) → (n == k) ≡ b → cond b x (f n) ≡ f n
    by_test true t = absurd (ne (eqb-true n k t))
    by_test false t = refl

pub same_itself : (a : Place) → same_place a a ≡ true
same_itself a = rw (eq-eqb a.obj a.obj refl, eq-eqb a.block a.block refl, eq-eqb a.slot a.slot refl) refl

-- ---- transactions that leave each other alone

-- a vector of a transaction
abbrev pub OfTxn : ℕ → Vector → Type 0
OfTxn s (Begin t) = t ≡ s
OfTxn s (Put t o b k row) = t ≡ s
OfTxn s (Delete t o b k) = t ≡ s
OfTxn s (Undo t o b k) = t ≡ s
OfTxn s (Commit t flag) = t ≡ s
OfTxn s (Abort t) = t ≡ s
OfTxn s (Create o e f columns) = ⊥
OfTxn s (DropObject o) = ⊥
OfTxn s (AddColumn o k) = ⊥
OfTxn s (NoInMemory o) = ⊥
OfTxn s EndThread = ⊥

-- a transaction stands as before
pub record Same (t : ℕ) (old new : Database) : Type 0 where
  pub begun : new.begun t ≡ old.begun t
  pub ended : new.ended t ≡ old.ended t
  pub noted : new.noted t ≡ old.noted t
  pub pending : new.pending t ≡ old.pending t

apart_from : (s t u : ℕ) → t ≡ s → (u ≡ s → ⊥) → u ≡ t → ⊥
apart_from s t u e ne f = ne (f ∙ e)

same_after : (s u : ℕ) (db : Database) (v : Vector) → OfTxn s v → (u ≡ s → ⊥) → Same u db (after db v)
same_after s u db (Begin t) e ne =
    record { begun = set_other t true db.begun u (apart_from s t u e ne); ended = refl; noted = refl; pending = refl }
same_after s u db (Put t o b k row) e ne =
    record { begun = refl; ended = refl; noted = set_other t _ db.noted u (apart_from s t u e ne); pending = set_other t _ db.pending u (apart_from s t u e ne) }
same_after s u db (Delete t o b k) e ne =
    record { begun = refl; ended = refl; noted = set_other t _ db.noted u (apart_from s t u e ne); pending = set_other t _ db.pending u (apart_from s t u e ne) }
same_after s u db (Undo t o b k) e ne =
    record { begun = refl; ended = refl; noted = refl; pending = set_other t _ db.pending u (apart_from s t u e ne) }
same_after s u db (Commit t flag) e ne =
    record { begun = refl; ended = set_other t true db.ended u (apart_from s t u e ne); noted = refl; pending = set_other t [] db.pending u (apart_from s t u e ne) }
same_after s u db (Abort t) e ne =
    record { begun = refl; ended = set_other t true db.ended u (apart_from s t u e ne); noted = refl; pending = set_other t [] db.pending u (apart_from s t u e ne) }
same_after s u db (Create o e f columns) h ne = absurd h
same_after s u db (DropObject o) h ne = absurd h
same_after s u db (AddColumn o k) h ne = absurd h
same_after s u db (NoInMemory o) h ne = absurd h
same_after s u db EndThread h ne = absurd h

tables_after : (s : ℕ) (db : Database) (v : Vector) → OfTxn s v → (after db v).tables ≡ db.tables
tables_after s db (Begin t) e = refl
tables_after s db (Put t o b k row) e = refl
tables_after s db (Delete t o b k) e = refl
tables_after s db (Undo t o b k) e = refl
tables_after s db (Commit t flag) e = refl
tables_after s db (Abort t) e = refl
tables_after s db (Create o e f columns) h = absurd h
tables_after s db (DropObject o) h = absurd h
tables_after s db (AddColumn o k) h = absurd h
tables_after s db (NoInMemory o) h = absurd h
tables_after s db EndThread h = absurd h

pub same_by : (s u : ℕ) (db : Database) (vs : List Vector) → AllByRecursion (OfTxn s) vs → (u ≡ s → ⊥) → Same u db (made_by db vs)
same_by s u db [] h ne = record { begun = refl; ended = refl; noted = refl; pending = refl }
same_by s u db (v ∷ vs) h ne =
    let first = same_after s u db v h.0 ne in
    let later = same_by s u (after db v) vs h.1 ne in
    record { begun = later.begun ∙ first.begun; ended = later.ended ∙ first.ended; noted = later.noted ∙ first.noted; pending = later.pending ∙ first.pending }

pub tables_by : (s : ℕ) (db : Database) (vs : List Vector) → AllByRecursion (OfTxn s) vs → (made_by db vs).tables ≡ db.tables
tables_by s db [] h = refl
tables_by s db (v ∷ vs) h = tables_by s (after db v) vs h.1 ∙ tables_after s db v h.0

-- ---- what the checks look at

abbrev pub table_made : ℕ → Table
table_made k = record { extents = extents_of k; flag = true; kinds = kinds }

-- all tables are there, and no transaction from a number on has begun
pub record Stands (from : ℕ) (db : Database) : Type 0 where
  pub tables : (k : ℕ) → IsTable k → db.tables k ≡ Some (table_made k)
  pub begun : (t : ℕ) → from ≤ t → db.begun t ≡ false
  pub ended : (t : ℕ) → from ≤ t → db.ended t ≡ false

-- a transaction is running
pub record IsBusy (t : ℕ) (db : Database) : Type 0 where
  pub begun : db.begun t ≡ true
  pub ended : db.ended t ≡ false

slot_low : (k row : ℕ) → IsTable k → IsRowNumber row → slot_of k row < 64
slot_low k row h lt =
    let q = row / (2 * k) in
    let below : q * (2 * k) ≤ row = div-mul-le_self row (2 * k) in
    let wide : 2 ≤ 2 * k = omega (arith, h.0) in
    let twice : q * 2 ≤ q * (2 * k) = mul-le-mul_left q wide in
    omega (arith, below, twice, lt)

block_low : (k row : ℕ) → IsTable k → block_of k row < 16 * extents_of k
block_low k row h = let some : 1 ≤ k = h.0 in omega arith

pub address_there : (k row : ℕ) → IsTable k → IsRowNumber row → has_address (table_made k) (block_of k row) (slot_of k row) ≡ true
address_there k row h lt = rw (lt-ltb (slot_of k row) 64 (slot_low k row h lt), lt-ltb (block_of k row) (16 * extents_of k) (block_low k row h)) refl

pub begin_passes : (db : Database) (t : ℕ) → db.begun t ≡ false → refusal db (Begin t) ≡ None
begin_passes db t h = rw h refl

pub put_passes : (db : Database) (t k row : ℕ) (balance : ℤ) → IsBusy t db → db.tables k ≡ Some (table_made k) → IsTable k → IsRowNumber row → refusal db (put t k row balance) ≡ None
put_passes db t k row balance busy there h lt = rw (busy.begun, busy.ended, there, address_there k row h lt) refl

pub undo_passes : (db : Database) (t k row : ℕ) → IsBusy t db → db.tables k ≡ Some (table_made k) → IsTable k → IsRowNumber row → has_change (place k (block_of k row) (slot_of k row)) (db.pending t) ≡ true → refusal db (undo t k row) ≡ None
undo_passes db t k row busy there h lt has = rw (busy.begun, busy.ended, there, address_there k row h lt, has) refl

pub commit_passes : (db : Database) (t : ℕ) → IsBusy t db → db.noted t ≡ true → refusal db (Commit t true) ≡ None
commit_passes db t busy noted = rw (busy.begun, busy.ended, noted) refl

pub abort_passes : (db : Database) (t : ℕ) → IsBusy t db → refusal db (Abort t) ≡ None
abort_passes db t busy = rw (busy.begun, busy.ended) refl

-- a put is noted
pub put_noted : (db : Database) (t k row : ℕ) (balance : ℤ) → db.tables k ≡ Some (table_made k) → (after db (put t k row balance)).noted t ≡ true
put_noted db t k row balance there = set_same t _ db.noted ∙ rw there (either_way (db.noted t))
  where
    either_way : (b : Bool) → (b || true) ≡ true
    either_way true = refl
    either_way false = refl

-- ---- the opening

pub record Created (below : ℕ) (db : Database) : Type 0 where
  pub tables : (k : ℕ) → 1 ≤ k → k < below → db.tables k ≡ Some (table_made k)
  pub created : (k : ℕ) → below ≤ k → db.created k ≡ false
  pub begun : (t : ℕ) → db.begun t ≡ false
  pub ended : (t : ℕ) → db.ended t ≡ false

created_more : (k : ℕ) (db : Database) → Created k db → Created (k + 1) (after db (Create k (extents_of k) true kinds))
created_more k db h = record { tables = tables; created = created; begun = h.begun; ended = h.ended }
  where
    tables : (j : ℕ) → 1 ≤ j → j < k + 1 → set_at k (Some (table_made k)) db.tables j ≡ Some (table_made j)
    tables j from below =
        elim (cases_eq j k) [
          | inl e ↦ subst (λ n. set_at k (Some (table_made k)) db.tables n ≡ Some (table_made n)) (sym e) (set_same k (Some (table_made k)) db.tables)
          | inr ne ↦ set_other k (Some (table_made k)) db.tables j ne ∙ h.tables j from (omega (arith, below, ne))
        ]

    created : (j : ℕ) → k + 1 ≤ j → set_at k true db.created j ≡ false
    created j from = set_other k true db.created j (λ e. omega (arith, e, from)) ∙ h.created j (omega (arith, from))

create_passes : (k : ℕ) (db : Database) → Created k db → refusal db (Create k (extents_of k) true kinds) ≡ None
create_passes k db h = rw (h.created k (omega arith)) refl

abbrev pub creates_of : ℕ → ℕ → List Vector
creates_of a n = flat_map (λ k. Create k (extents_of k) true kinds ∷ []) (range_with_len a n)

pub creates_pass : (a n : ℕ) (db : Database) → Created a db → Passes db (creates_of a n) × Created (a + n) (made_by db (creates_of a n))
creates_pass a zero db h = (tt, let e : a ≡ a + 0 = omega arith in subst (λ m. Created m db) e h)
creates_pass a (suc n) db h =
    let v = Create a (extents_of a) true kinds in
    let later = creates_pass (a + 1) n (after db v) (created_more a db h) in
    let e : a + 1 + n ≡ a + suc n = omega arith in
    ((create_passes a db h, later.0), subst (λ m. Created m (made_by (after db v) (creates_of (a + 1) n))) e later.1)

pub created_first : Created 1 no_database
created_first = record { tables = λ k from below. absurd (omega (arith, from, below)); created = λ k h. refl; begun = λ t. refl; ended = λ t. refl }

pub created_stands : (db : Database) → Created 21 db → Stands 1 db
created_stands db h = record { tables = λ k i. h.tables k i.0 (omega (arith, i.1)); begun = λ t i. h.begun t; ended = λ t i. h.ended t }

-- the puts of a load
pub record Loading (k : ℕ) (db : Database) : Type 0 where
  pub there : db.tables k ≡ Some (table_made k)
  pub busy : IsBusy k db

puts_pass : (k from n : ℕ) (db : Database) → IsTable k → from + n ≤ 100 → Loading k db → Passes db (puts k from n) × Loading k (made_by db (puts k from n)) × ((n ≡ 0 → db.noted k ≡ true) → (made_by db (puts k from n)).noted k ≡ true)
puts_pass k from zero db h few l = (tt, l, λ noted. noted refl)
puts_pass k from (suc n) db h few l =
    let v = put k k from first_balance in
    let next : Loading k (after db v) = record { there = l.there; busy = record { begun = l.busy.begun; ended = l.busy.ended } } in
    let later = puts_pass k (from + 1) n (after db v) h (omega (arith, few)) next in
    ((put_passes db k k from first_balance l.busy l.there h (omega (arith, few)), later.0), later.1, λ noted. later.2 (λ e. put_noted db k k from first_balance l.there))

puts_of : (k from n : ℕ) → AllByRecursion (OfTxn k) (puts k from n)
puts_of k from zero = tt
puts_of k from (suc n) = (refl, puts_of k (from + 1) n)

-- what a transaction's vectors leave as it was
pub stands_by : (s low from : ℕ) (db : Database) (vs : List Vector) → AllByRecursion (OfTxn s) vs → s < from → low ≤ from → Stands low db → Stands from (made_by db vs)
stands_by s low from db vs of lt le h = record {
  tables = λ k i. ap (λ f. f k) (tables_by s db vs of) ∙ h.tables k i;
  begun = λ t i. (same_by s t db vs of (λ e. omega (arith, e, i, lt))).begun ∙ h.begun t (omega (arith, i, le));
  ended = λ t i. (same_by s t db vs of (λ e. omega (arith, e, i, lt))).ended ∙ h.ended t (omega (arith, i, le));
}

pub of_append : (s : ℕ) (vs ws : List Vector) → AllByRecursion (OfTxn s) vs → AllByRecursion (OfTxn s) ws → AllByRecursion (OfTxn s) (vs ++ ws)
of_append s [] ws h k = k
of_append s (v ∷ vs) ws h k = (h.0, of_append s vs ws h.1 k)

-- the vectors that load a table, in two records
abbrev pub load_of : (k n m : ℕ) → List Vector
load_of k n m = (Begin k ∷ puts k 0 n) ++ (puts k n m ++ Commit k true ∷ [])

load_is_of : (k n m : ℕ) → AllByRecursion (OfTxn k) (load_of k n m)
load_is_of k n m = (refl, of_append k (puts k 0 n) (puts k n m ++ Commit k true ∷ []) (puts_of k 0 n) (of_append k (puts k n m) (Commit k true ∷ []) (puts_of k n m) (refl, tt)))

pub load_passes : (k n m : ℕ) (db : Database) → IsTable k → 1 ≤ n → n + m ≤ 100 → Stands k db → Passes db (load_of k n m) × Stands (k + 1) (made_by db (load_of k n m))
load_passes k n m db h some few stands =
    let db0 = after db (Begin k) in
    let begun : Loading k db0 = record { there = stands.tables k h; busy = record { begun = set_same k true db.begun; ended = stands.ended k (omega arith) } } in
    let front = puts_pass k 0 n db0 h (omega (arith, few)) begun in
    let noted = front.2 (λ e. absurd (omega (arith, e, some))) in
    let db1 = made_by db0 (puts k 0 n) in
    let back = puts_pass k n m db1 h few front.1 in
    let db2 = made_by db1 (puts k n m) in (
      (
        begin_passes db k (stands.begun k (omega arith)),
        passes_append db0 (puts k 0 n) (puts k n m ++ Commit k true ∷ []) front.0
            (passes_append db1 (puts k n m) (Commit k true ∷ []) back.0 (commit_passes db2 k back.1.busy (back.2 (λ e. noted)), tt)),
      ),
      stands_by k k (k + 1) db (load_of k n m) (load_is_of k n m) (omega arith) (omega arith) stands,
    )
