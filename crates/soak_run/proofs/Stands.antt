-- Each value of a row that stands at an SCN has a spelling.
use Rattle.std.proofs.Common.{◌≡◌, ℕ, ◌==◌, Bool, true, false, cond, List, [], ◌∷◌, nat_le, Option, Some, None}
use Rattle.std.specs.List.{AllByRecursion}
use Rattle.adg_base.specs.Address.{Place, place, same_place}
use Rattle.adg_base.specs.declared.value.Value.{Value}
use Rattle.adg_base.specs.declared.vector.Vector.{Vector}
use Rattle.adg_base.specs.declared.vector.Vector.TheVariants.{Begin, Put, Delete, Undo, Commit, Abort, Create, DropObject, AddColumn, NoInMemory, EndThread}
use Rattle.adg_base.specs.declared.log.LogEntry.{LogEntry}
use Rattle.adg_model.specs.Database.{Rows, Change, Database, no_database, played, struck, after, walked, database, rows_at}
use Rattle.adg_model.specs.Log.{upto}
use Rattle.adg_model.specs.Sound.{SoundFrom}
use Rattle.adg_model.specs.Spelling.{IsValue, IsVector}

abbrev pub AreValues : List Value → Type 0
AreValues row = AllByRecursion IsValue row

abbrev IsSpelled : Option (List Value) → Type 0
IsSpelled o = (row : List Value) → o ≡ Some row → AreValues row

abbrev ChangeSpelled : Change → Type 0
ChangeSpelled c = IsSpelled c.row

-- the rows that stand, and those of pending changes
record AllSpelled (db : Database) : Type 0 where
  rows : (a : Place) → IsSpelled (db.rows a)
  pending : (t : ℕ) → AllByRecursion ChangeSpelled (db.pending t)

none_spelled : IsSpelled None
none_spelled row e = let c : None ≡ Some row = e in absurd cc

some_spelled : (row : List Value) → AreValues row → IsSpelled (Some row)
some_spelled row h other e = by_same (same e)
  where
    same : Some row ≡ Some other → other ≡ row
    same u = cc

    by_same : other ≡ row → AreValues other
    by_same u = rw u h

either : (b : Bool) (o p : Option (List Value)) → IsSpelled o → IsSpelled p → IsSpelled (cond b o p)
either true o p h k = h
either false o p h k = k

played_spelled : (cs : List Change) (rows : Rows) (a : Place) → AllByRecursion ChangeSpelled cs → IsSpelled (rows a) → IsSpelled (played cs rows a)
played_spelled [] rows a h k = k
played_spelled (c ∷ cs) rows a h k = either (same_place a c.at) c.row (played cs rows a) h.0 (played_spelled cs rows a h.1 k)

each_if : (b : Bool) (xs ys : List Change) → AllByRecursion ChangeSpelled xs → AllByRecursion ChangeSpelled ys → AllByRecursion ChangeSpelled (cond b xs ys)
each_if true xs ys h k = h
each_if false xs ys h k = k

struck_spelled : (a : Place) (cs : List Change) → AllByRecursion ChangeSpelled cs → AllByRecursion ChangeSpelled (struck a cs)
struck_spelled a [] h = tt
struck_spelled a (c ∷ cs) h = each_if (same_place a c.at) cs (c ∷ struck a cs) h.1 (h.0, struck_spelled a cs h.1)

-- one vector more
rows_after : (db : Database) (v : Vector) (a : Place) → AllSpelled db → IsSpelled ((after db v).rows a)
rows_after db (Begin txn) a h = h.rows a
rows_after db (Put txn o b s row) a h = h.rows a
rows_after db (Delete txn o b s) a h = h.rows a
rows_after db (Undo txn o b s) a h = h.rows a
rows_after db (Commit txn flag) a h = played_spelled (db.pending txn) db.rows a (h.pending txn) (h.rows a)
rows_after db (Abort txn) a h = h.rows a
rows_after db (Create o e f columns) a h = h.rows a
rows_after db (DropObject o) a h = h.rows a
rows_after db (AddColumn o k) a h = h.rows a
rows_after db (NoInMemory o) a h = h.rows a
rows_after db EndThread a h = h.rows a

pending_after : (db : Database) (v : Vector) (t : ℕ) → IsVector 1 v → AllSpelled db → AllByRecursion ChangeSpelled ((after db v).pending t)
pending_after db (Begin txn) t k h = h.pending t
pending_after db (Put txn o b s row) t k h =
    each_if (t == txn) (record { at = place o b s; row = Some row } ∷ db.pending txn) (db.pending t) (some_spelled row k.1.values, h.pending txn) (h.pending t)
pending_after db (Delete txn o b s) t k h =
    each_if (t == txn) (record { at = place o b s; row = None } ∷ db.pending txn) (db.pending t) (none_spelled, h.pending txn) (h.pending t)
pending_after db (Undo txn o b s) t k h =
    each_if (t == txn) (struck (place o b s) (db.pending txn)) (db.pending t) (struck_spelled (place o b s) (db.pending txn) (h.pending txn)) (h.pending t)
pending_after db (Commit txn flag) t k h = each_if (t == txn) [] (db.pending t) tt (h.pending t)
pending_after db (Abort txn) t k h = each_if (t == txn) [] (db.pending t) tt (h.pending t)
pending_after db (Create o e f columns) t k h = h.pending t
pending_after db (DropObject o) t k h = h.pending t
pending_after db (AddColumn o c) t k h = h.pending t
pending_after db (NoInMemory o) t k h = h.pending t
pending_after db EndThread t k h = h.pending t

abbrev AreSpelled : List LogEntry → Type 0
AreSpelled log = AllByRecursion (λ (e : LogEntry). IsVector 1 e.vector) log

walked_spelled : (db : Database) (es : List LogEntry) → AreSpelled es → AllSpelled db → AllSpelled (walked db es)
walked_spelled db [] s h = h
walked_spelled db (e ∷ es) s h =
    walked_spelled (after db e.vector) es s.1 (record { rows = λ a. rows_after db e.vector a h; pending = λ t. pending_after db e.vector t s.0 h })

upto_spelled : (q : ℕ) (es : List LogEntry) → AreSpelled es → AreSpelled (upto q es)
upto_spelled q [] s = tt
upto_spelled q (e ∷ es) s = kept (nat_le e.scn q) (upto_spelled q es s.1)
  where
    kept : (b : Bool) → AreSpelled (upto q es) → AreSpelled (cond b (e ∷ upto q es) (upto q es))
    kept true h = (s.0, h)
    kept false h = h

sound_spelled : (db : Database) (es : List LogEntry) → SoundFrom db es → AreSpelled es
sound_spelled db [] s = tt
sound_spelled db (e ∷ es) s = (s.0, sound_spelled (after db e.vector) es s.2)

-- in a sound log
pub row_spelled : (log : List LogEntry) (q : ℕ) (a : Place) (row : List Value) → SoundFrom no_database log → rows_at log q a ≡ Some row → AreValues row
unfolding database
row_spelled log q a row s e =
    let first : AllSpelled no_database = record { rows = λ b. none_spelled; pending = λ t. tt } in
    (walked_spelled no_database (upto q log) (upto_spelled q log (sound_spelled no_database log s)) first).rows a row e
