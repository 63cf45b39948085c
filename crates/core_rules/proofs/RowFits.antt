-- A row that stands at an SCN is no longer than its object is wide then.
use Rattle.std.proofs.Common.{◌≡◌, ℕ, ◌+◌, ◌≤◌, Bool, true, false, cond, List, [], ◌∷◌, ◌++◌, length, Option, Some, None, refl, sym, ◌∙◌, subst, arith, true≢false}
use Rattle.std.specs.Prelude.{◌==◌}
use Rattle.std.specs.List.{AllByRecursion}
use Rattle.std.proofs.lemmas.Bool.{and_parts}
use Rattle.std.proofs.lemmas.List.{length-append}
use Rattle.adg_base.specs.Address.{Place, place, same_place}
use Rattle.adg_base.specs.declared.value.ColKind.{ColKind}
use Rattle.adg_base.specs.declared.value.Value.{Value}
use Rattle.adg_base.specs.declared.vector.Vector.{Vector}
use Rattle.adg_base.specs.declared.vector.Vector.TheVariants.{Begin, Put, Delete, Undo, Commit, Abort, Create, DropObject, AddColumn, NoInMemory, EndThread}
use Rattle.adg_base.specs.declared.log.LogEntry.{LogEntry}
use Rattle.adg_model.specs.declared.fault.CheckKind.TheVariants.{TxnUnknown, BadAddress, BadRow}
use Rattle.adg_model.specs.Log.{upto}
use Rattle.adg_model.specs.Database.{Rows, Change, Database, Table, no_database, played, struck, after, walked, database, with_column, without_flag, rows_at, table_at}
use Rattle.adg_model.specs.Sound.{SoundFrom, refusal, demand, is_running, has_address, fits_row, fits_kind, IsLog}
use Rattle.core_rules.proofs.Lists.{each_weaker}
use Rattle.core_rules.proofs.FactsTables.{IsTied, table_after, tables_after, created_after, not_created, tied_after, between}
use Rattle.core_rules.proofs.FactsRows.{place_same}
use Rattle.core_rules.proofs.FactsFlags.{demanded, on_table_some}

-- a row is no longer than a definition has columns, where there is one
abbrev IsNarrow : List Value → Option Table → Type 0
IsNarrow row t = (table : Table) → t ≡ Some table → length row ≤ length table.kinds

-- a row of an object that was created, and is as wide at least where it has a definition
record Fits (db : Database) (o : ℕ) (row : List Value) : Type 0 where
  created : db.created o ≡ true
  narrow : IsNarrow row (db.tables o)

-- a column more leaves a row narrow, and so does any other vector: an object is created once
narrow_if : (row : List Value) (b : Bool) (x t : Option Table) → (b ≡ true → IsNarrow row x) → IsNarrow row t → IsNarrow row (cond b x t)
narrow_if row true x t h k = h refl
narrow_if row false x t h k = k

narrow_column : (row : List Value) (t : Option Table) (k : ColKind) → IsNarrow row t → IsNarrow row (with_column t k)
narrow_column row None k h table e = let c : None ≡ Some table = e in absurd cc
narrow_column row (Some was) k h table e =
    let l : length row ≤ length was.kinds = h was refl in
    let longer : length (was.kinds ++ k ∷ []) ≡ length was.kinds + 1 = length-append was.kinds (k ∷ []) in
    let more : length row ≤ length (was.kinds ++ k ∷ []) = omega arith in
    subst (λ (x : Table). length row ≤ length x.kinds) (some_same e) more
  where
    some_same : Some (record was { kinds = was.kinds ++ k ∷ [] }) ≡ Some table → record was { kinds = was.kinds ++ k ∷ [] } ≡ table
    some_same u = cc

narrow_flag : (row : List Value) (t : Option Table) → IsNarrow row t → IsNarrow row (without_flag t)
narrow_flag row None h table e = let c : None ≡ Some table = e in absurd cc
narrow_flag row (Some was) h table e = subst (λ (x : Table). length row ≤ length x.kinds) (some_same e) (h was refl)
  where
    some_same : Some (record was { flag = false }) ≡ Some table → record was { flag = false } ≡ table
    some_same u = cc

narrow_after : (db : Database) (v : Vector) (o : ℕ) (row : List Value) (t : Option Table) → db.created o ≡ true → refusal db v ≡ None → IsNarrow row t → IsNarrow row (table_after o t v)
narrow_after db (Create obj e f columns) o row t c r h = narrow_if row (o == obj) _ t (λ u. absurd (not_created db o obj c r u)) h
narrow_after db (DropObject obj) o row t c r h = narrow_if row (o == obj) None t (λ u table e. absurd cc) h
narrow_after db (AddColumn obj k) o row t c r h = narrow_if row (o == obj) (with_column t k) t (λ u. narrow_column row t k h) h
narrow_after db (NoInMemory obj) o row t c r h = narrow_if row (o == obj) (without_flag t) t (λ u. narrow_flag row t h) h
narrow_after db (Begin txn) o row t c r h = h
narrow_after db (Put txn obj b s other) o row t c r h = h
narrow_after db (Delete txn obj b s) o row t c r h = h
narrow_after db (Undo txn obj b s) o row t c r h = h
narrow_after db (Commit txn flag) o row t c r h = h
narrow_after db (Abort txn) o row t c r h = h
narrow_after db EndThread o row t c r h = h

fits_after : (db : Database) (v : Vector) (o : ℕ) (row : List Value) → refusal db v ≡ None → Fits db o row → Fits (after db v) o row
fits_after db v o row r h = record {
  created = created_after db v o h.created;
  narrow = subst (IsNarrow row) (sym (tables_after db v o)) (narrow_after db v o row (db.tables o) h.created r h.narrow);
}

-- the rows that stand fit, those of pending changes fit, and what has a definition was created
abbrev ChangeFits : Database → Change → Type 0
ChangeFits db c = (row : List Value) → c.row ≡ Some row → Fits db c.at.obj row

abbrev RowFits : Database → Rows → Place → Type 0
RowFits db rows a = (row : List Value) → rows a ≡ Some row → Fits db a.obj row

record AllFit (db : Database) : Type 0 where
  rows : (a : Place) → RowFits db db.rows a
  pending : (t : ℕ) → AllByRecursion (ChangeFits db) (db.pending t)
  tied : (o : ℕ) → IsTied db o

-- changes that are played onto rows
played_fit : (db : Database) (cs : List Change) (rows : Rows) (a : Place) → AllByRecursion (ChangeFits db) cs → RowFits db rows a → RowFits db (played cs rows) a
played_fit db [] rows a h k row e = k row e
played_fit db (c ∷ cs) rows a h k row e = by_test (same_place a c.at) refl e (played_fit db cs rows a h.1 k row)
  where
    by_test : (b : Bool) → same_place a c.at ≡ b → cond b c.row (played cs rows a) ≡ Some row → (played cs rows a ≡ Some row → Fits db a.obj row) → Fits db a.obj row
    by_test true s u ih = subst (λ (x : Place). Fits db x.obj row) (place_same a c.at s) (h.0 row u)
    by_test false s u ih = ih u

-- changes that are kept or taken away
each_if : (P : Change → Type 0) (b : Bool) (xs ys : List Change) → AllByRecursion P xs → AllByRecursion P ys → AllByRecursion P (cond b xs ys)
each_if P true xs ys h k = h
each_if P false xs ys h k = k

struck_each : (P : Change → Type 0) (a : Place) (cs : List Change) → AllByRecursion P cs → AllByRecursion P (struck a cs)
struck_each P a [] h = tt
struck_each P a (c ∷ cs) h = each_if P (same_place a c.at) cs (c ∷ struck a cs) h.1 (h.0, struck_each P a cs h.1)

-- a row that a sound Put brings fits
as_long : (row : List Value) (kinds : List ColKind) → fits_row row kinds ≡ true → length row ≤ length kinds
as_long [] kinds h = omega arith
as_long (v ∷ vs) [] h = absurd (true≢false (sym h))
as_long (v ∷ vs) (k ∷ ks) h = let l : length vs ≤ length ks = as_long vs ks (and_parts (fits_kind v k) (fits_row vs ks) h).1 in omega arith

put_fits : (db : Database) (txn o b s : ℕ) (row : List Value) → IsTied db o → refusal db (Put txn o b s row) ≡ None → Fits db o row
put_fits db txn o b s row tied r =
    let rest = (demanded (is_running db txn) TxnUnknown _ r).1 in
    let found = on_table_some (db.tables o) (λ table. demand (has_address table b s) BadAddress (demand (fits_row row table.kinds) BadRow None)) rest in
    let last = (demanded (has_address found.0 b s) BadAddress _ found.2).1 in
    let l = as_long row found.0.kinds (demanded (fits_row row found.0.kinds) BadRow None last).0 in
    record {
      created = tied found.0 found.1;
      narrow = λ table e. subst (λ (x : Table). length row ≤ length x.kinds) (same found.0 table (sym found.1 ∙ e)) l;
    }
  where
    same : (x y : Table) → Some x ≡ Some y → x ≡ y
    same x y e = cc

-- one vector more: what stands and what is pending then fitted before it, or is the row of its Put
rows_before : (db : Database) (v : Vector) (a : Place) → AllFit db → RowFits db (after db v).rows a
rows_before db (Commit txn flag) a h = played_fit db (db.pending txn) db.rows a (h.pending txn) (h.rows a)
rows_before db (Begin txn) a h = h.rows a
rows_before db (Put txn o b s row) a h = h.rows a
rows_before db (Delete txn o b s) a h = h.rows a
rows_before db (Undo txn o b s) a h = h.rows a
rows_before db (Abort txn) a h = h.rows a
rows_before db (Create o e f columns) a h = h.rows a
rows_before db (DropObject o) a h = h.rows a
rows_before db (AddColumn o k) a h = h.rows a
rows_before db (NoInMemory o) a h = h.rows a
rows_before db EndThread a h = h.rows a

pending_before : (db : Database) (v : Vector) (t : ℕ) → refusal db v ≡ None → AllFit db → AllByRecursion (ChangeFits db) ((after db v).pending t)
pending_before db (Put txn o b s row) t r h =
    each_if (ChangeFits db) (t == txn) (record { at = place o b s; row = Some row } ∷ db.pending txn) (db.pending t) (put, h.pending txn) (h.pending t)
  where
    put : ChangeFits db (record { at = place o b s; row = Some row })
    put other e = subst (Fits db o) (same e) (put_fits db txn o b s row (h.tied o) r)
      where
        same : Some row ≡ Some other → row ≡ other
        same u = cc
pending_before db (Delete txn o b s) t r h =
    each_if (ChangeFits db) (t == txn) (record { at = place o b s; row = None } ∷ db.pending txn) (db.pending t) (none, h.pending txn) (h.pending t)
  where
    none : ChangeFits db (record { at = place o b s; row = None })
    none other e = let c : None ≡ Some other = e in absurd cc
pending_before db (Undo txn o b s) t r h =
    each_if (ChangeFits db) (t == txn) (struck (place o b s) (db.pending txn)) (db.pending t) (struck_each (ChangeFits db) (place o b s) (db.pending txn) (h.pending txn)) (h.pending t)
pending_before db (Commit txn flag) t r h = each_if (ChangeFits db) (t == txn) [] (db.pending t) tt (h.pending t)
pending_before db (Abort txn) t r h = each_if (ChangeFits db) (t == txn) [] (db.pending t) tt (h.pending t)
pending_before db (Begin txn) t r h = h.pending t
pending_before db (Create o e f columns) t r h = h.pending t
pending_before db (DropObject o) t r h = h.pending t
pending_before db (AddColumn o k) t r h = h.pending t
pending_before db (NoInMemory o) t r h = h.pending t
pending_before db EndThread t r h = h.pending t

all_fit_after : (db : Database) (v : Vector) → refusal db v ≡ None → AllFit db → AllFit (after db v)
all_fit_after db v r h = record {
  rows = λ a row e. fits_after db v a.obj row r (rows_before db v a h row e);
  pending = λ t. each_weaker (ChangeFits db) (ChangeFits (after db v)) ((after db v).pending t) (λ c k row e. fits_after db v c.at.obj row r (k row e)) (pending_before db v t r h);
  tied = λ o. tied_after db v o (h.tied o);
}

walked_fit : (db : Database) (es : List LogEntry) → SoundFrom db es → AllFit db → AllFit (walked db es)
walked_fit db [] s h = h
walked_fit db (e ∷ es) s h = walked_fit (after db e.vector) es s.2 (all_fit_after db e.vector s.1 h)

nothing_fits : AllFit no_database
nothing_fits = record { rows = λ a row e. absurd (no_row row e); pending = λ t. tt; tied = λ o table e. absurd (no_table table e) }
  where
    no_row : (row : List Value) → None ≡ Some row → ⊥
    no_row row e = cc

    no_table : (table : Table) → None ≡ Some table → ⊥
    no_table table e = cc

-- a row that stands at an SCN is no longer than its object has columns then
pub row_fits : (log : List LogEntry) (frontier q : ℕ) (a : Place) (row : List Value) (table : Table) → IsLog log frontier
    → rows_at log q a ≡ Some row → table_at log q a.obj ≡ Some table → length row ≤ length table.kinds
unfolding database
row_fits log frontier q a row table l stands defined =
    let sound = (between log frontier q q l (omega arith)).first in
    ((walked_fit no_database (upto q log) sound nothing_fits).rows a row stands).narrow table defined
