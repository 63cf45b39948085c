-- What a sound log says of the definition of an object: it stays where nothing changes it, and it has 1 to 256
-- extents.
use Rattle.std.proofs.Common.{◌≡◌, ℕ, ◌<◌, ◌≤◌, Bool, true, false, cond, not, List, [], ◌∷◌, ◌++◌, Option, Some, None, inl, inr, refl, sym, ap, ◌∙◌, subst, arith, true≢false}
use Rattle.std.specs.Prelude.{◌==◌, nat_le}
use Rattle.std.specs.List.{Contains, AllByRecursion}
use Rattle.std.proofs.lemmas.Bool.{eqb-true, eq-eqb, leb-true}
use Rattle.adg_base.specs.declared.value.ColKind.{ColKind}
use Rattle.adg_base.specs.declared.vector.Vector.{Vector}
use Rattle.adg_base.specs.declared.vector.Vector.TheVariants.{Begin, Put, Delete, Undo, Commit, Abort, Create, DropObject, AddColumn, NoInMemory, EndThread}
use Rattle.adg_base.specs.declared.log.LogEntry.{LogEntry}
use Rattle.adg_model.specs.declared.fault.CheckKind.TheVariants.{ObjectTwice}
use Rattle.adg_model.specs.Spelling.{IsVector}
use Rattle.adg_model.specs.Log.{upto}
use Rattle.adg_model.specs.Database.{Database, Table, no_database, database, after, walked, set_at, is_in_memory, with_column, without_flag, table_at}
use Rattle.adg_model.specs.Sound.{SoundFrom, ScnsWithin, refusal, demand, IsLog}
use Rattle.adg_model.proofs.LogLaws.{ScnsRise, scns_split, upto_upto}
use Rattle.adg_model.proofs.RowLaws.{walked_append}
use Rattle.core_rules.specs.Share.{redefines, NotRedefined}
use Rattle.core_rules.proofs.Lists.{Has, contains, each_has, each_weaker, has_filter_back, has_append_right}

-- what a vector makes of the definition of an object
abbrev pub table_after : ℕ → Option Table → Vector → Option Table
table_after o t (Create obj e f columns) = cond (o == obj) (Some (record { extents = e; flag = f; kinds = columns })) t
table_after o t (DropObject obj) = cond (o == obj) None t
table_after o t (AddColumn obj k) = cond (o == obj) (with_column t k) t
table_after o t (NoInMemory obj) = cond (o == obj) (without_flag t) t
table_after o t other = t

-- a function of the value at a number, set there
set_at_by : {X : Type 0} (k n : ℕ) (g : X → X) (f : ℕ → X) → set_at k (g (f k)) f n ≡ cond (n == k) (g (f n)) (f n)
set_at_by k n g f = by_test (n == k) refl
  where
    by_test : (b : Bool) → (n == k) ≡ b → cond b (g (f k)) (f n) ≡ cond b (g (f n)) (f n)
    by_test true e = ap (λ m. g (f m)) (sym (eqb-true n k e))
    by_test false e = refl

pub tables_after : (db : Database) (v : Vector) (o : ℕ) → (after db v).tables o ≡ table_after o (db.tables o) v
tables_after db (Begin txn) o = refl
tables_after db (Put txn obj b s row) o = refl
tables_after db (Delete txn obj b s) o = refl
tables_after db (Undo txn obj b s) o = refl
tables_after db (Commit txn flag) o = refl
tables_after db (Abort txn) o = refl
tables_after db (Create obj e f columns) o = refl
tables_after db (DropObject obj) o = refl
tables_after db (AddColumn obj k) o = set_at_by obj o (λ t. with_column t k) db.tables
tables_after db (NoInMemory obj) o = set_at_by obj o without_flag db.tables
tables_after db EndThread o = refl

-- what was created stays so, and is not created again
pub created_after : (db : Database) (v : Vector) (o : ℕ) → db.created o ≡ true → (after db v).created o ≡ true
created_after db (Create obj e f columns) o h = by_test (o == obj)
  where
    by_test : (b : Bool) → cond b true (db.created o) ≡ true
    by_test true = refl
    by_test false = h
created_after db (Begin txn) o h = h
created_after db (Put txn obj b s row) o h = h
created_after db (Delete txn obj b s) o h = h
created_after db (Undo txn obj b s) o h = h
created_after db (Commit txn flag) o h = h
created_after db (Abort txn) o h = h
created_after db (DropObject obj) o h = h
created_after db (AddColumn obj k) o h = h
created_after db (NoInMemory obj) o h = h
created_after db EndThread o h = h

no_twice : (created : Bool) → created ≡ true → demand (not created) ObjectTwice None ≡ None → ⊥
no_twice true h k = let c : Some ObjectTwice ≡ None = k in absurd cc
no_twice false h k = true≢false (sym h)

pub not_created : (db : Database) (o obj : ℕ) → db.created o ≡ true → demand (not (db.created obj)) ObjectTwice None ≡ None → (o == obj) ≡ true → ⊥
not_created db o obj h k e = no_twice (db.created obj) (subst (λ n. db.created n ≡ true) (eqb-true o obj e) h) k

-- a test the other way round
same_turned : (a b : ℕ) → (a == b) ≡ true → (b == a) ≡ true
same_turned a b e = eq-eqb b a (sym (eqb-true a b e))

-- a definition stays where a vector does not change it
stays_if : (b : Bool) (x : Option Table) (t : Option Table) (table : Table) → t ≡ Some table → (b ≡ true → ⊥) → cond b x t ≡ Some table
stays_if true x t table h k = absurd (k refl)
stays_if false x t table h k = h

table_stays : (db : Database) (v : Vector) (o : ℕ) (t : Option Table) (table : Table) → t ≡ Some table → db.created o ≡ true → refusal db v ≡ None
    → (redefines o v ≡ true → ⊥) → table_after o t v ≡ Some table
table_stays db (Create obj e f columns) o t table h c r k = stays_if (o == obj) _ t table h (λ e'. not_created db o obj c r e')
table_stays db (DropObject obj) o t table h c r k = stays_if (o == obj) None t table h (λ e. k (same_turned o obj e))
table_stays db (AddColumn obj x) o t table h c r k = stays_if (o == obj) (with_column t x) t table h (λ e. k (same_turned o obj e))
table_stays db (NoInMemory obj) o t table h c r k = stays_if (o == obj) (without_flag t) t table h (λ e. k (same_turned o obj e))
table_stays db (Begin txn) o t table h c r k = h
table_stays db (Put txn obj b s row) o t table h c r k = h
table_stays db (Delete txn obj b s) o t table h c r k = h
table_stays db (Undo txn obj b s) o t table h c r k = h
table_stays db (Commit txn flag) o t table h c r k = h
table_stays db (Abort txn) o t table h c r k = h
table_stays db EndThread o t table h c r k = h

-- an object that is in-memory after a vector, and was created before it, was in-memory before it
back_if : (b : Bool) (x t : Option Table) → (b ≡ true → is_in_memory x ≡ true → is_in_memory t ≡ true) → is_in_memory (cond b x t) ≡ true → is_in_memory t ≡ true
back_if true x t k h = k refl h
back_if false x t k h = h

memory_column : (t : Option Table) (k : ColKind) → is_in_memory (with_column t k) ≡ true → is_in_memory t ≡ true
memory_column None k h = h
memory_column (Some table) k h = h

memory_flag : (t : Option Table) → is_in_memory (without_flag t) ≡ true → is_in_memory t ≡ true
memory_flag None h = h
memory_flag (Some table) h = absurd (true≢false (sym h))

memory_back : (db : Database) (v : Vector) (o : ℕ) (t : Option Table) → db.created o ≡ true → refusal db v ≡ None → is_in_memory (table_after o t v) ≡ true → is_in_memory t ≡ true
memory_back db (Create obj e f columns) o t c r h = back_if (o == obj) _ t (λ e' m. absurd (not_created db o obj c r e')) h
memory_back db (DropObject obj) o t c r h = back_if (o == obj) None t (λ e m. absurd (true≢false (sym m))) h
memory_back db (AddColumn obj k) o t c r h = back_if (o == obj) (with_column t k) t (λ e m. memory_column t k m) h
memory_back db (NoInMemory obj) o t c r h = back_if (o == obj) (without_flag t) t (λ e m. memory_flag t m) h
memory_back db (Begin txn) o t c r h = h
memory_back db (Put txn obj b s row) o t c r h = h
memory_back db (Delete txn obj b s) o t c r h = h
memory_back db (Undo txn obj b s) o t c r h = h
memory_back db (Commit txn flag) o t c r h = h
memory_back db (Abort txn) o t c r h = h
memory_back db EndThread o t c r h = h

-- what has a definition was created
abbrev pub IsTied : Database → ℕ → Type 0
IsTied db o = (table : Table) → db.tables o ≡ Some table → db.created o ≡ true

column_some : (t : Option Table) (k : ColKind) (table : Table) → with_column t k ≡ Some table → (was : Table) × (t ≡ Some was)
column_some None k table h = let c : None ≡ Some table = h in absurd cc
column_some (Some was) k table h = (was, refl)

flag_some : (t : Option Table) (table : Table) → without_flag t ≡ Some table → (was : Table) × (t ≡ Some was)
flag_some None table h = let c : None ≡ Some table = h in absurd cc
flag_some (Some was) table h = (was, refl)

some_if : (b : Bool) (x t : Option Table) (table : Table) → ((was : Table) → x ≡ Some was → (w : Table) × (t ≡ Some w)) → cond b x t ≡ Some table → (w : Table) × (t ≡ Some w)
some_if true x t table k h = k table h
some_if false x t table k h = (table, h)

pub tied_after : (db : Database) (v : Vector) (o : ℕ) → IsTied db o → IsTied (after db v) o
tied_after db v o tied table h = by_vector v (sym (tables_after db v o) ∙ h)
  where
    from : (w : Table) × (db.tables o ≡ Some w) → db.created o ≡ true
    from r = tied r.0 r.1

    by_vector : (v : Vector) → table_after o (db.tables o) v ≡ Some table → (after db v).created o ≡ true
    by_vector (Create obj e f columns) k = by_test (o == obj) k
      where
        by_test : (b : Bool) → cond b (Some (record { extents = e; flag = f; kinds = columns })) (db.tables o) ≡ Some table → cond b true (db.created o) ≡ true
        by_test true u = refl
        by_test false u = tied table u
    by_vector (DropObject obj) k = from (some_if (o == obj) None (db.tables o) table (λ was e. absurd cc) k)
    by_vector (AddColumn obj x) k = from (some_if (o == obj) (with_column (db.tables o) x) (db.tables o) table (λ was e. column_some (db.tables o) x was e) k)
    by_vector (NoInMemory obj) k = from (some_if (o == obj) (without_flag (db.tables o)) (db.tables o) table (λ was e. flag_some (db.tables o) was e) k)
    by_vector (Begin txn) k = tied table k
    by_vector (Put txn obj b s row) k = tied table k
    by_vector (Delete txn obj b s) k = tied table k
    by_vector (Undo txn obj b s) k = tied table k
    by_vector (Commit txn flag) k = tied table k
    by_vector (Abort txn) k = tied table k
    by_vector EndThread k = tied table k

-- the number of extents is in its bounds
abbrev IsBounded : Option Table → Type 0
IsBounded t = (table : Table) → t ≡ Some table → (1 ≤ table.extents) × (table.extents ≤ 256)

bounded_if : (b : Bool) (x t : Option Table) → IsBounded x → IsBounded t → IsBounded (cond b x t)
bounded_if true x t h k = h
bounded_if false x t h k = k

bounded_column : (t : Option Table) (k : ColKind) → IsBounded t → IsBounded (with_column t k)
bounded_column None k h table e = let c : None ≡ Some table = e in absurd cc
bounded_column (Some was) k h table e =
    let same : was.extents ≡ table.extents = some_same e in
    subst (λ n. (1 ≤ n) × (n ≤ 256)) same (h was refl)
  where
    some_same : Some (record was { kinds = was.kinds ++ k ∷ [] }) ≡ Some table → was.extents ≡ table.extents
    some_same u = let m : record was { kinds = was.kinds ++ k ∷ [] } ≡ table = cc in ap (λ (x : Table). x.extents) m

bounded_flag : (t : Option Table) → IsBounded t → IsBounded (without_flag t)
bounded_flag None h table e = let c : None ≡ Some table = e in absurd cc
bounded_flag (Some was) h table e =
    let same : was.extents ≡ table.extents = some_same e in
    subst (λ n. (1 ≤ n) × (n ≤ 256)) same (h was refl)
  where
    some_same : Some (record was { flag = false }) ≡ Some table → was.extents ≡ table.extents
    some_same u = let m : record was { flag = false } ≡ table = cc in ap (λ (x : Table). x.extents) m

bounded_new : (e : ℕ) (f : Bool) (columns : List ColKind) → 1 ≤ e → e ≤ 256 → IsBounded (Some (record { extents = e; flag = f; kinds = columns }))
bounded_new e f columns l m table u =
    let made : Table = record { extents = e; flag = f; kinds = columns } in
    let k : made ≡ table = cc in
    subst (λ (x : Table). (1 ≤ x.extents) × (x.extents ≤ 256)) k (l, m)

bounded_after : (v : Vector) (o : ℕ) (t : Option Table) → IsVector 1 v → IsBounded t → IsBounded (table_after o t v)
bounded_after (Create obj e f columns) o t s h = bounded_if (o == obj) _ t (bounded_new e f columns s.some_extents s.few_extents) h
bounded_after (DropObject obj) o t s h = bounded_if (o == obj) None t (λ table e. absurd cc) h
bounded_after (AddColumn obj k) o t s h = bounded_if (o == obj) (with_column t k) t (bounded_column t k h) h
bounded_after (NoInMemory obj) o t s h = bounded_if (o == obj) (without_flag t) t (bounded_flag t h) h
bounded_after (Begin txn) o t s h = h
bounded_after (Put txn obj b x row) o t s h = h
bounded_after (Delete txn obj b x) o t s h = h
bounded_after (Undo txn obj b x) o t s h = h
bounded_after (Commit txn flag) o t s h = h
bounded_after (Abort txn) o t s h = h
bounded_after EndThread o t s h = h

-- along a walk
pub sound_split : (db : Database) (xs ys : List LogEntry) → SoundFrom db (xs ++ ys) → SoundFrom db xs × SoundFrom (walked db xs) ys
sound_split db [] ys h = (tt, h)
sound_split db (x ∷ xs) ys h = let r = sound_split (after db x.vector) xs ys h.2 in ((h.0, h.1, r.0), r.1)

pub walked_created : (db : Database) (es : List LogEntry) (o : ℕ) → db.created o ≡ true → (walked db es).created o ≡ true
walked_created db [] o h = h
walked_created db (e ∷ es) o h = walked_created (after db e.vector) es o (created_after db e.vector o h)

walked_tied : (db : Database) (es : List LogEntry) (o : ℕ) → IsTied db o → IsTied (walked db es) o
walked_tied db [] o h = h
walked_tied db (e ∷ es) o h = walked_tied (after db e.vector) es o (tied_after db e.vector o h)

-- what has a definition after some entries was created by them
pub tied : (es : List LogEntry) (o : ℕ) → IsTied (walked no_database es) o
tied es o = walked_tied no_database es o (λ table e. absurd (none table e))
  where
    none : (table : Table) → None ≡ Some table → ⊥
    none table e = cc

pub walked_stays : (db : Database) (es : List LogEntry) (o : ℕ) (table : Table) → SoundFrom db es → db.created o ≡ true → db.tables o ≡ Some table
    → ((e : LogEntry) → Has es e → redefines o e.vector ≡ true → ⊥) → (walked db es).tables o ≡ Some table
walked_stays db [] o table s c h k = h
walked_stays db (e ∷ es) o table s c h k =
    walked_stays (after db e.vector) es o table s.2 (created_after db e.vector o c)
    (tables_after db e.vector o ∙ table_stays db e.vector o (db.tables o) table h c s.1 (λ r. k e (inl refl) r))
    (λ x m r. k x (inr m) r)

pub walked_back : (db : Database) (es : List LogEntry) (o : ℕ) → SoundFrom db es → db.created o ≡ true → is_in_memory ((walked db es).tables o) ≡ true → is_in_memory (db.tables o) ≡ true
walked_back db [] o s c h = h
walked_back db (e ∷ es) o s c h =
    memory_back db e.vector o (db.tables o) c s.1
    (ap is_in_memory (sym (tables_after db e.vector o)) ∙ walked_back (after db e.vector) es o s.2 (created_after db e.vector o c) h)

walked_bounded : (db : Database) (es : List LogEntry) (o : ℕ) → SoundFrom db es → IsBounded (db.tables o) → IsBounded ((walked db es).tables o)
walked_bounded db [] o s h = h
walked_bounded db (e ∷ es) o s h =
    walked_bounded (after db e.vector) es o s.2 (subst IsBounded (sym (tables_after db e.vector o)) (bounded_after e.vector o (db.tables o) s.0 h))

-- SCNs that do not fall
above_first : (k f : ℕ) (es : List LogEntry) → ScnsWithin k f es → AllByRecursion (λ x. k ≤ x.scn) es
above_first k f [] h = tt
above_first k f (e ∷ es) h =
    let low : k ≤ e.scn = h.0 in
    (h.0, each_weaker (λ (x : LogEntry). e.scn ≤ x.scn) (λ (x : LogEntry). k ≤ x.scn) es (λ x j. omega (arith, j, low)) (above_first e.scn f es h.2))

pub scns_rise : (k f : ℕ) (es : List LogEntry) → ScnsWithin k f es → ScnsRise es
scns_rise k f [] h = tt
scns_rise k f (e ∷ es) h = (above_first e.scn f es h.2, scns_rise e.scn f es h.2)

-- the entries up to an SCN are the first of the log
pub record Begun (log : List LogEntry) (scn : ℕ) : Type 0 where
  pub rest : List LogEntry
  pub whole : log ≡ upto scn log ++ rest
  pub above : (e : LogEntry) → Has rest e → scn < e.scn

pub begun_by : (log : List LogEntry) (scn : ℕ) → ScnsRise log → Begun log scn
begun_by log scn h =
    let r = scns_split scn log h in
    record { rest = r.0; whole = r.1; above = λ e m. each_has (λ (x : LogEntry). scn < x.scn) r.0 e r.2 m }

pub rises_first : (xs ys : List LogEntry) → ScnsRise (xs ++ ys) → ScnsRise xs
rises_first [] ys h = tt
rises_first (x ∷ xs) ys h = (each_first (λ (y : LogEntry). x.scn ≤ y.scn) xs ys h.0, rises_first xs ys h.1)
  where
    each_first : (P : LogEntry → Type 0) (xs ys : List LogEntry) → AllByRecursion P (xs ++ ys) → AllByRecursion P xs
    each_first P [] ys k = tt
    each_first P (x ∷ xs) ys k = (k.0, each_first P xs ys k.1)

-- the entries up to one SCN are the first of those up to a later one
pub record Between (log : List LogEntry) (low high : ℕ) : Type 0 where
  pub middle : List LogEntry
  pub whole : upto high log ≡ upto low log ++ middle
  pub first : SoundFrom no_database (upto low log)
  pub then : SoundFrom (walked no_database (upto low log)) middle
  pub from : (e : LogEntry) → Has middle e → Contains log e × (low < e.scn) × (e.scn ≤ high)

pub between : (log : List LogEntry) (frontier low high : ℕ) → IsLog log frontier → low ≤ high → Between log low high
between log frontier low high l le =
    let all = begun_by log high (scns_rise 1 frontier log l.scns) in
    let sound : SoundFrom no_database (upto high log) = (sound_split no_database (upto high log) all.rest (subst (λ es. SoundFrom no_database es) all.whole l.sound)).0 in
    let rises : ScnsRise (upto high log) = rises_first (upto high log) all.rest (subst ScnsRise all.whole (scns_rise 1 frontier log l.scns)) in
    let part = begun_by (upto high log) low rises in
    let whole : upto high log ≡ upto low log ++ part.rest = part.whole ∙ ap (λ es. es ++ part.rest) (upto_upto low high log le) in
    let both = sound_split no_database (upto low log) part.rest (subst (λ es. SoundFrom no_database es) whole sound) in
    record {
      middle = part.rest;
      whole = whole;
      first = both.0;
      then = both.1;
      from = λ e m.
          let r = has_filter_back (λ (x : LogEntry). nat_le x.scn high) log e (subst (λ es. Has es e) (sym whole) (has_append_right (upto low log) part.rest e m)) in
          (contains log e r.0, part.above e m, leb-true e.scn high r.1);
    }

-- a definition stays where nothing changes it
pub same_table : (log : List LogEntry) (frontier : ℕ) → IsLog log frontier
    → (obj low high : ℕ) (table : Table) → low ≤ high → table_at log low obj ≡ Some table → NotRedefined log obj low high → table_at log high obj ≡ Some table
unfolding database
same_table log frontier l obj low high table le h k =
    let b = between log frontier low high l le in
    let stays = walked_stays (walked no_database (upto low log)) b.middle obj table b.then (tied (upto low log) obj table h) h
    (λ e m r. let f = b.from e m in k e f.0 r f.1 f.2) in
    ap (λ es. (walked no_database es).tables obj) b.whole ∙ ap (λ (db : Database). db.tables obj) (walked_append no_database (upto low log) b.middle) ∙ stays

-- an object has 1 to 256 extents
pub extents : (log : List LogEntry) (frontier : ℕ) → IsLog log frontier
    → (obj scn : ℕ) (table : Table) → table_at log scn obj ≡ Some table → (1 ≤ table.extents) × (table.extents ≤ 256)
unfolding database
extents log frontier l obj scn table h =
    let b = between log frontier scn scn l (omega arith) in
    walked_bounded no_database (upto scn log) obj b.first (λ t e. absurd (none t e)) table h
  where
    none : (t : Table) → None ≡ Some t → ⊥
    none t e = cc
