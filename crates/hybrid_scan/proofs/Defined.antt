-- The definition of an object stands where no entry between two SCNs changes it.
use Rattle.std.proofs.Common.{◌≡◌, ℕ, ◌<◌, ◌≤◌, Bool, true, false, not, nat_le, ◌==◌, cond, if◌then◌else◌, List, [], ◌∷◌, ◌++◌, length, Option, Some, None, refl, sym, ap, subst, ◌∙◌, arith, true≢false}
use Rattle.std.specs.Option.{is_some}
use Rattle.std.specs.List.{AllByRecursion, Contains}
use Rattle.std.proofs.lemmas.Bool.Decides.{nat_tests}
use Rattle.std.proofs.lemmas.List.Elements.{Contains-append_right}
use Rattle.adg_base.specs.declared.value.ColKind.{ColKind}
use Rattle.adg_base.specs.declared.vector.Vector.{Vector}
use Rattle.adg_base.specs.declared.vector.Vector.TheVariants.{Begin, Put, Delete, Undo, Commit, Abort, Create, DropObject, AddColumn, NoInMemory, EndThread}
use Rattle.adg_base.specs.declared.log.LogEntry.{LogEntry}
use Rattle.adg_model.specs.declared.fault.CheckKind.{CheckKind}
use Rattle.adg_model.specs.declared.fault.CheckKind.TheVariants.{ObjectTwice}
use Rattle.adg_model.specs.Log.{upto}
use Rattle.adg_model.specs.Database.{Database, Table, no_database, after, walked, database, table_at, with_column, without_flag}
use Rattle.adg_model.specs.Sound.{SoundFrom, refusal, demand, IsLog}
use Rattle.adg_model.proofs.LogLaws.{each_weaker, each_upto, upto_append, upto_all}
use Rattle.adg_model.proofs.RowLaws.{walked_append}
use Rattle.row_blocks.proofs.PickedLaw.{each_parts, each_and, sound_parts}
use Rattle.row_blocks.proofs.Walked.{splits}
use Rattle.hybrid_scan.specs.Covers.{changes_definition, IsStanding, IsWideAt}

-- an object that is defined was created
abbrev WasCreated : ℕ → Database → Type 0
WasCreated obj db = is_some (db.tables obj) ≡ true → db.created obj ≡ true

chosen : {X : Type 0} (b : Bool) (x y : X) → b ≡ false → (if b then x else y) ≡ y
chosen b x y e = ap (λ c. if c then x else y) e

column_kept : (o : Option Table) (k : ColKind) → is_some (with_column o k) ≡ is_some o
column_kept None k = refl
column_kept (Some table) k = refl

flag_kept : (o : Option Table) → is_some (without_flag o) ≡ is_some o
flag_kept None = refl
flag_kept (Some table) = refl

is_equal : (n m : ℕ) → (n == m) ≡ true → n ≡ m
is_equal n m e = grind (arith, nat_tests)

created_after : (obj : ℕ) (db : Database) (v : Vector) → WasCreated obj db → WasCreated obj (after db v)
created_after obj db (Create o e f columns) h = by_object (obj == o) refl
  where
    by_object : (b : Bool) → (obj == o) ≡ b → is_some (if b then Some (record { extents = e; flag = f; kinds = columns }) else db.tables obj) ≡ true → (if b then true else db.created obj) ≡ true
    by_object true k is = refl
    by_object false k is = h is
created_after obj db (DropObject o) h = by_object (obj == o)
  where
    by_object : (b : Bool) → is_some (if b then None else db.tables obj) ≡ true → db.created obj ≡ true
    by_object true is = absurd (true≢false (sym is))
    by_object false is = h is
created_after obj db (AddColumn o k) h = by_object (obj == o) refl
  where
    by_object : (b : Bool) → (obj == o) ≡ b → is_some (if b then with_column (db.tables o) k else db.tables obj) ≡ true → db.created obj ≡ true
    by_object true e is = h (ap (λ n. is_some (db.tables n)) (is_equal obj o e) ∙ sym (column_kept (db.tables o) k) ∙ is)
    by_object false e is = h is
created_after obj db (NoInMemory o) h = by_object (obj == o) refl
  where
    by_object : (b : Bool) → (obj == o) ≡ b → is_some (if b then without_flag (db.tables o) else db.tables obj) ≡ true → db.created obj ≡ true
    by_object true e is = h (ap (λ n. is_some (db.tables n)) (is_equal obj o e) ∙ sym (flag_kept (db.tables o)) ∙ is)
    by_object false e is = h is
created_after obj db (Begin txn) h = h
created_after obj db (Put txn o b s row) h = h
created_after obj db (Delete txn o b s) h = h
created_after obj db (Undo txn o b s) h = h
created_after obj db (Commit txn flag) h = h
created_after obj db (Abort txn) h = h
created_after obj db EndThread h = h

created_walked : (obj : ℕ) (db : Database) (es : List LogEntry) → WasCreated obj db → WasCreated obj (walked db es)
created_walked obj db [] h = h
created_walked obj db (e ∷ es) h = created_walked obj (after db e.vector) es (created_after obj db e.vector h)

-- what was created stays so
stays_created : (obj : ℕ) (db : Database) (v : Vector) → db.created obj ≡ true → (after db v).created obj ≡ true
stays_created obj db (Create o e f columns) h = by_object (obj == o)
  where
    by_object : (b : Bool) → (if b then true else db.created obj) ≡ true
    by_object true = refl
    by_object false = h
stays_created obj db (DropObject o) h = h
stays_created obj db (AddColumn o k) h = h
stays_created obj db (NoInMemory o) h = h
stays_created obj db (Begin txn) h = h
stays_created obj db (Put txn o b s row) h = h
stays_created obj db (Delete txn o b s) h = h
stays_created obj db (Undo txn o b s) h = h
stays_created obj db (Commit txn flag) h = h
stays_created obj db (Abort txn) h = h
stays_created obj db EndThread h = h

turned : (n m : ℕ) → (n == m) ≡ false → (m == n) ≡ false
turned n m e = grind (arith, nat_tests)

not_twice : (b : Bool) → demand (not b) ObjectTwice None ≡ None → b ≡ false
not_twice true e = absurd (some_none ObjectTwice e)
  where
    some_none : (c : CheckKind) → Some c ≡ None → ⊥
    some_none c e = cc
not_twice false e = refl

-- a vector of a sound log that doesn't change the definition leaves it
table_stays : (obj : ℕ) (db : Database) (v : Vector) → refusal db v ≡ None → changes_definition obj v ≡ false → db.created obj ≡ true → (after db v).tables obj ≡ db.tables obj
table_stays obj db (Create o e f columns) sound stands created = chosen (obj == o) (Some (record { extents = e; flag = f; kinds = columns })) (db.tables obj) (by_object (obj == o) refl)
  where
    by_object : (b : Bool) → (obj == o) ≡ b → (obj == o) ≡ false
    by_object false k = k
    by_object true k = absurd (true≢false (sym created ∙ ap db.created (is_equal obj o k) ∙ not_twice (db.created o) sound))
table_stays obj db (DropObject o) sound stands created = chosen (obj == o) None (db.tables obj) (turned o obj stands)
table_stays obj db (AddColumn o k) sound stands created = chosen (obj == o) (with_column (db.tables o) k) (db.tables obj) (turned o obj stands)
table_stays obj db (NoInMemory o) sound stands created = chosen (obj == o) (without_flag (db.tables o)) (db.tables obj) (turned o obj stands)
table_stays obj db (Begin txn) sound stands created = refl
table_stays obj db (Put txn o b s row) sound stands created = refl
table_stays obj db (Delete txn o b s) sound stands created = refl
table_stays obj db (Undo txn o b s) sound stands created = refl
table_stays obj db (Commit txn flag) sound stands created = refl
table_stays obj db (Abort txn) sound stands created = refl
table_stays obj db EndThread sound stands created = refl

tables_stay : (obj : ℕ) (db : Database) (es : List LogEntry) → SoundFrom db es → AllByRecursion (λ e. changes_definition obj e.vector ≡ false) es → db.created obj ≡ true → (walked db es).tables obj ≡ db.tables obj
tables_stay obj db [] sound stands created = refl
tables_stay obj db (e ∷ es) sound stands created =
    tables_stay obj (after db e.vector) es sound.2 stands.1 (stays_created obj db e.vector created) ∙ table_stays obj db e.vector sound.1 stands.0 created

sound_rest : (db : Database) (xs ys : List LogEntry) → SoundFrom db (xs ++ ys) → SoundFrom (walked db xs) ys
sound_rest db [] ys h = h
sound_rest db (e ∷ xs) ys h = sound_rest (after db e.vector) xs ys h.2

contained_later : (x : LogEntry) (xs : List LogEntry) (y : LogEntry) → Contains xs y → Contains (x ∷ xs) y
contained_later x xs y c = Contains-append_right (x ∷ []) xs y c

each_contained : (es : List LogEntry) → AllByRecursion (λ e. Contains es e) es
each_contained [] = tt
each_contained (e ∷ es) = ((0, omega arith, refl), each_weaker (λ x. Contains es x) (λ x. Contains (e ∷ es) x) (λ x c. contained_later e es x c) es (each_contained es))

upto_each : (q : ℕ) (es : List LogEntry) → AllByRecursion (λ e. e.scn ≤ q) (upto q es)
upto_each q [] = tt
upto_each q (e ∷ es) = by_test (nat_le e.scn q) refl (upto_each q es)
  where
    by_test : (b : Bool) → nat_le e.scn q ≡ b → AllByRecursion (λ x. x.scn ≤ q) (upto q es) → AllByRecursion (λ x. x.scn ≤ q) (cond b (e ∷ upto q es) (upto q es))
    by_test true t ih = (grind (arith, nat_tests), ih)
    by_test false t ih = ih

-- the definition at the one SCN is that at the other
table_unchanged : (log : List LogEntry) (frontier obj s q : ℕ) (table : Table) → IsLog log frontier → s ≤ q → IsStanding log obj s q → table_at log s obj ≡ Some table → table_at log q obj ≡ Some table
unfolding database
table_unchanged log frontier obj s q table is_log within standing defined =
    let low = splits s 1 frontier log is_log.scns in
    let ys = upto q low.high in
    let high = splits q 1 frontier log is_log.scns in
    let upto_q : upto q log ≡ low.low ++ ys =
    ap (upto q) low.whole ∙ upto_append q low.low low.high
    ∙ ap (λ l. l ++ ys) (upto_all q low.low (each_weaker (λ e. e.scn ≤ s) (λ e. e.scn ≤ q) (λ e h. omega (arith, h, within)) low.low low.are_low)) in
    let sound : SoundFrom no_database (low.low ++ ys) =
    subst (SoundFrom no_database) (sym high.upto ∙ upto_q) (sound_parts no_database high.low high.high (subst (SoundFrom no_database) high.whole is_log.sound)) in
    let contained = each_upto (λ e. Contains log e) q low.high (each_parts (λ e. Contains log e) low.low low.high (subst (AllByRecursion (λ e. Contains log e)) low.whole (each_contained log))).1 in
    let above = each_upto (λ e. s < e.scn) q low.high low.are_high in
    let between = each_and (λ e. s < e.scn) (λ e. e.scn ≤ q) (λ e. (s < e.scn) × (e.scn ≤ q)) ys (λ e a b. (a, b)) above (upto_each q low.high) in
    let stands = each_and (λ e. Contains log e) (λ e. (s < e.scn) × (e.scn ≤ q)) (λ e. changes_definition obj e.vector ≡ false) ys (λ e c b. standing e c b.0 b.1) contained between in
    let at_s : (walked no_database low.low).tables obj ≡ Some table = ap (λ es. (walked no_database es).tables obj) (sym low.upto) ∙ defined in
    let created = created_walked obj no_database low.low (λ is. absurd (true≢false (sym is))) (ap is_some at_s) in
    ap (λ es. (walked no_database es).tables obj) upto_q ∙ ap (λ db. db.tables obj) (walked_append no_database low.low ys)
    ∙ tables_stay obj (walked no_database low.low) ys (sound_rest no_database low.low ys sound) stands created ∙ at_s

-- so the object is as wide
pub same_width : (log : List LogEntry) (frontier obj s q width width' : ℕ) → IsLog log frontier → s ≤ q → IsStanding log obj s q → IsWideAt log s obj width → IsWideAt log q obj width' → width ≡ width'
same_width log frontier obj s q width width' is_log within standing at_s at_q =
    let is : at_s.0 ≡ at_q.0 = some_table at_s.0 at_q.0 (sym (table_unchanged log frontier obj s q at_s.0 is_log within standing at_s.1) ∙ at_q.1) in
    sym at_s.2 ∙ ap (λ t. length t.kinds) is ∙ at_q.2
  where
    some_table : (x y : Table) → Some x ≡ Some y → x ≡ y
    some_table x y e = cc
