-- Lemmas on the walk over a log, and the laws of its rows.
use Rattle.std.proofs.Common.{◌≡◌, ℕ, ◌==◌, Bool, true, false, cond, not, nat_le, List, [], ◌∷◌, ◌++◌, filter, Some, None, refl, sym, ap, ap₂, ◌∙◌, append-nil, arith, true≢false}
use Rattle.std.proofs.lemmas.Bool.{or_parts}
use Rattle.std.proofs.lemmas.Bool.Decides.{nat_tests}
use Rattle.adg_base.specs.declared.log.LogEntry.{LogEntry}
use Rattle.adg_model.specs.Log.{upto}
use Rattle.adg_base.specs.declared.vector.Vector.{Vector}
use Rattle.adg_base.specs.declared.vector.Vector.TheVariants.{Begin, Put, Delete, Undo, Commit, Abort, Create, DropObject, AddColumn, NoInMemory, EndThread}
use Rattle.adg_model.specs.Database.{Rows, Change, played, struck, set_at, Database, no_database, after, walked, database, commits}
use Rattle.adg_base.specs.Address.{place}
use Rattle.adg_model.specs.Laws.{RowsStopAtScn, is_of, has_committed, without, UncommittedChangeNothing}
use Rattle.adg_model.proofs.LogLaws.{upto_append, upto_none}

pub walked_append : (db : Database) (xs ys : List LogEntry) → walked db (xs ++ ys) ≡ walked (walked db xs) ys
walked_append db [] ys = refl
walked_append db (x ∷ xs) ys = walked_append (after db x.vector) xs ys

pub rows_stop_at_scn : RowsStopAtScn
rows_stop_at_scn log more scn h =
    let e : upto scn (log ++ more) ≡ upto scn log = upto_append scn log more ∙ ap (λ es. upto scn log ++ es) (upto_none scn more h) ∙ append-nil (upto scn log) in
    (ap (λ es. (database es).rows) e, ap (λ es. (database es).tables) e)

-- two databases that differ in what is pending of a transaction, and not in rows
record AreAlike (t : ℕ) (a b : Database) : Type 0 where
  rows : a.rows ≡ b.rows
  pending : (n : ℕ) → (n == t) ≡ false → a.pending n ≡ b.pending n

set_at_other : {X : Type 0} (k n : ℕ) (x : X) (f : ℕ → X) → (n == k) ≡ false → set_at k x f n ≡ f n
set_at_other k n x f e = rw e refl

-- where a number is not one that equals t, it does not equal that one either
not_same : (t k n : ℕ) → (k == t) ≡ true → (n == t) ≡ false → (n == k) ≡ false
not_same t k n h e = grind (arith, nat_tests)

set_at_alike : {X : Type 0} (k n : ℕ) (x y : X) (f g : ℕ → X) → x ≡ y → f n ≡ g n → set_at k x f n ≡ set_at k y g n
set_at_alike k n x y f g p q = ap₂ (λ a b. cond (n == k) a b) p q

-- an entry of the transaction keeps them alike, and another does too
module _ (t : ℕ) (a b : Database) (s : AreAlike t a b) where
  alike_pending : (k : ℕ) (changes : List Change) (c : Database) → (k == t) ≡ true → c.rows ≡ a.rows → c.pending ≡ set_at k changes a.pending → AreAlike t c b
  alike_pending k changes c e r p = record {
    rows = r ∙ s.rows;
    pending = λ n j. ap (λ f. f n) p ∙ set_at_other k n changes a.pending (not_same t k n e j) ∙ s.pending n j;
  }

  alike_own : (v : Vector) → is_of t v ≡ true → commits t v ≡ false → AreAlike t (after a v) b
  alike_own (Begin txn) e c = record { rows = s.rows; pending = s.pending }
  alike_own (Put txn o b' s' row) e c = alike_pending txn _ _ e refl refl
  alike_own (Delete txn o b' s') e c = alike_pending txn _ _ e refl refl
  alike_own (Undo txn o b' s') e c = alike_pending txn _ _ e refl refl
  alike_own (Commit txn flag) e c = absurd (true≢false (sym e ∙ c))
  alike_own (Abort txn) e c = alike_pending txn _ _ e refl refl
  alike_own (Create o x f columns) e c = absurd (true≢false (sym e))
  alike_own (DropObject o) e c = absurd (true≢false (sym e))
  alike_own (AddColumn o k) e c = absurd (true≢false (sym e))
  alike_own (NoInMemory o) e c = absurd (true≢false (sym e))
  alike_own EndThread e c = absurd (true≢false (sym e))

  alike_rows : (c d : Database) → c.rows ≡ a.rows → d.rows ≡ b.rows → c.pending ≡ a.pending → d.pending ≡ b.pending → AreAlike t c d
  alike_rows c d r q p o = record { rows = r ∙ s.rows ∙ sym q; pending = λ n j. ap (λ f. f n) p ∙ s.pending n j ∙ sym (ap (λ f. f n) o) }

  alike_set : (k : ℕ) (f : List Change → List Change) → (k == t) ≡ false → (n : ℕ) → (n == t) ≡ false → set_at k (f (a.pending k)) a.pending n ≡ set_at k (f (b.pending k)) b.pending n
  alike_set k f e n j = set_at_alike k n (f (a.pending k)) (f (b.pending k)) a.pending b.pending (ap f (s.pending k e)) (s.pending n j)

  alike_other : (v : Vector) → is_of t v ≡ false → AreAlike t (after a v) (after b v)
  alike_other (Begin txn) e = record { rows = s.rows; pending = s.pending }
  alike_other (Put txn o b' s' row) e = record { rows = s.rows; pending = alike_set txn (λ l. record { at = place o b' s'; row = Some row } ∷ l) e }
  alike_other (Delete txn o b' s') e = record { rows = s.rows; pending = alike_set txn (λ l. record { at = place o b' s'; row = None } ∷ l) e }
  alike_other (Undo txn o b' s') e = record { rows = s.rows; pending = alike_set txn (struck (place o b' s')) e }
  alike_other (Commit txn flag) e = record { rows = ap₂ played (s.pending txn e) s.rows; pending = alike_set txn (λ l. []) e }
  alike_other (Abort txn) e = record { rows = s.rows; pending = alike_set txn (λ l. []) e }
  alike_other (Create o x f columns) e = record { rows = s.rows; pending = s.pending }
  alike_other (DropObject o) e = record { rows = s.rows; pending = s.pending }
  alike_other (AddColumn o k) e = record { rows = s.rows; pending = s.pending }
  alike_other (NoInMemory o) e = record { rows = s.rows; pending = s.pending }
  alike_other EndThread e = s

alike_walked : (t : ℕ) (es : List LogEntry) (a b : Database) → AreAlike t a b → has_committed t es ≡ false → (walked a es).rows ≡ (walked b (without t es)).rows
alike_walked t [] a b s h = s.rows
alike_walked t (e ∷ es) a b s h = by_test (is_of t e.vector) refl (λ c d k. alike_walked t es c d k parts.1)
  where
    parts : (commits t e.vector ≡ false) × (has_committed t es ≡ false)
    parts = or_parts (commits t e.vector) (has_committed t es) h

    by_test : (x : Bool) → is_of t e.vector ≡ x → ((c d : Database) → AreAlike t c d → (walked c es).rows ≡ (walked d (without t es)).rows) → (walked (after a e.vector) es).rows ≡ (walked b (cond (not x) (e ∷ without t es) (without t es))).rows
    by_test true i ih = ih (after a e.vector) b (alike_own t a b s e.vector i parts.0)
    by_test false i ih = ih (after a e.vector) (after b e.vector) (alike_other t a b s e.vector i)

-- two filters, in either order
filter_filter : {X : Type 0} (p q : X → Bool) (xs : List X) → filter p (filter q xs) ≡ filter q (filter p xs)
filter_filter p q [] = refl
filter_filter {X} p q (x ∷ xs) = by_tests (p x) refl (q x) refl (filter_filter p q xs)
  where
    by_tests : (b : Bool) → p x ≡ b → (c : Bool) → q x ≡ c → filter p (filter q xs) ≡ filter q (filter p xs) → filter p (cond c (x ∷ filter q xs) (filter q xs)) ≡ filter q (cond b (x ∷ filter p xs) (filter p xs))
    by_tests true t true k ih = rw (t, k) (ap (λ l. x ∷ l) ih)
    by_tests true t false k ih = rw k ih
    by_tests false t true k ih = rw t ih
    by_tests false t false k ih = ih

pub uncommitted_change_nothing : UncommittedChangeNothing
unfolding database
uncommitted_change_nothing log t scn h at =
    let same = alike_walked t (upto scn log) no_database no_database (record { rows = refl; pending = λ n j. refl }) h in
    let order : without t (upto scn log) ≡ upto scn (without t log) = filter_filter (λ e. not (is_of t e.vector)) (λ e. nat_le e.scn scn) log in
    ap (λ (f : Rows). f at) (same ∙ ap (λ es. (walked no_database es).rows) order)
