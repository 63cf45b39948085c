-- A row stays where no transaction that touched it commits.
use Rattle.std.proofs.Common.{◌≡◌, ℕ, suc, ◌<◌, ◌≤◌, Bool, true, false, cond, List, [], ◌∷◌, ◌++◌, take, Some, None, ◌⊎◌, inl, inr, refl, sym, ap, ◌∙◌, subst, arith, true≢false}
use Rattle.std.specs.Prelude.{◌==◌, ◌||◌, nat_le}
use Rattle.std.specs.List.{AllByRecursion}
use Rattle.std.proofs.lemmas.Bool.{eqb-true, eq-eqb, leb-true, and_parts, or_parts}
use Rattle.adg_base.specs.Address.{Place, place, same_place}
use Rattle.adg_base.specs.declared.vector.Vector.{Vector}
use Rattle.adg_base.specs.declared.vector.Vector.TheVariants.{Begin, Put, Delete, Undo, Commit, Abort, Create, DropObject, AddColumn, NoInMemory, EndThread}
use Rattle.adg_base.specs.declared.log.LogEntry.{LogEntry}
use Rattle.adg_model.specs.Log.{upto}
use Rattle.adg_model.specs.Database.{Rows, Change, Database, no_database, set_at, played, struck, has_change, after, walked, database, rows_at, touched_by, touched, commits}
use Rattle.adg_model.proofs.LogLaws.{upto_all, upto_append, scns_split}
use Rattle.adg_model.proofs.RowLaws.{walked_append}
use Rattle.core_rules.specs.Share.{CommitsAt}
use Rattle.core_rules.specs.State.{At}
use Rattle.core_rules.specs.LogFacts.{NotTouched}
use Rattle.adg_model.specs.Sound.{IsLog}
use Rattle.core_rules.proofs.Lists.{Has, has_at, has_take, has_filter_back, has_filter_map, has_append_right, contains, each_has}
use Rattle.core_rules.proofs.FactsOrder.{scns_rise}

pub place_same : (a b : Place) → same_place a b ≡ true → b ≡ a
place_same a b same =
    let both = and_parts _ _ same in
    let first = and_parts _ _ both.0 in
    let o : a.obj ≡ b.obj = eqb-true a.obj b.obj first.0 in
    let n : a.block ≡ b.block = eqb-true a.block b.block first.1 in
    let s : a.slot ≡ b.slot = eqb-true a.slot b.slot both.1 in
    sym (ap (λ (x : ℕ). place x a.block a.slot) o ∙ ap (λ (x : ℕ). place b.obj x a.slot) n ∙ ap (λ (x : ℕ). place b.obj b.block x) s)

-- changes elsewhere leave a row as it is
played_elsewhere : (changes : List Change) (rows : Rows) (a : Place) → has_change a changes ≡ false → played changes rows a ≡ rows a
played_elsewhere [] rows a h = refl
played_elsewhere (c ∷ cs) rows a h =
    let p = or_parts (same_place a c.at) (has_change a cs) h in
    ap (λ (b : Bool). cond b c.row (played cs rows a)) p.0 ∙ played_elsewhere cs rows a p.1

-- what a vector can change of a row: it commits a transaction with a pending change there
row_after : (db : Database) (v : Vector) (a : Place) → ((t : ℕ) → commits t v ≡ true → has_change a (db.pending t) ≡ false) → (after db v).rows a ≡ db.rows a
row_after db (Commit txn flag) a h = played_elsewhere (db.pending txn) db.rows a (h txn (eq-eqb txn txn refl))
row_after db (Begin txn) a h = refl
row_after db (Put txn o b s row) a h = refl
row_after db (Delete txn o b s) a h = refl
row_after db (Undo txn o b s) a h = refl
row_after db (Abort txn) a h = refl
row_after db (Create o e f columns) a h = refl
row_after db (DropObject o) a h = refl
row_after db (AddColumn o k) a h = refl
row_after db (NoInMemory o) a h = refl
row_after db EndThread a h = refl

row_walked : (db : Database) (es : List LogEntry) (a : Place)
    → ((n : ℕ) (e : LogEntry) (t : ℕ) → At es n e → commits t e.vector ≡ true → has_change a ((walked db (take n es)).pending t) ≡ false)
    → (walked db es).rows a ≡ db.rows a
row_walked db [] a h = refl
row_walked db (x ∷ xs) a h =
    row_walked (after db x.vector) xs a (λ n e t k c. h (suc n) e t k c) ∙ row_after db x.vector a (λ t c. h 0 x t refl c)

-- what a vector makes pending of a transaction at an address, it touches
struck_has : (a b : Place) (cs : List Change) → has_change a (struck b cs) ≡ true → has_change a cs ≡ true
struck_has a b [] h = h
struck_has a b (c ∷ cs) h = by_test (same_place b c.at) h (struck_has a b cs)
  where
    either : (x y z : Bool) → (y ≡ true → z ≡ true) → (x || y) ≡ true → (x || z) ≡ true
    either true y z f k = refl
    either false y z f k = f k

    late : (x y : Bool) → y ≡ true → (x || y) ≡ true
    late true y k = refl
    late false y k = k

    by_test : (x : Bool) → has_change a (cond x cs (c ∷ struck b cs)) ≡ true → (has_change a (struck b cs) ≡ true → has_change a cs ≡ true)
        → has_change a (c ∷ cs) ≡ true
    by_test true k f = late (same_place a c.at) (has_change a cs) k
    by_test false k f = either (same_place a c.at) (has_change a (struck b cs)) (has_change a cs) f k

changed_has : (db : Database) (txn t : ℕ) (a : Place) (c : Change) → has_change a (set_at txn (c ∷ db.pending txn) db.pending t) ≡ true
    → (has_change a (db.pending t) ≡ true) ⊎ (cond (txn == t) (Some c.at) None ≡ Some a)
changed_has db txn t a c h = by_test (t == txn) refl h
  where
    parts : t ≡ txn → (x : Bool) → same_place a c.at ≡ x → (x || has_change a (db.pending txn)) ≡ true
        → (has_change a (db.pending t) ≡ true) ⊎ (cond (txn == t) (Some c.at) None ≡ Some a)
    parts e true s k = inr (ap (λ (b : Bool). cond b (Some c.at) None) (eq-eqb txn t (sym e)) ∙ ap Some (place_same a c.at s))
    parts e false s k = inl (subst (λ n. has_change a (db.pending n) ≡ true) (sym e) k)

    by_test : (x : Bool) → (t == txn) ≡ x → has_change a (cond x (c ∷ db.pending txn) (db.pending t)) ≡ true
        → (has_change a (db.pending t) ≡ true) ⊎ (cond (txn == t) (Some c.at) None ≡ Some a)
    by_test true e k = parts (eqb-true t txn e) (same_place a c.at) refl k
    by_test false e k = inl k

undone_has : (db : Database) (txn t : ℕ) (a b : Place) → has_change a (set_at txn (struck b (db.pending txn)) db.pending t) ≡ true → has_change a (db.pending t) ≡ true
undone_has db txn t a b h = by_test (t == txn) refl h
  where
    by_test : (x : Bool) → (t == txn) ≡ x → has_change a (cond x (struck b (db.pending txn)) (db.pending t)) ≡ true → has_change a (db.pending t) ≡ true
    by_test true e k = subst (λ n. has_change a (db.pending n) ≡ true) (sym (eqb-true t txn e)) (struck_has a b (db.pending txn) k)
    by_test false e k = k

ended_has : (db : Database) (txn t : ℕ) (a : Place) → has_change a (set_at txn [] db.pending t) ≡ true → has_change a (db.pending t) ≡ true
ended_has db txn t a h = by_test (t == txn) h
  where
    by_test : (x : Bool) → has_change a (cond x [] (db.pending t)) ≡ true → has_change a (db.pending t) ≡ true
    by_test true k = absurd (true≢false (sym k))
    by_test false k = k

pending_after : (db : Database) (v : Vector) (t : ℕ) (a : Place) → has_change a ((after db v).pending t) ≡ true
    → (has_change a (db.pending t) ≡ true) ⊎ (touched_by t v ≡ Some a)
pending_after db (Put txn o b s row) t a h = changed_has db txn t a (record { at = place o b s; row = Some row }) h
pending_after db (Delete txn o b s) t a h = changed_has db txn t a (record { at = place o b s; row = None }) h
pending_after db (Undo txn o b s) t a h = inl (undone_has db txn t a (place o b s) h)
pending_after db (Commit txn flag) t a h = inl (ended_has db txn t a h)
pending_after db (Abort txn) t a h = inl (ended_has db txn t a h)
pending_after db (Begin txn) t a h = inl h
pending_after db (Create o e f columns) t a h = inl h
pending_after db (DropObject o) t a h = inl h
pending_after db (AddColumn o k) t a h = inl h
pending_after db (NoInMemory o) t a h = inl h
pending_after db EndThread t a h = inl h

-- so what is pending behind entries was pending before them, or one of them touches it
pub pending_walked : (db : Database) (es : List LogEntry) (t : ℕ) (a : Place) → has_change a ((walked db es).pending t) ≡ true
    → (has_change a (db.pending t) ≡ true) ⊎ ((e : LogEntry) × Has es e × (touched_by t e.vector ≡ Some a))
pending_walked db [] t a h = inl h
pending_walked db (x ∷ xs) t a h = either (pending_walked (after db x.vector) xs t a h)
  where
    now : (has_change a (db.pending t) ≡ true) ⊎ (touched_by t x.vector ≡ Some a) → (has_change a (db.pending t) ≡ true) ⊎ ((e : LogEntry) × Has (x ∷ xs) e × (touched_by t e.vector ≡ Some a))
    now (inl k) = inl k
    now (inr k) = inr (x, inl refl, k)

    either : (has_change a ((after db x.vector).pending t) ≡ true) ⊎ ((e : LogEntry) × Has xs e × (touched_by t e.vector ≡ Some a))
        → (has_change a (db.pending t) ≡ true) ⊎ ((e : LogEntry) × Has (x ∷ xs) e × (touched_by t e.vector ≡ Some a))
    either (inl k) = now (pending_after db x.vector t a k)
    either (inr r) = inr (r.0, inr r.1, r.2)

-- a vector that commits a transaction is its commit
commit_vector : (t : ℕ) (v : Vector) → commits t v ≡ true → (flag : Bool) × (v ≡ Commit t flag)
commit_vector t (Commit txn flag) h = (flag, ap (λ n. Commit n flag) (eqb-true txn t h))
commit_vector t (Begin txn) h = absurd (true≢false (sym h))
commit_vector t (Put txn o b s row) h = absurd (true≢false (sym h))
commit_vector t (Delete txn o b s) h = absurd (true≢false (sym h))
commit_vector t (Undo txn o b s) h = absurd (true≢false (sym h))
commit_vector t (Abort txn) h = absurd (true≢false (sym h))
commit_vector t (Create o e f columns) h = absurd (true≢false (sym h))
commit_vector t (DropObject o) h = absurd (true≢false (sym h))
commit_vector t (AddColumn o k) h = absurd (true≢false (sym h))
commit_vector t (NoInMemory o) h = absurd (true≢false (sym h))
commit_vector t EndThread h = absurd (true≢false (sym h))

-- The log up to the lower SCN, and what follows it up to the higher one.
module _ (log : List LogEntry) (a : Place) (low high : ℕ) (none : NotTouched log low high a) where
  untouched : (rest : List LogEntry) (n : ℕ) (e : LogEntry) (t : ℕ) → ((x : LogEntry) → Has rest x → Has log x × (low < x.scn) × (x.scn ≤ high))
      → At rest n e → commits t e.vector ≡ true → has_change a ((walked (walked no_database (upto low log)) (take n rest)).pending t) ≡ false
  untouched rest n e t within at c = by_test (has_change a ((walked (walked no_database (upto low log)) (take n rest)).pending t)) refl
    where
      never : (x : LogEntry) → Has log x → touched_by t x.vector ≡ Some a → ⊥
      never x h k =
          let w = within e (has_at rest n e at) in
          let v = commit_vector t e.vector c in
          let here : CommitsAt log t e.scn = record { entry = e; flag = v.0; within = contains log e w.0; commits = v.1; at = refl } in
          none t e.scn here w.1 w.2 (contains (touched t log) a (has_filter_map (λ (y : LogEntry). touched_by t y.vector) log x a h k))

      earlier : (has_change a ((no_database).pending t) ≡ true) ⊎ ((x : LogEntry) × Has (upto low log) x × (touched_by t x.vector ≡ Some a)) → ⊥
      earlier (inl k) = true≢false (sym k)
      earlier (inr r) = never r.0 (has_filter_back (λ (y : LogEntry). nat_le y.scn low) log r.0 r.1).0 r.2

      either : (has_change a ((walked no_database (upto low log)).pending t) ≡ true) ⊎ ((x : LogEntry) × Has (take n rest) x × (touched_by t x.vector ≡ Some a)) → ⊥
      either (inl k) = earlier (pending_walked no_database (upto low log) t a k)
      either (inr r) = never r.0 (within r.0 (has_take n rest r.0 r.1)).0 r.2

      by_test : (x : Bool) → has_change a ((walked (walked no_database (upto low log)) (take n rest)).pending t) ≡ x → x ≡ false
      by_test true e = absurd (either (pending_walked (walked no_database (upto low log)) (take n rest) t a e))
      by_test false e = refl

pub same_row : (log : List LogEntry) (frontier : ℕ) → IsLog log frontier
    → (a : Place) (low high : ℕ) → low ≤ high → NotTouched log low high a → rows_at log high a ≡ rows_at log low a
unfolding database
same_row log frontier is a low high l none =
    let split = scns_split low log (scns_rise 1 frontier log is.scns) in
    let rest = upto high split.0 in
    let first : upto high log ≡ upto high (upto low log) ++ rest = ap (upto high) split.1 ∙ upto_append high (upto low log) split.0 in
    let whole : upto high (upto low log) ≡ upto low log = upto_all high (upto low log) (below low high log l) in
    let parts : upto high log ≡ upto low log ++ rest = first ∙ ap (λ (es : List LogEntry). es ++ rest) whole in
    let walk : walked no_database (upto high log) ≡ walked (walked no_database (upto low log)) rest = ap (walked no_database) parts ∙ walked_append no_database (upto low log) rest in
    let inside : (x : LogEntry) → Has rest x → Has log x × (low < x.scn) × (x.scn ≤ high) = within split.0 split.1 split.2 in
    ap (λ (db : Database). db.rows a) walk ∙ row_walked (walked no_database (upto low log)) rest a (λ n e t. untouched log a low high none rest n e t inside)
  where
    below : (low high : ℕ) (es : List LogEntry) → low ≤ high → AllByRecursion (λ (x : LogEntry). x.scn ≤ high) (upto low es)
    below low high [] l = tt
    below low high (e ∷ es) l = by_test (nat_le e.scn low) refl (below low high es l)
      where
        by_test : (b : Bool) → nat_le e.scn low ≡ b → AllByRecursion (λ (x : LogEntry). x.scn ≤ high) (upto low es) → AllByRecursion (λ (x : LogEntry). x.scn ≤ high) (cond b (e ∷ upto low es) (upto low es))
        by_test true t ih = let u : e.scn ≤ low = leb-true e.scn low t in (omega arith, ih)
        by_test false t ih = ih

    within : (more : List LogEntry) → log ≡ upto low log ++ more → AllByRecursion (λ (x : LogEntry). low < x.scn) more → (x : LogEntry) → Has (upto high more) x → Has log x × (low < x.scn) × (x.scn ≤ high)
    within more e above x h =
        let f = has_filter_back (λ (y : LogEntry). nat_le y.scn high) more x h in
        (subst (λ (ys : List LogEntry). Has ys x) (sym e) (has_append_right (upto low log) more x f.0), each_has (λ (y : LogEntry). low < y.scn) more x above f.0, leb-true x.scn high f.1)
