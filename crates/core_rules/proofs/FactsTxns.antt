-- The transactions of a log: each begins and ends at most once, begins before it touches and before it ends, and
-- touches before it ends.
use Rattle.std.proofs.Common.{◌≡◌, ℕ, zero, suc, ◌<◌, ◌≤◌, Bool, true, false, cond, not, List, [], ◌∷◌, take, Option, Some, None, ◌⊎◌, inl, inr, refl, sym, ap, subst, arith, true≢false}
use Rattle.std.specs.Prelude.{◌==◌}
use Rattle.std.specs.List.{Contains}
use Rattle.std.proofs.lemmas.Bool.{cases_order, eqb-true, eq-eqb, and_parts}
use Rattle.adg_base.specs.Address.{Place, place}
use Rattle.adg_base.specs.declared.vector.Vector.{Vector}
use Rattle.adg_base.specs.declared.vector.Vector.TheVariants.{Begin, Put, Delete, Undo, Commit, Abort, Create, DropObject, AddColumn, NoInMemory, EndThread}
use Rattle.adg_base.specs.declared.log.LogEntry.{LogEntry}
use Rattle.adg_model.specs.declared.fault.CheckKind.{CheckKind}
use Rattle.adg_model.specs.declared.fault.CheckKind.TheVariants.{TxnTwice, TxnUnknown}
use Rattle.adg_model.specs.Database.{Database, no_database, set_at, after, walked, touched_by}
use Rattle.adg_model.specs.Sound.{SoundFrom, demand, is_running, refusal, IsLog}
use Rattle.core_rules.specs.Share.{begins, ends}
use Rattle.core_rules.specs.State.{At}
use Rattle.core_rules.proofs.Lists.{at_same, at_take, at_take_back, at_contains, contains_at}
use Rattle.core_rules.proofs.FactsOrder.{positions, rises}

-- a check that holds
demand_holds : (b : Bool) (kind : CheckKind) (later : Option CheckKind) → demand b kind later ≡ None → (b ≡ true) × (later ≡ None)
demand_holds true kind later h = (refl, h)
demand_holds false kind later h = let c : Some kind ≡ None = h in absurd cc

-- each entry passes the checks against those before it
pub sound_at : (db : Database) (es : List LogEntry) (n : ℕ) (e : LogEntry) → SoundFrom db es → At es n e → refusal (walked db (take n es)) e.vector ≡ None
sound_at db [] n e h a = let c : None ≡ Some e = a in absurd cc
sound_at db (x ∷ xs) zero e h a = let same : Some x ≡ Some e = a in let is : x ≡ e = cc in subst (λ (y : LogEntry). refusal db y.vector ≡ None) is h.1
sound_at db (x ∷ xs) (suc n) e h a = sound_at (after db x.vector) xs n e h.2 a

-- a number set to true in a function
set_here : (k t : ℕ) (f : ℕ → Bool) → (k == t) ≡ true → set_at k true f t ≡ true
set_here k t f h = ap (λ (b : Bool). cond b true (f t)) (eq-eqb t k (sym (eqb-true k t h)))

set_kept : (k t : ℕ) (f : ℕ → Bool) → f t ≡ true → set_at k true f t ≡ true
set_kept k t f h = either (t == k)
  where
    either : (b : Bool) → cond b true (f t) ≡ true
    either true = refl
    either false = h

set_only : (k t : ℕ) (f : ℕ → Bool) → set_at k true f t ≡ true → (f t ≡ true) ⊎ ((k == t) ≡ true)
set_only k t f h = either (t == k) refl h
  where
    either : (b : Bool) → (t == k) ≡ b → cond b true (f t) ≡ true → (f t ≡ true) ⊎ ((k == t) ≡ true)
    either true e u = inr (eq-eqb k t (sym (eqb-true t k e)))
    either false e u = inl u

-- what one vector says of the transactions that were begun, and of those that have ended
begun_now : (db : Database) (v : Vector) (t : ℕ) → begins t v ≡ true → (after db v).begun t ≡ true
begun_now db (Begin txn) t h = set_here txn t db.begun h
begun_now db (Put txn o b s row) t h = absurd (true≢false (sym h))
begun_now db (Delete txn o b s) t h = absurd (true≢false (sym h))
begun_now db (Undo txn o b s) t h = absurd (true≢false (sym h))
begun_now db (Commit txn flag) t h = absurd (true≢false (sym h))
begun_now db (Abort txn) t h = absurd (true≢false (sym h))
begun_now db (Create o e f columns) t h = absurd (true≢false (sym h))
begun_now db (DropObject o) t h = absurd (true≢false (sym h))
begun_now db (AddColumn o k) t h = absurd (true≢false (sym h))
begun_now db (NoInMemory o) t h = absurd (true≢false (sym h))
begun_now db EndThread t h = absurd (true≢false (sym h))

begun_stays : (db : Database) (v : Vector) (t : ℕ) → db.begun t ≡ true → (after db v).begun t ≡ true
begun_stays db (Begin txn) t h = set_kept txn t db.begun h
begun_stays db (Put txn o b s row) t h = h
begun_stays db (Delete txn o b s) t h = h
begun_stays db (Undo txn o b s) t h = h
begun_stays db (Commit txn flag) t h = h
begun_stays db (Abort txn) t h = h
begun_stays db (Create o e f columns) t h = h
begun_stays db (DropObject o) t h = h
begun_stays db (AddColumn o k) t h = h
begun_stays db (NoInMemory o) t h = h
begun_stays db EndThread t h = h

begun_only : (db : Database) (v : Vector) (t : ℕ) → (after db v).begun t ≡ true → (db.begun t ≡ true) ⊎ (begins t v ≡ true)
begun_only db (Begin txn) t h = set_only txn t db.begun h
begun_only db (Put txn o b s row) t h = inl h
begun_only db (Delete txn o b s) t h = inl h
begun_only db (Undo txn o b s) t h = inl h
begun_only db (Commit txn flag) t h = inl h
begun_only db (Abort txn) t h = inl h
begun_only db (Create o e f columns) t h = inl h
begun_only db (DropObject o) t h = inl h
begun_only db (AddColumn o k) t h = inl h
begun_only db (NoInMemory o) t h = inl h
begun_only db EndThread t h = inl h

ended_now : (db : Database) (v : Vector) (t : ℕ) → ends t v ≡ true → (after db v).ended t ≡ true
ended_now db (Commit txn flag) t h = set_here txn t db.ended h
ended_now db (Abort txn) t h = set_here txn t db.ended h
ended_now db (Begin txn) t h = absurd (true≢false (sym h))
ended_now db (Put txn o b s row) t h = absurd (true≢false (sym h))
ended_now db (Delete txn o b s) t h = absurd (true≢false (sym h))
ended_now db (Undo txn o b s) t h = absurd (true≢false (sym h))
ended_now db (Create o e f columns) t h = absurd (true≢false (sym h))
ended_now db (DropObject o) t h = absurd (true≢false (sym h))
ended_now db (AddColumn o k) t h = absurd (true≢false (sym h))
ended_now db (NoInMemory o) t h = absurd (true≢false (sym h))
ended_now db EndThread t h = absurd (true≢false (sym h))

ended_stays : (db : Database) (v : Vector) (t : ℕ) → db.ended t ≡ true → (after db v).ended t ≡ true
ended_stays db (Commit txn flag) t h = set_kept txn t db.ended h
ended_stays db (Abort txn) t h = set_kept txn t db.ended h
ended_stays db (Begin txn) t h = h
ended_stays db (Put txn o b s row) t h = h
ended_stays db (Delete txn o b s) t h = h
ended_stays db (Undo txn o b s) t h = h
ended_stays db (Create o e f columns) t h = h
ended_stays db (DropObject o) t h = h
ended_stays db (AddColumn o k) t h = h
ended_stays db (NoInMemory o) t h = h
ended_stays db EndThread t h = h

-- so what entries before one began and ended is so there
begun_kept : (db : Database) (es : List LogEntry) (t : ℕ) → db.begun t ≡ true → (walked db es).begun t ≡ true
begun_kept db [] t h = h
begun_kept db (x ∷ xs) t h = begun_kept (after db x.vector) xs t (begun_stays db x.vector t h)

begun_after : (db : Database) (es : List LogEntry) (n : ℕ) (e : LogEntry) (t : ℕ) → At es n e → begins t e.vector ≡ true → (walked db es).begun t ≡ true
begun_after db [] n e t a h = let c : None ≡ Some e = a in absurd cc
begun_after db (x ∷ xs) zero e t a h =
    let same : Some x ≡ Some e = a in
    let is : e ≡ x = cc in
    begun_kept (after db x.vector) xs t (begun_now db x.vector t (subst (λ (y : LogEntry). begins t y.vector ≡ true) is h))
begun_after db (x ∷ xs) (suc n) e t a h = begun_after (after db x.vector) xs n e t a h

begun_by : (db : Database) (es : List LogEntry) (t : ℕ) → (walked db es).begun t ≡ true → (db.begun t ≡ true) ⊎ ((n : ℕ) × (e : LogEntry) × At es n e × (begins t e.vector ≡ true))
begun_by db [] t h = inl h
begun_by db (x ∷ xs) t h = either (begun_by (after db x.vector) xs t h)
  where
    now : (db.begun t ≡ true) ⊎ (begins t x.vector ≡ true) → (db.begun t ≡ true) ⊎ ((n : ℕ) × (e : LogEntry) × At (x ∷ xs) n e × (begins t e.vector ≡ true))
    now (inl k) = inl k
    now (inr k) = inr (0, x, refl, k)

    either : ((after db x.vector).begun t ≡ true) ⊎ ((n : ℕ) × (e : LogEntry) × At xs n e × (begins t e.vector ≡ true))
        → (db.begun t ≡ true) ⊎ ((n : ℕ) × (e : LogEntry) × At (x ∷ xs) n e × (begins t e.vector ≡ true))
    either (inl k) = now (begun_only db x.vector t k)
    either (inr r) = inr (suc r.0, r.1, r.2, r.3)

ended_kept : (db : Database) (es : List LogEntry) (t : ℕ) → db.ended t ≡ true → (walked db es).ended t ≡ true
ended_kept db [] t h = h
ended_kept db (x ∷ xs) t h = ended_kept (after db x.vector) xs t (ended_stays db x.vector t h)

ended_after : (db : Database) (es : List LogEntry) (n : ℕ) (e : LogEntry) (t : ℕ) → At es n e → ends t e.vector ≡ true → (walked db es).ended t ≡ true
ended_after db [] n e t a h = let c : None ≡ Some e = a in absurd cc
ended_after db (x ∷ xs) zero e t a h =
    let same : Some x ≡ Some e = a in
    let is : e ≡ x = cc in
    ended_kept (after db x.vector) xs t (ended_now db x.vector t (subst (λ (y : LogEntry). ends t y.vector ≡ true) is h))
ended_after db (x ∷ xs) (suc n) e t a h = ended_after (after db x.vector) xs n e t a h

-- what the checks say of a vector that begins a transaction, and of one that ends it or touches for it
new_begins : (db : Database) (v : Vector) (t : ℕ) → begins t v ≡ true → refusal db v ≡ None → db.begun t ≡ true → ⊥
new_begins db (Begin txn) t h r k =
    let p = demand_holds (not (db.begun txn)) TxnTwice None r in
    let was : db.begun txn ≡ true = subst (λ n. db.begun n ≡ true) (sym (eqb-true txn t h)) k in
    let c : not true ≡ true = subst (λ b. not b ≡ true) was p.0 in
    true≢false (sym c)
new_begins db (Put txn o b s row) t h r k = true≢false (sym h)
new_begins db (Delete txn o b s) t h r k = true≢false (sym h)
new_begins db (Undo txn o b s) t h r k = true≢false (sym h)
new_begins db (Commit txn flag) t h r k = true≢false (sym h)
new_begins db (Abort txn) t h r k = true≢false (sym h)
new_begins db (Create o e f columns) t h r k = true≢false (sym h)
new_begins db (DropObject o) t h r k = true≢false (sym h)
new_begins db (AddColumn o x) t h r k = true≢false (sym h)
new_begins db (NoInMemory o) t h r k = true≢false (sym h)
new_begins db EndThread t h r k = true≢false (sym h)

running_named : (db : Database) (txn t : ℕ) (later : Option CheckKind) → txn ≡ t → demand (is_running db txn) TxnUnknown later ≡ None → is_running db t ≡ true
running_named db txn t later e r = subst (λ n. is_running db n ≡ true) e (demand_holds (is_running db txn) TxnUnknown later r).0

running_ends : (db : Database) (v : Vector) (t : ℕ) → ends t v ≡ true → refusal db v ≡ None → is_running db t ≡ true
running_ends db (Commit txn flag) t h r = running_named db txn t _ (eqb-true txn t h) r
running_ends db (Abort txn) t h r = running_named db txn t _ (eqb-true txn t h) r
running_ends db (Begin txn) t h r = absurd (true≢false (sym h))
running_ends db (Put txn o b s row) t h r = absurd (true≢false (sym h))
running_ends db (Delete txn o b s) t h r = absurd (true≢false (sym h))
running_ends db (Undo txn o b s) t h r = absurd (true≢false (sym h))
running_ends db (Create o e f columns) t h r = absurd (true≢false (sym h))
running_ends db (DropObject o) t h r = absurd (true≢false (sym h))
running_ends db (AddColumn o x) t h r = absurd (true≢false (sym h))
running_ends db (NoInMemory o) t h r = absurd (true≢false (sym h))
running_ends db EndThread t h r = absurd (true≢false (sym h))

touch_named : (txn t : ℕ) (a b : Place) → cond (txn == t) (Some a) None ≡ Some b → txn ≡ t
touch_named txn t a b h = by_test (txn == t) refl h
  where
    by_test : (x : Bool) → (txn == t) ≡ x → cond x (Some a) None ≡ Some b → txn ≡ t
    by_test true e k = eqb-true txn t e
    by_test false e k = let c : None ≡ Some b = k in absurd cc

running_touches : (db : Database) (v : Vector) (t : ℕ) (a : Place) → touched_by t v ≡ Some a → refusal db v ≡ None → is_running db t ≡ true
running_touches db (Put txn o b s row) t a h r = running_named db txn t _ (touch_named txn t (place o b s) a h) r
running_touches db (Delete txn o b s) t a h r = running_named db txn t _ (touch_named txn t (place o b s) a h) r
running_touches db (Undo txn o b s) t a h r = running_named db txn t _ (touch_named txn t (place o b s) a h) r
running_touches db (Begin txn) t a h r = let c : None ≡ Some a = h in absurd cc
running_touches db (Commit txn flag) t a h r = let c : None ≡ Some a = h in absurd cc
running_touches db (Abort txn) t a h r = let c : None ≡ Some a = h in absurd cc
running_touches db (Create o e f columns) t a h r = let c : None ≡ Some a = h in absurd cc
running_touches db (DropObject o) t a h r = let c : None ≡ Some a = h in absurd cc
running_touches db (AddColumn o x) t a h r = let c : None ≡ Some a = h in absurd cc
running_touches db (NoInMemory o) t a h r = let c : None ≡ Some a = h in absurd cc
running_touches db EndThread t a h r = let c : None ≡ Some a = h in absurd cc

-- a vector that touches ends nothing
touch_no_end : (t : ℕ) (a : Place) (v : Vector) → touched_by t v ≡ Some a → ends t v ≡ true → ⊥
touch_no_end t a (Commit txn flag) h k = let c : None ≡ Some a = h in absurd cc
touch_no_end t a (Abort txn) h k = let c : None ≡ Some a = h in absurd cc
touch_no_end t a (Put txn o b s row) h k = true≢false (sym k)
touch_no_end t a (Delete txn o b s) h k = true≢false (sym k)
touch_no_end t a (Undo txn o b s) h k = true≢false (sym k)
touch_no_end t a (Begin txn) h k = true≢false (sym k)
touch_no_end t a (Create o e f columns) h k = true≢false (sym k)
touch_no_end t a (DropObject o) h k = true≢false (sym k)
touch_no_end t a (AddColumn o x) h k = true≢false (sym k)
touch_no_end t a (NoInMemory o) h k = true≢false (sym k)
touch_no_end t a EndThread h k = true≢false (sym k)

-- of a log: entries at two places
module _ (log : List LogEntry) (frontier : ℕ) (is : IsLog log frontier) where
  -- what an entry finds
  abbrev found : ℕ → Database
  found n = walked no_database (take n log)

  begin_twice : (t i j : ℕ) (e f : LogEntry) → At log i e → At log j f → begins t e.vector ≡ true → begins t f.vector ≡ true → i < j → ⊥
  begin_twice t i j e f a b h k l =
      new_begins (found j) f.vector t k (sound_at no_database log j f is.sound b) (begun_after no_database (take j log) i e t (at_take log j i e l a) h)

  ended_runs : (t i j : ℕ) (e : LogEntry) → At log i e → ends t e.vector ≡ true → i < j → is_running (found j) t ≡ true → ⊥
  ended_runs t i j e a h l r =
      let p = and_parts ((found j).begun t) (not ((found j).ended t)) r in
      let over : (found j).ended t ≡ true = ended_after no_database (take j log) i e t (at_take log j i e l a) h in
      let c : not true ≡ true = subst (λ b. not b ≡ true) over p.1 in
      true≢false (sym c)

  end_runs : (t j : ℕ) (f : LogEntry) → At log j f → ends t f.vector ≡ true → is_running (found j) t ≡ true
  end_runs t j f b k = running_ends (found j) f.vector t k (sound_at no_database log j f is.sound b)

  touch_runs : (t : ℕ) (a : Place) (j : ℕ) (f : LogEntry) → At log j f → touched_by t f.vector ≡ Some a → is_running (found j) t ≡ true
  touch_runs t a j f b k = running_touches (found j) f.vector t a k (sound_at no_database log j f is.sound b)

  runs_begun : (t j : ℕ) (f : LogEntry) → At log j f → is_running (found j) t ≡ true → (b : LogEntry) × Contains log b × (begins t b.vector ≡ true) × (b.pos < f.pos) × (b.scn ≤ f.scn)
  runs_begun t j f b r = either (begun_by no_database (take j log) t (and_parts ((found j).begun t) (not ((found j).ended t)) r).0)
    where
      either : (no_database.begun t ≡ true) ⊎ ((n : ℕ) × (e : LogEntry) × At (take j log) n e × (begins t e.vector ≡ true))
          → (b : LogEntry) × Contains log b × (begins t b.vector ≡ true) × (b.pos < f.pos) × (b.scn ≤ f.scn)
      either (inl k) = absurd (true≢false (sym k))
      either (inr r) =
          let p = at_take_back log j r.0 r.1 r.2 in
          let before : r.0 < j = p.1 in
          let first : r.1.pos ≡ r.0 = positions log frontier is r.0 r.1 p.0 in
          let second : f.pos ≡ j = positions log frontier is j f b in
          (r.1, at_contains log r.0 r.1 p.0, r.3, omega arith, rises log frontier is r.0 j r.1 f (omega arith) p.0 b)

  pub begun_once : (t : ℕ) (e f : LogEntry) → Contains log e → Contains log f → begins t e.vector ≡ true → begins t f.vector ≡ true → e ≡ f
  begun_once t e f a b h k =
      let p = contains_at log e a in
      let q = contains_at log f b in
      either p.0 q.0 p.1 q.1 (cases_order p.0 q.0)
    where
      either : (i j : ℕ) → At log i e → At log j f → (i ≡ j) ⊎ ((i < j) ⊎ (j < i)) → e ≡ f
      either i j a b (inr (inl l)) = absurd (begin_twice t i j e f a b h k l)
      either i j a b (inl same) = at_same log j e f (subst (λ n. At log n e) same a) b
      either i j a b (inr (inr l)) = absurd (begin_twice t j i f e b a k h l)

  pub ended_once : (t : ℕ) (e f : LogEntry) → Contains log e → Contains log f → ends t e.vector ≡ true → ends t f.vector ≡ true → e ≡ f
  ended_once t e f a b h k =
      let p = contains_at log e a in
      let q = contains_at log f b in
      either p.0 q.0 p.1 q.1 (cases_order p.0 q.0)
    where
      either : (i j : ℕ) → At log i e → At log j f → (i ≡ j) ⊎ ((i < j) ⊎ (j < i)) → e ≡ f
      either i j a b (inr (inl l)) = absurd (ended_runs t i j e a h l (end_runs t j f b k))
      either i j a b (inl same) = at_same log j e f (subst (λ n. At log n e) same a) b
      either i j a b (inr (inr l)) = absurd (ended_runs t j i f b k l (end_runs t i e a h))

  pub begun_to_touch : (t : ℕ) (a : Place) (e : LogEntry) → Contains log e → touched_by t e.vector ≡ Some a
      → (b : LogEntry) × Contains log b × (begins t b.vector ≡ true) × (b.pos < e.pos) × (b.scn ≤ e.scn)
  begun_to_touch t a e h k = let p = contains_at log e h in runs_begun t p.0 e p.1 (touch_runs t a p.0 e p.1 k)

  pub begun_to_end : (t : ℕ) (e : LogEntry) → Contains log e → ends t e.vector ≡ true
      → (b : LogEntry) × Contains log b × (begins t b.vector ≡ true) × (b.pos < e.pos) × (b.scn ≤ e.scn)
  begun_to_end t e h k = let p = contains_at log e h in runs_begun t p.0 e p.1 (end_runs t p.0 e p.1 k)

  pub touched_to_end : (t : ℕ) (a : Place) (e f : LogEntry) → Contains log e → Contains log f → touched_by t e.vector ≡ Some a → ends t f.vector ≡ true
      → (e.pos < f.pos) × (e.scn ≤ f.scn)
  touched_to_end t a e f g h k u =
      let p = contains_at log e g in
      let q = contains_at log f h in
      either p.0 q.0 p.1 q.1 (cases_order p.0 q.0)
    where
      either : (i j : ℕ) → At log i e → At log j f → (i ≡ j) ⊎ ((i < j) ⊎ (j < i)) → (e.pos < f.pos) × (e.scn ≤ f.scn)
      either i j x y (inr (inl l)) =
          let first : e.pos ≡ i = positions log frontier is i e x in
          let second : f.pos ≡ j = positions log frontier is j f y in
          (omega arith, rises log frontier is i j e f (omega arith) x y)
      either i j x y (inl same) =
          let one : e ≡ f = at_same log j e f (subst (λ n. At log n e) same x) y in
          absurd (touch_no_end t a f.vector (subst (λ (z : LogEntry). touched_by t z.vector ≡ Some a) one k) u)
      either i j x y (inr (inr l)) = absurd (ended_runs t j i f y u l (touch_runs t a i e x k))
