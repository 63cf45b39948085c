-- A sound log commits a transaction at most once: what has ended does not commit again.
use Rattle.std.proofs.Common.{◌≡◌, ℕ, ◌≤◌, ◌==◌, Bool, true, false, cond, not, ◌&&◌, List, [], ◌∷◌, length, map, filter, Option, Some, None, refl, sym, subst, arith, true≢false}
use Rattle.std.proofs.lemmas.Bool.Decides.{nat_tests}
use Rattle.adg_base.specs.declared.vector.Vector.{Vector}
use Rattle.adg_base.specs.declared.vector.Vector.TheVariants.{Begin, Put, Delete, Undo, Commit, Abort, Create, DropObject, AddColumn, NoInMemory, EndThread}
use Rattle.adg_base.specs.declared.log.LogEntry.{LogEntry}
use Rattle.adg_model.specs.declared.fault.CheckKind.{CheckKind}
use Rattle.adg_model.specs.declared.fault.CheckKind.TheVariants.{TxnUnknown}
use Rattle.adg_model.specs.Database.{Database, no_database, set_at, after, commits, commit_scns}
use Rattle.adg_model.specs.Sound.{SoundFrom, demand, refusal}
use Rattle.adg_model.specs.Laws.{CommittedOnce}

-- a transaction that has ended, or ends now, has ended
stays : (ended : ℕ → Bool) (txn t : ℕ) → ended t ≡ true → set_at txn true ended t ≡ true
stays ended txn t h = either (t == txn)
  where
    either : (b : Bool) → cond b true (ended t) ≡ true
    either true = refl
    either false = h

ended_stays : (db : Database) (v : Vector) (t : ℕ) → db.ended t ≡ true → (after db v).ended t ≡ true
ended_stays db (Commit txn flag) t h = stays db.ended txn t h
ended_stays db (Abort txn) t h = stays db.ended txn t h
ended_stays db (Begin txn) t h = h
ended_stays db (Put txn o b s row) t h = h
ended_stays db (Delete txn o b s) t h = h
ended_stays db (Undo txn o b s) t h = h
ended_stays db (Create o e f columns) t h = h
ended_stays db (DropObject o) t h = h
ended_stays db (AddColumn o k) t h = h
ended_stays db (NoInMemory o) t h = h
ended_stays db EndThread t h = h

ended_now : (db : Database) (v : Vector) (t : ℕ) → commits t v ≡ true → (after db v).ended t ≡ true
ended_now db (Commit txn flag) t h =
    let same : txn ≡ t = grind (arith, nat_tests, h) in
    either (t == txn) (grind (arith, nat_tests, same))
  where
    either : (b : Bool) → b ≡ true → cond b true (db.ended t) ≡ true
    either true e = refl
    either false e = absurd (true≢false (sym e))
ended_now db (Abort txn) t h = absurd (true≢false (sym h))
ended_now db (Begin txn) t h = absurd (true≢false (sym h))
ended_now db (Put txn o b s row) t h = absurd (true≢false (sym h))
ended_now db (Delete txn o b s) t h = absurd (true≢false (sym h))
ended_now db (Undo txn o b s) t h = absurd (true≢false (sym h))
ended_now db (Create o e f columns) t h = absurd (true≢false (sym h))
ended_now db (DropObject o) t h = absurd (true≢false (sym h))
ended_now db (AddColumn o k) t h = absurd (true≢false (sym h))
ended_now db (NoInMemory o) t h = absurd (true≢false (sym h))
ended_now db EndThread t h = absurd (true≢false (sym h))

-- a commit of what has ended fails a check
over_fails : (begun ended : Bool) (later : Option CheckKind) → ended ≡ true → demand (begun && not ended) TxnUnknown later ≡ None → ⊥
over_fails true true later e k = let clash : Some TxnUnknown ≡ None = k in absurd cc
over_fails false true later e k = let clash : Some TxnUnknown ≡ None = k in absurd cc
over_fails begun false later e k = true≢false (sym e)

no_second : (db : Database) (v : Vector) (t : ℕ) → db.ended t ≡ true → refusal db v ≡ None → commits t v ≡ false
no_second db (Commit txn flag) t h k = by_test (txn == t) refl
  where
    by_test : (b : Bool) → (txn == t) ≡ b → b ≡ false
    by_test false e = refl
    by_test true e =
        let same : t ≡ txn = grind (arith, nat_tests, e) in
        absurd (over_fails (db.begun txn) (db.ended txn) _ (subst (λ n. db.ended n ≡ true) same h) k)
no_second db (Abort txn) t h k = refl
no_second db (Begin txn) t h k = refl
no_second db (Put txn o b s row) t h k = refl
no_second db (Delete txn o b s) t h k = refl
no_second db (Undo txn o b s) t h k = refl
no_second db (Create o e f columns) t h k = refl
no_second db (DropObject o) t h k = refl
no_second db (AddColumn o k') t h k = refl
no_second db (NoInMemory o) t h k = refl
no_second db EndThread t h k = refl

none_left : (db : Database) (es : List LogEntry) (t : ℕ) → db.ended t ≡ true → SoundFrom db es → commit_scns t es ≡ []
none_left db [] t h k = refl
none_left db (e ∷ es) t h k =
    by_test (commits t e.vector) (no_second db e.vector t h k.1) (none_left (after db e.vector) es t (ended_stays db e.vector t h) k.2)
  where
    by_test : (b : Bool) → b ≡ false → commit_scns t es ≡ [] → map (λ x. x.scn) (cond b (e ∷ filter (λ x. commits t x.vector) es) (filter (λ x. commits t x.vector) es)) ≡ []
    by_test b c ih = rw c ih

once_from : (db : Database) (es : List LogEntry) (t : ℕ) → SoundFrom db es → length (commit_scns t es) ≤ 1
once_from db [] t k = omega arith
once_from db (e ∷ es) t k = by_test (commits t e.vector) refl (once_from (after db e.vector) es t k.2)
  where
    by_test : (b : Bool) → commits t e.vector ≡ b → length (commit_scns t es) ≤ 1 → length (map (λ x. x.scn) (cond b (e ∷ filter (λ x. commits t x.vector) es) (filter (λ x. commits t x.vector) es))) ≤ 1
    by_test true c ih = rw (none_left (after db e.vector) es t (ended_now db e.vector t c) k.2) (omega arith)
    by_test false c ih = ih

pub committed_once : CommittedOnce
committed_once log t h = once_from no_database log t h
