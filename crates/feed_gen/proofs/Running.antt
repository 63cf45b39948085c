-- The transfers pass the checks of a log.
use Rattle.std.proofs.Common.{◌≡◌, ℕ, ◌+◌, ◌<◌, ◌≤◌, Bool, true, false, cond, List, [], ◌∷◌, Option, Some, None, refl, sym, ap, ◌∙◌, arith}
use Rattle.std.specs.Prelude.{ℤ}
use Rattle.std.specs.List.{AllByRecursion}
use Rattle.adg_base.specs.Address.{Place, place}
use Rattle.adg_base.specs.declared.vector.Vector.{Vector}
use Rattle.adg_base.specs.declared.vector.Vector.TheVariants.{Begin, Commit, Abort}
use Rattle.adg_model.specs.Database.{Database, Change, struck, has_change, after}
use Rattle.adg_model.specs.Sound.{refusal}
use Rattle.feed_gen.specs.declared.transfer.Transfer.{Transfer}
use Rattle.feed_gen.specs.declared.second.Second.{Second}
use Rattle.feed_gen.specs.Tables.{block_of, slot_of, values, put, undo}
use Rattle.feed_gen.specs.Transfers.{second_of, second_vectors}
use Rattle.feed_gen.specs.Bounds.{IsTransfer, IsSecond}
use Rattle.feed_gen.proofs.Good.{second_good}
use Rattle.feed_gen.proofs.Passing.{Passes, made_by, set_same, same_itself, OfTxn, Same, same_by, stands_by, Stands, table_made, IsBusy, begin_passes, put_passes, undo_passes, commit_passes, abort_passes, put_noted}

abbrev place_at : ℕ → ℕ → Place
place_at k row = place k (block_of k row) (slot_of k row)

-- a transfer whose first record is written and whose second one is not
pub record IsOpen (s : Second) (db : Database) : Type 0 where
  pub good : IsSecond s
  pub busy : IsBusy s.txn db
  pub noted : db.noted s.txn ≡ true
  pub first : Change
  pub rest : List Change
  pub at : first.at ≡ place_at s.table s.from
  pub pending : db.pending s.txn ≡ first ∷ rest

open_same : (s : Second) (db new : Database) → Same s.txn db new → IsOpen s db → IsOpen s new
open_same s db new e h = record {
  good = h.good;
  busy = record { begun = e.begun ∙ h.busy.begun; ended = e.ended ∙ h.busy.ended };
  noted = e.noted ∙ h.noted;
  first = h.first;
  rest = h.rest;
  at = h.at;
  pending = e.pending ∙ h.pending;
}

has_first : (a : Place) (c : Change) (rest changes : List Change) → changes ≡ c ∷ rest → c.at ≡ a → has_change a changes ≡ true
has_first a c rest changes e at = rw (e, at, same_itself a) refl

struck_first : (a : Place) (c : Change) (rest changes : List Change) → changes ≡ c ∷ rest → c.at ≡ a → struck a changes ≡ rest
struck_first a c rest changes e at = rw (e, at, same_itself a) refl

-- ---- the second record

second_passes : (from : ℕ) (s : Second) (db : Database) → Stands from db → IsOpen s db → Passes db (second_vectors s)
second_passes from s db stands h = by_fate s.aborts
  where
    there : db.tables s.table ≡ Some (table_made s.table)
    there = stands.tables s.table h.good.table

    change : Change
    change = record { at = place_at s.table s.to; row = Some (values s.to s.balance) }

    db1 : Database
    db1 = after db (put s.txn s.table s.to s.balance)

    pending1 : db1.pending s.txn ≡ change ∷ (h.first ∷ h.rest)
    pending1 = set_same s.txn _ db.pending ∙ ap (λ l. change ∷ l) h.pending

    busy1 : IsBusy s.txn db1
    busy1 = record { begun = h.busy.begun; ended = h.busy.ended }

    db2 : Database
    db2 = after db1 (undo s.txn s.table s.to)

    pending2 : db2.pending s.txn ≡ h.first ∷ h.rest
    pending2 = set_same s.txn _ db1.pending ∙ struck_first (place_at s.table s.to) change (h.first ∷ h.rest) (db1.pending s.txn) pending1 refl

    busy2 : IsBusy s.txn db2
    busy2 = record { begun = h.busy.begun; ended = h.busy.ended }

    db3 : Database
    db3 = after db2 (undo s.txn s.table s.from)

    busy3 : IsBusy s.txn db3
    busy3 = record { begun = h.busy.begun; ended = h.busy.ended }

    first : refusal db (put s.txn s.table s.to s.balance) ≡ None
    first = put_passes db s.txn s.table s.to s.balance h.busy there h.good.table h.good.to

    by_fate : (b : Bool) → Passes db (put s.txn s.table s.to s.balance ∷ cond b (undo s.txn s.table s.to ∷ undo s.txn s.table s.from ∷ Abort s.txn ∷ []) (Commit s.txn true ∷ []))
    by_fate true = (
      first,
      (
        undo_passes db1 s.txn s.table s.to busy1 there h.good.table h.good.to (has_first (place_at s.table s.to) change (h.first ∷ h.rest) (db1.pending s.txn) pending1 refl),
        (
          undo_passes db2 s.txn s.table s.from busy2 there h.good.table h.good.from (has_first (place_at s.table s.from) h.first h.rest (db2.pending s.txn) pending2 h.at),
          (abort_passes db3 s.txn busy3, tt),
        ),
      ),
    )
    by_fate false = (first, (commit_passes db1 s.txn busy1 (put_noted db s.txn s.table s.to s.balance there), tt))

second_is_of : (s : Second) → AllByRecursion (OfTxn s.txn) (second_vectors s)
second_is_of s = by_fate s.aborts
  where
    by_fate : (b : Bool) → AllByRecursion (OfTxn s.txn) (put s.txn s.table s.to s.balance ∷ cond b (undo s.txn s.table s.to ∷ undo s.txn s.table s.from ∷ Abort s.txn ∷ []) (Commit s.txn true ∷ []))
    by_fate true = (refl, (refl, (refl, (refl, tt))))
    by_fate false = (refl, (refl, tt))

-- ---- what the threads keep

abbrev pub Open : ℕ → Option Second → Database → Type 0
Open from None db = Unit {0}
Open from (Some s) db = IsOpen s db × (s.txn < from)

abbrev pub IsNot : ℕ → Option Second → Type 0
IsNot t None = Unit {0}
IsNot t (Some s) = s.txn ≡ t → ⊥

abbrev pub Apart : Option Second → Option Second → Type 0
Apart None p = Unit {0}
Apart (Some s) p = IsNot s.txn p

pub apart_turned : (o p : Option Second) → Apart o p → Apart p o
apart_turned None None h = tt
apart_turned None (Some r) h = tt
apart_turned (Some s) None h = tt
apart_turned (Some s) (Some r) h = λ e. h (sym e)

open_by : (t low from : ℕ) (o : Option Second) (db : Database) (vs : List Vector) → AllByRecursion (OfTxn t) vs → IsNot t o → low ≤ from → Open low o db → Open from o (made_by db vs)
open_by t low from None db vs of ne le h = tt
open_by t low from (Some s) db vs of ne le h = (open_same s db (made_by db vs) (same_by t s.txn db vs of ne) h.0, omega (arith, h.1, le))

is_new : (from : ℕ) (o : Option Second) (db : Database) → Open from o db → IsNot from o
is_new from None db h = tt
is_new from (Some s) db h = λ e. omega (arith, h.1, e)

-- what a thread has kept goes out: it passes, and leaves the rest
abbrev pub left_vectors : Option Second → List Vector
left_vectors None = []
left_vectors (Some s) = second_vectors s

pub record Left (from : ℕ) (mine a b : Option Second) (db : Database) : Type 0 where
  pub passes : Passes db (left_vectors mine)
  pub stands : Stands from (made_by db (left_vectors mine))
  pub a_open : Open from a (made_by db (left_vectors mine))
  pub b_open : Open from b (made_by db (left_vectors mine))

pub left_passes : (from : ℕ) (mine a b : Option Second) (db : Database) → Stands from db → Open from mine db → Open from a db → Open from b db → Apart mine a → Apart mine b → Left from mine a b db
left_passes from None a b db stands m x y p q = record { passes = tt; stands = stands; a_open = x; b_open = y }
left_passes from (Some s) a b db stands m x y p q =
    let of = second_is_of s in
    record {
      passes = second_passes from s db stands m.0;
      stands = stands_by s.txn from from db (second_vectors s) of m.1 (omega arith) stands;
      a_open = open_by s.txn from from a db (second_vectors s) of p (omega arith) x;
      b_open = open_by s.txn from from b db (second_vectors s) of q (omega arith) y;
    }

-- ---- the first record

abbrev pub first_vectors : ℕ → Transfer → ℤ → List Vector
first_vectors n t balance = Begin n ∷ put n t.table t.from balance ∷ []

pub record Begun (n : ℕ) (t : Transfer) (balance credit : ℤ) (a b : Option Second) (db : Database) : Type 0 where
  pub passes : Passes db (first_vectors n t balance)
  pub stands : Stands (n + 1) (made_by db (first_vectors n t balance))
  pub mine : Open (n + 1) (Some (second_of n t credit)) (made_by db (first_vectors n t balance))
  pub a_open : Open (n + 1) a (made_by db (first_vectors n t balance))
  pub b_open : Open (n + 1) b (made_by db (first_vectors n t balance))
  pub a_apart : IsNot n a
  pub b_apart : IsNot n b

pub first_passes : (n : ℕ) (t : Transfer) (balance credit : ℤ) (a b : Option Second) (db : Database) → IsTransfer t → Stands n db → Open n a db → Open n b db → Begun n t balance credit a b db
first_passes n t balance credit a b db good stands x y =
    let db1 = after db (Begin n) in
    let there = stands.tables t.table good.table in
    let busy : IsBusy n db1 = record { begun = set_same n true db.begun; ended = stands.ended n (omega arith) } in
    let db2 = after db1 (put n t.table t.from balance) in
    let of : AllByRecursion (OfTxn n) (first_vectors n t balance) = (refl, (refl, tt)) in
    record {
      passes = (begin_passes db n (stands.begun n (omega arith)), (put_passes db1 n t.table t.from balance busy there good.table good.from, tt));
      stands = stands_by n n (n + 1) db (first_vectors n t balance) of (omega arith) (omega arith) stands;
      mine = (
        record {
          good = second_good n t credit good;
          busy = record { begun = busy.begun; ended = busy.ended };
          noted = put_noted db1 n t.table t.from balance there;
          first = record { at = place_at t.table t.from; row = Some (values t.from balance) };
          rest = db1.pending n;
          at = refl;
          pending = set_same n _ db1.pending;
        },
        omega arith,
      );
      a_open = open_by n n (n + 1) a db (first_vectors n t balance) of (is_new n a db x) (omega arith) x;
      b_open = open_by n n (n + 1) b db (first_vectors n t balance) of (is_new n b db y) (omega arith) y;
      a_apart = is_new n a db x;
      b_apart = is_new n b db y;
    }
