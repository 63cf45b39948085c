-- Who holds publication back when one session is set, and what an event of one session has to show so that the
-- invariant is kept.
use Rattle.std.proofs.Common.{◌≡◌, ℕ, zero, suc, ◌+◌, ◌<◌, ◌≤◌, Bool, true, false, cond, List, [], ◌∷◌, length, take, Some, None, ◌⊎◌, inl, inr, refl, sym, ap, ◌∙◌, subst, arith}
use Rattle.std.specs.Prelude.{slice_set, count_by}
use Rattle.std.proofs.lemmas.List.Sums.{sum_by-cons}
use Rattle.adg_base.specs.declared.log.LogEntry.{LogEntry}
use Rattle.core_rules.specs.State.{CoreState, Worker, Quiesce, ColumnUnit, Units, Population, Session, Free, Populating, Scanning, At, cut_through, limit, holds_back, holders}
use Rattle.core_rules.specs.Parts.{NumbersAre, QuiesceIs, ProgressIs, PartitionIs, DdlIs, ItemsAre, items_of}
use Rattle.core_rules.specs.Share.{share, shares}
use Rattle.core_rules.specs.UnitParts.{UnitIsPrecise, PopulationIs, TicketsDiffer, HasItsUnits, ScanIs}
use Rattle.core_rules.specs.Invariant.{Invariant, Precise, WorkerIs, mined_of_all, AllUnits, AllPopulations, AllTied, AllScans}
use Rattle.core_rules.proofs.Lists.{at_set_cases}

-- one for what passes a test, else none
abbrev bit : Bool → ℕ
bit b = cond b 1 0

count_cons : {X : Type 0} (p : X → Bool) (x : X) (xs : List X) → count_by p (x ∷ xs) ≡ bit (p x) + count_by p xs
count_cons p x xs = sum_by-cons (λ y. cond (p y) 1 0) x xs

-- One element set: the count loses the old one and gains the new one.
count_at_set : {X : Type 0} (p : X → Bool) (xs : List X) (n : ℕ) (x y : X) → At xs n x → count_by p (slice_set xs n y) + bit (p x) ≡ count_by p xs + bit (p y)
count_at_set p [] n x y h = let e : None ≡ Some x = h in absurd cc
count_at_set p (z ∷ xs) zero x y h =
    let e : Some z ≡ Some x = h in
    let same : bit (p z) ≡ bit (p x) = let k : z ≡ x = cc in ap (λ w. bit (p w)) k in
    let new : count_by p (y ∷ xs) ≡ bit (p y) + count_by p xs = count_cons p y xs in
    let old : count_by p (z ∷ xs) ≡ bit (p z) + count_by p xs = count_cons p z xs in
    omega arith
count_at_set p (z ∷ xs) (suc n) x y h =
    let ih : count_by p (slice_set xs n y) + bit (p x) ≡ count_by p xs + bit (p y) = count_at_set p xs n x y h in
    let new : count_by p (z ∷ slice_set xs n y) ≡ bit (p z) + count_by p (slice_set xs n y) = count_cons p z (slice_set xs n y) in
    let old : count_by p (z ∷ xs) ≡ bit (p z) + count_by p xs = count_cons p z xs in
    omega arith

-- As many hold publication back where the session does as before, one more where it does only now, and one less
-- where it did.
pub holders_same : (sessions : List Session) (place : ℕ) (old new : Session) → At sessions place old → holds_back new ≡ holds_back old
    → holders (slice_set sessions place new) ≡ holders sessions
holders_same sessions place old new h e =
    let k : count_by holds_back (slice_set sessions place new) + bit (holds_back old) ≡ count_by holds_back sessions + bit (holds_back new) = count_at_set holds_back sessions place old new h in
    let same : bit (holds_back new) ≡ bit (holds_back old) = ap bit e in
    omega arith

pub holders_more : (sessions : List Session) (place : ℕ) (old new : Session) → At sessions place old → holds_back old ≡ false → holds_back new ≡ true
    → holders (slice_set sessions place new) ≡ holders sessions + 1
holders_more sessions place old new h e f =
    let k : count_by holds_back (slice_set sessions place new) + bit (holds_back old) ≡ count_by holds_back sessions + bit (holds_back new) = count_at_set holds_back sessions place old new h in
    let none : bit (holds_back old) ≡ 0 = ap bit e in
    let one : bit (holds_back new) ≡ 1 = ap bit f in
    omega arith

pub holders_less : (sessions : List Session) (place : ℕ) (old new : Session) → At sessions place old → holds_back old ≡ true → holds_back new ≡ false
    → holders (slice_set sessions place new) + 1 ≡ holders sessions
holders_less sessions place old new h e f =
    let k : count_by holds_back (slice_set sessions place new) + bit (holds_back old) ≡ count_by holds_back sessions + bit (holds_back new) = count_at_set holds_back sessions place old new h in
    let one : bit (holds_back old) ≡ 1 = ap bit e in
    let none : bit (holds_back new) ≡ 0 = ap bit f in
    omega arith

-- what the invariant says of a session, and that no other population has its ticket
abbrev pub SessionIs : (log : List LogEntry) (query next : ℕ) → Units → Session → Type 0
SessionIs log query next units Free = Unit {0}
SessionIs log query next units (Populating p) = PopulationIs log query next p × HasItsUnits units p
SessionIs log query next units (Scanning s) = ScanIs log query s

abbrev pub TicketIsOwn : List Session → (place : ℕ) → Session → Type 0
TicketIsOwn sessions place Free = Unit {0}
TicketIsOwn sessions place (Populating p) = (n : ℕ) (q : Population) → (n ≡ place → ⊥) → At sessions n (Populating q) → q.ticket ≡ p.ticket → ⊥
TicketIsOwn sessions place (Scanning s) = Unit {0}

-- the state with another session, with publication held back otherwise, and with other units and a later ticket
abbrev pub with_own : CoreState → (place : ℕ) → Session → Quiesce → Units → (next : ℕ) → CoreState
with_own c place what quiesce units next = record c { quiesce = quiesce; units = units; sessions = slice_set c.sessions place what; ticket = next }

later_ticket : (log : List LogEntry) (query old next : ℕ) (p : Population) → old ≤ next → PopulationIs log query old p → PopulationIs log query next p
later_ticket log query old next p l h = record {
  snapshot = h.snapshot;
  held = h.held;
  ticket = let k : p.ticket < old = h.ticket in omega arith;
  defined = h.defined;
  in_memory = h.in_memory;
  registered = h.registered;
  extent = h.extent;
  blocks = h.blocks;
  read = h.read;
  installed = h.installed;
}

module _ (c : CoreState) (place : ℕ) (what : Session) (quiesce : Quiesce) (units : Units) (next : ℕ) (i : Invariant c) where
  abbrev new : CoreState
  new = with_own c place what quiesce units next

  every_worker : cut_through c.query quiesce ≡ limit c → (worker : ℕ) (w : Worker) → At c.workers worker w → WorkerIs new worker w
  every_worker same worker w found =
      let h = i.workers worker w found in
      record {
        counts = h.counts;
        progress = subst (λ (n : ℕ). ProgressIs n c.frontier w.progress) (sym same) h.progress;
        applied = h.applied;
        area = h.area;
        partition = subst (λ (n : ℕ). PartitionIs c.log c.born n (take w.mined (share (length c.workers) worker c.log)) w.ends) (sym same) h.partition;
      }

  each_population : c.ticket ≤ next → SessionIs c.log c.query next units what → AllPopulations new
  each_population later is n p h = either (at_set_cases c.sessions place n (Populating p) what h)
    where
      either : ((n ≡ place) × (Populating p ≡ what)) ⊎ ((n ≡ place → ⊥) × At c.sessions n (Populating p)) → PopulationIs c.log c.query next p
      either (inl e) = let k : SessionIs c.log c.query next units (Populating p) = subst (λ (s : Session). SessionIs c.log c.query next units s) (sym e.1) is in k.0
      either (inr e) = later_ticket c.log c.query c.ticket next p later (i.populations n p e.1)

  each_tied : ((n : ℕ) (p : Population) → (n ≡ place → ⊥) → At c.sessions n (Populating p) → HasItsUnits units p) → SessionIs c.log c.query next units what → AllTied new
  each_tied others is n p h = either (at_set_cases c.sessions place n (Populating p) what h)
    where
      either : ((n ≡ place) × (Populating p ≡ what)) ⊎ ((n ≡ place → ⊥) × At c.sessions n (Populating p)) → HasItsUnits units p
      either (inl e) = let k : SessionIs c.log c.query next units (Populating p) = subst (λ (s : Session). SessionIs c.log c.query next units s) (sym e.1) is in k.1
      either (inr e) = others n p e.0 e.1

  each_scan : SessionIs c.log c.query next units what → AllScans new
  each_scan is n s h = either (at_set_cases c.sessions place n (Scanning s) what h)
    where
      either : ((n ≡ place) × (Scanning s ≡ what)) ⊎ ((n ≡ place → ⊥) × At c.sessions n (Scanning s)) → ScanIs c.log c.query s
      either (inl e) = subst (λ (x : Session). SessionIs c.log c.query next units x) (sym e.1) is
      either (inr e) = i.scans n s e.1

  each_ticket : TicketIsOwn c.sessions place what → TicketsDiffer (slice_set c.sessions place what)
  each_ticket own m n p q hp hq same = either (at_set_cases c.sessions place m (Populating p) what hp) (at_set_cases c.sessions place n (Populating q) what hq)
    where
      is_own : (p : Population) → Populating p ≡ what → TicketIsOwn c.sessions place (Populating p)
      is_own p e = subst (λ (s : Session). TicketIsOwn c.sessions place s) (sym e) own

      either : ((m ≡ place) × (Populating p ≡ what)) ⊎ ((m ≡ place → ⊥) × At c.sessions m (Populating p))
          → ((n ≡ place) × (Populating q ≡ what)) ⊎ ((n ≡ place → ⊥) × At c.sessions n (Populating q)) → m ≡ n
      either (inl a) (inl b) = a.0 ∙ sym b.0
      either (inl a) (inr b) = absurd (is_own p a.1 n q b.0 b.1 (sym same))
      either (inr a) (inl b) = absurd (is_own q b.1 m p a.0 a.1 same)
      either (inr a) (inr b) = i.tickets m n p q a.1 b.1 same

  -- An event of one session keeps the invariant where it cuts nothing and the rest is shown.
  pub session_keeps : cut_through c.query quiesce ≡ limit c → QuiesceIs quiesce c.query (holders (slice_set c.sessions place what)) c.links
      → c.ticket ≤ next → AllUnits new
      → ((n : ℕ) (p : Population) → (n ≡ place → ⊥) → At c.sessions n (Populating p) → HasItsUnits units p)
      → TicketIsOwn c.sessions place what → SessionIs c.log c.query next units what → Invariant new
  session_keeps same held later stand others own is = record {
    log = i.log;
    numbers = subst (λ (n : ℕ). NumbersAre c.born c.query n c.frontier) (sym same) i.numbers;
    quiesce = held;
    shards = i.shards;
    manned = i.manned;
    workers = every_worker same;
    ddl = subst (λ (n : ℕ). DdlIs n (mined_of_all c) c.ddl) (sym same) i.ddl;
    flush = record {
      items = subst (λ (n : ℕ). ItemsAre c.log c.born c.query n (shares (length c.workers) c.log) (items_of c.links)) (sym same) i.flush.items;
      claims = i.flush.claims;
      collected = i.flush.collected;
    };
    units = stand;
    populations = each_population later is;
    tickets = each_ticket own;
    tied = each_tied others is;
    scans = each_scan is;
  }

  -- It keeps the precision of marks where all units have it.
  pub session_precise : cut_through c.query quiesce ≡ limit c
      → ((obj extent : ℕ) (u : ColumnUnit) → units obj extent ≡ Some u → UnitIsPrecise c.log c.born (limit c) u) → Precise new
  session_precise same each obj extent u h = subst (λ (n : ℕ). UnitIsPrecise c.log c.born n u) (sym same) (each obj extent u h)

-- The same of an event that changes one session alone, which holds publication back where it did.
pub still_held : (c : CoreState) (place : ℕ) (old what : Session) → Invariant c → At c.sessions place old → holds_back what ≡ holds_back old
    → QuiesceIs c.quiesce c.query (holders (slice_set c.sessions place what)) c.links
still_held c place old what i found holds =
    subst (λ (n : ℕ). QuiesceIs c.quiesce c.query n c.links) (sym (holders_same c.sessions place old what found holds)) i.quiesce

pub one_session_keeps : (c : CoreState) (place : ℕ) (old what : Session) → Invariant c → At c.sessions place old → holds_back what ≡ holds_back old
    → TicketIsOwn c.sessions place what → SessionIs c.log c.query c.ticket c.units what → Invariant (with_own c place what c.quiesce c.units c.ticket)
one_session_keeps c place old what i found holds own is =
    session_keeps c place what c.quiesce c.units c.ticket i refl (still_held c place old what i found holds) (omega arith) i.units (λ n p apart h. i.tied n p h) own is
