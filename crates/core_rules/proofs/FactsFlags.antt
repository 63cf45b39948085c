-- What a sound log says of the notes of transactions: while an object stays in-memory, what a transaction touches
-- of it is noted, and its commit has the flag.
use Rattle.std.proofs.Common.{◌≡◌, ℕ, ◌<◌, ◌≤◌, Bool, true, false, cond, not, ◌&&◌, ◌||◌, List, [], ◌∷◌, ◌++◌, Option, Some, None, ◌⊎◌, inl, inr, refl, sym, ap, ◌∙◌, subst, arith, true≢false, append-nil, append_assoc}
use Rattle.std.specs.Prelude.{◌==◌, nat_le}
use Rattle.std.specs.List.{Contains, AllByRecursion}
use Rattle.std.proofs.lemmas.Bool.{eqb-true, eq-eqb, leb-true, leb-false, le-leb, and_parts, or_left}
use Rattle.adg_base.specs.Address.{Place, place, same_place}
use Rattle.adg_base.specs.declared.vector.Vector.{Vector}
use Rattle.adg_base.specs.declared.vector.Vector.TheVariants.{Begin, Put, Delete, Undo, Commit, Abort, Create, DropObject, AddColumn, NoInMemory, EndThread}
use Rattle.adg_base.specs.declared.log.LogEntry.{LogEntry}
use Rattle.adg_model.specs.declared.fault.CheckKind.{CheckKind}
use Rattle.adg_model.specs.declared.fault.CheckKind.TheVariants.{TxnUnknown, NoObject, BadAddress, NothingToUndo, BadFlag}
use Rattle.adg_model.specs.declared.mined.Mined.TheVariants as mined
use Rattle.adg_model.specs.Log.{upto}
use Rattle.adg_model.specs.Database.{Database, Table, Change, no_database, database, after, walked, set_at, is_in_memory, has_change, struck, table_at, touched_by}
use Rattle.adg_model.specs.Sound.{SoundFrom, refusal, demand, is_running, on_table, on_change, has_address, same_flag, IsLog}
use Rattle.adg_model.specs.Mined.{mined_of, mined_by, mined_at}
use Rattle.adg_model.proofs.LogLaws.{ScnsRise, upto_all, upto_none, upto_append}
use Rattle.adg_model.proofs.RowLaws.{walked_append}
use Rattle.core_rules.specs.Share.{NotRedefined}
use Rattle.core_rules.specs.LogFacts.{IsInMemory}
use Rattle.core_rules.proofs.Lists.{Has, has, contains, each_has, each_from_has, has_filter, has_append_left, has_append_right, has_append_cases}
use Rattle.core_rules.proofs.FactsTables.{sound_split, walked_created, tied, walked_stays, walked_back, scns_rise, begun_by, rises_first, between, same_table}

-- a list split at one of its elements
pub record SplitAt {X : Type 0} (xs : List X) (x : X) : Type 0 where
  pub before : List X
  pub later : List X
  pub whole : xs ≡ before ++ x ∷ later

pub split_at : {X : Type 0} (xs : List X) (x : X) → Has xs x → SplitAt xs x
split_at [] x h = absurd h
split_at (y ∷ ys) x (inl e) = record { before = []; later = ys; whole = ap (λ z. z ∷ ys) e }
split_at (y ∷ ys) x (inr h) = let r = split_at ys x h in record { before = y ∷ r.before; later = r.later; whole = ap (λ zs. y ∷ zs) r.whole }

-- what lies before an entry has no SCN above its own, what lies behind it none below
rises_across : (xs : List LogEntry) (e : LogEntry) (ys : List LogEntry) (x : LogEntry) → ScnsRise (xs ++ e ∷ ys) → Has xs x → x.scn ≤ e.scn
rises_across [] e ys x h k = absurd k
rises_across (z ∷ xs) e ys x h (inl same) =
    let le : z.scn ≤ e.scn = each_has (λ (w : LogEntry). z.scn ≤ w.scn) (xs ++ e ∷ ys) e h.0 (has_append_right xs (e ∷ ys) e (inl refl)) in
    subst (λ (w : LogEntry). w.scn ≤ e.scn) same le
rises_across (z ∷ xs) e ys x h (inr k) = rises_across xs e ys x h.1 k

rises_behind : (xs : List LogEntry) (e : LogEntry) (ys : List LogEntry) (y : LogEntry) → ScnsRise (xs ++ e ∷ ys) → Has ys y → e.scn ≤ y.scn
rises_behind [] e ys y h k = each_has (λ (w : LogEntry). e.scn ≤ w.scn) ys y h.0 k
rises_behind (z ∷ xs) e ys y h k = rises_behind xs e ys y h.1 k

-- what a check that holds says
pub demanded : (b : Bool) (c : CheckKind) (later : Option CheckKind) → demand b c later ≡ None → (b ≡ true) × (later ≡ None)
demanded true c later h = (refl, h)
demanded false c later h = let x : Some c ≡ None = h in absurd cc

pub on_table_some : (t : Option Table) (later : Table → Option CheckKind) → on_table t later ≡ None → (table : Table) × (t ≡ Some table) × (later table ≡ None)
on_table_some None later h = let x : Some NoObject ≡ None = h in absurd cc
on_table_some (Some table) later h = (table, refl, h)

-- what is touched is of a running transaction, and its object has a definition
pub record Found (db : Database) (t : ℕ) (a : Place) : Type 0 where
  pub table : Table
  pub defined : db.tables a.obj ≡ Some table
  pub running : is_running db t ≡ true

touch_parts : (txn t : ℕ) (p a : Place) → cond (txn == t) (Some p) None ≡ Some a → (txn ≡ t) × (p ≡ a)
touch_parts txn t p a h = by_test (txn == t) refl h
  where
    by_test : (b : Bool) → (txn == t) ≡ b → cond b (Some p) None ≡ Some a → (txn ≡ t) × (p ≡ a)
    by_test true e k = (eqb-true txn t e, cc)
    by_test false e k = let c : None ≡ Some a = k in absurd cc

found_from : (db : Database) (txn t o b s : ℕ) (a : Place) (later : Table → Option CheckKind) → cond (txn == t) (Some (place o b s)) None ≡ Some a
    → on_change db txn o b s later ≡ None → Found db t a
found_from db txn t o b s a later touch h =
    let p = touch_parts txn t (place o b s) a touch in
    let r = demanded (is_running db txn) TxnUnknown (on_table (db.tables o) (λ table. demand (has_address table b s) BadAddress (later table))) h in
    let f = on_table_some (db.tables o) (λ table. demand (has_address table b s) BadAddress (later table)) r.1 in
    let same : o ≡ a.obj = ap (λ (q : Place). q.obj) p.1 in
    record { table = f.0; defined = subst (λ n. db.tables n ≡ Some f.0) same f.1; running = subst (λ n. is_running db n ≡ true) p.0 r.0 }

pub touch_found : (db : Database) (v : Vector) (t : ℕ) (a : Place) → touched_by t v ≡ Some a → refusal db v ≡ None → Found db t a
touch_found db (Put txn o b s row) t a h k = found_from db txn t o b s a _ h k
touch_found db (Delete txn o b s) t a h k = found_from db txn t o b s a _ h k
touch_found db (Undo txn o b s) t a h k = found_from db txn t o b s a _ h k
touch_found db (Begin txn) t a h k = let c : None ≡ Some a = h in absurd cc
touch_found db (Commit txn flag) t a h k = let c : None ≡ Some a = h in absurd cc
touch_found db (Abort txn) t a h k = let c : None ≡ Some a = h in absurd cc
touch_found db (Create o e f columns) t a h k = let c : None ≡ Some a = h in absurd cc
touch_found db (DropObject o) t a h k = let c : None ≡ Some a = h in absurd cc
touch_found db (AddColumn o x) t a h k = let c : None ≡ Some a = h in absurd cc
touch_found db (NoInMemory o) t a h k = let c : None ≡ Some a = h in absurd cc
touch_found db EndThread t a h k = let c : None ≡ Some a = h in absurd cc

-- the object of what is touched was created before it
created_by : (es : List LogEntry) (e : LogEntry) (t : ℕ) (a : Place) → SoundFrom no_database es → Has es e → touched_by t e.vector ≡ Some a → (walked no_database es).created a.obj ≡ true
created_by es e t a s m touch =
    let p = split_at es e m in
    let r = sound_split no_database p.before (e ∷ p.later) (subst (λ xs. SoundFrom no_database xs) p.whole s) in
    let f = touch_found (walked no_database p.before) e.vector t a touch r.1.1 in
    let then = walked_created (walked no_database p.before) (e ∷ p.later) a.obj (tied p.before a.obj f.table f.defined) in
    subst (λ xs. (walked no_database xs).created a.obj ≡ true) (sym p.whole) (ap (λ (db : Database). db.created a.obj) (walked_append no_database p.before (e ∷ p.later)) ∙ then)

-- what is touched of an object that is in-memory is noted
noted_at : (log : List LogEntry) (scn txn t : ℕ) (p a : Place) → cond (txn == t) (Some p) None ≡ Some a → is_in_memory (table_at log scn a.obj) ≡ true → mined_at log scn txn p ≡ Some (mined.Note t a)
noted_at log scn txn t p a touch h =
    let r = touch_parts txn t p a touch in
    let here : is_in_memory (table_at log scn p.obj) ≡ true = subst (λ (q : Place). is_in_memory (table_at log scn q.obj) ≡ true) (sym r.1) h in
    by_test (is_in_memory (table_at log scn p.obj)) here (note r.0 r.1)
  where
    note : txn ≡ t → p ≡ a → Some (mined.Note txn p) ≡ Some (mined.Note t a)
    note e f = cc

    by_test : (b : Bool) → b ≡ true → Some (mined.Note txn p) ≡ Some (mined.Note t a) → cond b (Some (mined.Note txn p)) None ≡ Some (mined.Note t a)
    by_test true u k = k
    by_test false u k = absurd (true≢false (sym u))

notes_touched : (log : List LogEntry) (e : LogEntry) (t : ℕ) (a : Place) → touched_by t e.vector ≡ Some a → is_in_memory (table_at log e.scn a.obj) ≡ true → mined_of log e ≡ Some (mined.Note t a)
notes_touched log e t a touch h = by_vector e.vector touch
  where
    by_vector : (v : Vector) → touched_by t v ≡ Some a → mined_by log e.scn v ≡ Some (mined.Note t a)
    by_vector (Put txn o b s row) k = noted_at log e.scn txn t (place o b s) a k h
    by_vector (Delete txn o b s) k = noted_at log e.scn txn t (place o b s) a k h
    by_vector (Undo txn o b s) k = noted_at log e.scn txn t (place o b s) a k h
    by_vector (Begin txn) k = let c : None ≡ Some a = k in absurd cc
    by_vector (Commit txn flag) k = let c : None ≡ Some a = k in absurd cc
    by_vector (Abort txn) k = let c : None ≡ Some a = k in absurd cc
    by_vector (Create o x f columns) k = let c : None ≡ Some a = k in absurd cc
    by_vector (DropObject o) k = let c : None ≡ Some a = k in absurd cc
    by_vector (AddColumn o x) k = let c : None ≡ Some a = k in absurd cc
    by_vector (NoInMemory o) k = let c : None ≡ Some a = k in absurd cc
    by_vector EndThread k = let c : None ≡ Some a = k in absurd cc

pub in_memory : (log : List LogEntry) (obj scn : ℕ) → IsInMemory log obj scn → is_in_memory (table_at log scn obj) ≡ true
in_memory log obj scn m = ap is_in_memory m.defined ∙ m.flag

pub noted : (log : List LogEntry) (frontier : ℕ) → IsLog log frontier
    → (t : ℕ) (a : Place) (e : LogEntry) (low high : ℕ) → Contains log e → touched_by t e.vector ≡ Some a → e.scn ≤ high
    → IsInMemory log a.obj low → NotRedefined log a.obj low high → mined_of log e ≡ Some (mined.Note t a)
unfolding database
noted log frontier l t a e low high m touch le mem k = notes_touched log e t a touch (by_test (nat_le low e.scn) refl)
  where
    by_test : (b : Bool) → nat_le low e.scn ≡ b → is_in_memory (table_at log e.scn a.obj) ≡ true
    by_test true u =
        let stays = same_table log frontier l a.obj low e.scn mem.table (leb-true low e.scn u) mem.defined (λ x n r lo hi. k x n r lo (omega (arith, hi, le))) in
        ap is_in_memory stays ∙ mem.flag
    by_test false u =
        let above : e.scn < low = leb-false low e.scn u in
        let b = between log frontier e.scn low l (omega arith) in
        let upto_self : Has (upto e.scn log) e = has_filter (λ (x : LogEntry). nat_le x.scn e.scn) log e (has log e m) (le-leb e.scn e.scn (omega arith)) in
        let end : is_in_memory ((walked (walked no_database (upto e.scn log)) b.middle).tables a.obj) ≡ true =
        ap (λ (db : Database). is_in_memory (db.tables a.obj)) (sym (walked_append no_database (upto e.scn log) b.middle))
        ∙ ap (λ es. is_in_memory ((walked no_database es).tables a.obj)) (sym b.whole) ∙ in_memory log a.obj low mem in
        walked_back (walked no_database (upto e.scn log)) b.middle a.obj b.then (created_by (upto e.scn log) e t a b.first upto_self touch) end

-- an object that is in-memory at an SCN, and is not redefined from there to an entry that touches it, is in-memory
-- where the entry finds it
pub memory_found : (log : List LogEntry) (frontier : ℕ) → IsLog log frontier
    → (t : ℕ) (a : Place) (before : List LogEntry) (e : LogEntry) (later : List LogEntry) (low : ℕ) → log ≡ before ++ e ∷ later → touched_by t e.vector ≡ Some a
    → IsInMemory log a.obj low → NotRedefined log a.obj low e.scn → is_in_memory ((walked no_database before).tables a.obj) ≡ true
unfolding database
memory_found log frontier l t a before e later low whole touch mem k = by_test (nat_le e.scn low) refl
  where
    rises : ScnsRise (before ++ e ∷ later)
    rises = subst ScnsRise whole (scns_rise 1 frontier log l.scns)

    sound : SoundFrom no_database before × SoundFrom (walked no_database before) (e ∷ later)
    sound = sound_split no_database before (e ∷ later) (subst (λ es. SoundFrom no_database es) whole l.sound)

    found : Found (walked no_database before) t a
    found = touch_found (walked no_database before) e.vector t a touch sound.1.1

    split : upto low log ≡ upto low before ++ upto low (e ∷ later)
    split = ap (upto low) whole ∙ upto_append low before (e ∷ later)

    first : (b : Bool) → b ≡ true → cond b (e ∷ upto low later) (upto low later) ≡ e ∷ upto low later
    first true u = refl
    first false u = absurd (true≢false (sym u))

    by_test : (b : Bool) → nat_le e.scn low ≡ b → is_in_memory ((walked no_database before).tables a.obj) ≡ true
    by_test true u =
        let le : e.scn ≤ low = leb-true e.scn low u in
        let all : upto low before ≡ before = upto_all low before (each_from_has (λ (x : LogEntry). x.scn ≤ low) before (λ x m. let r = rises_across before e later x rises m in omega (arith, r, le))) in
        let is : upto low log ≡ before ++ e ∷ upto low later = split ∙ ap (λ es. es ++ upto low (e ∷ later)) all ∙ ap (λ es. before ++ es) (first (nat_le e.scn low) u) in
        let b = between log frontier low low l (omega arith) in
        let r = sound_split no_database before (e ∷ upto low later) (subst (λ es. SoundFrom no_database es) is b.first) in
        let end : is_in_memory ((walked (walked no_database before) (e ∷ upto low later)).tables a.obj) ≡ true =
        ap (λ (db : Database). is_in_memory (db.tables a.obj)) (sym (walked_append no_database before (e ∷ upto low later)))
        ∙ ap (λ es. is_in_memory ((walked no_database es).tables a.obj)) (sym is) ∙ in_memory log a.obj low mem in
        walked_back (walked no_database before) (e ∷ upto low later) a.obj r.1 (tied before a.obj found.table found.defined) end
    by_test false u =
        let above : low < e.scn = leb-false e.scn low u in
        let behind : AllByRecursion (λ (x : LogEntry). low < x.scn) (e ∷ later) =
        (above, each_from_has (λ (x : LogEntry). low < x.scn) later (λ x m. let r = rises_behind before e later x rises m in omega (arith, r, above))) in
        let is : upto low log ≡ upto low before = split ∙ ap (λ es. upto low before ++ es) (upto_none low (e ∷ later) behind) ∙ append-nil (upto low before) in
        let b = begun_by before low (rises_first before (e ∷ later) rises) in
        let r = sound_split no_database (upto low before) b.rest (subst (λ es. SoundFrom no_database es) b.whole sound.0) in
        let defined : (walked no_database (upto low before)).tables a.obj ≡ Some mem.table = ap (λ es. (walked no_database es).tables a.obj) (sym is) ∙ mem.defined in
        let member : (x : LogEntry) → Has b.rest x → Has before x = λ x m. subst (λ es. Has es x) (sym b.whole) (has_append_right (upto low before) b.rest x m) in
        let stays = walked_stays (walked no_database (upto low before)) b.rest a.obj mem.table r.1 (tied (upto low before) a.obj mem.table defined) defined
        (λ x m d. k x (contains log x (subst (λ es. Has es x) (sym whole) (has_append_left before (e ∷ later) x (member x m)))) d (b.above x m) (rises_across before e later x rises (member x m))) in
        ap (λ es. is_in_memory ((walked no_database es).tables a.obj)) b.whole
        ∙ ap (λ (db : Database). is_in_memory (db.tables a.obj)) (walked_append no_database (upto low before) b.rest)
        ∙ ap is_in_memory stays ∙ mem.flag

-- a transaction that has ended touches nothing afterwards
end_set : (ended : ℕ → Bool) (txn t : ℕ) → ended t ≡ true → set_at txn true ended t ≡ true
end_set ended txn t h = by_test (t == txn)
  where
    by_test : (b : Bool) → cond b true (ended t) ≡ true
    by_test true = refl
    by_test false = h

ended_after : (db : Database) (v : Vector) (t : ℕ) → db.ended t ≡ true → (after db v).ended t ≡ true
ended_after db (Commit txn flag) t h = end_set db.ended txn t h
ended_after db (Abort txn) t h = end_set db.ended txn t h
ended_after db (Begin txn) t h = h
ended_after db (Put txn o b s row) t h = h
ended_after db (Delete txn o b s) t h = h
ended_after db (Undo txn o b s) t h = h
ended_after db (Create o e f columns) t h = h
ended_after db (DropObject o) t h = h
ended_after db (AddColumn o k) t h = h
ended_after db (NoInMemory o) t h = h
ended_after db EndThread t h = h

ran_not : (begun ended : Bool) → ended ≡ true → (begun && not ended) ≡ true → ⊥
ran_not true true h k = true≢false (sym k)
ran_not true false h k = true≢false (sym h)
ran_not false true h k = true≢false (sym k)
ran_not false false h k = true≢false (sym h)

touches_before_end : (db : Database) (es : List LogEntry) (t : ℕ) (a : Place) (e : LogEntry) → db.ended t ≡ true → SoundFrom db es → Has es e → touched_by t e.vector ≡ Some a → ⊥
touches_before_end db [] t a e h s m touch = m
touches_before_end db (x ∷ xs) t a e h s (inl same) touch =
    let f = touch_found db x.vector t a (subst (λ (y : LogEntry). touched_by t y.vector ≡ Some a) (sym same) touch) s.1 in
    ran_not (db.begun t) (db.ended t) h f.running
touches_before_end db (x ∷ xs) t a e h s (inr m) touch = touches_before_end (after db x.vector) xs t a e (ended_after db x.vector t h) s.2 m touch

-- the addresses that a vector puts or deletes for a transaction
abbrev puts_by : ℕ → Vector → Option Place
puts_by t (Put txn o b s row) = cond (txn == t) (Some (place o b s)) None
puts_by t (Delete txn o b s) = cond (txn == t) (Some (place o b s)) None
puts_by t other = None

puts_touch : (t : ℕ) (v : Vector) (a : Place) → puts_by t v ≡ Some a → touched_by t v ≡ Some a
puts_touch t (Put txn o b s row) a h = h
puts_touch t (Delete txn o b s) a h = h
puts_touch t (Begin txn) a h = let c : None ≡ Some a = h in absurd cc
puts_touch t (Undo txn o b s) a h = let c : None ≡ Some a = h in absurd cc
puts_touch t (Commit txn flag) a h = let c : None ≡ Some a = h in absurd cc
puts_touch t (Abort txn) a h = let c : None ≡ Some a = h in absurd cc
puts_touch t (Create o e f columns) a h = let c : None ≡ Some a = h in absurd cc
puts_touch t (DropObject o) a h = let c : None ≡ Some a = h in absurd cc
puts_touch t (AddColumn o k) a h = let c : None ≡ Some a = h in absurd cc
puts_touch t (NoInMemory o) a h = let c : None ≡ Some a = h in absurd cc
puts_touch t EndThread a h = let c : None ≡ Some a = h in absurd cc

-- two addresses that are the same
place_true : (a b : Place) → same_place a b ≡ true → a ≡ b
place_true a b h =
    let p = and_parts ((a.obj == b.obj) && (a.block == b.block)) (a.slot == b.slot) h in
    let q = and_parts (a.obj == b.obj) (a.block == b.block) p.0 in
    let o : a.obj ≡ b.obj = eqb-true a.obj b.obj q.0 in
    let k : a.block ≡ b.block = eqb-true a.block b.block q.1 in
    let s : a.slot ≡ b.slot = eqb-true a.slot b.slot p.1 in
    ap (λ n. place n a.block a.slot) o ∙ ap (λ n. place b.obj n a.slot) k ∙ ap (λ n. place b.obj b.block n) s

-- what is pending at an address was put or deleted there
struck_has : (p a : Place) (cs : List Change) → has_change a (struck p cs) ≡ true → has_change a cs ≡ true
struck_has p a [] h = h
struck_has p a (c ∷ cs) h = by_tests (same_place p c.at) (same_place a c.at) h (struck_has p a cs)
  where
    by_tests : (x y : Bool) → has_change a (cond x cs (c ∷ struck p cs)) ≡ true → (has_change a (struck p cs) ≡ true → has_change a cs ≡ true) → (same_place a c.at || has_change a cs) ≡ true
    by_tests true y k ih = later (same_place a c.at) k
      where
        later : (z : Bool) → has_change a cs ≡ true → (z || has_change a cs) ≡ true
        later true u = refl
        later false u = u
    by_tests false y k ih = later (same_place a c.at) k
      where
        later : (z : Bool) → (z || has_change a (struck p cs)) ≡ true → (z || has_change a cs) ≡ true
        later true u = refl
        later false u = ih u

abbrev WasOrPut : Database → Vector → ℕ → Place → Type 0
WasOrPut db v t a = (has_change a (db.pending t) ≡ true) ⊎ (puts_by t v ≡ Some a)

put_case : (db : Database) (txn t : ℕ) (a : Place) (c : Change) → has_change a (set_at txn (c ∷ db.pending txn) db.pending t) ≡ true
    → (has_change a (db.pending t) ≡ true) ⊎ (cond (txn == t) (Some c.at) None ≡ Some a)
put_case db txn t a c h = by_test (t == txn) refl h
  where
    by_test : (b : Bool) → (t == txn) ≡ b → has_change a (cond b (c ∷ db.pending txn) (db.pending t)) ≡ true → (has_change a (db.pending t) ≡ true) ⊎ (cond (txn == t) (Some c.at) None ≡ Some a)
    by_test false e k = inl k
    by_test true e k = by_place (same_place a c.at) refl k
      where
        same : t ≡ txn
        same = eqb-true t txn e

        by_place : (y : Bool) → same_place a c.at ≡ y → (y || has_change a (db.pending txn)) ≡ true → (has_change a (db.pending t) ≡ true) ⊎ (cond (txn == t) (Some c.at) None ≡ Some a)
        by_place true f u = inr (yes (txn == t) (eq-eqb txn t (sym same)) (sym (place_true a c.at f)))
          where
            yes : (z : Bool) → z ≡ true → c.at ≡ a → cond z (Some c.at) None ≡ Some a
            yes true p q = ap Some q
            yes false p q = absurd (true≢false (sym p))
        by_place false f u = inl (subst (λ n. has_change a (db.pending n) ≡ true) (sym same) u)

undo_case : (db : Database) (txn t : ℕ) (p a : Place) → has_change a (set_at txn (struck p (db.pending txn)) db.pending t) ≡ true → has_change a (db.pending t) ≡ true
undo_case db txn t p a h = by_test (t == txn) refl h
  where
    by_test : (b : Bool) → (t == txn) ≡ b → has_change a (cond b (struck p (db.pending txn)) (db.pending t)) ≡ true → has_change a (db.pending t) ≡ true
    by_test false e k = k
    by_test true e k = subst (λ n. has_change a (db.pending n) ≡ true) (sym (eqb-true t txn e)) (struck_has p a (db.pending txn) k)

end_case : (db : Database) (txn t : ℕ) (a : Place) → has_change a (set_at txn [] db.pending t) ≡ true → has_change a (db.pending t) ≡ true
end_case db txn t a h = by_test (t == txn) h
  where
    by_test : (b : Bool) → has_change a (cond b [] (db.pending t)) ≡ true → has_change a (db.pending t) ≡ true
    by_test false k = k
    by_test true k = absurd (true≢false (sym k))

was_or_put : (db : Database) (v : Vector) (t : ℕ) (a : Place) → has_change a ((after db v).pending t) ≡ true → WasOrPut db v t a
was_or_put db (Put txn o b s row) t a h = put_case db txn t a (record { at = place o b s; row = Some row }) h
was_or_put db (Delete txn o b s) t a h = put_case db txn t a (record { at = place o b s; row = None }) h
was_or_put db (Undo txn o b s) t a h = inl (undo_case db txn t (place o b s) a h)
was_or_put db (Commit txn flag) t a h = inl (end_case db txn t a h)
was_or_put db (Abort txn) t a h = inl (end_case db txn t a h)
was_or_put db (Begin txn) t a h = inl h
was_or_put db (Create o e f columns) t a h = inl h
was_or_put db (DropObject o) t a h = inl h
was_or_put db (AddColumn o k) t a h = inl h
was_or_put db (NoInMemory o) t a h = inl h
was_or_put db EndThread t a h = inl h

abbrev HasPut : List LogEntry → ℕ → Place → Type 0
HasPut es t a = (x : LogEntry) × Has es x × (puts_by t x.vector ≡ Some a)

pending_put : (db : Database) (es : List LogEntry) (t : ℕ) (a : Place) → has_change a ((walked db es).pending t) ≡ true → (has_change a (db.pending t) ≡ true) ⊎ HasPut es t a
pending_put db [] t a h = inl h
pending_put db (e ∷ es) t a h = either (pending_put (after db e.vector) es t a h)
  where
    first : WasOrPut db e.vector t a → (has_change a (db.pending t) ≡ true) ⊎ HasPut (e ∷ es) t a
    first (inl k) = inl k
    first (inr k) = inr (e, inl refl, k)

    either : (has_change a ((after db e.vector).pending t) ≡ true) ⊎ HasPut es t a → (has_change a (db.pending t) ≡ true) ⊎ HasPut (e ∷ es) t a
    either (inl k) = first (was_or_put db e.vector t a k)
    either (inr r) = inr (r.0, inr r.1, r.2)

-- what is touched was put or deleted before, or is so now
put_first : (before : List LogEntry) (e : LogEntry) (later : List LogEntry) (t : ℕ) (a : Place) → refusal (walked no_database before) e.vector ≡ None → touched_by t e.vector ≡ Some a
    → HasPut (before ++ e ∷ later) t a
put_first before e later t a r touch = by_vector e.vector refl r touch
  where
    here : (v : Vector) → e.vector ≡ v → puts_by t v ≡ Some a → HasPut (before ++ e ∷ later) t a
    here v same h = (e, has_append_right before (e ∷ later) e (inl refl), ap (puts_by t) same ∙ h)

    earlier : HasPut before t a → HasPut (before ++ e ∷ later) t a
    earlier p = (p.0, has_append_left before (e ∷ later) p.0 p.1, p.2)

    either : (has_change a [] ≡ true) ⊎ HasPut before t a → HasPut (before ++ e ∷ later) t a
    either (inl k) = absurd (true≢false (sym k))
    either (inr p) = earlier p

    undone : (txn o b s : ℕ) → refusal (walked no_database before) (Undo txn o b s) ≡ None → cond (txn == t) (Some (place o b s)) None ≡ Some a → HasPut (before ++ e ∷ later) t a
    undone txn o b s k h =
        let db = walked no_database before in
        let p = touch_parts txn t (place o b s) a h in
        let on = (demanded (is_running db txn) TxnUnknown _ k).1 in
        let table = on_table_some (db.tables o) _ on in
        let later = (demanded (has_address table.0 b s) BadAddress _ table.2).1 in
        let has = (demanded (has_change (place o b s) (db.pending txn)) NothingToUndo None later).0 in
        let moved : has_change a (db.pending t) ≡ true = subst (λ n. has_change a (db.pending n) ≡ true) p.0 (subst (λ (q : Place). has_change q (db.pending txn) ≡ true) p.1 has) in
        either (pending_put no_database before t a moved)

    by_vector : (v : Vector) → e.vector ≡ v → refusal (walked no_database before) v ≡ None → touched_by t v ≡ Some a → HasPut (before ++ e ∷ later) t a
    by_vector (Put txn o b s row) same k h = here (Put txn o b s row) same h
    by_vector (Delete txn o b s) same k h = here (Delete txn o b s) same h
    by_vector (Undo txn o b s) same k h = undone txn o b s k h
    by_vector (Begin txn) same k h = let c : None ≡ Some a = h in absurd cc
    by_vector (Commit txn flag) same k h = let c : None ≡ Some a = h in absurd cc
    by_vector (Abort txn) same k h = let c : None ≡ Some a = h in absurd cc
    by_vector (Create o x f columns) same k h = let c : None ≡ Some a = h in absurd cc
    by_vector (DropObject o) same k h = let c : None ≡ Some a = h in absurd cc
    by_vector (AddColumn o x) same k h = let c : None ≡ Some a = h in absurd cc
    by_vector (NoInMemory o) same k h = let c : None ≡ Some a = h in absurd cc
    by_vector EndThread same k h = let c : None ≡ Some a = h in absurd cc

-- a put or a delete of an object that is in-memory is noted, and stays so
note_now : (b : Bool) (was memory : Bool) (t txn : ℕ) (f : ℕ → Bool) → b ≡ true → memory ≡ true → cond b (was || memory) (f t) ≡ true
note_now true was true t txn f h k = by_test was
  where
    by_test : (w : Bool) → (w || true) ≡ true
    by_test true = refl
    by_test false = refl
note_now true was false t txn f h k = absurd (true≢false (sym k))
note_now false was memory t txn f h k = absurd (true≢false (sym h))

noted_now : (db : Database) (v : Vector) (t : ℕ) (a : Place) → puts_by t v ≡ Some a → is_in_memory (db.tables a.obj) ≡ true → (after db v).noted t ≡ true
noted_now db (Put txn o b s row) t a h k =
    let p = touch_parts txn t (place o b s) a h in
    note_now (t == txn) (db.noted txn) (is_in_memory (db.tables o)) t txn db.noted (eq-eqb t txn (sym p.0)) (subst (λ (q : Place). is_in_memory (db.tables q.obj) ≡ true) (sym p.1) k)
noted_now db (Delete txn o b s) t a h k =
    let p = touch_parts txn t (place o b s) a h in
    note_now (t == txn) (db.noted txn) (is_in_memory (db.tables o)) t txn db.noted (eq-eqb t txn (sym p.0)) (subst (λ (q : Place). is_in_memory (db.tables q.obj) ≡ true) (sym p.1) k)
noted_now db (Begin txn) t a h k = let c : None ≡ Some a = h in absurd cc
noted_now db (Undo txn o b s) t a h k = let c : None ≡ Some a = h in absurd cc
noted_now db (Commit txn flag) t a h k = let c : None ≡ Some a = h in absurd cc
noted_now db (Abort txn) t a h k = let c : None ≡ Some a = h in absurd cc
noted_now db (Create o e f columns) t a h k = let c : None ≡ Some a = h in absurd cc
noted_now db (DropObject o) t a h k = let c : None ≡ Some a = h in absurd cc
noted_now db (AddColumn o x) t a h k = let c : None ≡ Some a = h in absurd cc
noted_now db (NoInMemory o) t a h k = let c : None ≡ Some a = h in absurd cc
noted_now db EndThread t a h k = let c : None ≡ Some a = h in absurd cc

note_stays : (b : Bool) (t txn : ℕ) (memory : Bool) (f : ℕ → Bool) → (t == txn) ≡ b → f t ≡ true → cond b (f txn || memory) (f t) ≡ true
note_stays true t txn memory f e h = or_left (f txn) memory (subst (λ n. f n ≡ true) (eqb-true t txn e) h)
note_stays false t txn memory f e h = h

noted_after : (db : Database) (v : Vector) (t : ℕ) → db.noted t ≡ true → (after db v).noted t ≡ true
noted_after db (Put txn o b s row) t h = note_stays (t == txn) t txn (is_in_memory (db.tables o)) db.noted refl h
noted_after db (Delete txn o b s) t h = note_stays (t == txn) t txn (is_in_memory (db.tables o)) db.noted refl h
noted_after db (Begin txn) t h = h
noted_after db (Undo txn o b s) t h = h
noted_after db (Commit txn flag) t h = h
noted_after db (Abort txn) t h = h
noted_after db (Create o e f columns) t h = h
noted_after db (DropObject o) t h = h
noted_after db (AddColumn o k) t h = h
noted_after db (NoInMemory o) t h = h
noted_after db EndThread t h = h

walked_noted : (db : Database) (es : List LogEntry) (t : ℕ) → db.noted t ≡ true → (walked db es).noted t ≡ true
walked_noted db [] t h = h
walked_noted db (e ∷ es) t h = walked_noted (after db e.vector) es t (noted_after db e.vector t h)

flag_true : (flag noted : Bool) → same_flag flag noted ≡ true → noted ≡ true → flag ≡ true
flag_true true noted h k = refl
flag_true false true h k = absurd (true≢false (sym h))
flag_true false false h k = absurd (true≢false (sym k))

pub flagged : (log : List LogEntry) (frontier : ℕ) → IsLog log frontier
    → (t : ℕ) (a : Place) (e f : LogEntry) (flag : Bool) (low : ℕ) → Contains log e → Contains log f → touched_by t e.vector ≡ Some a
    → f.vector ≡ Commit t flag → IsInMemory log a.obj low → NotRedefined log a.obj low f.scn → flag ≡ true
flagged log frontier l t a e f flag low me mf touch commit mem k = either (has_append_cases p.before (f ∷ p.later) e (subst (λ es. Has es e) p.whole (has log e me)))
  where
    p : SplitAt log f
    p = split_at log f (has log f mf)

    db : Database
    db = walked no_database p.before

    rises : ScnsRise (p.before ++ f ∷ p.later)
    rises = subst ScnsRise p.whole (scns_rise 1 frontier log l.scns)

    sound : SoundFrom no_database p.before × SoundFrom db (f ∷ p.later)
    sound = sound_split no_database p.before (f ∷ p.later) (subst (λ es. SoundFrom no_database es) p.whole l.sound)

    checked : refusal db (Commit t flag) ≡ None
    checked = subst (λ v. refusal db v ≡ None) commit sound.1.1

    same : same_flag flag (db.noted t) ≡ true
    same = (demanded (same_flag flag (db.noted t)) BadFlag None (demanded (is_running db t) TxnUnknown _ checked).1).0

    put_noted : HasPut p.before t a → flag ≡ true
    put_noted r =
        let x = r.0 in
        let q = split_at p.before x r.1 in
        let le : x.scn ≤ f.scn = rises_across p.before f p.later x rises r.1 in
        let whole : log ≡ q.before ++ x ∷ (q.later ++ f ∷ p.later) =
        p.whole ∙ ap (λ es. es ++ f ∷ p.later) q.whole ∙ append_assoc q.before (x ∷ q.later) (f ∷ p.later) in
        let found = memory_found log frontier l t a q.before x (q.later ++ f ∷ p.later) low whole (puts_touch t x.vector a r.2) mem (λ y m d lo hi. k y m d lo (omega (arith, hi, le))) in
        let now = noted_now (walked no_database q.before) x.vector t a r.2 found in
        let then = walked_noted (after (walked no_database q.before) x.vector) q.later t now in
        let end : db.noted t ≡ true = ap (λ es. (walked no_database es).noted t) q.whole ∙ ap (λ (d : Database). d.noted t) (walked_append no_database q.before (x ∷ q.later)) ∙ then in
        flag_true flag (db.noted t) same end

    earlier : Has p.before e → flag ≡ true
    earlier m =
        let q = split_at p.before e m in
        let first = sound_split no_database q.before (e ∷ q.later) (subst (λ es. SoundFrom no_database es) q.whole sound.0) in
        let put = put_first q.before e q.later t a first.1.1 touch in
        put_noted (subst (λ es. HasPut es t a) (sym q.whole) put)

    set_true : (b : Bool) → b ≡ true → cond b true (db.ended t) ≡ true
    set_true true u = refl
    set_true false u = absurd (true≢false (sym u))

    ended : (after db f.vector).ended t ≡ true
    ended = subst (λ v. (after db v).ended t ≡ true) (sym commit) (set_true (t == t) (eq-eqb t t refl))

    no_touch : touched_by t f.vector ≡ Some a → ⊥
    no_touch h = let c : None ≡ Some a = subst (λ v. touched_by t v ≡ Some a) commit h in cc

    either : Has p.before e ⊎ Has (f ∷ p.later) e → flag ≡ true
    either (inl m) = earlier m
    either (inr (inl e')) = absurd (no_touch (ap (λ (y : LogEntry). touched_by t y.vector) e' ∙ touch))
    either (inr (inr m)) = absurd (touches_before_end (after db f.vector) p.later t a e ended sound.1.2 m touch)
