-- A dictionary and its log, before an entry and after it.
use Rattle.std.proofs.Common.{◌≡◌, ℕ, ◌+◌, ◌≤◌, Bool, true, false, not, nat_eq, List, [], ◌∷◌, ◌++◌, length, Option, Some, None, Result, Ok, Err, refl, sym, ap, ◌∙◌, subst, arith}
use Rattle.std.specs.Prelude.{OnOk}
use Rattle.std.specs.Bool.{beq}
use Rattle.std.proofs.lemmas.Bool.{true≢false}
use Rattle.std.specs.List.{AllByRecursion}
use Rattle.adg_base.specs.declared.value.ColKind.{ColKind}
use Rattle.adg_base.specs.declared.value.Value.{Value}
use Rattle.adg_base.specs.declared.definition.Definition.{Definition}
use Rattle.adg_base.specs.declared.vector.Vector.{Vector}
use Rattle.adg_base.specs.declared.vector.Vector.TheVariants.{Put, Undo, Commit, Create}
use Rattle.adg_base.specs.declared.log.LogEntry.{LogEntry}
use Rattle.adg_model.specs.declared.fault.CheckKind.{CheckKind}
use Rattle.adg_model.specs.declared.fault.CheckKind.TheVariants.{TxnUnknown, BadRow, NothingToUndo}
use Rattle.adg_model.specs.Spelling.{IsVector}
use Rattle.adg_model.specs.Log.{numbered}
use Rattle.adg_model.specs.Database.{Database, Table, after, no_database, walked, database, set_at, is_in_memory, has_change}
use Rattle.adg_base.specs.Address.{place, Place}
use Rattle.adg_model.specs.Defined.{IsDefinition, AreDefined}
use Rattle.adg_model.specs.Sound.{SoundFrom, ScnsWithin, refusal, demand, on_table, on_change, is_running, has_address, fits_row, same_flag}
use Rattle.adg_model.proofs.LogLaws.{numbered_append}
use Rattle.dictionary.specs.declared.history.Step.{Step}
use Rattle.dictionary.specs.Transactions.{Held, TracksIn}
use Rattle.dictionary.specs.Objects.{steps_of, AddsStep, Catalogs}
use Rattle.dictionary.specs.Standing.{Known, StandsFor, MayFollow}
use Rattle.dictionary.specs.Checks.{IsPlaced}
use Rattle.dictionary.specs.History.{has_steps, last_from}
use Rattle.dictionary.proofs.Tracking.{set_at_here, set_at_apart}
use Rattle.dictionary.proofs.Catalogs.{database_push, Catalogs_same, Catalogs_step}

sound_push : (db : Database) (log : List LogEntry) (e : LogEntry) → SoundFrom db log → IsVector 1 e.vector → refusal (walked db log) e.vector ≡ None → SoundFrom db (log ++ e ∷ [])
sound_push db [] e h v r = (v, r, tt)
sound_push db (x ∷ xs) e h v r = (h.0, h.1, sound_push (after db x.vector) xs e h.2 v r)

scns_push : (low high : ℕ) (log : List LogEntry) (e : LogEntry) → low ≤ e.scn → ScnsWithin low high log → AllByRecursion (λ (x : LogEntry). x.scn ≤ e.scn) log → ScnsWithin low e.scn (log ++ e ∷ [])
scns_push low high [] e le h k = (le, omega arith, tt)
scns_push low high (x ∷ xs) e le h k = (h.0, k.0, scns_push x.scn high xs e k.0 h.2 k.1)

-- the log of a dictionary has one entry more, whose vector is this one
module _ (old new : Known) (log : List LogEntry) (e : LogEntry) (v : Vector) (s : StandsFor old log) (f : MayFollow log e) (is : e.vector ≡ v) (passes : refusal (database log) v ≡ None) where
  more : TracksIn new.transactions (after (database log) v) → Catalogs new.objects (log ++ e ∷ []) → StandsFor new (log ++ e ∷ [])
  unfolding database
  more tracks catalogs =
      let passed : refusal (walked no_database log) e.vector ≡ None = ap (λ (x : Vector). refusal (walked no_database log) x) is ∙ passes in
      let here : database (log ++ e ∷ []) ≡ after (database log) v = database_push log e ∙ ap (λ (x : Vector). after (database log) x) is in
      let own : numbered (0 + length log) (e ∷ []) ≡ e ∷ [] = let at : 0 + length log ≡ e.pos = omega (arith, f.place) in ap (λ (n : ℕ). let l : List LogEntry = record e { pos = n } ∷ [] in l) at in
      record {
        sound = sound_push no_database log e s.sound f.spelled passed;
        places = numbered_append 0 log (e ∷ []) ∙ ap (λ (l : List LogEntry). l ++ numbered (0 + length log) (e ∷ [])) s.places ∙ ap (λ (l : List LogEntry). log ++ l) own;
        last = e.scn;
        scns = scns_push 0 s.last log e (omega arith) s.scns f.scn;
        transactions = subst (TracksIn new.transactions) (sym here) tracks;
        objects = catalogs;
      }

  pub takes_up_transaction : ((obj : ℕ) → (after (database log) v).tables obj ≡ (database log).tables obj) → ((obj : ℕ) → (after (database log) v).created obj ≡ (database log).created obj)
      → new.objects ≡ old.objects → TracksIn new.transactions (after (database log) v) → StandsFor new (log ++ e ∷ [])
  takes_up_transaction tables created same tracks =
      let back : (x : Vector) → e.vector ≡ x → v ≡ x = λ x k. sym is ∙ k in
      more tracks (subst (λ (l : List (List Step)). Catalogs l (log ++ e ∷ [])) (sym same)
      (Catalogs_same old.objects log e s.objects f.scn
      (subst (λ (x : Vector). (obj : ℕ) → (after (database log) x).tables obj ≡ (database log).tables obj) (sym is) tables)
      (subst (λ (x : Vector). (obj : ℕ) → (after (database log) x).created obj ≡ (database log).created obj) (sym is) created)))

  pub takes_up_object : (obj : ℕ) (definition : Option Definition) → new.transactions ≡ old.transactions → TracksIn old.transactions (after (database log) v)
      → AddsStep old.objects new.objects obj (record { scn = e.scn; definition = definition })
      → AreDefined obj ((after (database log) v).tables obj) definition
      → (after (database log) v).created obj ≡ true
      → ((q : ℕ) → nat_eq obj q ≡ false → (after (database log) v).tables q ≡ (database log).tables q)
      → ((q : ℕ) → nat_eq obj q ≡ false → (after (database log) v).created q ≡ (database log).created q)
      → StandsFor new (log ++ e ∷ [])
  takes_up_object obj definition same tracks adds made was tables created =
      more (subst (λ (t : Held). TracksIn t (after (database log) v)) (sym same) tracks)
      (Catalogs_step old.objects new.objects log e obj definition s.objects f.scn adds
      (subst (λ (x : Vector). AreDefined obj ((after (database log) x).tables obj) definition) (sym is) made)
      (subst (λ (x : Vector). (after (database log) x).created obj ≡ true) (sym is) was)
      (subst (λ (x : Vector). (q : ℕ) → nat_eq obj q ≡ false → (after (database log) x).tables q ≡ (database log).tables q) (sym is) tables)
      (subst (λ (x : Vector). (q : ℕ) → nat_eq obj q ≡ false → (after (database log) x).created q ≡ (database log).created q) (sym is) created))

  -- an object that was created gets another table, or none
  pub takes_up_change : (obj : ℕ) (made : Option Table) (definition : Option Definition) → (after (database log) v).tables ≡ set_at obj made (database log).tables → (after (database log) v).created ≡ (database log).created
      → new.transactions ≡ old.transactions → TracksIn old.transactions (after (database log) v)
      → AddsStep old.objects new.objects obj (record { scn = e.scn; definition = definition })
      → AreDefined obj made definition → (database log).created obj ≡ true → StandsFor new (log ++ e ∷ [])
  takes_up_change obj made definition tables created same tracks adds defined was =
      takes_up_object obj definition same tracks adds
      (subst (λ (t : Option Table). AreDefined obj t definition) (sym (ap (λ (g : ℕ → Option Table). g obj) tables ∙ set_at_here obj made (database log).tables)) defined)
      (ap (λ (g : ℕ → Bool). g obj) created ∙ was)
      (λ q k. ap (λ (g : ℕ → Option Table). g q) tables ∙ set_at_apart obj made (database log).tables q k)
      (λ q k. ap (λ (g : ℕ → Bool). g q) created)

  -- an object that was not created is made
  pub takes_up_create : (obj extents : ℕ) (flag : Bool) (columns : List ColKind) (definition : Definition) → v ≡ Create obj extents flag columns
      → new.transactions ≡ old.transactions
      → AddsStep old.objects new.objects obj (record { scn = e.scn; definition = Some definition })
      → IsDefinition obj (record { extents = extents; flag = flag; kinds = columns }) definition
      → StandsFor new (log ++ e ∷ [])
  takes_up_create obj extents flag columns definition create same adds defined =
      let made : Table = record { extents = extents; flag = flag; kinds = columns } in
      let db = database log in
      takes_up_object obj (Some definition) same
      (subst (λ (x : Vector). TracksIn old.transactions (after db x)) (sym create) s.transactions) adds
      (subst (λ (x : Vector). AreDefined obj ((after db x).tables obj) (Some definition)) (sym create) (subst (λ (t : Option Table). AreDefined obj t (Some definition)) (sym (set_at_here obj (Some made) db.tables)) defined))
      (subst (λ (x : Vector). (after db x).created obj ≡ true) (sym create) (set_at_here obj true db.created))
      (subst (λ (x : Vector). (q : ℕ) → nat_eq obj q ≡ false → (after db x).tables q ≡ db.tables q) (sym create) (λ q k. set_at_apart obj (Some made) db.tables q k))
      (subst (λ (x : Vector). (q : ℕ) → nat_eq obj q ≡ false → (after db x).created q ≡ db.created q) (sym create) (λ q k. set_at_apart obj true db.created q k))

-- the place of a change, from what was found of its object
pub placed : (db : Database) (obj block slot : ℕ) (addr : Place) (definition : Definition) → AreDefined obj (db.tables obj) (Some definition)
    → ((table : Table) → IsDefinition obj table definition → (has_address table block slot ≡ true) × (addr ≡ place obj block slot)) → IsPlaced db obj block slot addr definition
placed db obj block slot addr definition defined within = by_table (db.tables obj) refl defined
  where
    by_table : (o : Option Table) → db.tables obj ≡ o → AreDefined obj o (Some definition) → IsPlaced db obj block slot addr definition
    by_table None e h = absurd h
    by_table (Some t) e h = let at = within t h in record { table = t; there = e; defined = h; within = at.0; at = at.1 }

-- of a change that is placed, its transaction and what comes later is checked
pub passes_placed : (db : Database) (txn obj block slot : ℕ) (addr : Place) (definition : Definition) (p : IsPlaced db obj block slot addr definition) (later : Table → Option CheckKind)
    → on_change db txn obj block slot later ≡ demand (is_running db txn) TxnUnknown (later p.table)
passes_placed db txn obj block slot addr definition p later = rw (p.there, p.within) refl

-- what follows where there is no error
pub on_ok_from : {T E : Type 0} (r : Result T E) (P Q R : Type 0) → OnOk r P → OnOk r Q → ((v : T) → r ≡ Ok v → P → Q → R) → OnOk r R
on_ok_from (Ok v) P Q R p q f = f v refl p q
on_ok_from (Err e) P Q R p q f = tt

-- a demand that is met
pub is_met : (b : Bool) (check : CheckKind) → demand b check None ≡ None → b ≡ true
is_met true check e = refl
is_met false check e = absurd cc

-- the flag of a placed change's object is that of its table
pub placed_flag : (db : Database) (obj block slot : ℕ) (addr : Place) (definition : Definition) → IsPlaced db obj block slot addr definition → definition.flag ≡ is_in_memory (db.tables addr.obj)
placed_flag db obj block slot addr definition p =
    p.defined.flag ∙ sym (ap is_in_memory p.there) ∙ sym (ap (λ (a : Place). is_in_memory (db.tables a.obj)) p.at)

same_flag_refl : (b : Bool) → same_flag b b ≡ true
same_flag_refl true = refl
same_flag_refl false = refl

pub passes_commit : (db : Database) (txn : ℕ) (flag : Bool) → is_running db txn ≡ true → db.noted txn ≡ flag → refusal db (Commit txn flag) ≡ None
passes_commit db txn flag running noted = rw (running, noted, same_flag_refl flag) refl

pub row_placed : (db : Database) (txn obj block slot : ℕ) (row : List Value) (addr : Place) (definition : Definition) (p : IsPlaced db obj block slot addr definition) (fits : Bool) → fits_row row p.table.kinds ≡ fits
    → refusal db (Put txn obj block slot row) ≡ demand (is_running db txn) TxnUnknown (demand fits BadRow None)
row_placed db txn obj block slot row addr definition p fits e =
    passes_placed db txn obj block slot addr definition p (λ table. demand (fits_row row table.kinds) BadRow None) ∙ ap (λ (b : Bool). demand (is_running db txn) TxnUnknown (demand b BadRow None)) e

pub undo_placed : (db : Database) (txn obj block slot : ℕ) (addr : Place) (definition : Definition) (p : IsPlaced db obj block slot addr definition) (has : Bool) → is_running db txn ≡ true → has_change addr (db.pending txn) ≡ has
    → refusal db (Undo txn obj block slot) ≡ demand has NothingToUndo None
undo_placed db txn obj block slot addr definition p has running e =
    passes_placed db txn obj block slot addr definition p (λ table. demand (has_change (place obj block slot) (db.pending txn)) NothingToUndo None)
    ∙ ap (λ (b : Bool). demand b TxnUnknown (demand (has_change (place obj block slot) (db.pending txn)) NothingToUndo None)) running
    ∙ ap (λ (b : Bool). demand b NothingToUndo None) (sym (ap (λ (a : Place). has_change a (db.pending txn)) p.at) ∙ e)

-- what is known of an object that has a definition
pub record IsFound (db : Database) (objects : List (List Step)) (obj : ℕ) (definition : Definition) : Type 0 where
  pub table : Table
  pub there : db.tables obj ≡ Some table
  pub defined : IsDefinition obj table definition
  pub known : has_steps (steps_of objects obj) ≡ true
  pub created : db.created obj ≡ true

pub found : (objects : List (List Step)) (log : List LogEntry) (obj : ℕ) (definition : Definition) → Catalogs objects log → Some definition ≡ last_from None (steps_of objects obj) → IsFound (database log) objects obj definition
found objects log obj definition h is =
    by_table ((database log).tables obj) refl (subst (AreDefined obj ((database log).tables obj)) (sym is) (h.described obj).latest)
  where
    known : (steps : List Step) → Some definition ≡ last_from None steps → has_steps steps ≡ true
    known [] e = absurd cc
    known (step ∷ later) e = refl

    by_table : (o : Option Table) → (database log).tables obj ≡ o → AreDefined obj o (Some definition) → IsFound (database log) objects obj definition
    by_table None e d = absurd d
    by_table (Some t) e d =
        let k = known (steps_of objects obj) is in
        record { table = t; there = e; defined = d; known = k; created = sym (h.created obj) ∙ k }

pub flag_is : (a b : Bool) → not (beq a b) ≡ false → a ≡ b
flag_is true true e = refl
flag_is true false e = absurd (true≢false e)
flag_is false true e = absurd (true≢false e)
flag_is false false e = refl

pub passes_on_table : (db : Database) (obj : ℕ) (table : Table) (later : Table → Option CheckKind) → db.tables obj ≡ Some table → on_table (db.tables obj) later ≡ later table
passes_on_table db obj table later there = ap (λ (o : Option Table). on_table o later) there

pub none_from : (steps : List Step) → has_steps steps ≡ false → steps ≡ []
none_from [] e = refl
none_from (step ∷ later) e = absurd (true≢false e)

-- the empty dictionary and the empty log
pub stands_for_nothing : (transactions : Held) → TracksIn transactions no_database → StandsFor (record { transactions = transactions; objects = [] }) []
unfolding database
stands_for_nothing transactions tracks = record {
  sound = tt;
  places = refl;
  last = 0;
  scns = tt;
  transactions = tracks;
  objects = record {
    created = λ obj. refl;
    described = λ obj. record { latest = tt; at = λ scn. tt; ordered = λ i j d le lt. absurd (omega arith); within = λ scn all. tt };
  };
}
