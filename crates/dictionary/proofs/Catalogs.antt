-- The objects of a dictionary, as entries make and change them.
use Rattle.std.proofs.Common.{◌≡◌, ℕ, zero, suc, ◌-◌, ◌<◌, ◌≤◌, Bool, true, false, cond, nat_eq, nat_le, List, [], ◌∷◌, ◌++◌, Option, None, Result, Ok, Err, refl, sym, ap, ◌∙◌, subst, length, slice_index_or, arith, eq-eqb, append-nil}
use Rattle.std.specs.Prelude.{OnErr}
use Rattle.dictionary.specs.declared.history.Step.{Step}
use Rattle.std.specs.List.{AllByRecursion}
use Rattle.std.proofs.lemmas.Bool.{leb-true, cond-true, cond-false}
use Rattle.std.proofs.lemmas.List.Sorted.{IsNonDecreasingBy-push}
use Rattle.adg_base.specs.declared.definition.Definition.{Definition}
use Rattle.adg_base.specs.declared.log.LogEntry.{LogEntry}
use Rattle.adg_model.specs.Log.{upto}
use Rattle.adg_model.specs.Database.{Database, Table, after, no_database, database, table_at}
use Rattle.adg_model.specs.Defined.{AreDefined}
use Rattle.adg_model.proofs.LogLaws.{each_weaker, upto_all, upto_append}
use Rattle.adg_model.proofs.RowLaws.{walked_append}
use Rattle.dictionary.specs.History.{has_steps, last_from, defined_from}
use Rattle.dictionary.specs.Objects.{steps_of, AddsStep, Describes, Catalogs}
use Rattle.dictionary.proofs.Steps.{last_from_push, defined_from_push}
use Rattle.dictionary.proofs.Tracking.{by_name}

-- what holds anyway holds where there is an error
pub on_err_always : {T E : Type 0} (r : Result T E) (Q : Type 0) → Q → OnErr r Q
on_err_always (Ok v) Q q = tt
on_err_always (Err v) Q q = q

-- an object of which there is a step was created
has_steps_push : (steps : List Step) (step : Step) → has_steps (steps ++ step ∷ []) ≡ true
has_steps_push [] step = refl
has_steps_push (s ∷ later) step = refl

-- an empty list of steps behind the others gives no object a step
pub steps_of_longer : (objects : List (List Step)) (q : ℕ) → steps_of (objects ++ [] ∷ []) q ≡ steps_of objects q
steps_of_longer [] zero = refl
steps_of_longer [] (suc q) = refl
steps_of_longer (steps ∷ others) zero = refl
steps_of_longer (steps ∷ others) (suc q) = steps_of_longer others q

-- a log with one entry more
pub database_push : (log : List LogEntry) (e : LogEntry) → database (log ++ e ∷ []) ≡ after (database log) e.vector
unfolding database
database_push log e = walked_append no_database log (e ∷ [])

table_at_push : (log : List LogEntry) (e : LogEntry) (scn obj : ℕ) → AllByRecursion (λ (x : LogEntry). x.scn ≤ e.scn) log
    → table_at (log ++ e ∷ []) scn obj ≡ cond (nat_le e.scn scn) ((after (database log) e.vector).tables obj) (table_at log scn obj)
table_at_push log e scn obj scns =
    ap (λ (l : List LogEntry). (database l).tables obj) (upto_append scn log (e ∷ [])) ∙ by_test (nat_le e.scn scn) refl
  where
    by_test : (b : Bool) → nat_le e.scn scn ≡ b → (database (upto scn log ++ upto scn (e ∷ []))).tables obj ≡ cond b ((after (database log) e.vector).tables obj) (table_at log scn obj)
    by_test true k =
        let all : upto scn log ≡ log = upto_all scn log (each_weaker (λ (x : LogEntry). x.scn ≤ e.scn) (λ (x : LogEntry). x.scn ≤ scn) (λ x h. omega (arith, h, leb-true e.scn scn k)) log scns) in
        rw (k, all) (ap (λ (db : Database). db.tables obj) (database_push log e))
    by_test false k = rw k (ap (λ (l : List LogEntry). (database l).tables obj) (append-nil (upto scn log)))

-- the tables at an SCN that no entry is above
table_at_late : (log : List LogEntry) (scn obj : ℕ) → AllByRecursion (λ (x : LogEntry). x.scn ≤ scn) log → table_at log scn obj ≡ (database log).tables obj
table_at_late log scn obj scns = ap (λ (l : List LogEntry). (database l).tables obj) (upto_all scn log scns)

each_last : (P : LogEntry → Type 0) (log : List LogEntry) (e : LogEntry) → AllByRecursion P (log ++ e ∷ []) → AllByRecursion P log × P e
each_last P [] e h = (tt, h.0)
each_last P (x ∷ xs) e h = let k = each_last P xs e h.1 in ((h.0, k.0), k.1)

each_step_push : (P : Step → Type 0) (steps : List Step) (step : Step) → AllByRecursion P steps → P step → AllByRecursion P (steps ++ step ∷ [])
each_step_push P [] step h p = (p, tt)
each_step_push P (s ∷ later) step h p = (h.0, each_step_push P later step h.1 p)

last_within : (P : Step → Type 0) (steps : List Step) (i : ℕ) (d : Step) → AllByRecursion P steps → i < length steps → P (slice_index_or steps i d)
last_within P [] i d h le = absurd (omega arith)
last_within P (s ∷ later) zero d h le = h.0
last_within P (s ∷ later) (suc i) d h le = last_within P later i d h.1 (omega arith)

-- an object whose table an entry makes
describes_step : (steps : List Step) (log : List LogEntry) (obj : ℕ) (e : LogEntry) (definition : Option Definition) → Describes steps log obj → AllByRecursion (λ (x : LogEntry). x.scn ≤ e.scn) log
    → AreDefined obj ((after (database log) e.vector).tables obj) definition → Describes (steps ++ record { scn = e.scn; definition = definition } ∷ []) (log ++ e ∷ []) obj
describes_step steps log obj e definition h scns made =
    let step : Step = record { scn = e.scn; definition = definition } in
    record {
      latest =
          subst (λ (db : Database). AreDefined obj (db.tables obj) (last_from None (steps ++ step ∷ []))) (sym (database_push log e))
          (subst (AreDefined obj ((after (database log) e.vector).tables obj)) (sym (last_from_push None steps step)) made);
      at = λ scn. subst (λ (t : Option Table). AreDefined obj t (defined_from None scn (steps ++ step ∷ []))) (sym (table_at_push log e scn obj scns))
          (subst (AreDefined obj (cond (nat_le e.scn scn) ((after (database log) e.vector).tables obj) (table_at log scn obj))) (sym (defined_from_push None scn steps step))
          (by_test scn (nat_le e.scn scn)));
      ordered = IsNonDecreasingBy-push (λ (s : Step). s.scn) steps step h.ordered (λ d some. last_within (λ (s : Step). s.scn ≤ e.scn) steps (length steps - 1) d (h.within e.scn scns) (omega arith));
      within = λ scn all. let k = each_last (λ (x : LogEntry). x.scn ≤ scn) log e all in each_step_push (λ (s : Step). s.scn ≤ scn) steps step (h.within scn k.0) k.1;
    }
  where
    by_test : (scn : ℕ) (b : Bool) → AreDefined obj (cond b ((after (database log) e.vector).tables obj) (table_at log scn obj)) (cond b definition (defined_from None scn steps))
    by_test scn true = made
    by_test scn false = h.at scn

-- an object whose table stays
describes_same : (steps : List Step) (log : List LogEntry) (obj : ℕ) (e : LogEntry) → Describes steps log obj → AllByRecursion (λ (x : LogEntry). x.scn ≤ e.scn) log
    → (after (database log) e.vector).tables obj ≡ (database log).tables obj → Describes steps (log ++ e ∷ []) obj
describes_same steps log obj e h scns same =
    record {
      latest = subst (λ (db : Database). AreDefined obj (db.tables obj) (last_from None steps)) (sym (database_push log e))
          (subst (λ (t : Option Table). AreDefined obj t (last_from None steps)) (sym same) h.latest);
      at = λ scn. subst (λ (t : Option Table). AreDefined obj t (defined_from None scn steps)) (sym (table_at_push log e scn obj scns)) (by_test scn (nat_le e.scn scn) refl);
      ordered = h.ordered;
      within = λ scn all. h.within scn (each_last (λ (x : LogEntry). x.scn ≤ scn) log e all).0;
    }
  where
    by_test : (scn : ℕ) (b : Bool) → nat_le e.scn scn ≡ b → AreDefined obj (cond b ((after (database log) e.vector).tables obj) (table_at log scn obj)) (defined_from None scn steps)
    by_test scn true k =
        let late = table_at_late log scn obj (each_weaker (λ (x : LogEntry). x.scn ≤ e.scn) (λ (x : LogEntry). x.scn ≤ scn) (λ x j. omega (arith, j, leb-true e.scn scn k)) log scns) in
        subst (λ (t : Option Table). AreDefined obj t (defined_from None scn steps)) (late ∙ sym same) (h.at scn)
    by_test scn false k = h.at scn

-- no object's table changes
pub Catalogs_same : (objects : List (List Step)) (log : List LogEntry) (e : LogEntry) → Catalogs objects log → AllByRecursion (λ (x : LogEntry). x.scn ≤ e.scn) log
    → ((obj : ℕ) → (after (database log) e.vector).tables obj ≡ (database log).tables obj) → ((obj : ℕ) → (after (database log) e.vector).created obj ≡ (database log).created obj)
    → Catalogs objects (log ++ e ∷ [])
Catalogs_same objects log e h scns tables created = record {
  created = λ obj. h.created obj ∙ sym (created obj) ∙ sym (ap (λ (db : Database). db.created obj) (database_push log e));
  described = λ obj. describes_same (steps_of objects obj) log obj e (h.described obj) scns (tables obj);
}

-- one object gets a step, by its table
pub Catalogs_step : (old new : List (List Step)) (log : List LogEntry) (e : LogEntry) (obj : ℕ) (definition : Option Definition) → Catalogs old log → AllByRecursion (λ (x : LogEntry). x.scn ≤ e.scn) log
    → AddsStep old new obj (record { scn = e.scn; definition = definition })
    → AreDefined obj ((after (database log) e.vector).tables obj) definition
    → (after (database log) e.vector).created obj ≡ true
    → ((q : ℕ) → nat_eq obj q ≡ false → (after (database log) e.vector).tables q ≡ (database log).tables q)
    → ((q : ℕ) → nat_eq obj q ≡ false → (after (database log) e.vector).created q ≡ (database log).created q)
    → Catalogs new (log ++ e ∷ [])
Catalogs_step old new log e obj definition h scns adds made was tables created =
    let step : Step = record { scn = e.scn; definition = definition } in
    let here : steps_of new obj ≡ steps_of old obj ++ step ∷ [] = adds obj ∙ cond-true (nat_eq obj obj) _ _ (eq-eqb obj obj refl) in
    let apart : (q : ℕ) → nat_eq obj q ≡ false → steps_of new q ≡ steps_of old q = λ q k. adds q ∙ cond-false (nat_eq obj q) _ _ k in
    record {
      created = by_name (λ q. has_steps (steps_of new q) ≡ (database (log ++ e ∷ [])).created q) obj
          (ap has_steps here ∙ has_steps_push (steps_of old obj) step ∙ sym was ∙ sym (ap (λ (db : Database). db.created obj) (database_push log e)))
          (λ q k. ap has_steps (apart q k) ∙ h.created q ∙ sym (created q k) ∙ sym (ap (λ (db : Database). db.created q) (database_push log e)));
      described = by_name (λ q. Describes (steps_of new q) (log ++ e ∷ []) q) obj
          (subst (λ (l : List Step). Describes l (log ++ e ∷ []) obj) (sym here) (describes_step (steps_of old obj) log obj e definition (h.described obj) scns made))
          (λ q k. subst (λ (l : List Step). Describes l (log ++ e ∷ []) q) (sym (apart q k)) (describes_same (steps_of old q) log q e (h.described q) scns (tables q k)));
    }
