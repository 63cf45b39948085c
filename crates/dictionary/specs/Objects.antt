-- The objects of a dictionary.
use Rattle.std.specs.Prelude.{◌≡◌, ℕ, ◌≤◌, cond, nat_eq, List, [], ◌∷◌, ◌++◌, None, slice_index_or}
use Rattle.std.specs.List.{AllByRecursion}
use Rattle.std.specs.List.Sorted.{IsNonDecreasingBy}
use Rattle.adg_base.specs.declared.log.LogEntry.{LogEntry}
use Rattle.adg_model.specs.Database.{database, table_at}
use Rattle.dictionary.specs.declared.history.Step.{Step}
use Rattle.adg_model.specs.Defined.{AreDefined}
use Rattle.dictionary.specs.History.{has_steps, last_from, defined_from}

-- the steps of an object stand in the list at its number; one that was not created has none
abbrev pub steps_of : List (List Step) → ℕ → List Step
steps_of objects obj = slice_index_or objects obj []

-- one object has one step more
abbrev pub AddsStep : List (List Step) → List (List Step) → ℕ → Step → Type 0
AddsStep old new obj step = (q : ℕ) → steps_of new q ≡ cond (nat_eq obj q) (steps_of old obj ++ step ∷ []) (steps_of old q)

-- the steps of an object by a log
pub record Describes (steps : List Step) (log : List LogEntry) (obj : ℕ) : Type 0 where
  pub latest : AreDefined obj ((database log).tables obj) (last_from None steps)
  pub at : (scn : ℕ) → AreDefined obj (table_at log scn obj) (defined_from None scn steps)
  pub ordered : IsNonDecreasingBy (λ step. step.scn) steps
  pub within : (scn : ℕ) → AllByRecursion (λ e. e.scn ≤ scn) log → AllByRecursion (λ step. step.scn ≤ scn) steps

-- the objects are those that were created, with the definitions that they had
pub record Catalogs (objects : List (List Step)) (log : List LogEntry) : Type 0 where
  pub created : (obj : ℕ) → has_steps (steps_of objects obj) ≡ (database log).created obj
  pub described : (obj : ℕ) → Describes (steps_of objects obj) log obj
