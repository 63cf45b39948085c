-- The definitions that an object had, one after another.
use Rattle.std.specs.Prelude.{ℕ, Bool, true, false, nat_le, if◌then◌else◌, List, [], ◌∷◌, Option}
use Rattle.adg_base.specs.declared.definition.Definition.{Definition}
use Rattle.dictionary.specs.declared.history.Step.{Step}

-- whether there was an entry of the object
abbrev pub has_steps : List Step → Bool
has_steps [] = false
has_steps (step ∷ later) = true

-- the definition of the last step, or the one before it all
abbrev pub last_from : Option Definition → List Step → Option Definition
last_from before [] = before
last_from before (step ∷ later) = last_from step.definition later

-- the definition of the last step with an SCN at most this one, or the one before it all
abbrev pub defined_from : Option Definition → ℕ → List Step → Option Definition
defined_from before scn [] = before
defined_from before scn (step ∷ later) = defined_from (if nat_le step.scn scn then step.definition else before) scn later
