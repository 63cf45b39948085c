-- Aggregates one after another.
use Rattle.std.specs.Prelude.{ℕ, List, [], ◌∷◌, ◌++◌, codes}
use Rattle.adg_base.specs.declared.command.Aggregate.{Aggregate}
use Rattle.adg_model.specs.Command.{aggregate_bytes}

-- aggregates, the first behind a word, the others behind a comma
abbrev pub listed_bytes : List ℕ → List Aggregate → List ℕ
listed_bytes word [] = []
listed_bytes word (a ∷ more) = word ++ (aggregate_bytes a ++ listed_bytes (codes ", ") more)
