use Rattle.std.proofs.Common.{List, [], sym, subst}
use Rattle.dictionary.specs.declared.history.Step.{Step}
use Rattle.dictionary.specs.Standing.{StandsFor}
use Rattle.dictionary.proofs.Follows.{stands_for_nothing}
use Rattle.dictionary.proofs.dictionary.Dictionary.new.Goals as goal

pub returns : goal.returns
returns c =
    subst (λ (l : List (List Step)). StandsFor (record { transactions = c.new.result; objects = l }) []) (sym c.new-2.ensures) (stands_for_nothing c.new.result c.new.ensures)
