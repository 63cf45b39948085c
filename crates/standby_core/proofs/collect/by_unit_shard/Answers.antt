use Rattle.std.proofs.Common.{rules, sym, subst}
use Rattle.std.specs.List.Sorted.{IsNonDecreasingBy}
use Rattle.std.proofs.lemmas.List.Sorted.{IsNonDecreasingBy-from_sort_by_key}
use Rattle.standby_core.specs.Links.{shard_of_place}
use Rattle.standby_core.proofs.collect.by_unit_shard.Goals as goal

pub returns-clause-order : goal.returns-clause-order
returns-clause-order c =
    subst (IsNonDecreasingBy shard_of_place) (sym c.from_vec.ensures)
    (IsNonDecreasingBy-from_sort_by_key shard_of_place c.sort_unstable_by_key.new.self.items c.sort_unstable_by_key.ensures.sorted (λ a r q k. search rules))
