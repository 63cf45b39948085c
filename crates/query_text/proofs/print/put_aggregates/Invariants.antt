use Rattle.std.proofs.Common.{◌≡◌, ◌++◌, [], take, drop}
use Rattle.std.specs.List.{AllByRecursion}
use Rattle.adg_model.specs.Command.{IsAggregate}
use Rattle.query_text.specs.Listed.{listed_bytes}
use Rattle.query_text.proofs.print.put_aggregates.Given as goal

abbrev pub invariant-loop-aggregate : goal.invariant-loop-aggregate
invariant-loop-aggregate l = record {
  written : l.out.items ++ listed_bytes l.word (drop l.aggregate-index l.aggregates) ≡ l.initial.out.items ++ listed_bytes [] l.aggregates;
  good : AllByRecursion IsAggregate (take l.aggregate-index l.aggregates);
}
