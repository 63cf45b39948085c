use Rattle.std.proofs.Common.{◌≡◌, ℕ, List, ◌++◌, take}
use Rattle.adg_base.specs.declared.command.Aggregate.{Aggregate}
use Rattle.scan_eval.specs.declared.group.Groups.{Groups}
use Rattle.scan_eval.specs.Groups.{AreGroups}
use Rattle.scan_eval.proofs.GroupLaws.{key_rows}
use Rattle.scan_eval.proofs.group.Groups.join.Given as goal

abbrev pub ghost-of : goal.ghost-of
ghost-of a = a.what.now.rows

abbrev pub ghost-of-2 : goal.ghost-of-2
ghost-of-2 a = a.what.now.0.now.rows ++ a.what.now.1.now.rows

-- the rows of the first keys of others are behind those that were there
pub record HasKeys (aggregates : List Aggregate) (before others now : Groups) (index : ℕ) : Type 0 where
  pub groups : AreGroups aggregates now
  pub column : now.column ≡ before.column
  pub seen : now.seen.rows ≡ before.seen.rows ++ key_rows before.column others.seen.rows (take index others.keys.items)

abbrev pub invariant-loop-index : goal.invariant-loop-index
invariant-loop-index l = HasKeys l.aggregates l.initial.self l.others l.self l.index
