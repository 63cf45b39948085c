use Rattle.std.proofs.Common.{rules, ◌∙◌, subst, List, filter}
use Rattle.std.specs.Prelude.{nat_le}
use Rattle.std.proofs.lemmas.List.Sorted.{IsNonDecreasingBy-from_sort_by_key}
use Rattle.adg_base.specs.declared.node.Node.{Node}
use Rattle.adg_base.specs.declared.node.DdlNode.{DdlNode}
use Rattle.worklinks.specs.Chopped.{AreChopped}
use Rattle.standby_core.proofs.begin_flush.links_of.Goals as goal

pub returns : goal.returns
returns c = record {
  nodes = c.sort_unstable_by_key.new.self.items;
  order = IsNonDecreasingBy-from_sort_by_key (λ (n : Node). n.pos) _ c.sort_unstable_by_key.ensures.sorted (λ a r q k. search rules);
  same = c.sort_unstable_by_key.ensures.permutation;
  worklinks = c.in_ok-worklinks.worklinks;
  chopped =
      subst (λ (ns : List Node). AreChopped ns (filter (λ (n : DdlNode). nat_le n.scn c.args.through) c.args.ddl.now) c.args.workers c.in_ok-worklinks.worklinks) c.deref.ensures.value
      (subst (λ (ds : List DdlNode). AreChopped c.deref.result.now ds c.args.workers c.in_ok-worklinks.worklinks) (c.as_slice.ensures ∙ c.in_ok-changes.ensures.found) c.in_ok-worklinks.ensures);
  taken = c.in_ok-links.ensures;
}
