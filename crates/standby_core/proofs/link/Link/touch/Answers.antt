use Rattle.std.proofs.Common.{None, false, if◌then◌else◌, sym, subst}
use Rattle.std.specs.List.{AllByRecursion}
use Rattle.std.specs.List.Sorted.{IsNonDecreasingBy}
use Rattle.worklinks.specs.declared.collected.Collected.{Collected as Gathered}
use Rattle.column_units.specs.Shard.{MakesEach}
use Rattle.core_rules.specs.State.{has_coarse, has_drop}
use Rattle.standby_core.specs.Links.{shard_of_place}
use Rattle.standby_core.specs.Touching.{MarksUnits, IsListed}
use Rattle.standby_core.proofs.Marking.{touches_units}
use Rattle.standby_core.proofs.Touched.{lists_ordered}
use Rattle.standby_core.proofs.link.Link.touch.Goals as goal

pub mark_lists-requires : goal.mark_lists-requires
mark_lists-requires c =
    subst (AllByRecursion (λ (list : Gathered). IsNonDecreasingBy shard_of_place list.addrs)) (sym c.as_slice.ensures)
    (lists_ordered c.args.self.now.items c.args.self.now.collected.lists c.requires)

pub returns : goal.returns
returns c =
    let s0 = c.args.units.now in
    let s1 = c.mark_lists.new.units in
    let s2 = c.mark_wholly.new.units in
    let s3 = c.drop_objects.new.units in
    touches_units c.args.self.now.items c.args.self.now.collected.lists s0 s1 s2 s3
    (subst (λ l. MarksUnits (IsListed l s0.number) false s0 s1) c.as_slice.ensures c.mark_lists.ensures)
    (subst (λ l. MarksUnits (λ a. ⊥) (has_coarse l) s1 s2) c.as_slice-2.ensures c.mark_wholly.ensures)
    (subst (λ l. MakesEach (λ o unit. if has_drop o l then None else unit) s2 s3) c.as_slice-3.ensures c.drop_objects.ensures)
