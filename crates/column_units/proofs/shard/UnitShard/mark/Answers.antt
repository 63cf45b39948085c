use Rattle.std.proofs.Common.{◌/◌, Some, is_some, refl, ap, sym, subst, ◌∙◌}
use Rattle.column_units.specs.Shard.{AllBelong, KeepsOthers}
use Rattle.column_units.proofs.Map.{own_extent}
use Rattle.column_units.proofs.Units.{of_shard, sets_at, found_at, all_belong, others_stay, marked_belongs}
use Rattle.column_units.proofs.shard.UnitShard.mark.Goals as goal
use Rattle.column_units.proofs.shard.UnitShard.mark.Goals.{in-Some, in_default}

pub mark-requires : goal.mark-requires
mark-requires c =
    let a = c.args.addr in
    let u = c.in-Some.unit.now in
    let found = found_at a.obj (a.block / 16) c.get.result (c.block.result / 16) c.self.inside.units.entries u (c.get.ensures.value ∙ c.obj.ensures) (ap (λ n. n / 16) c.block.ensures) c.in-Some.ensures.value in
    let b = c.self.invariant a.obj (a.block / 16) u found in
    own_extent a u.obj u.extent (search) b.of.object b.of.number

pub invariant_of-self : goal.invariant_of-self
invariant_of-self c =
    let a = c.args.addr in
    let n = c.self.inside.number in
    let from = c.self.inside.units.entries in
    let ek = c.get.ensures.value ∙ c.obj.ensures in
    let ed = ap (λ n. n / 16) c.block.ensures in
    elim c.match-get_mut.branch [
      | in-Some w ↦
          let new = w.mark.new.self in
          let to = (c.get_mut.follows.lender new).entries in
          let found = found_at a.obj (a.block / 16) c.get.result (c.block.result / 16) from w.in-Some.unit.now ek ed w.in-Some.ensures.value in
          subst (λ x. AllBelong (of_shard x.number x.units.entries)) (sym w.self-inside-is)
          (all_belong n a.obj (a.block / 16) from to (Some new) c.self.invariant
          (sets_at a.obj (a.block / 16) c.get.result (c.block.result / 16) from to (Some new) ek ed ((c.get_mut.follows.holds new).3 (ap is_some (sym w.in-Some.ensures.value))).0)
          (marked_belongs n a.obj (a.block / 16) a w.in-Some.unit.now new (c.self.invariant a.obj (a.block / 16) w.in-Some.unit.now found) w.mark.ensures))
      | in_default w ↦
          subst (λ x. AllBelong (of_shard x.number x.units.entries)) (sym w.self-inside-is)
          (subst (λ m. AllBelong (of_shard n m.entries)) (sym c.get_mut.follows.holds-at-none) c.self.invariant)
    ]

pub returns-clause-others : goal.returns-clause-others
returns-clause-others c =
    let a = c.args.addr in
    let n = c.self.inside.number in
    let from = c.self.inside.units.entries in
    let ek = c.get.ensures.value ∙ c.obj.ensures in
    let ed = ap (λ n. n / 16) c.block.ensures in
    elim c.match-get_mut.branch [
      | in-Some w ↦
          let new = w.mark.new.self in
          let to = (c.get_mut.follows.lender new).entries in
          subst (λ v. KeepsOthers a.obj (a.block / 16) v (of_shard c.match-get_mut.self-inside.number c.match-get_mut.self-inside.units.entries)) c.self.view_is
          (subst (λ x. KeepsOthers a.obj (a.block / 16) (of_shard n from) (of_shard x.number x.units.entries)) (sym w.self-inside-is)
          (others_stay n a.obj (a.block / 16) from to (Some new)
          (sets_at a.obj (a.block / 16) c.get.result (c.block.result / 16) from to (Some new) ek ed ((c.get_mut.follows.holds new).3 (ap is_some (sym w.in-Some.ensures.value))).0)))
      | in_default w ↦
          subst (λ v. KeepsOthers a.obj (a.block / 16) v (of_shard c.match-get_mut.self-inside.number c.match-get_mut.self-inside.units.entries)) c.self.view_is
          (subst (λ x. KeepsOthers a.obj (a.block / 16) (of_shard n from) (of_shard x.number x.units.entries)) (sym w.self-inside-is)
          (subst (λ m. KeepsOthers a.obj (a.block / 16) (of_shard n from) (of_shard n m.entries)) (sym c.get_mut.follows.holds-at-none) (record { number = refl; others = λ o e h. refl })))
    ]
