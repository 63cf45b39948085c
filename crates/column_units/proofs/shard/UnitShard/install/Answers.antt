use Rattle.std.proofs.Common.{◌≡◌, Some, None, is_some, refl, ap, sym, subst, ◌∙◌}
use Rattle.std.specs.Map.{lookup}
use Rattle.column_units.specs.Unit.{awaits, loaded}
use Rattle.column_units.specs.Shard.{same_key, AllBelong, KeepsOthers, is_awaited, installed, unit_at}
use Rattle.column_units.proofs.Units.{of_shard, sets_at, found_at, unit_set, all_belong, others_stay, loaded_belongs, chosen_some}
use Rattle.column_units.proofs.shard.UnitShard.install.Goals as goal
use Rattle.column_units.proofs.shard.UnitShard.install.Goals.{in-Some, in-None}

pub invariant_of-self : goal.invariant_of-self
invariant_of-self c =
    let o = c.args.obj in
    let e = c.args.extent in
    let n = c.self.inside.number in
    let from = c.self.inside.units.entries in
    elim c.match-get_mut.branch [
      | in-Some w ↦
          let new = w.install.new.self in
          let old = w.in-Some.unit.now in
          let to = (c.get_mut.follows.lender new).entries in
          let found = found_at o e c.get.result e from old c.get.ensures.value refl w.in-Some.ensures.value in
          let is : Some new ≡ installed c.args.ticket c.args.columns (Some old) = ap Some w.install.ensures.unit ∙ chosen_some (awaits c.args.ticket old) (loaded c.args.columns old) old in
          subst (λ x. AllBelong (of_shard x.number x.units.entries)) (sym w.self-inside-is)
          (all_belong n o e from to (Some new) c.self.invariant
          (sets_at o e c.get.result e from to (Some new) c.get.ensures.value refl ((c.get_mut.follows.holds new).3 (ap is_some (sym w.in-Some.ensures.value))).0)
          (λ u h. loaded_belongs n o e c.args.ticket c.args.columns old c.requires (c.self.invariant o e old found) u (sym is ∙ h)))
      | in-None w ↦
          subst (λ x. AllBelong (of_shard x.number x.units.entries)) (sym w.self-inside-is)
          (subst (λ m. AllBelong (of_shard n m.entries)) (sym c.get_mut.follows.holds-at-none) c.self.invariant)
    ]

pub returns-clause-answer : goal.returns-clause-answer
returns-clause-answer c =
    let o = c.args.obj in
    let e = c.args.extent in
    let from = c.self.inside.units.entries in
    elim c.match-get_mut.branch [
      | in-Some w ↦
          w.result-is ∙ w.install.ensures.answer
          ∙ ap (is_awaited c.args.ticket) (sym (found_at o e c.get.result e from w.in-Some.unit.now c.get.ensures.value refl w.in-Some.ensures.value))
          ∙ ap (λ v. is_awaited c.args.ticket (unit_at v o e)) c.self.view_is
      | in-None w ↦
          w.result-is
          ∙ ap (is_awaited c.args.ticket) (w.in-None.ensures.value ∙ ap (λ k. lookup (same_key (k, e)) from) c.get.ensures.value)
          ∙ ap (λ v. is_awaited c.args.ticket (unit_at v o e)) c.self.view_is
    ]

pub returns-clause-unit : goal.returns-clause-unit
returns-clause-unit c =
    let o = c.args.obj in
    let e = c.args.extent in
    let n = c.self.inside.number in
    let from = c.self.inside.units.entries in
    let view = ap (λ v. installed c.args.ticket c.args.columns (unit_at v o e)) c.self.view_is in
    elim c.match-get_mut.branch [
      | in-Some w ↦
          let new = w.install.new.self in
          let old = w.in-Some.unit.now in
          let to = (c.get_mut.follows.lender new).entries in
          ap (λ x. unit_at (of_shard x.number x.units.entries) o e) w.self-inside-is
          ∙ unit_set n o e from to (Some new) (sets_at o e c.get.result e from to (Some new) c.get.ensures.value refl ((c.get_mut.follows.holds new).3 (ap is_some (sym w.in-Some.ensures.value))).0)
          ∙ ap Some w.install.ensures.unit ∙ chosen_some (awaits c.args.ticket old) (loaded c.args.columns old) old
          ∙ ap (installed c.args.ticket c.args.columns) (sym (found_at o e c.get.result e from old c.get.ensures.value refl w.in-Some.ensures.value))
          ∙ view
      | in-None w ↦
          let none : lookup (same_key (o, e)) from ≡ None = sym (w.in-None.ensures.value ∙ ap (λ k. lookup (same_key (k, e)) from) c.get.ensures.value) in
          ap (λ x. unit_at (of_shard x.number x.units.entries) o e) w.self-inside-is
          ∙ ap (λ m. unit_at (of_shard n m.entries) o e) c.get_mut.follows.holds-at-none
          ∙ none ∙ ap (installed c.args.ticket c.args.columns) (sym none) ∙ view
    ]

pub returns-clause-others : goal.returns-clause-others
returns-clause-others c =
    let o = c.args.obj in
    let e = c.args.extent in
    let n = c.self.inside.number in
    let from = c.self.inside.units.entries in
    elim c.match-get_mut.branch [
      | in-Some w ↦
          let new = w.install.new.self in
          let to = (c.get_mut.follows.lender new).entries in
          subst (λ v. KeepsOthers o e v (of_shard c.match-get_mut.self-inside.number c.match-get_mut.self-inside.units.entries)) c.self.view_is
          (subst (λ x. KeepsOthers o e (of_shard n from) (of_shard x.number x.units.entries)) (sym w.self-inside-is)
          (others_stay n o e from to (Some new)
          (sets_at o e c.get.result e from to (Some new) c.get.ensures.value refl ((c.get_mut.follows.holds new).3 (ap is_some (sym w.in-Some.ensures.value))).0)))
      | in-None w ↦
          subst (λ v. KeepsOthers o e v (of_shard c.match-get_mut.self-inside.number c.match-get_mut.self-inside.units.entries)) c.self.view_is
          (subst (λ x. KeepsOthers o e (of_shard n from) (of_shard x.number x.units.entries)) (sym w.self-inside-is)
          (subst (λ m. KeepsOthers o e (of_shard n from) (of_shard n m.entries)) (sym c.get_mut.follows.holds-at-none) (record { number = refl; others = λ o' e' h. refl })))
    ]
