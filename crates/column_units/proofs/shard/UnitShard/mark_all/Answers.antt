use Rattle.std.proofs.Common.{option_map, refl, ap, subst, ◌∙◌, rules}
use Rattle.std.specs.Map.{lookup}
use Rattle.std.proofs.lemmas.Map.Made.{map_same_pairs, lookup-map_values}
use Rattle.column_units.specs.Unit.{marked_whole}
use Rattle.column_units.specs.Shard.{same_key, MakesEach}
use Rattle.column_units.proofs.Units.{of_shard, each_belongs, whole_belongs}
use Rattle.column_units.proofs.shard.UnitShard.mark_all.Goals as goal

pub invariant_of-self : goal.invariant_of-self
invariant_of-self c =
    let from = c.self.inside.units.entries in
    let to = c.retain.new.self.entries in
    let all = map_same_pairs _ marked_whole _ (λ k v b w f' t. search rules) from to c.retain.ensures.filtered in
    each_belongs c.self.inside.number (λ o unit. option_map marked_whole unit) from to c.self.invariant
    (λ o e. ap (lookup (same_key (o, e))) all ∙ lookup-map_values marked_whole (same_key (o, e)) from) (whole_belongs c.self.inside.number)

pub returns : goal.returns
returns c =
    let n = c.self.inside.number in
    let from = c.self.inside.units.entries in
    let to = c.retain.new.self.entries in
    let all = map_same_pairs _ marked_whole _ (λ k v b w f' t. search rules) from to c.retain.ensures.filtered in
    subst (λ v. MakesEach (λ o unit. option_map marked_whole unit) v (of_shard n to)) c.self.view_is
    (record { number = refl; units = λ o e. ap (lookup (same_key (o, e))) all ∙ lookup-map_values marked_whole (same_key (o, e)) from })
