use Rattle.std.proofs.Common.{◌==◌, not, None, if◌then◌else◌, refl, ap, subst, ◌∙◌, rules}
use Rattle.std.specs.Map.{lookup}
use Rattle.std.proofs.lemmas.Map.Made.{filter_same_pairs}
use Rattle.column_units.specs.Shard.{same_key, MakesEach}
use Rattle.column_units.proofs.Units.{of_shard, each_belongs, kept_belongs, lookup_others}
use Rattle.column_units.proofs.shard.UnitShard.drop_object.Goals as goal

pub invariant_of-self : goal.invariant_of-self
invariant_of-self c =
    let n = c.self.inside.number in
    let from = c.self.inside.units.entries in
    let to = c.retain.new.self.entries in
    let all = filter_same_pairs _ (λ x. not (x.0.0 == c.args.obj)) _ (λ k v b w f' t. search rules) from to c.retain.ensures.filtered in
    each_belongs n (λ o unit. if o == c.args.obj then None else unit) from to c.self.invariant
    (λ o e. ap (lookup (same_key (o, e))) all ∙ lookup_others c.args.obj o e from) (kept_belongs n c.args.obj)

pub returns : goal.returns
returns c =
    let n = c.self.inside.number in
    let from = c.self.inside.units.entries in
    let to = c.retain.new.self.entries in
    let all = filter_same_pairs _ (λ x. not (x.0.0 == c.args.obj)) _ (λ k v b w f' t. search rules) from to c.retain.ensures.filtered in
    subst (λ v. MakesEach (λ o unit. if o == c.args.obj then None else unit) v (of_shard n to)) c.self.view_is
    (record { number = refl; units = λ o e. ap (lookup (same_key (o, e))) all ∙ lookup_others c.args.obj o e from })
