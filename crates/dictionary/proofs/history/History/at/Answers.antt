use Rattle.std.proofs.Common.{◌≡◌, None, nat_le, take, sym, ap, ◌∙◌, rules, subst}
use Rattle.std.specs.Option.{option_copied}
use Rattle.std.specs.List.Sorted.{IsNonDecreasingBy}
use Rattle.std.proofs.lemmas.List.Sorted.{IsPartitionPoint-from_clause, IsPartitionedBy-leb}
use Rattle.dictionary.specs.declared.history.Step.{Step}
use Rattle.dictionary.proofs.Steps.{last_from_get, last_from_none, defined_from_part}
use Rattle.dictionary.proofs.history.History.at.Goals as goal

pub returns-in_err-last : goal.returns-in_err-last
returns-in_err-last c sorted =
    let steps = c.args.self.now in
    let xs = c.deref.result.now in
    let part = take c.partition_point-upto.result c.deref-2.result.now in
    let shown : xs ≡ steps = c.deref.ensures.value ∙ c.self.view_is in
    let is : part ≡ take c.partition_point-upto.result xs = ap (take c.partition_point-upto.result) (c.deref-2.ensures.value ∙ sym c.deref.ensures.value) in
    let parted = IsPartitionPoint-from_clause (λ (s : Step). nat_le s.scn c.args.scn) xs c.partition_point-upto.result c.partition_point-upto.ensures.partitioned (IsPartitionedBy-leb (λ (s : Step). s.scn) xs c.args.scn (subst (IsNonDecreasingBy (λ (s : Step). s.scn)) (sym shown) sorted)) (λ a r f' t. search rules) in
    ap option_copied c.from_residual.ensures ∙ sym (last_from_none part c.in_err-last.ensures.value) ∙ defined_from_part steps xs part c.args.scn _ shown is parted c.partition_point-upto.ensures.bound

pub returns : goal.returns
returns c sorted =
    let steps = c.args.self.now in
    let xs = c.deref.result.now in
    let part = take c.partition_point-upto.result c.deref-2.result.now in
    let shown : xs ≡ steps = c.deref.ensures.value ∙ c.self.view_is in
    let is : part ≡ take c.partition_point-upto.result xs = ap (take c.partition_point-upto.result) (c.deref-2.ensures.value ∙ sym c.deref.ensures.value) in
    let parted = IsPartitionPoint-from_clause (λ (s : Step). nat_le s.scn c.args.scn) xs c.partition_point-upto.result c.partition_point-upto.ensures.partitioned (IsPartitionedBy-leb (λ (s : Step). s.scn) xs c.args.scn (subst (IsNonDecreasingBy (λ (s : Step). s.scn)) (sym shown) sorted)) (λ a r f' t. search rules) in
    c.as_ref.ensures.value ∙ sym (last_from_get None part c.in_ok-last.field-0.now c.in_ok-last.ensures.value) ∙ defined_from_part steps xs part c.args.scn _ shown is parted c.partition_point-upto.ensures.bound
