use Rattle.std.proofs.Common.{List, [], ◌∷◌, ◌++◌, ap, ◌∙◌, arith}
use Rattle.dictionary.specs.declared.history.Step.{Step}
use Rattle.dictionary.specs.Objects.{steps_of}
use Rattle.dictionary.proofs.Catalogs.{steps_of_longer}
use Rattle.dictionary.proofs.objects.reach.Goals as goal

pub loop-alloc-init : goal.loop-alloc-init
loop-alloc-init c = (
  grind (arith, c.in_ok-reserve.ensures, c.reserve.ensures.len, c.len.ensures, c.len-2.ensures, c.if-place-len.false),
  grind (arith, c.reserve.ensures.len, c.len.ensures, c.if-place-len.false),
  λ q. ap (λ (l : List (List Step)). steps_of l q) c.reserve.ensures.items,
)

pub push_reserved-requires : goal.push_reserved-requires
push_reserved-requires c = grind (arith, c.loop-alloc.invariant.0, c.loop-alloc-test.true, c.len-in-loop-alloc.ensures)

pub loop-alloc-smaller : goal.loop-alloc-smaller
loop-alloc-smaller c = grind (arith, c.push_reserved.ensures.len, c.loop-alloc-test.true, c.len-in-loop-alloc.ensures)

pub loop-alloc-preserved : goal.loop-alloc-preserved
loop-alloc-preserved c = (
  grind (arith, c.loop-alloc.invariant.0, c.push_reserved.ensures.capacity),
  grind (arith, c.push_reserved.ensures.len, c.loop-alloc-test.true, c.len-in-loop-alloc.ensures),
  λ q. ap (λ (l : List (List Step)). steps_of l q) (c.push_reserved.ensures.items ∙ ap (λ (l : List Step). c.loop-alloc.histories.items ++ l ∷ []) c.new.ensures)
      ∙ steps_of_longer c.loop-alloc.histories.items q ∙ c.loop-alloc.invariant.2 q,
)

pub returns-clause-ok : goal.returns-clause-ok
returns-clause-ok c = c.loop-alloc.invariant.2
