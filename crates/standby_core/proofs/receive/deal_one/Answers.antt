use Rattle.std.proofs.Common.{◌≡◌, ◌<◌, ◌%◌, ◌∷◌, [], ◌++◌, length, Some, rules, arith, sym, ap, ◌∙◌, subst, slice_index_or}
use Rattle.std.specs.Prelude.{slice_set}
use Rattle.std.proofs.lemmas.Option.{slice_get-get_or}
use Rattle.adg_base.specs.Shard.{shard_of_vector}
use Rattle.core_rules.specs.State.{At}
use Rattle.standby_core.specs.Received.{AreDealt}
use Rattle.standby_core.proofs.Deals.{dealt_one}
use Rattle.standby_core.proofs.receive.deal_one.Goals as goal

pub returns-in_ok-push-clause-ok : goal.returns-in_ok-push-clause-ok
returns-in_ok-push-clause-ok c =
    let ws = c.args.workers.now in
    let e = c.args.entry in
    let i = c.from-worker.result in
    let number = c.in-Some.number in
    let x = slice_index_or ws i c.index-workers-worker.result in
    let few : length ws ≡ c.args.count = c.requires.count in
    let one : i ≡ c.worker_of.result = c.from-worker.ensures in
    let range : c.worker_of.result < c.args.count = c.worker_of.ensures.range in
    let within : i < length ws = omega arith in
    let at : At ws i x = slice_get-get_or ws i c.index-workers-worker.result within in
    let place : i ≡ number % length ws = c.from-worker.ensures ∙ c.worker_of.ensures.value ∙ ap (λ n. number % n) (sym c.requires.count) in
    let own : shard_of_vector e.vector ≡ Some number = search rules in
    let share : c.push.new.self ≡ x.share ++ e ∷ [] = c.in_ok-push.ensures.ok in
    subst (λ s. AreDealt (e ∷ []) ws (slice_set ws i (record x { share = s }))) (sym share)
    (subst (λ k. AreDealt (e ∷ []) ws (slice_set ws k (record x { share = x.share ++ e ∷ [] }))) (sym place)
    (dealt_one ws e number x own (subst (λ k. At ws k x) place at)))
