use Rattle.std.proofs.Common.{List, [], ◌∷◌, ◌++◌, append_assoc, ap, sym, ◌∙◌, subst, rules}
use Rattle.std.specs.Vec.Iter.{into_iter_items}
use Rattle.adg_base.specs.declared.log.LogEntry.{LogEntry}
use Rattle.standby_core.specs.Each.{EachAt}
use Rattle.standby_core.specs.Received.{HasMore}
use Rattle.standby_core.proofs.Deals.{dealt_none, dealt_more, dealt_some}
use Rattle.standby_core.proofs.Exits.{at_err}
use Rattle.standby_core.proofs.receive.deal.Goals as goal

pub loop-entry-init : goal.loop-entry-init
loop-entry-init c = record { split = search rules; count = search rules; dealt = dealt_none c.args.workers.now }

pub loop-entry-preserved : goal.loop-entry-preserved
loop-entry-preserved c =
    let y = c.loop-entry.yielded in
    let e = c.in-Some.entry in
    record {
      split = append_assoc y (e ∷ []) (into_iter_items c.next.new.self) ∙ ap (λ (t : List LogEntry). y ++ t) (sym c.in-Some.ensures.steps.0) ∙ c.loop-entry.invariant.split;
      count = sym c.in_ok-deal_one.ensures.ok.same_length ∙ c.loop-entry.invariant.count;
      dealt = dealt_more y (e ∷ []) c.args.workers.now c.loop-entry.workers c.deal_one.new.workers c.loop-entry.invariant.dealt c.in_ok-deal_one.ensures.ok;
    }

pub returns-in_err-deal_one-clause-err : goal.returns-in_err-deal_one-clause-err
returns-in_err-deal_one-clause-err c =
    at_err c.from_residual.result (subst (EachAt HasMore c.args.workers.now) (sym c.in_err-deal_one.ensures.err)
    (dealt_some c.loop-entry.yielded c.args.workers.now c.loop-entry.workers c.loop-entry.invariant.dealt))
