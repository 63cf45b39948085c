use Rattle.std.proofs.Common.{◌≡◌, rules, sym, ◌∙◌, subst}
use Rattle.std.specs.Vec.{with_items}
use Rattle.std.proofs.lemmas.List.{with_items_is}
use Rattle.standby_core.specs.Received.{AreDealt}
use Rattle.standby_core.proofs.Received.{receive_shows}
use Rattle.standby_core.proofs.standby.Core.receive.Goals as goal

pub returns-clause-ok : goal.returns-clause-ok
returns-clause-ok c c' h continues =
    let core = c.args.self.now in
    let entries = c.args.entries in
    let ws = c.deal_whole.new.workers in
    let dealt : AreDealt entries core.workers.items ws =
    subst (λ l. AreDealt l core.workers.items ws) c.into_vec-entries.ensures
    (subst (λ l. AreDealt c.into_vec-entries.result.items l ws) c.deref_mut.ensures.value c.in_ok-deal_whole.ensures.ok) in
    let items : (with_items core.workers ws).items ≡ ws = with_items_is core.workers ws (sym dealt.same_length ∙ sym core.workers.ok.0) in
    receive_shows core c' entries c.args.frontier c.in-Some.received (with_items core.workers ws) (search rules) h continues (search rules)
    (subst (AreDealt entries core.workers.items) (sym items) dealt)
