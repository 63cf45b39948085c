use Rattle.std.proofs.Common.{◌≡◌, ◌<◌, ◌≤◌, ◌-◌, length, arith, rules, Some, sym, ap, ◌∙◌, subst}
use Rattle.std.proofs.lemmas.Option.{slice_get-get_or}
use Rattle.core_rules.specs.State.{At}
use Rattle.standby_core.proofs.Applied.{workers_count}
use Rattle.standby_core.proofs.Mined.{through_next, through_all}
use Rattle.standby_core.proofs.Exits.{lent_at}
use Rattle.standby_core.proofs.standby.Core.mined_through.Goals as goal

pub returns-in-Some : goal.returns-in-Some
returns-in-Some c c' h =
    let core = c.args.self.now in
    let x = c.index-worker.result.now in
    let count : length core.workers.items ≡ core.worker_count = workers_count core c' h in
    let known : c.args.worker < core.worker_count = c.requires.known in
    let place : c.from.result ≡ c.args.worker = c.from.ensures in
    let at : At core.workers.items c.from.result x = slice_get-get_or core.workers.items c.from.result x (omega arith) ∙ ap Some (sym c.index-worker.ensures) in
    let next : At x.share x.mined c.in-Some.entry.now = lent_at c.as_slice.result.now x.share x.mined c.in-Some.entry.now c.as_slice.ensures c.in-Some.ensures.lookup.0 c.in-Some.ensures.lookup.1 in
    let is : c.unwrap.result ≡ c.in-Some.entry.now.scn - 1 = search rules in
    through_next core c' h c.args.worker x (subst (λ n. At core.workers.items n x) place at) c.in-Some.entry.now next c.unwrap.result is

pub returns-in-None : goal.returns-in-None
returns-in-None c c' h =
    let core = c.args.self.now in
    let x = c.index-worker.result.now in
    let count : length core.workers.items ≡ core.worker_count = workers_count core c' h in
    let known : c.args.worker < core.worker_count = c.requires.known in
    let place : c.from.result ≡ c.args.worker = c.from.ensures in
    let at : At core.workers.items c.from.result x = slice_get-get_or core.workers.items c.from.result x (omega arith) ∙ ap Some (sym c.index-worker.ensures) in
    let behind : length x.share ≤ x.mined = search rules in
    through_all core c' h c.args.worker x (subst (λ n. At core.workers.items n x) place at) behind
