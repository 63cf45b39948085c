use Rattle.std.proofs.Common.{◌≡◌, ◌<◌, length, arith, Some, sym, ap, ◌∙◌, subst}
use Rattle.std.proofs.lemmas.Option.{slice_get-get_or}
use Rattle.core_rules.specs.State.{At}
use Rattle.standby_core.proofs.Applied.{worker_there, workers_count}
use Rattle.standby_core.proofs.standby.Core.progress.Goals as goal

pub returns : goal.returns
returns c c' h =
    let core = c.args.self.now in
    let x = c.index.result.now in
    let count : length core.workers.items ≡ core.worker_count = workers_count core c' h in
    let known : c.args.worker < core.worker_count = c.requires.known in
    let place : c.from.result ≡ c.args.worker = c.from.ensures in
    let at : At core.workers.items c.from.result x = slice_get-get_or core.workers.items c.from.result x (omega arith) ∙ ap Some (sym c.index.ensures) in
    let w = worker_there core c' h c.args.worker x (subst (λ n. At core.workers.items n x) place at) in
    record { was = w.0; found = w.1; is = w.2.progress }
