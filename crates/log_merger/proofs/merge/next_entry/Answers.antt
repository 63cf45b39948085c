use Rattle.log_merger.specs.Merge.{KeepsRest}
use Rattle.log_merger.proofs.Queues.{takes_none, takes_next, keeps_same, zip_set}
use Rattle.std.proofs.Common.{refl}
use Rattle.log_merger.proofs.merge.next_entry.Goals as goal

pub returns-in_err-index-clause-takes : goal.returns-in_err-index-clause-takes
returns-in_err-index-clause-takes c h = rw c.from_residual.ensures (takes_none c.args.through c.args.threads.now h c.in_err-index.ensures)

pub returns-in_err-index-clause-rest : goal.returns-in_err-index-clause-rest
returns-in_err-index-clause-rest c = keeps_same c.args.threads.now

pub returns-clause-takes : goal.returns-clause-takes
returns-clause-takes c h = takes_next c.args.through c.args.threads.now c.in_ok-index.index c.index-threads-index.result c.give.new.self c.give.result h c.in_ok-index.ensures c.give.ensures.entry

pub returns-clause-rest : goal.returns-clause-rest
returns-clause-rest c =
    zip_set KeepsRest (λ x. refl) c.args.threads.now c.in_ok-index.index c.index-threads-index.result c.give.new.self c.give.ensures.rest
