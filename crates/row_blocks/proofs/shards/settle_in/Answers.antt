use Rattle.std.proofs.Common.{◌≡◌, ◌<◌, length, Some, sym, ap, ◌∙◌, arith}
use Rattle.std.proofs.lemmas.Option.{slice_get-get_or}
use Rattle.std.specs.List.{slice_get}
use Rattle.row_blocks.proofs.ShardLists.{set_same}
use Rattle.row_blocks.proofs.Settling.{settles_each}
use Rattle.row_blocks.proofs.shards.settle_in.Goals as goal

pub returns-in-Some-clause-same : goal.returns-in-Some-clause-same
returns-in-Some-clause-same c = set_same c.args.shards.now c.from.result c.index-shards-from.result c.settle.new.self (omega (arith, c.requires)) c.settle.ensures.same

pub returns-in-Some-clause-settled : goal.returns-in-Some-clause-settled
returns-in-Some-clause-settled c log ends each =
    let within : c.from.result < length c.args.shards.now = omega (arith, c.requires) in
    let at : slice_get c.args.shards.now c.from.result ≡ Some _ = slice_get-get_or c.args.shards.now c.from.result c.index-shards-from.result within in
    settles_each log c.args.shards.now c.from.result _ c.settle.new.self c.in-Some.due.addr c.in-Some.due.settled within at c.settle.ensures.same c.settle.ensures.settled
    (c.in-Some.ensures log _ ends (ap (slice_get c.args.shards.now) (sym c.from.ensures) ∙ at)) each
