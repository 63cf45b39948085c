use Rattle.std.proofs.Common.{◌≤◌, rules}
use Rattle.standby_core.proofs.ShardPart.{part_order, part_has}
use Rattle.standby_core.proofs.touch.search_shard.Goals as goal

pub slice_bounds-result-count : goal.slice_bounds-result-count
slice_bounds-result-count c =
    part_order c.args.addrs.now c.args.shard c.start_of-from.result c.end_of-to.result c.start_of-from.ensures.within c.end_of-to.ensures.within c.start_of-from.ensures.start c.end_of-to.ensures.end

pub slice_bounds-result-start : goal.slice_bounds-result-start
slice_bounds-result-start c =
    let order : c.start_of-from.result ≤ c.end_of-to.result =
    part_order c.args.addrs.now c.args.shard c.start_of-from.result c.end_of-to.result c.start_of-from.ensures.within c.end_of-to.ensures.within c.start_of-from.ensures.start c.end_of-to.ensures.end in
    search rules

pub returns : goal.returns
returns c a =
    part_has c.args.addrs.now c.args.shard c.start_of-from.result c.end_of-to.result c.start_of-from.ensures.within c.end_of-to.ensures.within c.start_of-from.ensures.start c.end_of-to.ensures.end a
