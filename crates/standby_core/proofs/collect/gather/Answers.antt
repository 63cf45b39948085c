use Rattle.std.proofs.Common.{◌≡◌, length, rules}
use Rattle.standby_core.proofs.Gathering.{takes_more, takes_all}
use Rattle.standby_core.proofs.collect.gather.Goals as goal

pub loop-item-preserved : goal.loop-item-preserved
loop-item-preserved c =
    let items = c.args.items.now in
    let i = c.loop-item.item-index in
    takes_more items i _ c.args.area.now c.loop-item.area c.gather_of.new.area c.args.collected.now c.loop-item.collected c.gather_of.new.collected c.loop-item-test.true (search rules) c.loop-item.invariant c.gather_of.ensures

pub returns : goal.returns
returns c =
    let items = c.args.items.now in
    let i = c.loop-item.item-index in
    let all : i ≡ length items = search rules in
    takes_all items i c.args.area.now c.loop-item.area c.args.collected.now c.loop-item.collected all c.loop-item.invariant
