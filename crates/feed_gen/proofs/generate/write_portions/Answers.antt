use Rattle.std.proofs.Common.{arith}
use Rattle.std.specs.Int.{div_ceil}
use Rattle.feed_gen.specs.Generated.{portions, transfer_drafts}
use Rattle.feed_gen.specs.Written.{with_drafts}
use Rattle.feed_gen.proofs.Runs.{goes_first, goes_more, goes_end}
use Rattle.feed_gen.proofs.generate.write_portions.Goals as goal

pub loop-portion-init : goal.loop-portion-init
loop-portion-init c = goes_first c.args.txns (div_ceil c.args.txns 500) c.args.bank.now c.args.feed.now c.requires.good c.requires.none c.requires.room

pub loop-portion-preserved : goal.loop-portion-preserved
loop-portion-preserved c =
    goes_more c.args.txns c.loop-portion.portion (div_ceil c.args.txns 500) c.portion_of-count.result c.loop-portion.bank c.write_portion.new.bank c.loop-portion.feed c.write_portion.new.feed
    (with_drafts c.args.feed.now (transfer_drafts 2 (portions c.args.txns) c.args.bank.now))
    (omega arith) c.portion_of-count.ensures.count c.loop-portion.invariant c.in_ok-write_portion.ensures.bank c.in_ok-write_portion.ensures.feed

pub returns : goal.returns
returns c =
    goes_end c.args.txns c.loop-portion.portion (div_ceil c.args.txns 500) c.loop-portion.bank c.loop-portion.feed c.write_last.new.feed
    (with_drafts c.args.feed.now (transfer_drafts 2 (portions c.args.txns) c.args.bank.now))
    (omega arith) c.loop-portion.invariant c.in_ok-write_last.ensures
