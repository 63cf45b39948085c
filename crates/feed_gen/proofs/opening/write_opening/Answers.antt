use Rattle.std.proofs.Common.{arith}
use Rattle.feed_gen.specs.Tables.{creates, loads}
use Rattle.feed_gen.proofs.Loops.{records_of, written_then, all_created_len}
use Rattle.feed_gen.proofs.opening.write_opening.Goals as goal

pub write_loads-requires : goal.write_loads-requires
write_loads-requires c = omega (arith, records_of c.write_creates.new.feed c.args.feed.now creates c.in_ok-write_creates.ensures, all_created_len, c.requires)

pub returns : goal.returns
returns c = written_then c.args.feed.now c.write_creates.new.feed c.write_loads.new.feed creates loads c.in_ok-write_creates.ensures c.in_ok-write_loads.ensures
