use Rattle.std.proofs.Common.{Ok, ap, ◌∙◌}
use Rattle.feed_text.proofs.ReadLaws.{read_more}
use Rattle.feed_text.proofs.top.read_whole.Goals as goal

pub loop-preserved : goal.loop-preserved
loop-preserved g c = record {
  taken = read_more _ _ _ c.loop.bytes.items c.read_piece.new.bytes.items c.in_ok-ended.ensures.read.0 c.loop.invariant.taken c.in_ok-ended.ensures.read.1 c.in_ok-ended.ensures.read.2;
  cause = c.in_ok-ended.ensures.honest (ap Ok c.in-Whole.is) ∙ c.loop.invariant.cause;
}

pub returns-in-AtEnd-clause-read : goal.returns-in-AtEnd-clause-read
returns-in-AtEnd-clause-read g c = (
  read_more _ _ _ c.loop.bytes.items c.read_piece.new.bytes.items c.in_ok-ended.ensures.read.0 c.loop.invariant.taken c.in_ok-ended.ensures.read.1 c.in_ok-ended.ensures.read.2,
  c.in_ok-ended.ensures.at_end (ap Ok c.in-AtEnd.is),
)
