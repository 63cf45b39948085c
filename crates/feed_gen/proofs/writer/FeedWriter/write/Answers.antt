use Rattle.std.proofs.Common.{◌∙◌}
use Rattle.feed_gen.proofs.Written.{record_short}
use Rattle.feed_gen.proofs.writer.FeedWriter.write.Goals as goal

pub put_frame-requires : goal.put_frame-requires
put_frame-requires c = record_short _ c.as_slice.result.now (c.as_slice.ensures ∙ c.in-Ok.ensures.written) c.in-Ok.ensures.good
