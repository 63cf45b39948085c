use Rattle.feed_frames.proofs.ReaderLaws.{header_failed}
use Rattle.feed_frames.proofs.reader.FeedReader.read_header.Goals as goal

pub returns-in-Err-clause-header : goal.returns-in-Err-clause-header
returns-in-Err-clause-header g c = rw (← c.self.view_is) (header_failed _ _ _ _ _ c.in-Fresh.is c.in-Err.ensures.opening)
