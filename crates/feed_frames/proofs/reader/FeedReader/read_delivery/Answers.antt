use Rattle.feed_frames.specs.Counts.{standing_of}
use Rattle.feed_frames.specs.Frames.{StopsAmong}
use Rattle.feed_frames.proofs.ReaderLaws.{delivery_failed}
use Rattle.feed_frames.proofs.reader.FeedReader.read_delivery.Goals as goal

pub returns-in-Err-clause-step : goal.returns-in-Err-clause-step
returns-in-Err-clause-step g c =
    let stops : StopsAmong (standing_of c.self.inside.standing) (g.R.Source.left c.args.source.now) (g.R.Source.left c.read_frames.new.source) c.self.inside.taken c.read_frames.new.taken c.in-Err.fault =
    rw (← c.new-incoming.ensures.standing) c.in-Err.ensures.frames in
    rw (← c.self.view_is) (delivery_failed _ _ _ _ _ stops)
