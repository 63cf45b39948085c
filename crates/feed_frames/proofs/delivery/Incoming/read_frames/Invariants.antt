use Rattle.std.proofs.Common.{◌≡◌, List, [], ◌+◌, ◌-◌, ◌*◌, ◌≤◌}
use Rattle.adg_model.specs.Feed.{Item, AreItems, items_bytes, most_payload}
use Rattle.feed_frames.specs.Intake.{Took}
use Rattle.feed_frames.specs.Counts.{standing_of}
use Rattle.feed_frames.specs.Frames.{Holds}
use Rattle.feed_frames.proofs.delivery.Incoming.read_frames.Given as goal

-- some items were read, and the limit on a payload bounds their bytes
abbrev pub invariant-loop-kind : goal.invariant-loop-kind
invariant-loop-kind g l = record {
  standing : l.self.counts.standing ≡ l.initial.self.counts.standing;
  counted : l.taken ≤ l.initial.taken + 6 * l.self.counts.payload;
  cause : g.R.Source.faults l.source ≡ g.R.Source.faults l.initial.source;
  read : (items : List Item) × Holds l.self items × AreItems (standing_of l.initial.self.counts.standing) [] items
      × Took (g.R.Source.left l.initial.source) (g.R.Source.left l.source) l.initial.taken l.taken (items_bytes items);
}

abbrev pub decreases-loop-kind : goal.decreases-loop-kind
decreases-loop-kind g l = most_payload - l.self.counts.payload
