-- What is read of the magic and the header.
use Rattle.std.specs.Prelude.{◌≡◌, ℕ, List, Option}
use Rattle.adg_model.specs.Feed.{IsHeader, opening_bytes, start}
use Rattle.adg_model.specs.declared.fault.FeedKind.{FeedKind}
use Rattle.feed_frames.specs.declared.counts.Standing.{Standing as KeptStanding}
use Rattle.feed_frames.specs.declared.fault.FeedFault.{FeedFault}
use Rattle.feed_frames.specs.Intake.{Took}
use Rattle.feed_frames.specs.Counts.{standing_of}
use Rattle.feed_frames.specs.Answers.{MagicStops, OpeningStops}

-- some bytes were taken that are no magic
pub record MagicMissing (from to : Option (List ℕ)) (first last : ℕ) (kind : FeedKind) : Type 0 where
  pub bytes : List ℕ
  pub took : Took from to first last bytes
  pub stops : MagicStops kind to bytes

-- a magic and a header were taken
pub record ReadOpening (from to : Option (List ℕ)) (first last : ℕ) (kept : KeptStanding) : Type 0 where
  pub header : IsHeader kept.threads kept.sessions
  pub standing : standing_of kept ≡ start kept.threads kept.sessions
  pub took : Took from to first last (opening_bytes kept.threads kept.sessions)

-- the reading stopped before the header was whole and good
pub record NoOpening (from to : Option (List ℕ)) (first last : ℕ) (fault : FeedFault) : Type 0 where
  pub bytes : List ℕ
  pub took : Took from to first last bytes
  pub stops : OpeningStops fault to bytes
