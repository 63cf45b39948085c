-- What contracts see of a reader.
use Rattle.std.specs.Prelude.{◌≡◌, ℕ, ◌+◌, ◌*◌, ◌≤◌}
use Rattle.adg_model.specs.Feed.{Standing, start}
use Rattle.feed_frames.specs.declared.phase.Phase.{Phase}
use Rattle.feed_frames.specs.declared.phase.Phase.TheVariants.{Fresh, Open}

-- where it stands in the feed, what the frames so far decide, and how many bytes were taken
pub record FeedState : Type 0 where
  pub phase : Phase
  pub standing : Standing
  pub taken : ℕ

-- before anything was read
abbrev pub fresh : FeedState
fresh = record { phase = Fresh; standing = start 0 0; taken = 0 }

-- a fresh reader took nothing; and as the limits of a delivery bound its bytes, those taken fit a u64
pub record IsReader (state : FeedState) : Type 0 where
  pub fresh : state.phase ≡ Fresh → state.taken ≡ 0
  pub none : state.phase ≡ Fresh → state.standing ≡ start 0 0
  pub bounded : state.phase ≡ Open → state.taken ≤ 15 + state.standing.ends * 201326597
