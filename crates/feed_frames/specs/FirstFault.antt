-- Every list of bytes begins with a whole feed or has a first fault.
use Rattle.std.specs.Prelude.{ℕ, ◌<◌, List, ◌⊎◌}
use Rattle.std.specs.List.{AllByRecursion}
use Rattle.adg_model.specs.Feed.{Item, BeginsFeed, FeedFails}
use Rattle.adg_model.specs.declared.fault.FeedKind.{FeedKind}

-- each number is a byte
abbrev pub AreBytes : List ℕ → Type 0
AreBytes bytes = AllByRecursion (λ b. b < 256) bytes

-- a whole feed stands in front
pub record HasFeed (bytes : List ℕ) : Type 0 where
  pub threads : ℕ
  pub sessions : ℕ
  pub deliveries : List (List Item)
  pub unread : List ℕ
  pub begins : BeginsFeed bytes threads sessions deliveries unread

-- there is a first fault, of some kind at some byte
pub record HasFirstFault (bytes : List ℕ) : Type 0 where
  pub threads : ℕ
  pub sessions : ℕ
  pub deliveries : List (List Item)
  pub kind : FeedKind
  pub byte : ℕ
  pub fails : FeedFails bytes threads sessions deliveries kind byte

-- Bytes begin with a whole feed or have a first fault,
abbrev pub FeedOrFault : Type 0
FeedOrFault = (bytes : List ℕ) → AreBytes bytes → HasFeed bytes ⊎ HasFirstFault bytes

-- so that bytes which are no feed have one.
abbrev pub NoFeedHasFault : Type 0
NoFeedHasFault = (bytes : List ℕ) → AreBytes bytes → (HasFeed bytes → ⊥) → HasFirstFault bytes
