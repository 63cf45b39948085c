-- What the reader answers for a frame and for the frames of a delivery.
use Rattle.std.specs.Prelude.{◌≡◌, ℕ, ◌+◌, ◌^◌, ◌<◌, List, [], ◌∷◌, ◌++◌, length, Option, Some, None, Result, Ok, Err, MatchResult}
use Rattle.std.specs.List.{flat_map, filter_map}
use Rattle.std.specs.Ffi.{without_last}
use Rattle.std.specs.Int.{w32, to_be_bytes}
use Rattle.std.specs.Io.KnownBytes.{IsAtEnd}
use Rattle.adg_model.specs.Feed.{Item, Standing, AreItems, IsDelivery, IsItem, IsCut, item_bytes, items_bytes, delivery_bytes, end_bytes, stop_bytes, piece_of, command_of, schedule_of, tag_of, payload_of, tag_fault, length_fault, frame_fault, most_deliveries}
use Rattle.adg_model.specs.declared.fault.FeedKind.{FeedKind}
use Rattle.adg_model.specs.declared.fault.FeedKind.TheVariants.{Truncated, Read, Memory}
use Rattle.feed_frames.specs.declared.delivery.Incoming.{Incoming}
use Rattle.feed_frames.specs.declared.delivery.Frame.{Frame}
use Rattle.feed_frames.specs.declared.delivery.Frame.TheVariants.{Item as AnItem, End, Stop}
use Rattle.feed_frames.specs.declared.head.Head.{Head}
use Rattle.feed_frames.specs.declared.delivery.EndOf.{EndOf}
use Rattle.feed_frames.specs.declared.delivery.EndOf.TheVariants.{Delivery as OfDelivery, Feed as OfFeed}
use Rattle.feed_frames.specs.declared.fault.FeedFault.{FeedFault}
use Rattle.feed_frames.specs.Intake.{Took, fault_byte}
use Rattle.feed_frames.specs.Counts.{IsCountOf, HasRoom, standing_of, tag_byte}
use Rattle.feed_frames.specs.declared.tag.Tag.{Tag}

-- The reading of a frame stopped after these of its bytes: the input ended or the source failed inside the
-- frame, or memory was wanting when at most the whole frame had come, where no check had found a fault; or a
-- check found its fault in them, and without the last of them no fault and less than the frame.
abbrev pub FrameStops : FeedKind → (List ℕ → Option FeedKind) → Option (List ℕ) → List ℕ → Type 0
FrameStops Truncated check left bytes = (check bytes ≡ None) × IsCut bytes × IsAtEnd left
FrameStops Read check left bytes = (check bytes ≡ None) × IsCut bytes
FrameStops Memory check left bytes = (check bytes ≡ None) × IsCut (without_last bytes)
FrameStops kind check left bytes = (check bytes ≡ Some kind) × (check (without_last bytes) ≡ None) × IsCut (without_last bytes)

-- the same, where those after the first few of its bytes were taken by a call
pub record StopsAfter (front : List ℕ) (check : List ℕ → Option FeedKind) (from to : Option (List ℕ)) (before after : ℕ) (kind : FeedKind) : Type 0 where
  pub bytes : List ℕ
  pub took : Took from to before after bytes
  pub stops : FrameStops kind check to (front ++ bytes)

-- the tag and the length of a frame
abbrev pub head_bytes : Head → List ℕ
head_bytes head = tag_byte head.tag ∷ to_be_bytes w32 head.len

-- a head in which no check finds a fault
pub record IsGoodHead (st : Standing) (before : List Item) (head : Head) : Type 0 where
  pub tag : tag_fault before (tag_byte head.tag) ≡ None
  pub length : length_fault st before (tag_byte head.tag) head.len ≡ None

-- what was read of a delivery is these items
pub record Holds (incoming : Incoming) (items : List Item) : Type 0 where
  pub counts : IsCountOf incoming.counts items
  pub pieces : incoming.pieces ≡ filter_map piece_of items
  pub commands : incoming.commands ≡ filter_map command_of items
  pub schedule : incoming.schedule.items ≡ flat_map schedule_of items

-- the payload of a frame with this head was taken, and it is an item of the delivery
pub record TookItem (old new : Incoming) (before : List Item) (head : Head) (from to : Option (List ℕ)) (first last : ℕ) : Type 0 where
  pub item : Item
  pub took : Took from to first last (payload_of item)
  pub tag : tag_of item ≡ tag_byte head.tag
  pub whole : length (payload_of item) ≡ head.len
  pub follows : IsItem (standing_of old.counts.standing) before item
  pub holds : Holds new (before ++ item ∷ [])

-- a frame with this tag, whose payload comes next
pub record IsToRead (wanted : Tag) (incoming : Incoming) (head : Head) (taken : ℕ) : Type 0 where
  pub tag : head.tag ≡ wanted
  pub room : HasRoom incoming.counts head.tag head.len
  pub count : taken + head.len < 2 ^ 64

-- what is read of the payload of a frame whose head is good: an item, or the frame stops in it
abbrev pub ReadsPayload : (old new : Incoming) (head : Head) (from to : Option (List ℕ)) (first last : ℕ) → Result (Unit {0}) FeedKind → Type 0
ReadsPayload old new head from to first last result = (before : List Item) → Holds old before → IsGoodHead (standing_of old.counts.standing) before head
    → MatchResult result (λ _. TookItem old new before head from to first last)
    (StopsAfter (head_bytes head) (frame_fault (standing_of old.counts.standing) before) from to first last)

-- what is read of a frame after these items
abbrev pub ReadsFrame : (old new : Incoming) (before : List Item) (from to : Option (List ℕ)) (first last : ℕ) → Result Frame FeedKind → Type 0
ReadsFrame old new before from to first last (Ok AnItem) =
    (item : Item) × Took from to first last (item_bytes item) × IsItem (standing_of old.counts.standing) before item × Holds new (before ++ item ∷ [])
ReadsFrame old new before from to first last (Ok End) = Took from to first last end_bytes × (old.counts.standing.ends < most_deliveries) × (new ≡ old)
ReadsFrame old new before from to first last (Ok Stop) = Took from to first last stop_bytes × (before ≡ []) × (new ≡ old)
ReadsFrame old new before from to first last (Err kind) = StopsAfter [] (frame_fault (standing_of old.counts.standing) before) from to first last kind

-- the frames of a delivery were read
pub record ReadItems (old new : Incoming) (from to : Option (List ℕ)) (first last : ℕ) : Type 0 where
  pub items : List Item
  pub is_delivery : IsDelivery (standing_of old.counts.standing) items
  pub took : Took from to first last (delivery_bytes items)
  pub holds : Holds new items

-- the reading stopped in a frame, after these items
pub record StopsAmong (st : Standing) (from to : Option (List ℕ)) (first last : ℕ) (fault : FeedFault) : Type 0 where
  pub before : List Item
  pub rest : List ℕ
  pub items : AreItems st [] before
  pub took : Took from to first last (items_bytes before ++ rest)
  pub stops : FrameStops fault.kind (frame_fault st before) to rest
  pub byte : fault.byte ≡ fault_byte fault.kind (first + length (items_bytes before)) last

abbrev pub ReadsFrames : (old new : Incoming) (from to : Option (List ℕ)) (first last : ℕ) → Result EndOf FeedFault → Type 0
ReadsFrames old new from to first last (Ok OfDelivery) = ReadItems old new from to first last
ReadsFrames old new from to first last (Ok OfFeed) = Took from to first last stop_bytes
ReadsFrames old new from to first last (Err fault) = StopsAmong (standing_of old.counts.standing) from to first last fault
