-- What the reader's counts say of the items of a delivery.
use Rattle.std.specs.Prelude.{◌≡◌, ℕ, ◌+◌, ◌<◌, ◌≤◌, IsTrue, List, slice_index, Option, Some, None, Result, Ok, Err}
use Rattle.adg_model.specs.Feed.{Item, Standing, payload_total, redo_total, asked, is_empty, is_counted, most_payload, most_redo, most_deliveries, redo_tag, command_tag, schedule_tag, end_tag, stop_tag}
use Rattle.adg_model.specs.declared.fault.FeedKind.{FeedKind}
use Rattle.adg_model.specs.declared.fault.FeedKind.TheVariants.{Truncated, Read, Memory}
use Rattle.feed_frames.specs.declared.counts.Standing.{Standing as KeptStanding}
use Rattle.feed_frames.specs.declared.counts.Counts.{Counts}
use Rattle.feed_frames.specs.declared.tag.Tag.{Tag}
use Rattle.feed_frames.specs.declared.tag.Tag.TheVariants.{Redo, Command, Schedule, End, Stop}

abbrev pub tag_byte : Tag → ℕ
tag_byte Redo = redo_tag
tag_byte Command = command_tag
tag_byte Schedule = schedule_tag
tag_byte End = end_tag
tag_byte Stop = stop_tag

abbrev pub standing_of : KeptStanding → Standing
standing_of p = record { threads = p.threads; sessions = p.sessions; redo = p.redo; ends = p.ends }

-- the counts are those of the items
pub record IsCountOf (counts : Counts) (items : List Item) : Type 0 where
  pub payload : counts.payload ≡ payload_total items
  pub redo : counts.redo ≡ redo_total items
  pub asks : (session : ℕ) → session < 8 → slice_index counts.asked session ≡ asked (session + 1) items
  pub empty : counts.is_empty ≡ is_empty items

-- a fault that a check shows, and not the end of the input, the source or the memory
abbrev pub IsShown : FeedKind → Type 0
IsShown Truncated = ⊥
IsShown Read = ⊥
IsShown Memory = ⊥
IsShown _ = Unit {0}

-- a payload of this length with this tag keeps within the limits, after what was counted
pub record HasRoom (counts : Counts) (tag : Tag) (len : ℕ) : Type 0 where
  pub some : IsTrue (is_counted (tag_byte tag)) → 1 ≤ len
  pub payload : IsTrue (is_counted (tag_byte tag)) → counts.payload + len ≤ most_payload
  pub redo : tag ≡ Redo → counts.standing.redo + counts.redo + len ≤ most_redo
  pub ends : tag ≡ End → counts.standing.ends < most_deliveries

-- a check finds the fault that a definition says
abbrev pub Judges : {X : Type 0} → Result X FeedKind → Option FeedKind → Type 0
Judges (Ok x) fault = fault ≡ None
Judges (Err kind) fault = fault ≡ Some kind
