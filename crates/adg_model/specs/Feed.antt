-- The feed: frames of bytes, and the first fault of bytes that are no feed.
use Rattle.std.specs.Prelude.{◌≡◌, ◌≢◌, ℕ, ◌+◌, ◌<◌, ◌≤◌, Bool, true, false, not, ◌==◌, nat_lt, nat_le, ◌&&◌, ◌||◌, if◌then◌else◌, List, [], ◌∷◌, ◌++◌, length, take, drop, sum_by, count_by, Option, Some, None, ◌⊎◌}
use Rattle.std.specs.List.{flat_map, filter_map}
use Rattle.std.specs.Int.{w32, to_be_bytes, from_be_bytes}
use Rattle.adg_base.specs.declared.command.CommandText.{CommandText}
use Rattle.adg_model.specs.declared.delivery.RedoPiece.{RedoPiece}
use Rattle.adg_model.specs.declared.delivery.RawDelivery.{RawDelivery}
use Rattle.adg_model.specs.declared.fault.FeedKind.{FeedKind}
use Rattle.adg_model.specs.declared.fault.FeedKind.TheVariants.{BadMagic, BadTag, BadOrder, BadLength, TooLarge, TooManyDeliveries, BadThread, BadSession, TooManyCommands, Truncated}

-- what a delivery is made of: redo of a thread, a command of a session, schedule bytes
pub data Item : Type 0 where
  Redo : ℕ → List ℕ → Item
  Asks : ℕ → List ℕ → Item
  Schedules : List ℕ → Item

-- IMADG01 and a newline
abbrev pub magic : List ℕ
magic = 0x49 ∷ 0x4d ∷ 0x41 ∷ 0x44 ∷ 0x47 ∷ 0x30 ∷ 0x31 ∷ 0x0a ∷ []

-- the tags H, R, Q, S, E and X
abbrev pub header_tag : ℕ
header_tag = 0x48

abbrev pub redo_tag : ℕ
redo_tag = 0x52

abbrev pub command_tag : ℕ
command_tag = 0x51

abbrev pub schedule_tag : ℕ
schedule_tag = 0x53

abbrev pub end_tag : ℕ
end_tag = 0x45

abbrev pub stop_tag : ℕ
stop_tag = 0x58

-- a frame: its tag, the length of its payload, and the payload
unfoldable pub frame : ℕ → List ℕ → List ℕ
frame tag payload = tag ∷ to_be_bytes w32 (length payload) ++ payload

abbrev pub header_bytes : ℕ → ℕ → List ℕ
header_bytes threads sessions = frame header_tag (threads ∷ sessions ∷ [])

abbrev pub payload_of : Item → List ℕ
payload_of (Redo thread bytes) = thread ∷ bytes
payload_of (Asks session text) = session ∷ text
payload_of (Schedules bytes) = bytes

abbrev pub tag_of : Item → ℕ
tag_of (Redo thread bytes) = redo_tag
tag_of (Asks session text) = command_tag
tag_of (Schedules bytes) = schedule_tag

abbrev pub item_bytes : Item → List ℕ
item_bytes item = frame (tag_of item) (payload_of item)

abbrev pub items_bytes : List Item → List ℕ
items_bytes items = flat_map item_bytes items

abbrev pub end_bytes : List ℕ
end_bytes = frame end_tag []

abbrev pub stop_bytes : List ℕ
stop_bytes = frame stop_tag []

-- the frames of a delivery, with the one that ends it
abbrev pub delivery_bytes : List Item → List ℕ
delivery_bytes items = items_bytes items ++ end_bytes

-- the bytes of a feed up to its deliveries, and of a whole feed
abbrev pub opening_bytes : ℕ → ℕ → List ℕ
opening_bytes threads sessions = magic ++ header_bytes threads sessions

abbrev pub deliveries_bytes : List (List Item) → List ℕ
deliveries_bytes deliveries = flat_map delivery_bytes deliveries

abbrev pub feed_bytes : ℕ → ℕ → List (List Item) → List ℕ
feed_bytes threads sessions deliveries = opening_bytes threads sessions ++ deliveries_bytes deliveries ++ stop_bytes

-- what the items of a delivery bring: redo, commands and schedule bytes, each in feed order
abbrev pub piece_of : Item → Option RedoPiece
piece_of (Redo t b) = Some (record { thread = t; bytes = b })
piece_of (Asks s t) = None
piece_of (Schedules b) = None

abbrev pub command_of : Item → Option CommandText
command_of (Redo t b) = None
command_of (Asks s t) = Some (record { session = s; text = t })
command_of (Schedules b) = None

abbrev pub schedule_of : Item → List ℕ
schedule_of (Redo t b) = []
schedule_of (Asks s t) = []
schedule_of (Schedules b) = b

abbrev pub delivery_of : List Item → RawDelivery
delivery_of items = record {
  pieces = filter_map piece_of items;
  commands = filter_map command_of items;
  schedule = flat_map schedule_of items;
}

-- The lengths of payloads in a delivery, of all its items and of its redo, and how often a session asks.
abbrev pub payload_len : Item → ℕ
payload_len item = length (payload_of item)

abbrev pub redo_len : Item → ℕ
redo_len (Redo t b) = 1 + length b
redo_len (Asks s t) = 0
redo_len (Schedules b) = 0

abbrev pub asks : ℕ → Item → Bool
asks session (Redo t b) = false
asks session (Asks s t) = s == session
asks session (Schedules b) = false

abbrev pub payload_total : List Item → ℕ
payload_total items = sum_by payload_len items

abbrev pub redo_total : List Item → ℕ
redo_total items = sum_by redo_len items

abbrev pub asked : ℕ → List Item → ℕ
asked session items = count_by (asks session) items

-- The limits of a feed.
abbrev pub most_payload : ℕ
most_payload = 33554432

abbrev pub most_redo : ℕ
most_redo = 4294967295

abbrev pub most_deliveries : ℕ
most_deliveries = 65535

abbrev pub most_commands : ℕ
most_commands = 1024

abbrev pub most_text : ℕ
most_text = 1024

-- what the frames before a delivery decide: the header's numbers, the length of the redo, and the
-- number of deliveries
pub record Standing : Type 0 where
  pub threads : ℕ
  pub sessions : ℕ
  pub redo : ℕ
  pub ends : ℕ

abbrev pub start : ℕ → ℕ → Standing
start t s = record { threads = t; sessions = s; redo = 0; ends = 0 }

abbrev pub after_delivery : Standing → List Item → Standing
after_delivery st items = record st { redo = st.redo + redo_total items; ends = st.ends + 1 }

abbrev pub after_deliveries : Standing → List (List Item) → Standing
after_deliveries st [] = st
after_deliveries st (items ∷ more) = after_deliveries (after_delivery st items) more

-- an item with a payload of this length keeps within the limits after the items before it
pub record Fits (st : Standing) (before : List Item) (item : Item) : Type 0 where
  pub payload : payload_total before + payload_len item ≤ most_payload
  pub redo : st.redo + redo_total before + redo_len item ≤ most_redo

abbrev pub IsIn : ℕ → ℕ → Type 0
IsIn most n = (1 ≤ n) × (n ≤ most)

abbrev pub IsItem : Standing → List Item → Item → Type 0
IsItem st before (Redo thread bytes) = IsIn st.threads thread × Fits st before (Redo thread bytes)
IsItem st before (Asks session text) =
    IsIn st.sessions session × (length text ≤ most_text) × (asked session before < most_commands) × Fits st before (Asks session text)
IsItem st before (Schedules bytes) = (1 ≤ length bytes) × Fits st before (Schedules bytes)

-- items that may follow those before them in a delivery
abbrev pub AreItems : Standing → List Item → List Item → Type 0
AreItems st before [] = Unit {0}
AreItems st before (item ∷ items) = IsItem st before item × AreItems st (before ++ item ∷ []) items

abbrev pub IsDelivery : Standing → List Item → Type 0
IsDelivery st items = AreItems st [] items × (st.ends < most_deliveries)

abbrev pub AreDeliveries : Standing → List (List Item) → Type 0
AreDeliveries st [] = Unit {0}
AreDeliveries st (items ∷ more) = IsDelivery st items × AreDeliveries (after_delivery st items) more

abbrev pub IsHeader : ℕ → ℕ → Type 0
IsHeader threads sessions = IsIn 8 threads × IsIn 8 sessions

-- these are the header and the deliveries of a feed
abbrev pub IsFeed : ℕ → ℕ → List (List Item) → Type 0
IsFeed threads sessions deliveries = IsHeader threads sessions × AreDeliveries (start threads sessions) deliveries

-- the bytes begin with a whole feed: they go through its stop frame, and what comes after is not read
pub record BeginsFeed (bytes : List ℕ) (threads sessions : ℕ) (deliveries : List (List Item)) (unread : List ℕ) : Type 0 where
  pub feed : IsFeed threads sessions deliveries
  pub spelled : bytes ≡ feed_bytes threads sessions deliveries ++ unread

-- The first fault. Each check is made as soon as its bytes are there, in the order in which they stand below.
abbrev pub fails : Bool → FeedKind → Option FeedKind
fails true fault = Some fault
fails false fault = None

infixr 5 ◌else_check◌
abbrev pub ◌else_check◌ : Option FeedKind → Option FeedKind → Option FeedKind
(Some fault) else_check later = Some fault
None else_check later = later

abbrev pub is_tag : ℕ → Bool
is_tag tag = (tag == header_tag) || (tag == redo_tag) || (tag == command_tag) || (tag == schedule_tag) || (tag == end_tag) || (tag == stop_tag)

-- the lengths that a payload with this tag may have
abbrev pub is_length : ℕ → ℕ → Bool
is_length tag len =
    if tag == header_tag then len == 2
    else if tag == command_tag then nat_le 1 len && nat_le len (most_text + 1)
    else if (tag == end_tag) || (tag == stop_tag) then len == 0
    else nat_le 1 len

abbrev pub is_counted : ℕ → Bool
is_counted tag = (tag == redo_tag) || (tag == command_tag) || (tag == schedule_tag)

abbrev pub is_in : ℕ → ℕ → Bool
is_in most n = nat_le 1 n && nat_le n most

abbrev pub is_empty : {X : Type 0} → List X → Bool
is_empty [] = true
is_empty (x ∷ xs) = false

-- the four bytes of a length, and what they say
abbrev pub has_length : List ℕ → Bool
has_length bytes = nat_le 4 (length bytes)

abbrev pub stated : List ℕ → ℕ
stated bytes = from_be_bytes w32 (take 4 bytes)

-- a header has to come first, and only there; a stop comes right after a header or an end
abbrev pub tag_fault : List Item → ℕ → Option FeedKind
tag_fault before tag =
    fails (not (is_tag tag)) BadTag
    else_check fails ((tag == header_tag) || ((tag == stop_tag) && not (is_empty before))) BadOrder

abbrev pub length_fault : Standing → List Item → ℕ → ℕ → Option FeedKind
length_fault st before tag len =
    fails (not (is_length tag len)) BadLength
    else_check fails (is_counted tag && nat_lt most_payload (payload_total before + len)) TooLarge
    else_check fails ((tag == redo_tag) && nat_lt most_redo (st.redo + redo_total before + len)) TooLarge
    else_check fails ((tag == end_tag) && nat_le most_deliveries st.ends) TooManyDeliveries

abbrev pub payload_fault : Standing → List Item → ℕ → List ℕ → Option FeedKind
payload_fault st before tag [] = None
payload_fault st before tag (first ∷ others) =
    fails ((tag == redo_tag) && not (is_in st.threads first)) BadThread
    else_check fails ((tag == command_tag) && not (is_in st.sessions first)) BadSession
    else_check fails ((tag == command_tag) && nat_le most_commands (asked first before)) TooManyCommands

-- what is wrong with the frame that begins here, after these items of a delivery
unfoldable pub frame_fault : Standing → List Item → List ℕ → Option FeedKind
frame_fault st before [] = None
frame_fault st before (tag ∷ rest) =
    tag_fault before tag
    else_check (if has_length rest then length_fault st before tag (stated rest) else_check payload_fault st before tag (drop 4 rest) else None)

abbrev pub header_payload_fault : List ℕ → Option FeedKind
header_payload_fault [] = None
header_payload_fault (threads ∷ []) = fails (not (is_in 8 threads)) BadThread
header_payload_fault (threads ∷ sessions ∷ others) =
    fails (not (is_in 8 threads)) BadThread else_check fails (not (is_in 8 sessions)) BadSession

-- the first frame has to be the header
abbrev pub first_tag_fault : ℕ → Option FeedKind
first_tag_fault tag = fails (not (is_tag tag)) BadTag else_check fails (not (tag == header_tag)) BadOrder

-- what is wrong with the first frame
unfoldable pub first_frame_fault : List ℕ → Option FeedKind
first_frame_fault [] = None
first_frame_fault (tag ∷ rest) =
    first_tag_fault tag
    else_check (if has_length rest then fails (not (is_length tag (stated rest))) BadLength else_check header_payload_fault (drop 4 rest) else None)

-- the frame that begins here is cut short by the end of the input
abbrev pub IsCut : List ℕ → Type 0
IsCut [] = Unit {0}
IsCut (tag ∷ rest) = (length rest < 4) ⊎ (length (drop 4 rest) < stated rest)

-- Of the bytes from a frame on: a check shows its fault, at the frame's first byte; or none does and
-- the input ends inside the frame, at its last byte.
abbrev pub FrameFails : Option FeedKind → (offset : ℕ) → List ℕ → FeedKind → ℕ → Type 0
FrameFails check offset rest fault byte =
    ((check ≡ Some fault) × (byte ≡ offset)) ⊎ ((check ≡ None) × IsCut rest × (fault ≡ Truncated) × (byte ≡ offset + length rest))

-- The bytes from the beginning of a delivery on have this first fault; the delivery begins at an offset.
pub record DeliveryFails (st : Standing) (offset : ℕ) (bytes : List ℕ) (fault : FeedKind) (byte : ℕ) : Type 0 where
  pub before : List Item
  pub rest : List ℕ
  pub spelled : bytes ≡ items_bytes before ++ rest
  pub items : AreItems st [] before
  pub fails : FrameFails (frame_fault st before rest) (offset + length (items_bytes before)) rest fault byte

-- The magic is judged once its eight bytes are there.
abbrev pub MagicFails : List ℕ → FeedKind → ℕ → Type 0
MagicFails bytes fault byte =
    ((length bytes < length magic) × (fault ≡ Truncated) × (byte ≡ length bytes))
    ⊎ ((length magic ≤ length bytes) × (take 8 bytes ≢ magic) × (fault ≡ BadMagic) × (byte ≡ 0))

pub record HeaderFails (bytes : List ℕ) (fault : FeedKind) (byte : ℕ) : Type 0 where
  pub rest : List ℕ
  pub spelled : bytes ≡ magic ++ rest
  pub fails : FrameFails (first_frame_fault rest) (length magic) rest fault byte

-- after the opening and some whole deliveries
pub record LaterFails (bytes : List ℕ) (threads sessions : ℕ) (deliveries : List (List Item)) (fault : FeedKind) (byte : ℕ) : Type 0 where
  pub rest : List ℕ
  pub feed : IsFeed threads sessions deliveries
  pub spelled : bytes ≡ opening_bytes threads sessions ++ deliveries_bytes deliveries ++ rest
  pub fails : DeliveryFails (after_deliveries (start threads sessions) deliveries) (length (opening_bytes threads sessions ++ deliveries_bytes deliveries)) rest fault byte

-- The first fault of bytes that are no whole feed, and the whole deliveries before it. Before the header
-- is whole there are none, and the numbers of threads and sessions say nothing.
abbrev pub FeedFails : List ℕ → (threads sessions : ℕ) → List (List Item) → FeedKind → ℕ → Type 0
FeedFails bytes threads sessions deliveries fault byte =
    ((deliveries ≡ []) × (MagicFails bytes fault byte ⊎ HeaderFails bytes fault byte))
    ⊎ LaterFails bytes threads sessions deliveries fault byte
