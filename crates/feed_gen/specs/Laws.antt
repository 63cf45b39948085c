-- Laws of the generated feed.
use Rattle.std.specs.Prelude.{◌≡◌, ℕ, ◌+◌, ◌*◌, ◌≤◌, List, [], ◌++◌, length, map, sum_by}
use Rattle.adg_base.specs.declared.vector.RedoRecord.{RedoRecord}
use Rattle.adg_model.specs.declared.delivery.RawDelivery.{RawDelivery}
use Rattle.adg_model.specs.Feed.{Item, delivery_of, BeginsFeed}
use Rattle.adg_model.specs.Log.{frontier, merged_log, ReceivedFrom}
use Rattle.adg_model.specs.declared.fault.RedoFault.{RedoFault}
use Rattle.adg_model.specs.Sound.{IsSound, IsRedoFault}
use Rattle.feed_gen.specs.Generated.{Draft, threads, sessions, drafts, generated_deliveries, generated}

-- The bytes are a whole feed of these deliveries, and nothing behind it.
abbrev pub IsWholeFeed : Type 0
IsWholeFeed = (seed txns : ℕ) → txns ≤ 100000 → BeginsFeed (generated seed txns) threads sessions (generated_deliveries seed txns) []

-- So many deliveries can be read to their ends: each thread's text is whole records, and their merged log is sound.
pub record AreRead (deliveries : List RawDelivery) : Type 0 where
  pub records : List (List RedoRecord)
  pub received : ReceivedFrom 1 deliveries records
  pub all : length records ≡ threads
  pub sound : IsSound (merged_log records)

-- So can those up to each.
abbrev pub EachIsRead : Type 0
EachIsRead =
    (seed txns : ℕ) → txns ≤ 100000 → (before more : List (List Item)) → generated_deliveries seed txns ≡ before ++ more → AreRead (map delivery_of before)

-- No delivery has a redo fault.
abbrev pub NoRedoFault : Type 0
NoRedoFault =
    (seed txns : ℕ) → txns ≤ 100000 → (before more : List (List Item)) (fault : RedoFault) → generated_deliveries seed txns ≡ before ++ more
    → IsRedoFault threads (map delivery_of before) fault → ⊥

-- There are so many records, each with the next SCN from 1 on.
abbrev pub LastScn : Type 0
LastScn = (seed txns : ℕ) → sum_by (λ (d : Draft). length d.written) (drafts seed txns) ≡ 63 + 2 * txns

-- All threads have ended then, and the last frontier is the last of these SCNs.
abbrev pub LastFrontier : Type 0
LastFrontier =
    (seed txns : ℕ) → txns ≤ 100000 → (records : List (List RedoRecord)) → length records ≡ threads
    → ReceivedFrom 1 (map delivery_of (generated_deliveries seed txns)) records → frontier records ≡ 63 + 2 * txns
