-- What a run promises, over its source, its sink and its outcome.
use Rattle.std.specs.Prelude.{◌≡◌, ◌≢◌, ℕ, ◌-◌, ◌^◌, min, List, ◌++◌, length, Some, ◌⊎◌}
use Rattle.std.specs.Io.KnownBytes.{Consumes, Appends}
use Rattle.adg_io.specs.Faults.{Rose}
use Rattle.adg_model.specs.declared.fault.RedoFault.{RedoFault}
use Rattle.adg_model.specs.Feed.{Item, BeginsFeed}
use Rattle.adg_model.specs.Sound.{IsRedoFault}
use Rattle.feed_run.specs.Ending.{Ending, FeedRead, SourceFailed, SinkFailed, NoMemory, status_of}
use Rattle.feed_run.specs.Standby.{deliveries_of}
use Rattle.feed_run.specs.View.{SourceView, SinkView}
use Rattle.feed_run.specs.declared.outcome.Outcome.{Outcome}

-- a count that stands still at the last value of a u64
abbrev pub counted : List ℕ → ℕ
counted bytes = min (length bytes) (2 ^ 64 - 1)

-- The count of faults of the source, or of the sink, rose where that ended the run (or it stands at its last
-- value), and is as before at every other ending.
pub record HasCauses (ending : Ending) (source source_now : SourceView) (sink sink_now : SinkView) : Type 0 where
  pub read_fault : ending ≡ SourceFailed → Rose source.faults source_now.faults
  pub no_read_fault : ending ≢ SourceFailed → source_now.faults ≡ source.faults
  pub write_fault : ending ≡ SinkFailed → Rose sink.faults sink_now.faults
  pub no_write_fault : ending ≢ SinkFailed → sink_now.faults ≡ sink.faults

-- a claim on the ending of a run and on the bytes that were taken and written
abbrev pub Ends : Type 1
Ends = Ending → (taken written : List ℕ) → Type 0

-- The headline: what was taken of the source and written to the sink, the two counts, how the run ended and
-- what caused it.
pub record Headline (ends_so : Ends) (source source_now : SourceView) (sink sink_now : SinkView) (outcome : Outcome) : Type 0 where
  pub taken : List ℕ
  pub written : List ℕ
  pub took : Consumes source.left source_now.left taken
  pub wrote : Appends sink.held sink_now.held written
  pub taken_count : outcome.taken ≡ length taken
  pub written_count : outcome.written ≡ counted written
  pub ending : Ending
  pub status : outcome.status ≡ status_of ending
  pub ends : ends_so ending taken written
  pub causes : HasCauses ending source source_now sink sink_now

-- bytes that begin with a whole feed, where the redo of none of its deliveries has a fault
pub record IsGoodFeed (bytes : List ℕ) : Type 0 where
  pub threads : ℕ
  pub sessions : ℕ
  pub deliveries : List (List Item)
  pub unread : List ℕ
  pub begins : BeginsFeed bytes threads sessions deliveries unread
  pub no_fault : (before more : List (List Item)) (fault : RedoFault) → deliveries ≡ before ++ more → IsRedoFault threads (deliveries_of before) fault → ⊥

-- Over such bytes, where neither count of faults rose, the feed is read to its end, or memory was wanting.
abbrev pub IsComplete : (source source_now : SourceView) (sink sink_now : SinkView) → Outcome → Type 0
IsComplete source source_now sink sink_now outcome =
    (bytes : List ℕ) → source.left ≡ Some bytes → IsGoodFeed bytes
    → (Rose source.faults source_now.faults → ⊥) → (Rose sink.faults sink_now.faults → ⊥)
    → (outcome.status ≡ status_of FeedRead) ⊎ (outcome.status ≡ status_of NoMemory)
