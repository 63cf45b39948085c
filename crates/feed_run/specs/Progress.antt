-- How far the run of a feed has come.
use Rattle.std.specs.Prelude.{◌≡◌, ◌≢◌, ℕ, List, [], ◌++◌, Option, Result, Ok, Err, ◌⊎◌}
use Rattle.std.specs.Io.KnownBytes.{Appends}
use Rattle.adg_io.specs.Faults.{Rose}
use Rattle.adg_model.specs.declared.fault.FeedKind.{FeedKind}
use Rattle.adg_model.specs.declared.fault.FeedKind.TheVariants as kinds
use Rattle.adg_model.specs.Feed.{Item, IsFeed, start, after_deliveries}
use Rattle.feed_frames.specs.State.{FeedState}
use Rattle.feed_frames.specs.declared.phase.Phase.TheVariants.{Open}
use Rattle.feed_frames.specs.Intake.{Took}
use Rattle.feed_run.specs.Ending.{Ending, HasLine, line_of, status_of, FeedRead, FeedRefused, RedoRefused, SourceFailed, SinkFailed, NoMemory, Stops, read_bytes}
use Rattle.feed_run.specs.Headline.{counted}
use Rattle.feed_run.specs.Standby.{Meaning, deliveries_of}
use Rattle.feed_run.specs.View.{SinkView}
use Rattle.feed_run.specs.declared.refusal.Refusal.{Refusal}
use Rattle.feed_run.specs.declared.refusal.Refusal.TheVariants as refusals
use Rattle.feed_run.specs.declared.standby.Unanswered.TheVariants as unanswered

-- The reader stands before a delivery, and those before it were answered.
pub record IsAt (meaning : Meaning) (source from sink held : Option (List ℕ)) (reader : FeedState) (written : ℕ) : Type 0 where
  pub threads : ℕ
  pub sessions : ℕ
  pub deliveries : List (List Item)
  pub output : List ℕ
  pub feed : IsFeed threads sessions deliveries
  pub phase : reader.phase ≡ Open
  pub standing : reader.standing ≡ after_deliveries (start threads sessions) deliveries
  pub took : Took source from 0 reader.taken (read_bytes threads sessions deliveries)
  pub ran : meaning threads sessions (deliveries_of deliveries) output
  pub wrote : Appends sink held output
  pub written_count : written ≡ counted output

-- how a run ends that was refused so
abbrev pub feed_ending : FeedKind → ℕ → Ending
feed_ending kinds.Read byte = SourceFailed
feed_ending kinds.Memory byte = NoMemory
feed_ending kind byte = FeedRefused kind byte

abbrev pub ending_of : Result (Unit {0}) Refusal → Ending
ending_of (Ok done) = FeedRead
ending_of (Err (refusals.Feed fault)) = feed_ending fault.kind fault.byte
ending_of (Err (refusals.Delivery (unanswered.Redo fault))) = RedoRefused fault
ending_of (Err (refusals.Delivery unanswered.Memory)) = NoMemory
ending_of (Err refusals.Write) = SinkFailed

-- the run of a feed stopped with a result: what it took and wrote until then
pub record RunStops (meaning : Meaning) (source from sink held : Option (List ℕ)) (taken written : ℕ) (ending : Ending) : Type 0 where
  pub bytes : List ℕ
  pub output : List ℕ
  pub took : Took source from 0 taken bytes
  pub wrote : Appends sink held output
  pub written_count : written ≡ counted output
  pub stops : Stops meaning ending source bytes output

-- a piece was written, or a front of it where the sink failed
pub record WroteFront (sink sink_now : SinkView) (before after : ℕ) (piece : List ℕ) : Type 0 where
  pub front : List ℕ
  pub cut : List ℕ
  pub split : front ++ cut ≡ piece
  pub some : cut ≢ []
  pub wrote : Appends sink.held sink_now.held front
  pub count : (output : List ℕ) → before ≡ counted output → after ≡ counted (output ++ front)
  pub fault : Rose sink.faults sink_now.faults

pub record WrotePiece (sink sink_now : SinkView) (before after : ℕ) (piece : List ℕ) : Type 0 where
  pub wrote : Appends sink.held sink_now.held piece
  pub count : (output : List ℕ) → before ≡ counted output → after ≡ counted (output ++ piece)
  pub no_fault : sink_now.faults ≡ sink.faults

abbrev pub Writes : (sink sink_now : SinkView) (before after : ℕ) (piece : List ℕ) → Result (Unit {0}) Refusal → Type 0
Writes sink sink_now before after piece (Ok done) = WrotePiece sink sink_now before after piece
Writes sink sink_now before after piece (Err (refusals.Feed fault)) = ⊥
Writes sink sink_now before after piece (Err (refusals.Delivery why)) = ⊥
Writes sink sink_now before after piece (Err refusals.Write) = WroteFront sink sink_now before after piece

-- A line was written whole, and the status is its own; or a front of it, and the status is that of a failed sink.
abbrev pub Tells : (sink sink_now : SinkView) (before after : ℕ) (line : List ℕ) (status result : ℕ) → Type 0
Tells sink sink_now before after line status result =
    (WrotePiece sink sink_now before after line × (result ≡ status))
    ⊎ (WroteFront sink sink_now before after line × (result ≡ status_of SinkFailed))

-- The line of an ending was told; or there was no memory for it, and nothing was written.
abbrev pub IsEnded : Ending → (sink sink_now : SinkView) (before after result : ℕ) → Type 0
IsEnded ending sink sink_now before after result =
    Tells sink sink_now before after (line_of ending) (status_of ending) result
    ⊎ (WrotePiece sink sink_now before after [] × (result ≡ status_of NoMemory) × HasLine ending)
