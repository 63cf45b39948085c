-- How a realistic run ends: what was written until then.
use Rattle.std.specs.Prelude.{◌≡◌, ◌≢◌, ℕ, List, [], ◌++◌, ◌⊎◌, length}
use Rattle.std.specs.Io.KnownBytes.{Appends}
use Rattle.adg_io.specs.Faults.{Rose}
use Rattle.adg_model.specs.declared.delivery.RawDelivery.{RawDelivery}
use Rattle.adg_model.specs.Transcript.{IsTranscript}
use Rattle.feed_run.specs.declared.outcome.Outcome.{Outcome}
use Rattle.feed_run.specs.Ending.{Ending, FeedRead, SinkFailed, NoMemory, status_of}
use Rattle.feed_run.specs.Standby.{Meaning}
use Rattle.feed_run.specs.View.{SinkView}
use Rattle.soak_run.specs.Summary.{IsSummary}

-- bytes that mean so are a legal transcript
abbrev pub TellsTranscripts : Meaning → Type 0
TellsTranscripts meaning =
    (threads sessions : ℕ) (deliveries : List RawDelivery) (written : List ℕ)
    → meaning threads sessions deliveries written → IsTranscript threads sessions deliveries written

-- nothing was read, and the summary was written, or a front of it
pub record IsSummed (seed txns : ℕ) (taken written cut : List ℕ) : Type 0 where
  pub nothing_read : taken ≡ []
  pub summary : IsSummary seed txns (written ++ cut)

-- How a realistic run ends.
abbrev pub SoakEnds : (seed txns : ℕ) → Ending → (taken written : List ℕ) → Type 0
SoakEnds seed txns FeedRead taken written = IsSummed seed txns taken written []
SoakEnds seed txns SinkFailed taken written = (cut : List ℕ) × (cut ≢ []) × IsSummed seed txns taken written cut
SoakEnds seed txns NoMemory taken written = (taken ≡ []) × (written ≡ [])
SoakEnds seed txns _ taken written = ⊥

-- Where the sink's count of faults did not rise, the summary was written whole, or memory was wanting.
abbrev pub IsSoakComplete : (sink sink_now : SinkView) → Outcome → Type 0
IsSoakComplete sink sink_now outcome =
    (Rose sink.faults sink_now.faults → ⊥) → (outcome.status ≡ status_of FeedRead) ⊎ (outcome.status ≡ status_of NoMemory)

-- ---- the writing of a text that ends a run

pub record WroteText (sink sink_now : SinkView) (text : List ℕ) (outcome : Outcome) : Type 0 where
  pub wrote : Appends sink.held sink_now.held text
  pub count : outcome.written ≡ length text
  pub no_fault : sink_now.faults ≡ sink.faults
  pub ended : outcome.status ≡ status_of FeedRead

pub record WroteSome (sink sink_now : SinkView) (text : List ℕ) (outcome : Outcome) : Type 0 where
  pub front : List ℕ
  pub cut : List ℕ
  pub split : front ++ cut ≡ text
  pub some : cut ≢ []
  pub wrote : Appends sink.held sink_now.held front
  pub count : outcome.written ≡ length front
  pub fault : Rose sink.faults sink_now.faults
  pub ended : outcome.status ≡ status_of SinkFailed

-- nothing was taken, and a text was written whole, or a front of it where the sink failed
pub record Offers (sink sink_now : SinkView) (text : List ℕ) (outcome : Outcome) : Type 0 where
  pub taken : outcome.taken ≡ 0
  pub written : WroteText sink sink_now text outcome ⊎ WroteSome sink sink_now text outcome
