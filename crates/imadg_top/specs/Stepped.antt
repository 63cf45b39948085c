-- What a run on one thread promises, over its words, its source, its sink and its outcome.
use Rattle.std.specs.Prelude.{◌≢◌, ℕ, List, Option, Some, None}
use Rattle.feed_run.specs.declared.outcome.Outcome.{Outcome}
use Rattle.feed_run.specs.Ending.{Ending, RunEnds, UsageEnds}
use Rattle.feed_run.specs.Headline as run
use Rattle.feed_run.specs.View.{SourceView, SinkView}
use Rattle.core_standby.specs.Ran.{RanAll}
use Rattle.imadg_top.specs.Words.{workers_of}

-- how a run ends over its words: where they are accepted its feed is run, with the workers that they name
abbrev pub SteppedEnds : Option ℕ → Option (List ℕ) → Ending → (taken written : List ℕ) → Type 0
SteppedEnds (Some workers) source = RunEnds (RanAll workers) source
SteppedEnds None source = UsageEnds

-- The headline: what was taken of the source and written to the sink, the two counts, how the run ended and
-- what caused it.
abbrev pub SteppedHeadline : (words : List (List ℕ)) (source source_now : SourceView) (sink sink_now : SinkView) → Outcome → Type 0
SteppedHeadline words source source_now sink sink_now outcome = run.Headline (SteppedEnds (workers_of words) source.left) source source_now sink sink_now outcome

-- With accepted words, over bytes that begin with a whole feed whose redo has no fault, and where neither count of
-- faults rose, the feed is read to its end, or memory was wanting.
abbrev pub IsSteppedComplete : (words : List (List ℕ)) (source source_now : SourceView) (sink sink_now : SinkView) → Outcome → Type 0
IsSteppedComplete words source source_now sink sink_now outcome = workers_of words ≢ None → run.IsComplete source source_now sink sink_now outcome
