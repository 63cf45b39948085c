-- What a run of the program promises, over its words, its source, its sink and its outcome.
use Rattle.std.specs.Prelude.{◌≡◌, ℕ, List, Option, Some, None}
use Rattle.feed_run.specs.declared.outcome.Outcome.{Outcome}
use Rattle.feed_run.specs.Ending.{Ending, RunEnds, UsageEnds}
use Rattle.feed_run.specs.Headline as run
use Rattle.feed_run.specs.View.{SourceView, SinkView}
use Rattle.core_standby.specs.Ran.{RanAll}
use Rattle.soak_run.specs.declared.words.Job.{Job}
use Rattle.soak_run.specs.Run.{SoakEnds, IsSoakComplete}
use Rattle.soak_run.specs.Words.{IsSoakLine}
use Rattle.imadg_top.specs.Words.{workers_of}

-- What words ask for: that the feed of the source is run, by so many workers; a realistic run; or, where they are no
-- accepted line, the usage line.
pub data Task : Type 0 where
  Step : (workers : ℕ) → Task
  Soak : Job → Task
  Usage : Task

-- they are an accepted line of the mode `step`, one of the mode `soak`, or neither
abbrev pub Asks : List (List ℕ) → Task → Type 0
Asks words (Step workers) = workers_of words ≡ Some workers
Asks words (Soak job) = IsSoakLine words job
Asks words Usage = (workers_of words ≡ None) × ((job : Job) → IsSoakLine words job → ⊥)

-- words ask for one thing only
abbrev pub AskOnce : Type 0
AskOnce = (words : List (List ℕ)) (a b : Task) → Asks words a → Asks words b → a ≡ b

-- how a run ends that was asked for so
abbrev pub Ends : Task → Option (List ℕ) → Ending → (taken written : List ℕ) → Type 0
Ends (Step workers) source = RunEnds (RanAll workers) source
Ends (Soak job) source = SoakEnds job.seed job.txns
Ends Usage source = UsageEnds

-- The headline: what the words ask for, which is one thing only, and for that what was taken of the source and written
-- to the sink, the two counts, how the run ended and what caused it.
pub record Headline (words : List (List ℕ)) (source source_now : SourceView) (sink sink_now : SinkView) (outcome : Outcome) : Type 0 where
  pub task : Task
  pub asks : Asks words task
  pub ran : run.Headline (Ends task source.left) source source_now sink sink_now outcome

-- Where a run is asked for it comes to its end, or memory was wanting: that of a feed where the bytes begin with a whole
-- one whose redo has no fault, and neither count of faults rose; a realistic one where that of the sink did not rise.
abbrev pub ComesToItsEnd : Task → (source source_now : SourceView) (sink sink_now : SinkView) → Outcome → Type 0
ComesToItsEnd (Step workers) source source_now sink sink_now outcome = run.IsComplete source source_now sink sink_now outcome
ComesToItsEnd (Soak job) source source_now sink sink_now outcome = IsSoakComplete sink sink_now outcome
ComesToItsEnd Usage source source_now sink sink_now outcome = Unit {0}

abbrev pub IsComplete : (words : List (List ℕ)) (source source_now : SourceView) (sink sink_now : SinkView) → Outcome → Type 0
IsComplete words source source_now sink sink_now outcome =
    (task : Task) → Asks words task → ComesToItsEnd task source source_now sink sink_now outcome
