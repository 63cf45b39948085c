-- The number of each status of a run.
use Rattle.std.specs.Prelude.{ℕ}
use Rattle.feed_run.specs.declared.outcome.Status.{Status}
use Rattle.feed_run.specs.declared.outcome.Status.TheVariants.{FeedRead, WordsRefused, FeedRefused, RedoRefused, SourceFailed, SinkFailed, NoMemory}

abbrev pub code_of : Status → ℕ
code_of FeedRead = 0
code_of WordsRefused = 1
code_of FeedRefused = 2
code_of RedoRefused = 3
code_of SourceFailed = 4
code_of SinkFailed = 5
code_of NoMemory = 6
