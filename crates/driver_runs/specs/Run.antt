-- What the run of a feed on the bench is.
use Rattle.std.specs.Prelude.{◌≡◌, ℕ, List, ◌++◌, Some}
use Rattle.feed_run.specs.Ending.{Ending, RunEnds, status_of}
use Rattle.core_standby.specs.Ran.{RanAll}
use Rattle.driver_runs.specs.declared.bench.Answer.{Answer}

-- A feed was run by one core of so many workers: some bytes of the feed were taken, and this is how the run ended and
-- what was written.
pub record HasRun (workers : ℕ) (feed : List ℕ) (answer : Answer) : Type 0 where
  pub taken : List ℕ
  pub left : List ℕ
  pub split : feed ≡ taken ++ left
  pub ending : Ending
  pub status : answer.status ≡ status_of ending
  pub ends : RunEnds (RanAll workers) (Some feed) ending taken answer.lines.items
