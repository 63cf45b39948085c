use Rattle.std.proofs.Common.{◌≡◌, take, filter}
use Rattle.adg_model.specs.Log.{greatest, is_open, scns_of}
use Rattle.log_merger.specs.Merge.{marks_of}
use Rattle.log_merger.proofs.Frontiers.{IsLeast}
use Rattle.log_merger.proofs.merge.frontier.Given as goal

abbrev pub invariant-loop-thread : goal.invariant-loop-thread
invariant-loop-thread l = record {
  top : l.greatest ≡ greatest (scns_of (marks_of (take l.thread-index l.threads)));
  low : IsLeast l.least (scns_of (filter is_open (marks_of (take l.thread-index l.threads))));
}
