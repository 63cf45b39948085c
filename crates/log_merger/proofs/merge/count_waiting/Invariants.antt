use Rattle.std.proofs.Common.{◌≡◌, take}
use Rattle.log_merger.specs.Merge.{count_all}
use Rattle.log_merger.proofs.merge.count_waiting.Given as goal

abbrev pub invariant-loop-thread : goal.invariant-loop-thread
invariant-loop-thread l = l.count ≡ count_all l.through (take l.thread-index l.threads)
