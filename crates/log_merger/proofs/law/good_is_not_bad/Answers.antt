use Rattle.log_merger.proofs.Determined.{good_is_not_bad}
use Rattle.log_merger.proofs.law.good_is_not_bad.Goals as goal

pub returns : goal.returns
returns c = good_is_not_bad
