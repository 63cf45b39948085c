use Rattle.standby_core.proofs.Laws as laws
use Rattle.standby_core.proofs.law.flush_before_publish.Goals as goal

pub returns : goal.returns
returns c = laws.flush_before_publish
