use Rattle.core_rules.proofs.ScanLaws.{finished_scans_have_meaning}
use Rattle.core_rules.proofs.laws.finished_scans_have_meaning.Goals as goal

pub returns : goal.returns
returns c = finished_scans_have_meaning
