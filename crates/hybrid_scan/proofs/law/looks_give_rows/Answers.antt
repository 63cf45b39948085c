use Rattle.hybrid_scan.proofs.Seen.{looks_give_rows}
use Rattle.hybrid_scan.proofs.law.looks_give_rows.Goals as goal

pub returns : goal.returns
returns c = looks_give_rows
