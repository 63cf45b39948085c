use Rattle.adg_model.proofs.TranscriptLaws.{scns_do_not_fall}
use Rattle.adg_model.proofs.laws.scns_do_not_fall.Goals as goal

pub returns : goal.returns
returns c = scns_do_not_fall
