use Rattle.std.proofs.Common.{sym, subst}
use Rattle.adg_journal.specs.Places.{EachOnce}
use Rattle.adg_journal.proofs.Once.{none_once}
use Rattle.adg_journal.proofs.places.Places.new.Goals as goal

pub invariant_of-result : goal.invariant_of-result
invariant_of-result c = (subst EachOnce (sym c.new.ensures.items) none_once, tt)
