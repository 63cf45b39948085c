use Rattle.storage_tests.proofs.Slots.{no_rows}
use Rattle.storage_tests.proofs.builds.rows_of.Goals as goal

pub returns-else-full-clause-places : goal.returns-else-full-clause-places
returns-else-full-clause-places c = no_rows c.args.obj c.args.block c.new.result c.new.ensures
