use Rattle.std.proofs.Common.{ap, ◌∙◌, take}
use Rattle.adg_model.specs.Database.{Database, database}
use Rattle.adg_model.proofs.PlainWalk.{database_nil, database_more}
use Rattle.adg_model.proofs.plain.walk.table.Goals as goal

pub loop-entry-init : goal.loop-entry-init
loop-entry-init c = ap (λ (db : Database). db.tables c.args.obj) database_nil

pub loop-entry-preserved : goal.loop-entry-preserved
loop-entry-preserved c =
    ap (λ (db : Database). db.tables c.args.obj) (database_more c.args.entries.now c.loop-entry.entry-index c.entry-item.result c.loop-entry-test.true c.entry-item.is)
    ∙ c.in_ok-define.ensures (database (take c.loop-entry.entry-index c.args.entries.now)) c.loop-entry.invariant
