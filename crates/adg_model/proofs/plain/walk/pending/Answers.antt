use Rattle.std.proofs.Common.{sym, ap, ◌∙◌, take}
use Rattle.adg_model.specs.Database.{Database, database}
use Rattle.adg_model.proofs.PlainWalk.{database_nil, database_more}
use Rattle.adg_model.proofs.plain.walk.pending.Goals as goal

pub loop-entry-init : goal.loop-entry-init
loop-entry-init c = ap (λ (db : Database). db.pending c.args.txn) database_nil ∙ sym c.new-changes.ensures.items

pub loop-entry-preserved : goal.loop-entry-preserved
loop-entry-preserved c =
    ap (λ (db : Database). db.pending c.args.txn) (database_more c.args.entries.now c.loop-entry.entry-index c.entry-item.result c.loop-entry-test.true c.entry-item.is)
    ∙ c.in_ok-follow.ensures (database (take c.loop-entry.entry-index c.args.entries.now)) c.loop-entry.invariant
