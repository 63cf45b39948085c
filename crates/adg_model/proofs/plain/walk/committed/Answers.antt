use Rattle.std.proofs.Common.{List, sym, ap, ◌∙◌}
use Rattle.adg_model.specs.Database.{Change, Database, played}
use Rattle.adg_model.specs.Plain.{no_rows}
use Rattle.adg_model.proofs.PlainWalk.{database_nil, database_more}
use Rattle.adg_model.proofs.plain.walk.committed.Goals as goal

pub loop-index-init : goal.loop-index-init
loop-index-init c = ap (λ (cs : List Change). played cs no_rows) c.new-changes.ensures.items ∙ ap (λ (db : Database). db.rows) (sym database_nil)

pub loop-index-preserved : goal.loop-index-preserved
loop-index-preserved c =
    c.in_ok-commit.ensures c.loop-index.invariant
    ∙ ap (λ (db : Database). db.rows) (sym (database_more c.args.entries.now c.loop-index.index c.index-entries-index.result c.loop-index-test.true c.index-entries-index.is))
