use Rattle.std.proofs.Common.{List, ◌++◌, sym, ap, ◌∙◌}
use Rattle.adg_base.specs.declared.vector.Vector.{Vector}
use Rattle.adg_model.specs.Database.{Change, Database, after, database, played}
use Rattle.adg_model.specs.Plain.{no_rows}
use Rattle.adg_model.proofs.PlainWalk.{played_append}
use Rattle.adg_model.proofs.plain.walk.commit.Goals as goal

pub returns-in_ok-append-in-Commit : goal.returns-in_ok-append-in-Commit
returns-in_ok-append-in-Commit c = λ was.
    let db : Database = database c.args.before.now in
    let changes : List Change = c.args.changes.now.items in
    let latest : List Change = db.pending c.in-Commit.txn in
    ap (λ (cs : List Change). played cs no_rows) (c.in_ok-append-in-Commit.ensures.items ∙ ap (λ (cs : List Change). cs ++ changes) c.in_ok-latest-in-Commit.ensures)
    ∙ played_append latest changes no_rows
    ∙ ap (played latest) was
    ∙ ap (λ (v : Vector). (after db v).rows) (sym c.in-Commit.is)
