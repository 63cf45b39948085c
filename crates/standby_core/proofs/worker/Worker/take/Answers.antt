use Rattle.std.proofs.Common.{◌≡◌, Some, rules}
use Rattle.std.proofs.lemmas.Result.{on_ok_weaker, on_err_weaker}
use Rattle.adg_model.specs.declared.mined.Mined.TheVariants as mined
use Rattle.standby_core.proofs.Taken.{took_begin, took_note, stays_area}
use Rattle.standby_core.proofs.worker.Worker.take.Goals as goal

pub returns-in-Some-Begin-clause-ok : goal.returns-in-Some-Begin-clause-ok
returns-in-Some-Begin-clause-ok c =
    let is : c.args.what.now ≡ Some (mined.Begin c.in-Some-Begin.txn) = search rules in
    on_ok_weaker c.begin.result (λ sets. took_begin c.args.scn c.args.pos c.args.what.now c.args.self.now c.args.ddl.now c.requires.area c.in-Some-Begin.txn c.begin.new.self is c.begin.ensures.area sets) c.begin.ensures.ok

pub returns-in-Some-Begin-clause-err : goal.returns-in-Some-Begin-clause-err
returns-in-Some-Begin-clause-err c =
    on_err_weaker c.begin.result (λ same. (stays_area c.args.scn c.args.pos c.args.what.now c.args.self.now c.args.ddl.now c.requires.area c.begin.new.self c.begin.ensures.area same, search rules)) c.begin.ensures.err

pub returns-in-Some-Note-clause-ok : goal.returns-in-Some-Note-clause-ok
returns-in-Some-Note-clause-ok c =
    let is : c.args.what.now ≡ Some (mined.Note c.in-Some-Note.txn c.in-Some-Note.addr) = search rules in
    on_ok_weaker c.note.result (λ sets. took_note c.args.scn c.args.pos c.args.what.now c.args.self.now c.args.ddl.now c.requires.area c.in-Some-Note.txn c.in-Some-Note.addr c.note.new.self is c.note.ensures.area sets) c.note.ensures.ok

pub returns-in-Some-Note-clause-err : goal.returns-in-Some-Note-clause-err
returns-in-Some-Note-clause-err c =
    on_err_weaker c.note.result (λ same. (stays_area c.args.scn c.args.pos c.args.what.now c.args.self.now c.args.ddl.now c.requires.area c.note.new.self c.note.ensures.area same, search rules)) c.note.ensures.err
