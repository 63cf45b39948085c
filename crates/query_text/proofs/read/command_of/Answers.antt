use Rattle.adg_base.specs.declared.command.Command.TheVariants as command
use Rattle.query_text.specs.declared.read.Verb.TheVariants.{Sync, ShowScn, Abort}
use Rattle.std.proofs.Common.{refl}
use Rattle.std.proofs.lemmas.Result.{err_from_is_err_and}
use Rattle.query_text.proofs.Commands.{verb_refused, query_refused, query_is, populate_refused, word_reads}
use Rattle.query_text.proofs.read.command_of.Goals as goal

pub returns-in_err-verb : goal.returns-in_err-verb
returns-in_err-verb c =
    let p = err_from_is_err_and c.from_residual.result c.from_residual.ensures.1 in
    rw (p.1, p.2) (verb_refused c.args.text.now c.in_err-verb.field-0.0 c.in_err-verb.ensures)

pub returns-in_err-select_of-in-Select : goal.returns-in_err-select_of-in-Select
returns-in_err-select_of-in-Select c =
    let p = err_from_is_err_and c.from_residual-in_err-select_of-in-Select.result c.from_residual-in_err-select_of-in-Select.ensures.1 in
    rw (p.1, p.2) (query_refused c.args.text.now c.in_ok-verb.rest.now c.in_err-select_of-in-Select.field-0.0 (rw c.in-Select.is at c.in_ok-verb.ensures) c.in_err-select_of-in-Select.ensures)

pub returns-in_ok-select_of-in-Select : goal.returns-in_ok-select_of-in-Select
returns-in_ok-select_of-in-Select c = query_is c.args.text.now c.in_ok-verb.rest.now c.in_ok-select_of-in-Select.field-0 (rw c.in-Select.is at c.in_ok-verb.ensures) c.in_ok-select_of-in-Select.ensures

pub returns-in-Err : goal.returns-in-Err
returns-in-Err c = populate_refused c.args.text.now c.in_ok-verb.rest.now c.in-Err.fault (rw c.in-Populate.is at c.in_ok-verb.ensures) c.in-Err.ensures

pub returns-in-Sync : goal.returns-in-Sync
returns-in-Sync c = word_reads Sync command.Sync c.args.text.now c.in_ok-verb.rest.now c.whole.result refl (rw c.in-Sync.is at c.in_ok-verb.ensures) c.whole.ensures

pub returns-in-ShowScn : goal.returns-in-ShowScn
returns-in-ShowScn c = word_reads ShowScn command.ShowScn c.args.text.now c.in_ok-verb.rest.now c.whole-in-ShowScn.result refl (rw c.in-ShowScn.is at c.in_ok-verb.ensures) c.whole-in-ShowScn.ensures

pub returns-in-Abort : goal.returns-in-Abort
returns-in-Abort c = word_reads Abort command.Abort c.args.text.now c.in_ok-verb.rest.now c.whole-in-Abort.result refl (rw c.in-Abort.is at c.in_ok-verb.ensures) c.whole-in-Abort.ensures
