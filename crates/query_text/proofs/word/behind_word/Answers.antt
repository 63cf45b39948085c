use Rattle.query_text.proofs.Words.{strip_is, stops_word}
use Rattle.query_text.proofs.word.behind_word.Goals as goal

pub returns-in-Ok : goal.returns-in-Ok
returns-in-Ok c = strip_is c.args.word.now c.args.bytes.now c.in-Ok.rest.now c.in-Ok.ensures

pub returns-in-Err : goal.returns-in-Err
returns-in-Err c = stops_word c.args.word.now c.args.bytes.now c.in-Err.left c.in-Err.ensures
