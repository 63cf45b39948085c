use Rattle.adg_model.specs.Command.{IsColumn}
use Rattle.query_text.proofs.Numbers.{end_stops, alone_refused, column_small}
use Rattle.query_text.proofs.tail.group_of.Goals as goal

pub returns-in-Ok : goal.returns-in-Ok
returns-in-Ok c = end_stops IsColumn column_small c.args.bytes.now c.in-Ok.rest.now c.in-Ok.field-0-0 c.in-Ok.ensures c.in-Ok.len_at_least

pub returns-in-Err : goal.returns-in-Err
returns-in-Err c = alone_refused IsColumn c.args.bytes.now c.in-Err.fault c.in-Err.ensures
