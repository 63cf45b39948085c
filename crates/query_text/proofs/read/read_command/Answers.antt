use Rattle.query_text.proofs.Commands.{only_one, is_the_one, shows_byte}
use Rattle.query_text.proofs.read.read_command.Goals as goal

pub returns-in-Ok-clause-one : goal.returns-in-Ok-clause-one
returns-in-Ok-clause-one c = only_one c.args.text.now c.in-Ok.command c.in-Ok.ensures

pub returns-in-Ok-clause-only : goal.returns-in-Ok-clause-only
returns-in-Ok-clause-only c = is_the_one c.args.text.now c.in-Ok.command c.in-Ok.ensures

pub returns-in-Err-Stopped-clause-bad : goal.returns-in-Err-Stopped-clause-bad
returns-in-Err-Stopped-clause-bad c = λ byte e. shows_byte c.args.text.now c.in-Err-Stopped.left byte (rw c.in-Err-Stopped.field-0-is at c.in-Err-Stopped.ensures) e
