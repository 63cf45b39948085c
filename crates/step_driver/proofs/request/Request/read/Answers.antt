use Rattle.std.proofs.Common.{rules}
use Rattle.step_driver.proofs.request.Request.read.Goals as goal

pub returns-in-Err-BadQuery : goal.returns-in-Err-BadQuery
returns-in-Err-BadQuery c = c.read_command.ensures.bad c.in-Err-BadQuery.byte (search rules)
