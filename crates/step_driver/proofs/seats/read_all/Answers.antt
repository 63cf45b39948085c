use Rattle.std.proofs.Common.{◌<◌, ◌≤◌, List, length, take, Some, sym, ap, ◌∙◌, subst}
use Rattle.std.proofs.lemmas.List.{take_all}
use Rattle.adg_base.specs.declared.command.CommandText.{CommandText}
use Rattle.std.proofs.lemmas.Option.{slice_get-get_or}
use Rattle.core_rules.specs.State.{At}
use Rattle.core_rules.proofs.Lists.{take_next}
use Rattle.step_driver.specs.Seating.{AreRead}
use Rattle.step_driver.proofs.seats.read_all.Goals as goal

pub loop-command-preserved : goal.loop-command-preserved
loop-command-preserved c =
    let commands = c.args.commands.now in
    let i = c.loop-command.command-index in
    let command = c.command-item.result in
    let within : i < length commands = c.loop-command-test.true in
    let at : At commands i command = slice_get-get_or commands i command within ∙ ap Some (sym c.command-item.is) in
    let taken = c.in_ok-take_text.ensures in
    record {
      count = taken.count ∙ c.loop-command.invariant.count;
      read = subst (λ (ts : List CommandText). AreRead ts c.take_text.new.seats.items) (sym (take_next commands i command at)) (taken.read (take i commands) c.loop-command.invariant.read);
    }

pub returns-clause-read : goal.returns-clause-read
returns-clause-read c =
    let commands = c.args.commands.now in
    let i = c.loop-command.command-index in
    let over : length commands ≤ i = c.loop-command-test.false in
    subst (λ (ts : List CommandText). AreRead ts c.loop-command.seats.items) (take_all i commands over) c.loop-command.invariant.read
