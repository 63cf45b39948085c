use Rattle.turn_rules.proofs.Kept.{picked_events_are_ready}
use Rattle.turn_rules.proofs.laws.picked_events_are_ready.Goals as goal

pub returns : goal.returns
returns c = picked_events_are_ready
