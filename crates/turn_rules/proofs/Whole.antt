-- All laws of the turn rule, together.
use Rattle.turn_rules.specs.Laws.{TurnsComeToAnEnd, RoundsEnd, LinesAreLegal, UseIsMet, UnitsAreStated, DeliveriesKeepPromises, DeliveriesTellOn}
use Rattle.turn_rules.proofs.Viewed.{turns_are_these}
use Rattle.turn_rules.proofs.Kept.{rounds_begin, turns_keep_rounds, rounds_are_runs}
use Rattle.turn_rules.proofs.Falls.{acts_lower_measure}
use Rattle.turn_rules.proofs.Waits.{nobody_waits}
use Rattle.turn_rules.proofs.Ended as ended
use Rattle.turn_rules.proofs.LegalLines as legal
use Rattle.turn_rules.proofs.UnitsLeft.{crew_leaves_units}
use Rattle.turn_rules.proofs.Building.{building_goes_on, building_ends}
use Rattle.turn_rules.proofs.GatherUse.{scans_gather}
use Rattle.turn_rules.proofs.Use.{TurnsKeepUse}
use Rattle.turn_rules.proofs.UseTurns as turns
use Rattle.turn_rules.proofs.UseEnd as end
use Rattle.turn_rules.proofs.Joined as joined
use Rattle.turn_rules.proofs.ToldOn as told

pub turns_come_to_an_end : TurnsComeToAnEnd
turns_come_to_an_end = ended.turns_come_to_an_end nobody_waits acts_lower_measure

pub rounds_end : RoundsEnd
rounds_end = ended.rounds_end turns_keep_rounds turns_come_to_an_end

pub lines_are_legal : LinesAreLegal
lines_are_legal = legal.lines_are_legal turns_are_these turns_keep_rounds rounds_begin

pub turns_keep_use : TurnsKeepUse
turns_keep_use = turns.turns_keep_use turns_are_these crew_leaves_units building_goes_on building_ends scans_gather

pub use_is_met : UseIsMet
use_is_met = end.use_is_met turns_are_these turns_keep_rounds rounds_begin turns_keep_use

pub units_are_stated : UnitsAreStated
units_are_stated = end.units_are_stated turns_are_these turns_keep_rounds rounds_begin turns_keep_use

pub deliveries_keep_promises : DeliveriesKeepPromises
deliveries_keep_promises = joined.deliveries_keep_promises turns_are_these turns_keep_rounds rounds_begin rounds_are_runs lines_are_legal use_is_met units_are_stated

pub deliveries_tell_on : DeliveriesTellOn
deliveries_tell_on = told.deliveries_tell_on turns_are_these turns_keep_rounds rounds_begin deliveries_keep_promises
