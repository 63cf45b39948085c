-- All that is proved of each event, together.
use Rattle.core_rules.specs.LogFacts.{LogHasFacts}
use Rattle.core_rules.specs.Laws.{StepsKeepInvariant, StepsKeepPrecision, ReceivingKeepsInvariant, ReceivingKeepsPrecision, RunsMeetInvariant, GuardsAreExact, FlushEnds, FlushBeforePublish, RepliesHaveMeaning, NextClosesShard, NextMinedIsOpen}
use Rattle.core_rules.proofs.Keeps.{Keeps, KeepsPrecise}
use Rattle.core_rules.proofs.Facts as facts
use Rattle.core_rules.proofs.FactsTables.{same_table, extents}
use Rattle.core_rules.proofs.FactsFlags.{noted, flagged}
use Rattle.core_rules.proofs.Items.{changes_commit, coarses_commit, ends_have_items, commits_have_items, redefinitions_have_items}
use Rattle.core_rules.proofs.Applied.{apply_keeps, apply_precise, raise_keeps, raise_precise}
use Rattle.core_rules.proofs.MinedEntry.{mine_keeps, mine_precise}
use Rattle.core_rules.proofs.Restarted.{restart_keeps, restart_precise}
use Rattle.core_rules.proofs.BegunFlush as begun
use Rattle.core_rules.proofs.Claimed as claimed
use Rattle.core_rules.proofs.Collecting as collecting
use Rattle.core_rules.proofs.Published as published
use Rattle.core_rules.proofs.UnitsPassed.{begin_flush_units, claim_units, collect_units, finish_units}
use Rattle.core_rules.proofs.UnitsTouched.{touch_units}
use Rattle.core_rules.proofs.UnitsPublished.{publish_units}
use Rattle.core_rules.proofs.PreciseMarks.{begin_flush_precise, claim_precise, collect_precise, touch_precise, finish_precise, publish_precise}
use Rattle.core_rules.proofs.Populated.{populate_keeps, register_keeps, release_keeps, read_keeps, populate_precise, register_precise, release_precise, read_precise}
use Rattle.core_rules.proofs.Installed.{install_keeps, install_precise}
use Rattle.core_rules.proofs.Gathered.{scan_begin_keeps, gather_keeps, scan_end_keeps, scan_begin_precise, gather_precise, scan_end_precise}
use Rattle.core_rules.proofs.Received.{receive_keeps, receive_precise}
use Rattle.core_rules.proofs.Joined.{EventsKeep, steps_keep, steps_keep_precise, runs_meet}
use Rattle.core_rules.proofs.Ending as ending
use Rattle.core_rules.proofs.FlushLaw as law
use Rattle.core_rules.proofs.Exact as exact
use Rattle.core_rules.proofs.CodeLaws as code
use Rattle.core_rules.proofs.Replied as replied

pub log_has_facts : LogHasFacts
log_has_facts = facts.log_has_facts noted flagged same_table extents

pub events_keep : EventsKeep Keeps
events_keep = record {
  apply = apply_keeps;
  mine = mine_keeps;
  raise = raise_keeps;
  begin_flush = λ through. begun.begin_flush_keeps through (begin_flush_units through);
  claim = λ actor. claimed.claim_keeps actor (claim_units actor);
  collect = λ actor. collecting.collect_keeps actor (collect_units actor);
  touch = λ actor. claimed.touch_keeps actor (touch_units commits_have_items actor);
  finish = λ actor. claimed.finish_keeps actor (finish_units actor);
  publish = published.publish_keeps (publish_units ends_have_items redefinitions_have_items);
  populate = populate_keeps;
  register = register_keeps;
  release = release_keeps;
  read = read_keeps;
  install = install_keeps;
  scan_begin = scan_begin_keeps;
  gather = gather_keeps;
  scan_end = scan_end_keeps;
  restart = restart_keeps;
}

pub events_precise : EventsKeep KeepsPrecise
events_precise = record {
  apply = apply_precise;
  mine = mine_precise;
  raise = raise_precise;
  begin_flush = begin_flush_precise;
  claim = claim_precise;
  collect = collect_precise;
  touch = touch_precise changes_commit coarses_commit;
  finish = finish_precise;
  publish = publish_precise;
  populate = populate_precise;
  register = register_precise;
  release = release_precise;
  read = read_precise;
  install = install_precise;
  scan_begin = scan_begin_precise;
  gather = gather_precise;
  scan_end = scan_end_precise;
  restart = restart_precise;
}

pub steps_keep_invariant : StepsKeepInvariant
steps_keep_invariant = steps_keep log_has_facts events_keep

pub steps_keep_precision : StepsKeepPrecision
steps_keep_precision = steps_keep_precise log_has_facts events_precise

pub receiving_keeps_invariant : ReceivingKeepsInvariant
receiving_keeps_invariant c entries frontier new = receive_keeps entries frontier log_has_facts c new

pub receiving_keeps_precision : ReceivingKeepsPrecision
receiving_keeps_precision c entries frontier new = receive_precise entries frontier log_has_facts c new

pub runs_meet_invariant : RunsMeetInvariant
runs_meet_invariant = runs_meet steps_keep_invariant steps_keep_precision receiving_keeps_invariant receiving_keeps_precision

pub guards_are_exact : GuardsAreExact
guards_are_exact = exact.guards_are_exact

pub flush_ends : FlushEnds
flush_ends = ending.flush_ends log_has_facts (record { claim = events_keep.claim; collect = events_keep.collect; touch = events_keep.touch; finish = events_keep.finish }) guards_are_exact

pub flush_before_publish : FlushBeforePublish
flush_before_publish = law.flush_before_publish events_keep.publish log_has_facts

pub replies_have_meaning : RepliesHaveMeaning
replies_have_meaning = replied.replies_have_meaning log_has_facts

pub next_closes_shard : NextClosesShard
next_closes_shard = code.next_closes_shard log_has_facts

pub next_mined_is_open : NextMinedIsOpen
next_mined_is_open = code.next_mined_is_open log_has_facts
