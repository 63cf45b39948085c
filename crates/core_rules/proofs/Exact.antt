-- Every guard is exact.
use Rattle.core_rules.specs.declared.event.Event.TheVariants as event
use Rattle.core_rules.specs.declared.event.CoreAnswer.TheVariants.{Moved}
use Rattle.core_rules.specs.State.{CoreState}
use Rattle.core_rules.specs.Restarts.{restarted}
use Rattle.core_rules.specs.Laws.{IsExact, GuardsAreExact}
use Rattle.core_rules.proofs.ExactEvents.{apply_exact, mine_exact, raise_exact, begin_flush_exact, claim_exact, collect_exact, touch_exact, finish_exact, publish_exact}
use Rattle.core_rules.proofs.ExactSessions.{not_moved, populate_exact, register_exact, release_exact, read_exact, install_exact, scan_exact, gather_exact, scan_end_exact}
use Rattle.std.proofs.Common.{refl}

restart_exact : (c : CoreState) → IsExact c event.Restart
restart_exact c = record {
  possible = λ can. (Moved, restarted c, (refl, refl));
  guarded = λ answer new h. tt;
  ready = λ new h. not_moved h.0;
}

pub guards_are_exact : GuardsAreExact
guards_are_exact c (event.Apply worker) v = apply_exact c worker v
guards_are_exact c (event.Mine worker) v = mine_exact c worker v
guards_are_exact c (event.Raise worker through) v = raise_exact c worker through
guards_are_exact c (event.BeginFlush through) v = begin_flush_exact c through
guards_are_exact c (event.Claim actor) v = claim_exact c actor
guards_are_exact c (event.Collect actor) v = collect_exact c actor
guards_are_exact c (event.Touch actor) v = touch_exact c actor
guards_are_exact c (event.Done actor) v = finish_exact c actor
guards_are_exact c event.Publish v = publish_exact c
guards_are_exact c (event.PopBegin session obj) v = populate_exact c session obj v
guards_are_exact c (event.PopRegister session) v = register_exact c session
guards_are_exact c (event.PopRelease session) v = release_exact c session
guards_are_exact c (event.PopRead session) v = read_exact c session
guards_are_exact c (event.PopEnd session) v = install_exact c session
guards_are_exact c (event.ScanBegin session select) v = scan_exact c session select
guards_are_exact c (event.ScanExtent session) v = gather_exact c session
guards_are_exact c (event.ScanEnd session) v = scan_end_exact c session
guards_are_exact c event.Restart v = restart_exact c
