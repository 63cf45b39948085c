-- All that a delivery promises, joined.
use Rattle.std.proofs.Common.{◌≡◌, ◌++◌, length, refl, sym, ap, ◌∙◌, subst}
use Rattle.std.specs.List.{AllByRecursion}
use Rattle.adg_base.specs.declared.answer.Lines.{Lines}
use Rattle.core_rules.specs.State.{CoreState, Session, Free}
use Rattle.core_rules.specs.Runs.{Leads}
use Rattle.core_rules.specs.Invariant.{Invariant, Precise}
use Rattle.turn_rules.specs.Round.{opening_round}
use Rattle.turn_rules.specs.Turns.{moves_of}
use Rattle.turn_rules.specs.Standing.{RoundIs}
use Rattle.turn_rules.specs.Laws.{IsRun, RoundsBegin, TurnsKeepRounds, RoundsAreRuns, LinesAreLegal, UseIsMet, UnitsAreStated, DeliveriesKeepPromises}
use Rattle.turn_rules.proofs.View.{TurnsAreThese}
use Rattle.turn_rules.proofs.Over.{over_is, all_free, plays_keep}
use Rattle.turn_rules.proofs.Ended.{as_many}
use Rattle.turn_rules.proofs.LegalLines.{last_of, received_is}

pub deliveries_keep_promises : TurnsAreThese → TurnsKeepRounds → RoundsBegin → RoundsAreRuns → LinesAreLegal → UseIsMet → UnitsAreStated → DeliveriesKeepPromises
deliveries_keep_promises these keep begin runs legal met stated c d turns new lines ready x = record {
  leads = (x.received, x.receives, subst (Leads x.received (moves_of turns)) (sym x.core) run.leads);
  taken = run.taken;
  invariant = subst Invariant (sym x.core) run.stands.core;
  precise = subst Precise (sym x.core) run.stands.precise;
  log = ap (λ (y : CoreState). y.log) x.core ∙ received.1;
  frontier = ap (λ (y : CoreState). y.frontier) x.core ∙ received.0;
  workers = ap (λ (y : CoreState). length y.workers) x.core ∙ workers ∙ ap (λ (y : CoreState). length y.workers) x.receives.effect;
  sessions = ap (λ (y : CoreState). length y.sessions) x.core ∙ sym run.stands.seated ∙ (last_of these keep begin c d turns new lines ready x).count;
  legal = legal c d turns new lines ready x;
  columns = met c d turns new lines ready x;
  end = ap (λ (l : Lines). l.end) x.says ∙ sym (ap (λ (y : CoreState). y.query) x.core);
  free = subst (λ (y : CoreState). AllByRecursion (λ (s : Session). s ≡ Free) y.sessions) (sym x.core) (all_free x.last run.stands (over_is x.last x.over));
  after = stated c d turns new lines ready x;
}
  where
    begins : RoundIs (opening_round x.received x.seats)
    begins = begin c d x.received x.seats ready x.receives x.read

    run : IsRun (opening_round x.received x.seats) turns x.last
    run = runs d.schedule (opening_round x.received x.seats) turns x.last begins x.plays

    received : (x.last.core.frontier ≡ d.frontier) × (x.last.core.log ≡ c.log ++ d.entries)
    received = received_is these keep begin c d turns new lines ready x

    workers : length x.last.core.workers ≡ length x.received.workers
    workers = plays_keep (λ r. length r.core.workers ≡ length x.received.workers) d.schedule keep
        (λ r move next is is' t h. (as_many d.schedule r move next is t).workers ∙ h) (opening_round x.received x.seats) turns x.last begins x.plays refl
