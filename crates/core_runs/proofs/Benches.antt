-- What the calls of a bench make of it.
use Rattle.std.proofs.Common.{◌≡◌, ℕ, ◌+◌, ◌≤◌, List, [], ◌∷◌, ◌++◌, length, append-nil, None, Result, Ok, Err, IfOk, OnErr, inl, refl, sym, ap, subst, ◌∙◌, arith}
use Rattle.adg_base.specs.declared.log.LogEntry.{LogEntry}
use Rattle.adg_base.specs.declared.memory.Memory.{Memory}
use Rattle.adg_base.specs.declared.vector.RedoRecord.{RedoRecord}
use Rattle.adg_model.specs.declared.delivery.RawDelivery.{RawDelivery}
use Rattle.adg_model.specs.declared.delivery.CheckedDelivery.{CheckedDelivery}
use Rattle.adg_model.specs.Log.{frontier, merged_log, ReceivedFrom}
use Rattle.adg_model.specs.Records.{first_mark, record_fault, HasRecords}
use Rattle.adg_model.specs.Sound.{IsContinuation}
use Rattle.adg_model.proofs.DeliveryLaws.{records_are_determined}
use Rattle.dictionary.specs.Standing.{Known, StandsFor}
use Rattle.log_merger.specs.Merger.{highest_number}
use Rattle.redo_intake.specs.Intake.{Taking, HasTaken, Checks, bytes_of}
use Rattle.redo_intake.proofs.NothingLaws.{nothing-logged}
use Rattle.core_rules.specs.declared.event.Event.{Event}
use Rattle.core_rules.specs.declared.event.CoreAnswer.{CoreAnswer}
use Rattle.core_rules.specs.Invariant.{Invariant, Precise}
use Rattle.core_rules.specs.State.{CoreState, opening}
use Rattle.standby_core.specs.declared.standby.Core.{Core}
use Rattle.standby_core.specs.Received.{CanReceive, HasReceived}
use Rattle.standby_core.specs.Shows.{Shows, IsState}
use Rattle.standby_core.specs.Steps.{Keeps}
use Rattle.core_runs.specs.declared.bench.Bench.{Bench}
use Rattle.core_runs.specs.InStep.{IsInStep, HasDelivered, HasAsked, delivery_of}
use Rattle.core_runs.proofs.Kept.{HasSameLog, step_keeps_log}

no_fault : record_fault first_mark [] ≡ None
unfolding record_fault
no_fault = refl

no_records : HasRecords [] []
no_records = record { rest = []; raws = record { spelled = refl; follow = tt; part = inl (omega arith); good = no_fault }; vectors = tt }

silent : ReceivedFrom 1 [] ([] ∷ [])
silent = (no_records, tt)

silent_frontier : frontier ([] ∷ []) ≡ 0
unfolding frontier
silent_frontier = refl

-- before the first delivery the frontier is 0
nothing_frontier : (t : Taking) (taken : HasTaken t 1 []) → frontier taken.records ≡ 0
nothing_frontier t taken = ap (λ (r : List (List RedoRecord)). frontier r) (records_are_determined [] taken.records ([] ∷ []) taken.all taken.received silent) ∙ silent_frontier

-- a new bench is in step
pub begun : (bench : Bench) (workers sessions : ℕ) → HasTaken bench.intake 1 [] → highest_number bench.intake.merger ≤ 1 → bench.delivered ≡ 0
    → Shows bench.core (opening workers sessions) → Invariant (opening workers sessions) → Precise (opening workers sessions) → IsInStep bench
begun bench workers sessions taken numbers none shows invariant precise = record {
  deliveries = [];
  taken = taken;
  state = opening workers sessions;
  is = record { shows = shows; invariant = invariant };
  precise = precise;
  log = sym (nothing-logged bench.intake 1 taken);
  frontier = sym (nothing_frontier bench.intake taken);
  numbers = omega (arith, numbers, none);
}

-- the dictionary of a bench is that of the log of its core
known : (bench : Bench) (is : IsInStep bench) (d : Known) → d ≡ bench.intake.dictionary → StandsFor d is.state.log
known bench is d same = subst (λ (k : Known). StandsFor k is.state.log) (sym same) (subst (StandsFor bench.intake.dictionary) (sym is.log) is.taken.known)

-- a bench is still in step where its core shows another state with the log and the frontier
with_state : (bench : Bench) (is : IsInStep bench) (core : Core) (c : CoreState) → IsState core c → Precise c → HasSameLog is.state c → IsInStep (record bench { core = core })
with_state bench is core c shown precise same = record {
  deliveries = is.deliveries;
  taken = is.taken;
  state = c;
  is = shown;
  precise = precise;
  log = same.log ∙ is.log;
  frontier = same.frontier ∙ is.frontier;
  numbers = is.numbers;
}

-- an event was asked
asked : (bench : Bench) (is : IsInStep bench) (core : Core) (e : Event) (answer : CoreAnswer) → Keeps core is.state e answer → HasAsked is (record bench { core = core }) e answer
unfolding with_state
asked bench is core e answer keeps = record {
  after = with_state bench is core keeps.next keeps.is (keeps.precise is.precise) (step_keeps_log is.state e answer keeps.next keeps.steps);
  same = refl;
  steps = keeps.steps;
}

-- memory was wanting, and the core shows the same state
stays : (bench : Bench) (is : IsInStep bench) (core : Core) → IsState core is.state → IsInStep (record bench { core = core })
stays bench is core shown = with_state bench is core is.state shown is.precise (record { log = refl; frontier = refl })

-- the answer of an event, with the effect of the rules, whatever log the bench stands for
pub answers : (bench : Bench) (core : Core) (e : Event) (d : Known) → d ≡ bench.intake.dictionary → (result : Result CoreAnswer Memory)
    → IfOk result (λ answer. (c : CoreState) → IsState bench.core c → StandsFor d c.log → Keeps core c e answer)
    → IfOk result (λ answer. (before : IsInStep bench) → HasAsked before (record bench { core = core }) e answer)
answers bench core e d same (Ok answer) steps = λ before. asked bench before core e answer (steps before.state before.is (known bench before d same))
answers bench core e d same (Err memory) steps = tt

-- whatever it is, the bench is still in step
pub answered : (bench : Bench) (is : IsInStep bench) (core : Core) (e : Event) (d : Known) → d ≡ bench.intake.dictionary → (result : Result CoreAnswer Memory)
    → IfOk result (λ answer. (c : CoreState) → IsState bench.core c → StandsFor d c.log → Keeps core c e answer)
    → OnErr result ((c : CoreState) → IsState bench.core c → IsState core c) → IsInStep (record bench { core = core })
answered bench is core e d same (Ok answer) steps err = (asked bench is core e answer (steps is.state is.is (known bench is d same))).after
answered bench is core e d same (Err memory) steps err = stays bench is core (err is.state is.is)

-- the bytes of a delivery
pub bytes_delivered : (redo : List ℕ) → length (bytes_of (delivery_of redo).pieces) ≡ length redo
bytes_delivered redo = ap (λ (l : List ℕ). length l) (append-nil redo)

-- what the intake has checked continues the log of the core
pub continues : (bench : Bench) (is : IsInStep bench) (intake : Taking) (redo : List ℕ) (checked : CheckedDelivery) → Checks is.taken intake (delivery_of redo) checked
    → IsContinuation is.state.log is.state.frontier checked.entries checked.frontier
continues bench is intake redo checked checks =
    subst (λ (log : List LogEntry). IsContinuation log is.state.frontier checked.entries checked.frontier) (sym is.log)
    (subst (λ (f : ℕ). IsContinuation (merged_log is.taken.records) f checked.entries checked.frontier) (sym is.frontier)
    (subst (λ (f : ℕ). IsContinuation (merged_log is.taken.records) (frontier is.taken.records) checked.entries f) (sym checks.frontier_is) checks.continues))

-- so the core can receive it
pub can_receive : (bench : Bench) (is : IsInStep bench) (intake : Taking) (redo : List ℕ) (checked : CheckedDelivery) → Checks is.taken intake (delivery_of redo) checked
    → CanReceive bench.core checked.entries checked.frontier
can_receive bench is intake redo checked checks = record { state = is.state; is = is.is; continues = continues bench is intake redo checked checks }

-- a delivery was taken and received
pub received : (bench : Bench) (is : IsInStep bench) (intake : Taking) (core : Core) (delivered : ℕ) (redo : List ℕ) (checked : CheckedDelivery) → Checks is.taken intake (delivery_of redo) checked
    → HasReceived core is.state checked.entries checked.frontier → highest_number intake.merger ≤ delivered + 1
    → HasDelivered is (record bench { intake = intake; core = core; delivered = delivered }) redo
received bench is intake core delivered redo checked checks has numbers = record {
  after = record {
    deliveries = is.deliveries ++ delivery_of redo ∷ [];
    taken = checks.taken;
    state = has.next;
    is = has.is;
    precise = has.precise is.precise;
    log = ap (λ (s : CoreState). s.log) has.receives.effect ∙ ap (λ (l : List LogEntry). l ++ checked.entries) is.log ∙ sym checks.log;
    frontier = ap (λ (s : CoreState). s.frontier) has.receives.effect ∙ checks.frontier_is;
    numbers = numbers;
  };
  taken = refl;
  received =
      let P : CoreState → Type 0 = λ s. s ≡ record is.state { log = s.log; frontier = s.frontier } in
      subst P (sym has.receives.effect) refl;
}
