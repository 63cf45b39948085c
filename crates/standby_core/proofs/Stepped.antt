-- What a step leads to meets the invariant, and its marks are precise if they were.
use Rattle.std.proofs.Common.{◌≡◌, Result, sym, subst, ◌∙◌, ◌⊎◌, inl, inr}
use Rattle.std.specs.Prelude.{IfOk}
use Rattle.std.proofs.lemmas.Result.{IfOk-weaker}
use Rattle.adg_base.specs.declared.memory.Memory.{Memory}
use Rattle.dictionary.specs.Standing.{Known, StandsFor}
use Rattle.core_rules.specs.declared.event.Event.{Event}
use Rattle.core_rules.specs.declared.event.CoreAnswer.{CoreAnswer}
use Rattle.adg_base.specs.declared.answer.Reply.{Reply}
use Rattle.core_rules.specs.declared.event.CoreAnswer.TheVariants.{NotReady, Moved, Said}
use Rattle.core_rules.specs.State.{CoreState}
use Rattle.core_rules.specs.Step.{Steps}
use Rattle.core_rules.proofs.Whole.{steps_keep_invariant, steps_keep_precision}
use Rattle.standby_core.specs.declared.standby.Core.{Core}
use Rattle.standby_core.specs.Shows.{Shows, IsState, HasStepped}
use Rattle.standby_core.specs.declared.crew.CrewEvent.{CrewEvent}
use Rattle.standby_core.specs.declared.crew.CrewEvent.TheVariants as crew
use Rattle.standby_core.specs.Steps.{Keeps}
use Rattle.standby_core.specs.Crew.{event_of}

pub step_keeps : (core : Core) (c : CoreState) (e : Event) (answer : CoreAnswer) (new : Core) → IsState core c → HasStepped new c e answer → Keeps new c e answer
step_keeps core c e answer new h s = record {
  next = s.next;
  steps = s.steps;
  is = record { shows = s.shows; invariant = steps_keep_invariant c e answer s.next s.steps h.invariant };
  precise = steps_keep_precision c e answer s.next s.steps h.invariant;
}

-- where nothing changed the same state is shown
pub state_kept : (core : Core) (c : CoreState) (new : Core) → IsState core c → (IsState core c → Shows new c) → IsState new c
state_kept core c new h s = record { shows = s h; invariant = h.invariant }

-- an event that asks the dictionary
pub asked : (core new : Core) (known : Known) (e : Event) {e' : Event} (r : Result CoreAnswer Memory) → e ≡ e'
    → IfOk r (λ answer. (c : CoreState) → IsState core c → StandsFor known c.log → HasStepped new c e' answer)
    → IfOk r (λ answer. (c : CoreState) → IsState core c → StandsFor known c.log → Keeps new c e answer)
asked core new known e {e'} r is happens =
    subst (λ (v : Event). IfOk r (λ answer. (c : CoreState) → IsState core c → StandsFor known c.log → Keeps new c v answer)) (sym is)
    (IfOk-weaker r (λ answer. (c : CoreState) → IsState core c → StandsFor known c.log → HasStepped new c e' answer) (λ answer. (c : CoreState) → IsState core c → StandsFor known c.log → Keeps new c e' answer)
    (λ answer f c h k. step_keeps core c e' answer new h (f c h k)) happens)

-- an event that asks no dictionary
pub unasked : (core new : Core) (known : Known) (e : Event) {e' : Event} (r : Result CoreAnswer Memory) → e ≡ e'
    → IfOk r (λ answer. (c : CoreState) → IsState core c → HasStepped new c e' answer)
    → IfOk r (λ answer. (c : CoreState) → IsState core c → StandsFor known c.log → Keeps new c e answer)
unasked core new known e {e'} r is happens = asked core new known e {e' = e'} r is
    (IfOk-weaker r (λ answer. (c : CoreState) → IsState core c → HasStepped new c e' answer) (λ answer. (c : CoreState) → IsState core c → StandsFor known c.log → HasStepped new c e' answer)
    (λ answer f c h k. f c h) happens)

-- an event that asks no dictionary and takes no memory
pub answered : (core new : Core) (known : Known) (e : Event) {e' : Event} (answer : CoreAnswer) → e ≡ e'
    → ((c : CoreState) → IsState core c → HasStepped new c e' answer)
    → (c : CoreState) → IsState core c → StandsFor known c.log → Keeps new c e answer
answered core new known e {e'} answer is happens c h k = subst (λ (v : Event). Keeps new c v answer) (sym is) (step_keeps core c e' answer new h (happens c h))

-- what an event of the coordinator or of a worker makes, by its own name
abbrev pub KeepsCrew : Core → Core → Known → CrewEvent → CoreAnswer → Type 0
KeepsCrew core new known k answer = (c : CoreState) → IsState core c → StandsFor known c.log → Keeps new c (event_of k) answer

pub of_crew : (core new : Core) (known : Known) (e : Event) (k : CrewEvent) (r : Result CoreAnswer Memory) → e ≡ event_of k
    → IfOk r (λ answer. (c : CoreState) → IsState core c → StandsFor known c.log → Keeps new c (event_of k) answer)
    → IfOk r (λ answer. (c : CoreState) → IsState core c → StandsFor known c.log → Keeps new c e answer)
of_crew core new known e k r is happens = subst (λ (v : Event). IfOk r (λ answer. (c : CoreState) → IsState core c → StandsFor known c.log → Keeps new c v answer)) (sym is) happens

-- an event of theirs says nothing
is_no_reply : (answer : CoreAnswer) (reply : Reply) → answer ≡ Moved → answer ≡ Said reply → ⊥
is_no_reply answer reply m s = let e : Moved ≡ Said reply = sym m ∙ s in absurd cc

crew_is_silent : (k : CrewEvent) (c next : CoreState) (answer : CoreAnswer) (reply : Reply) → Steps c (event_of k) answer next → answer ≡ Said reply → ⊥
crew_is_silent k c next answer reply (inl h) s = let e : NotReady ≡ Said reply = sym h.0 ∙ s in absurd cc
crew_is_silent (crew.Apply worker) c next answer reply (inr h) s = is_no_reply answer reply h.0 s
crew_is_silent (crew.Mine worker) c next answer reply (inr h) s = is_no_reply answer reply h.0 s
crew_is_silent (crew.Raise worker through) c next answer reply (inr h) s = is_no_reply answer reply h.0 s
crew_is_silent (crew.BeginFlush through) c next answer reply (inr h) s = is_no_reply answer reply h.0 s
crew_is_silent (crew.Claim actor) c next answer reply (inr h) s = is_no_reply answer reply h.0 s
crew_is_silent (crew.Collect actor) c next answer reply (inr h) s = is_no_reply answer reply h.0 s
crew_is_silent (crew.Touch actor) c next answer reply (inr h) s = is_no_reply answer reply h.0 s
crew_is_silent (crew.Done actor) c next answer reply (inr h) s = is_no_reply answer reply h.0 s
crew_is_silent crew.Publish c next answer reply (inr h) s = is_no_reply answer reply h.0 s

-- what the core makes where it has an answer, by whether it happened
pub crew_rested : (core new : Core) (known : Known) (k : CrewEvent) (answer : CoreAnswer) → answer ≡ NotReady → KeepsCrew core new known k answer → KeepsCrew core new known k NotReady
crew_rested core new known k answer e happens = subst (KeepsCrew core new known k) e happens

pub crew_moves : (core new : Core) (known : Known) (k : CrewEvent) (answer : CoreAnswer) → (answer ≡ Moved) ⊎ ((reply : Reply) × (answer ≡ Said reply)) → KeepsCrew core new known k answer
    → KeepsCrew core new known k Moved
crew_moves core new known k answer (inl e) happens = subst (KeepsCrew core new known k) e happens
crew_moves core new known k answer (inr said) happens = λ c h d.
    let kept = happens c h d in
    absurd (crew_is_silent k c kept.next answer said.0 kept.steps said.1)
