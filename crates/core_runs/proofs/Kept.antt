-- A step leaves the log and the frontier as they were.
use Rattle.std.proofs.Common.{◌≡◌, inl, inr, refl, ap, ◌∙◌}
use Rattle.core_rules.specs.declared.event.Event.{Event}
use Rattle.core_rules.specs.declared.event.Event.TheVariants as event
use Rattle.core_rules.specs.declared.event.CoreAnswer.{CoreAnswer}
use Rattle.core_rules.specs.State.{CoreState}
use Rattle.core_rules.specs.Step.{Steps, Happens}

pub record HasSameLog (c new : CoreState) : Type 0 where
  pub log : new.log ≡ c.log
  pub frontier : new.frontier ≡ c.frontier

by_effect : (c new made : CoreState) → new ≡ made → made.log ≡ c.log → made.frontier ≡ c.frontier → HasSameLog c new
by_effect c new made e l f = record { log = ap (λ (s : CoreState). s.log) e ∙ l; frontier = ap (λ (s : CoreState). s.frontier) e ∙ f }

happens_keeps_log : (c : CoreState) (e : Event) (answer : CoreAnswer) (new : CoreState) → Happens c e answer new → HasSameLog c new
happens_keeps_log c (event.Apply worker) answer new h = by_effect c new _ h.1.effect refl refl
happens_keeps_log c (event.Mine worker) answer new h = by_effect c new _ h.1.effect refl refl
happens_keeps_log c (event.Raise worker through) answer new h = by_effect c new _ h.1.effect refl refl
happens_keeps_log c (event.BeginFlush through) answer new h = by_effect c new _ h.1.effect refl refl
happens_keeps_log c (event.Claim actor) answer new h = by_effect c new _ h.1.effect refl refl
happens_keeps_log c (event.Collect actor) answer new h = by_effect c new _ h.1.effect refl refl
happens_keeps_log c (event.Touch actor) answer new h = by_effect c new _ h.1.effect refl refl
happens_keeps_log c (event.Done actor) answer new h = by_effect c new _ h.1.effect refl refl
happens_keeps_log c event.Publish answer new h = by_effect c new _ h.1.effect refl refl
happens_keeps_log c (event.PopBegin session obj) answer new (inl h) = by_effect c new _ h.1.effect refl refl
happens_keeps_log c (event.PopBegin session obj) answer new (inr h) = by_effect c new c h.refused.same refl refl
happens_keeps_log c (event.PopRegister session) answer new h = by_effect c new _ h.1.effect refl refl
happens_keeps_log c (event.PopRelease session) answer new h = by_effect c new _ h.1.effect refl refl
happens_keeps_log c (event.PopRead session) answer new h = by_effect c new _ h.1.effect refl refl
happens_keeps_log c (event.PopEnd session) answer new h = by_effect c new _ h.effect refl refl
happens_keeps_log c (event.ScanBegin session select) answer new (inl h) = by_effect c new _ h.1.effect refl refl
happens_keeps_log c (event.ScanBegin session select) answer new (inr h) = by_effect c new c h.refused.same refl refl
happens_keeps_log c (event.ScanExtent session) answer new h = by_effect c new _ h.1.effect refl refl
happens_keeps_log c (event.ScanEnd session) answer new h = by_effect c new _ h.refused.effect refl refl
happens_keeps_log c event.Restart answer new h = by_effect c new _ h.1 refl refl

pub step_keeps_log : (c : CoreState) (e : Event) (answer : CoreAnswer) (new : CoreState) → Steps c e answer new → HasSameLog c new
step_keeps_log c e answer new (inl h) = by_effect c new c h.2 refl refl
step_keeps_log c e answer new (inr h) = happens_keeps_log c e answer new h
