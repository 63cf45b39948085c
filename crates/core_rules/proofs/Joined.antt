-- Every step and every run keeps the invariant, from what is proved of each event.
use Rattle.std.proofs.Common.{◌≡◌, ℕ, List, [], ◌∷◌, inl, inr, sym, subst}
use Rattle.adg_base.specs.declared.command.Select.{Select}
use Rattle.adg_base.specs.declared.answer.Reply.{Reply}
use Rattle.core_rules.specs.declared.event.Event.{Event}
use Rattle.core_rules.specs.declared.event.Event.TheVariants as event
use Rattle.core_rules.specs.declared.event.CoreAnswer.{CoreAnswer}
use Rattle.core_rules.specs.State.{CoreState, opening}
use Rattle.core_rules.specs.Applying.{Applies, Mines, Raises}
use Rattle.core_rules.specs.Flush.{BeginsFlush, Claims, Collects, Touches, Finishes, Publishes}
use Rattle.core_rules.specs.Populations.{BeginsPopulation, Registers, Releases, Reads, Installs}
use Rattle.core_rules.specs.Scans.{BeginsScan, Gathers, EndsScan}
use Rattle.core_rules.specs.Restarts.{restarted}
use Rattle.core_rules.specs.Step.{Happens}
use Rattle.core_rules.specs.LogFacts.{LogHasFacts}
use Rattle.core_rules.specs.Invariant.{Invariant, Precise}
use Rattle.core_rules.specs.Runs.{Move, Takes, Gets, Leads}
use Rattle.core_rules.specs.Laws.{StepsKeepInvariant, StepsKeepPrecision, ReceivingKeepsInvariant, ReceivingKeepsPrecision, RunsMeetInvariant}
use Rattle.core_rules.proofs.Keeps.{Keeps, KeepsPrecise}
use Rattle.core_rules.proofs.Restarted.{opening_meets, opening_precise}

-- what is proved of each event
pub record EventsKeep (K : (CoreState → CoreState → Type 0) → Type 0) : Type 0 where
  pub apply : (worker : ℕ) → K (λ c new. Applies c worker new)
  pub mine : (worker : ℕ) → K (λ c new. Mines c worker new)
  pub raise : (worker through : ℕ) → K (λ c new. Raises c worker through new)
  pub begin_flush : (through : ℕ) → K (λ c new. BeginsFlush c through new)
  pub claim : (actor : ℕ) → K (λ c new. Claims c actor new)
  pub collect : (actor : ℕ) → K (λ c new. Collects c actor new)
  pub touch : (actor : ℕ) → K (λ c new. Touches c actor new)
  pub finish : (actor : ℕ) → K (λ c new. Finishes c actor new)
  pub publish : K (λ c new. Publishes c new)
  pub populate : (session obj : ℕ) → K (λ c new. BeginsPopulation c session obj new)
  pub register : (session : ℕ) → K (λ c new. Registers c session new)
  pub release : (session : ℕ) → K (λ c new. Releases c session new)
  pub read : (session : ℕ) → K (λ c new. Reads c session new)
  pub install : (session : ℕ) (answer : CoreAnswer) → K (λ c new. Installs c session answer new)
  pub scan_begin : (session : ℕ) (select : Select) → K (λ c new. BeginsScan c session select new)
  pub gather : (session : ℕ) → K (λ c new. Gathers c session new)
  pub scan_end : (session : ℕ) (said : Reply) → K (λ c new. EndsScan c session said new)
  pub restart : K (λ c new. new ≡ restarted c)

-- a step keeps what each event keeps
pub steps_keep : LogHasFacts → EventsKeep Keeps → StepsKeepInvariant
steps_keep facts keep c e answer new (inl r) v = subst Invariant (sym r.2) v
steps_keep facts keep c e answer new (inr h) v = by_event e h
  where
    by_event : (x : Event) → Happens c x answer new → Invariant new
    by_event (event.Apply worker) k = keep.apply worker facts c new k.1 v
    by_event (event.Mine worker) k = keep.mine worker facts c new k.1 v
    by_event (event.Raise worker through) k = keep.raise worker through facts c new k.1 v
    by_event (event.BeginFlush through) k = keep.begin_flush through facts c new k.1 v
    by_event (event.Claim actor) k = keep.claim actor facts c new k.1 v
    by_event (event.Collect actor) k = keep.collect actor facts c new k.1 v
    by_event (event.Touch actor) k = keep.touch actor facts c new k.1 v
    by_event (event.Done actor) k = keep.finish actor facts c new k.1 v
    by_event event.Publish k = keep.publish facts c new k.1 v
    by_event (event.PopBegin session obj) (inl k) = keep.populate session obj facts c new k.1 v
    by_event (event.PopBegin session obj) (inr k) = subst Invariant (sym k.refused.same) v
    by_event (event.PopRegister session) k = keep.register session facts c new k.1 v
    by_event (event.PopRelease session) k = keep.release session facts c new k.1 v
    by_event (event.PopRead session) k = keep.read session facts c new k.1 v
    by_event (event.PopEnd session) k = keep.install session answer facts c new k v
    by_event (event.ScanBegin session select) (inl k) = keep.scan_begin session select facts c new k.1 v
    by_event (event.ScanBegin session select) (inr k) = subst Invariant (sym k.refused.same) v
    by_event (event.ScanExtent session) k = keep.gather session facts c new k.1 v
    by_event (event.ScanEnd session) k = keep.scan_end session k.reply facts c new k.refused v
    by_event event.Restart k = keep.restart facts c new k.1 v

pub steps_keep_precise : LogHasFacts → EventsKeep KeepsPrecise → StepsKeepPrecision
steps_keep_precise facts keep c e answer new (inl r) v p = subst Precise (sym r.2) p
steps_keep_precise facts keep c e answer new (inr h) v p = by_event e h
  where
    by_event : (x : Event) → Happens c x answer new → Precise new
    by_event (event.Apply worker) k = keep.apply worker facts c new k.1 v p
    by_event (event.Mine worker) k = keep.mine worker facts c new k.1 v p
    by_event (event.Raise worker through) k = keep.raise worker through facts c new k.1 v p
    by_event (event.BeginFlush through) k = keep.begin_flush through facts c new k.1 v p
    by_event (event.Claim actor) k = keep.claim actor facts c new k.1 v p
    by_event (event.Collect actor) k = keep.collect actor facts c new k.1 v p
    by_event (event.Touch actor) k = keep.touch actor facts c new k.1 v p
    by_event (event.Done actor) k = keep.finish actor facts c new k.1 v p
    by_event event.Publish k = keep.publish facts c new k.1 v p
    by_event (event.PopBegin session obj) (inl k) = keep.populate session obj facts c new k.1 v p
    by_event (event.PopBegin session obj) (inr k) = subst Precise (sym k.refused.same) p
    by_event (event.PopRegister session) k = keep.register session facts c new k.1 v p
    by_event (event.PopRelease session) k = keep.release session facts c new k.1 v p
    by_event (event.PopRead session) k = keep.read session facts c new k.1 v p
    by_event (event.PopEnd session) k = keep.install session answer facts c new k v p
    by_event (event.ScanBegin session select) (inl k) = keep.scan_begin session select facts c new k.1 v p
    by_event (event.ScanBegin session select) (inr k) = subst Precise (sym k.refused.same) p
    by_event (event.ScanExtent session) k = keep.gather session facts c new k.1 v p
    by_event (event.ScanEnd session) k = keep.scan_end session k.reply facts c new k.refused v p
    by_event event.Restart k = keep.restart facts c new k.1 v p

-- and so do moves one after another
pub leads_keep : StepsKeepInvariant → StepsKeepPrecision → ReceivingKeepsInvariant → ReceivingKeepsPrecision
    → (moves : List Move) (c last : CoreState) → Leads c moves last → Invariant c → Precise c → Invariant last × Precise last
leads_keep steps precise gets gets_precise [] c last h v p = (subst Invariant (sym h) v, subst Precise (sym h) p)
leads_keep steps precise gets gets_precise (Takes e answer ∷ moves) c last h v p =
    leads_keep steps precise gets gets_precise moves h.0 last h.2 (steps c e answer h.0 h.1 v) (precise c e answer h.0 h.1 v p)
leads_keep steps precise gets gets_precise (Gets entries frontier ∷ moves) c last h v p =
    leads_keep steps precise gets gets_precise moves h.0 last h.2 (gets c entries frontier h.0 h.1 v) (gets_precise c entries frontier h.0 h.1 v p)

pub runs_meet : StepsKeepInvariant → StepsKeepPrecision → ReceivingKeepsInvariant → ReceivingKeepsPrecision → RunsMeetInvariant
runs_meet steps precise gets gets_precise workers sessions moves c h r =
    leads_keep steps precise gets gets_precise moves (opening workers sessions) c r (opening_meets workers sessions h) (opening_precise workers sessions)
