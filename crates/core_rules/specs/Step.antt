-- The step relation: what the core answers to an event, and the state after it.
use Rattle.std.specs.Prelude.{◌≡◌, ◌⊎◌}
use Rattle.adg_base.specs.declared.answer.Reply.{Reply}
use Rattle.core_rules.specs.declared.event.Event.{Event}
use Rattle.core_rules.specs.declared.event.Event.TheVariants as event
use Rattle.core_rules.specs.declared.event.CoreAnswer.{CoreAnswer}
use Rattle.core_rules.specs.declared.event.CoreAnswer.TheVariants.{NotReady, Moved, Said}
use Rattle.core_rules.specs.State.{CoreState}
use Rattle.core_rules.specs.Applying.{CanApply, Applies, CanMine, Mines, CanRaise, Raises}
use Rattle.core_rules.specs.Flush.{CanBeginFlush, BeginsFlush, CanClaim, Claims, CanCollect, Collects, CanTouch, Touches, CanFinish, Finishes, CanPublish, Publishes}
use Rattle.core_rules.specs.Populations.{CanPopulate, BeginsPopulation, RefusesPopulation, CanRegister, Registers, CanRelease, Releases, CanRead, Reads, CanInstall, Installs}
use Rattle.core_rules.specs.Scans.{CanScan, BeginsScan, RefusesScan, CanGather, Gathers, CanEndScan, EndsScan}
use Rattle.core_rules.specs.Restarts.{restarted}

-- when an event can happen
abbrev pub Guard : CoreState → Event → Type 0
Guard c (event.Apply worker) = CanApply c worker
Guard c (event.Mine worker) = CanMine c worker
Guard c (event.Raise worker through) = CanRaise c worker through
Guard c (event.BeginFlush through) = CanBeginFlush c through
Guard c (event.Claim actor) = CanClaim c actor
Guard c (event.Collect actor) = CanCollect c actor
Guard c (event.Touch actor) = CanTouch c actor
Guard c (event.Done actor) = CanFinish c actor
Guard c event.Publish = CanPublish c
Guard c (event.PopBegin session obj) = CanPopulate c session
Guard c (event.PopRegister session) = CanRegister c session
Guard c (event.PopRelease session) = CanRelease c session
Guard c (event.PopRead session) = CanRead c session
Guard c (event.PopEnd session) = CanInstall c session
Guard c (event.ScanBegin session select) = CanScan c session
Guard c (event.ScanExtent session) = CanGather c session
Guard c (event.ScanEnd session) = CanEndScan c session
Guard c event.Restart = Unit {0}

-- the answer is a reply of this sort
pub record Says (R : Reply → Type 0) (answer : CoreAnswer) : Type 0 where
  pub reply : Reply
  pub refused : R reply
  pub says : answer ≡ Said reply

-- what an event answers and makes where it can happen
abbrev pub Happens : CoreState → Event → CoreAnswer → CoreState → Type 0
Happens c (event.Apply worker) answer new = (answer ≡ Moved) × Applies c worker new
Happens c (event.Mine worker) answer new = (answer ≡ Moved) × Mines c worker new
Happens c (event.Raise worker through) answer new = (answer ≡ Moved) × Raises c worker through new
Happens c (event.BeginFlush through) answer new = (answer ≡ Moved) × BeginsFlush c through new
Happens c (event.Claim actor) answer new = (answer ≡ Moved) × Claims c actor new
Happens c (event.Collect actor) answer new = (answer ≡ Moved) × Collects c actor new
Happens c (event.Touch actor) answer new = (answer ≡ Moved) × Touches c actor new
Happens c (event.Done actor) answer new = (answer ≡ Moved) × Finishes c actor new
Happens c event.Publish answer new = (answer ≡ Moved) × Publishes c new
Happens c (event.PopBegin session obj) answer new =
    ((answer ≡ Moved) × BeginsPopulation c session obj new) ⊎ Says (λ reply. RefusesPopulation c session obj reply new) answer
Happens c (event.PopRegister session) answer new = (answer ≡ Moved) × Registers c session new
Happens c (event.PopRelease session) answer new = (answer ≡ Moved) × Releases c session new
Happens c (event.PopRead session) answer new = (answer ≡ Moved) × Reads c session new
Happens c (event.PopEnd session) answer new = Installs c session answer new
Happens c (event.ScanBegin session select) answer new =
    ((answer ≡ Moved) × BeginsScan c session select new) ⊎ Says (λ reply. RefusesScan c session select reply new) answer
Happens c (event.ScanExtent session) answer new = (answer ≡ Moved) × Gathers c session new
Happens c (event.ScanEnd session) answer new = Says (λ reply. EndsScan c session reply new) answer
Happens c event.Restart answer new = (answer ≡ Moved) × (new ≡ restarted c)

-- A step: NotReady exactly where the event can't happen, and then nothing changed; else what it answers and makes.
abbrev pub Steps : CoreState → Event → CoreAnswer → CoreState → Type 0
Steps c e answer new = ((answer ≡ NotReady) × (Guard c e → ⊥) × (new ≡ c)) ⊎ Happens c e answer new
