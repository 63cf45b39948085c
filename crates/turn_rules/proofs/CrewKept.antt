-- What events leave of the log, the frontier, the QuerySCN and born.
use Rattle.std.proofs.Common.{◌≡◌, ℕ, ◌<◌, ◌≤◌, Bool, Option, refl, ap, ◌∙◌, subst, arith}
use Rattle.adg_base.specs.declared.answer.Reply.{Reply}
use Rattle.core_rules.specs.declared.event.Event.{Event}
use Rattle.core_rules.specs.declared.event.Event.TheVariants as event
use Rattle.core_rules.specs.declared.event.CoreAnswer.TheVariants.{Moved}
use Rattle.core_rules.specs.State.{CoreState, Flushing, Session, holders}
use Rattle.core_rules.specs.Flush.{Publishes}
use Rattle.core_rules.specs.Parts.{QuiesceIs}
use Rattle.core_rules.specs.Step.{Happens}
use Rattle.core_rules.specs.Invariant.{Invariant}
use Rattle.turn_rules.specs.Round.{Request}
use Rattle.turn_rules.proofs.View.{IsOfCrew, SessionIs, Replied, Aborts, Refused, Populates, Registers, Releases, ReadsOn, EndsExtent, EndsPopulation, BeginsScan, Gathers, EndsScan}

pub record CrewKeeps (c new : CoreState) : Type 0 where
  pub sessions : new.sessions ≡ c.sessions
  pub log : new.log ≡ c.log
  pub frontier : new.frontier ≡ c.frontier
  pub born : new.born ≡ c.born
  pub query : c.query ≤ new.query

-- where an effect leaves them
kept : (c new x : CoreState) → new ≡ x → x.sessions ≡ c.sessions → x.log ≡ c.log → x.frontier ≡ c.frontier → x.born ≡ c.born → c.query ≤ x.query → CrewKeeps c new
kept c new x e s l f b q = record {
  sessions = ap (λ (y : CoreState). y.sessions) e ∙ s;
  log = ap (λ (y : CoreState). y.log) e ∙ l;
  frontier = ap (λ (y : CoreState). y.frontier) e ∙ f;
  born = ap (λ (y : CoreState). y.born) e ∙ b;
  query = let same : new.query ≡ x.query = ap (λ (y : CoreState). y.query) e in omega arith;
}

publish_keeps : (c new : CoreState) → Invariant c → Publishes c new → CrewKeeps c new
publish_keeps c new v r =
    let q : QuiesceIs (Flushing r.through) c.query (holders c.sessions) c.links = subst (λ x. QuiesceIs x c.query (holders c.sessions) c.links) r.flushing v.quiesce in
    let above : c.query < r.through = q.1 in
    kept c new _ r.effect refl refl refl refl (omega arith)

pub crew_keeps : (c : CoreState) → Invariant c → (e : Event) (new : CoreState) → IsOfCrew e → Happens c e Moved new → CrewKeeps c new
crew_keeps c v (event.Apply worker) new i h = kept c new _ h.1.effect refl refl refl refl (omega arith)
crew_keeps c v (event.Mine worker) new i h = kept c new _ h.1.effect refl refl refl refl (omega arith)
crew_keeps c v (event.Raise worker through) new i h = kept c new _ h.1.effect refl refl refl refl (omega arith)
crew_keeps c v (event.BeginFlush through) new i h = kept c new _ h.1.effect refl refl refl refl (omega arith)
crew_keeps c v (event.Claim actor) new i h = kept c new _ h.1.effect refl refl refl refl (omega arith)
crew_keeps c v (event.Collect actor) new i h = kept c new _ h.1.effect refl refl refl refl (omega arith)
crew_keeps c v (event.Touch actor) new i h = kept c new _ h.1.effect refl refl refl refl (omega arith)
crew_keeps c v (event.Done actor) new i h = kept c new _ h.1.effect refl refl refl refl (omega arith)
crew_keeps c v event.Publish new i h = publish_keeps c new v h.1
crew_keeps c v (event.PopBegin session obj) new i h = absurd i
crew_keeps c v (event.PopRegister session) new i h = absurd i
crew_keeps c v (event.PopRelease session) new i h = absurd i
crew_keeps c v (event.PopRead session) new i h = absurd i
crew_keeps c v (event.PopEnd session) new i h = absurd i
crew_keeps c v (event.ScanBegin session select) new i h = absurd i
crew_keeps c v (event.ScanExtent session) new i h = absurd i
crew_keeps c v (event.ScanEnd session) new i h = absurd i
crew_keeps c v event.Restart new i h = absurd i

-- what a session does leaves the log, the frontier and the QuerySCN
pub record SessionKeeps (c new : CoreState) : Type 0 where
  pub log : new.log ≡ c.log
  pub frontier : new.frontier ≡ c.frontier
  pub query : new.query ≡ c.query

stays : (c new x : CoreState) → new ≡ x → x.log ≡ c.log → x.frontier ≡ c.frontier → x.query ≡ c.query → SessionKeeps c new
stays c new x e l f q = record {
  log = ap (λ (y : CoreState). y.log) e ∙ l;
  frontier = ap (λ (y : CoreState). y.frontier) e ∙ f;
  query = ap (λ (y : CoreState). y.query) e ∙ q;
}

pub session_keeps : (c : CoreState) (place : ℕ) (session : Session) (request : Request) (told : Option Reply) (aborted : Bool) (new : CoreState) → SessionIs c place session request told aborted new → SessionKeeps c new
session_keeps c place session request told aborted new (Replied said free alone t a same) = stays c new c same refl refl refl
session_keeps c place session request told aborted new (Refused said free refuses speaks t a same) = stays c new c same refl refl refl
session_keeps c place session request told aborted new (Aborts free asks t a same) = stays c new _ same refl refl refl
session_keeps c place session request told aborted new (Populates obj free asks t a begins) = stays c new _ begins.effect refl refl refl
session_keeps c place session request told aborted new (Registers p is_p asks t a holds left effect) = stays c new _ effect refl refl refl
session_keeps c place session request told aborted new (Releases p is_p asks t a holds all effect) = stays c new _ effect refl refl refl
session_keeps c place session request told aborted new (ReadsOn p is_p asks t a released left effect) = stays c new _ effect refl refl refl
session_keeps c place session request told aborted new (EndsExtent p is_p asks t a released whole more effect) = stays c new _ effect refl refl refl
session_keeps c place session request told aborted new (EndsPopulation p is_p asks t a released whole more speaks effect) = stays c new _ effect refl refl refl
session_keeps c place session request told aborted new (BeginsScan select table free asks t a defined columns types effect) = stays c new _ effect refl refl refl
session_keeps c place session request told aborted new (Gathers s is_s asks t a left effect) = stays c new _ effect refl refl refl
session_keeps c place session request told aborted new (EndsScan s is_s asks t a whole speaks effect) = stays c new _ effect refl refl refl
