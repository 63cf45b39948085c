-- What the looks at a core tell of what can be done next.
use Rattle.std.specs.Prelude.{◌≡◌, ℕ, ◌-◌, ◌<◌, min, nat_lt, if◌then◌else◌, List, [], ◌∷◌, map, slice_get, Option, Some, None}
use Rattle.adg_base.specs.declared.log.LogEntry.{LogEntry}
use Rattle.adg_model.specs.Log.{least}
use Rattle.core_rules.specs.State.{CoreState, Worker, Idle, Collected, Claimed, Link, Session, At, share_of}
use Rattle.core_rules.specs.State as rules
use Rattle.standby_core.specs.declared.duties.Duty.{Duty}
use Rattle.standby_core.specs.declared.duties.Duty.TheVariants as duty
use Rattle.standby_core.specs.declared.flush.Flush.{Flush}
use Rattle.standby_core.specs.declared.link.Link.{Link as OwnLink}
use Rattle.standby_core.specs.declared.link.Stage.{Stage as OwnStage}
use Rattle.standby_core.specs.declared.link.Stage.TheVariants as stage
use Rattle.standby_core.specs.declared.session.Session.{Session as OwnSession}
use Rattle.standby_core.specs.declared.session.Session.TheVariants.{Free, Populating, Scanning}

-- an actor has a worklink, with its cursor at a place
pub record HasCursor (links : List Link) (actor cursor : ℕ) : Type 0 where
  pub number : ℕ
  pub link : Link
  pub collected : List Collected
  pub found : At links number link
  pub stage : link.stage ≡ Claimed actor cursor collected

-- the worklink that an actor holds by the numbers of a core
pub record HoldsLink (flush : Flush) (actor : ℕ) (x : OwnLink) : Type 0 where
  pub number : ℕ
  pub held : At flush.held.items actor (Some number)
  pub at : At flush.links.items number x

-- the cursor of a worklink, where an actor has it
abbrev pub cursor_in : OwnStage → Option ℕ
cursor_in stage.Unclaimed = None
cursor_in (stage.Claimed actor cursor) = Some cursor
cursor_in stage.Finished = None

-- the SCN below that of an entry; another one where there is none
abbrev pub below_next : ℕ → Option LogEntry → ℕ
below_next frontier None = frontier
below_next frontier (Some e) = e.scn - 1

-- the SCN through which all of a worker's share is mined
abbrev pub through_mined : CoreState → ℕ → Worker → ℕ
through_mined c worker w = below_next c.frontier (slice_get (share_of c worker) w.mined)

-- the least SCN that a worker has come to
abbrev pub least_progress : CoreState → ℕ
least_progress c = least (map (λ w. w.progress) c.workers)

-- nobody keeps publication back, and all workers have come to an SCN above the QuerySCN, one of them to just this one
pub record CanFlush (c : CoreState) (through : ℕ) : Type 0 where
  pub idle : c.quiesce ≡ Idle
  pub is : through ≡ least_progress c
  pub above : c.query < through

-- the least of a number and some others
abbrev pub lowest : ℕ → List ℕ → ℕ
lowest n [] = n
lowest n (m ∷ more) = lowest (min n m) more

-- what comes next of what a session has begun
abbrev pub duty_of : Session → Duty
duty_of rules.Free = duty.Free
duty_of (rules.Populating p) =
    if p.holds then (if nat_lt p.registered p.table.extents then duty.Register else duty.Release) else (if nat_lt p.blocks 16 then duty.Read else duty.Install)
duty_of (rules.Scanning s) = if nat_lt s.extents s.table.extents then duty.Gather else duty.Answer

-- the same of what the core has
abbrev pub own_duty : OwnSession → Duty
own_duty Free = duty.Free
own_duty (Populating x) =
    if x.holds then (if nat_lt x.registered x.extents then duty.Register else duty.Release) else (if nat_lt x.build.blocks 16 then duty.Read else duty.Install)
own_duty (Scanning x) = if nat_lt x.extents x.definition.extents then duty.Gather else duty.Answer
