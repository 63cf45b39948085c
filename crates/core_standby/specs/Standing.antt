-- What the standby over the core has answered of a feed.
use Rattle.std.specs.Prelude.{◌≡◌, ℕ, List, [], ◌∷◌, ◌++◌, length, Result, Ok, Err}
use Rattle.std.specs.List.{AllByRecursion}
use Rattle.adg_base.specs.declared.answer.Lines.{Lines}
use Rattle.adg_model.specs.declared.delivery.RawDelivery.{RawDelivery}
use Rattle.adg_model.specs.Log.{frontier, merged_log}
use Rattle.adg_model.specs.Sound.{IsRedoFault}
use Rattle.adg_model.specs.Transcript.{LegalFrom, printed}
use Rattle.core_rules.specs.State.{CoreState, Free, opening}
use Rattle.core_rules.specs.Invariant.{Precise}
use Rattle.feed_run.specs.declared.standby.Unanswered.{Unanswered}
use Rattle.feed_run.specs.declared.standby.Unanswered.TheVariants.{Redo, Memory}
use Rattle.redo_intake.specs.Intake.{Taking, HasTaken}
use Rattle.standby_core.specs.declared.standby.Core.{Core}
use Rattle.standby_core.specs.Shows.{IsState}
use Rattle.turn_rules.specs.Earlier.{Past, born_by_lines, UnitsAreTold}
use Rattle.core_standby.specs.declared.standby.CoreStandby.{CoreStandby}
use Rattle.core_standby.specs.Ran.{RunsFrom, UsesColumnsFrom}

-- the end of the last of some lines, or else one before them
abbrev pub end_after : ℕ → List Lines → ℕ
end_after floor [] = floor
end_after floor (l ∷ ls) = end_after l.end ls

-- deliveries that are over with their lines, behind earlier ones; the latest stands first
abbrev pub pasts_after : List Past → List RawDelivery → List Lines → List Past
pasts_after pasts [] ls = pasts
pasts_after pasts (d ∷ ds) [] = pasts
pasts_after pasts (d ∷ ds) (l ∷ ls) = pasts_after (record { commands = d.commands; lines = l } ∷ pasts) ds ls

-- Between two deliveries a core shows a state: nothing goes on, the QuerySCN is the last end, and its units are as the
-- lines before tell.
pub record IsBetween (core : Core) (c : CoreState) (workers sessions end : ℕ) (pasts : List Past) : Type 0 where
  pub is : IsState core c
  pub precise : Precise c
  pub free : AllByRecursion (λ s. s ≡ Free) c.sessions
  pub worker_count : length c.workers ≡ workers
  pub session_count : length c.sessions ≡ sessions
  pub query : c.query ≡ end
  pub told : UnitsAreTold c.log c.frontier c.units pasts
  pub born : c.born ≡ born_by_lines pasts

-- Deliveries were run, with these lines: the intake has taken their redo, and the core ran them all.
pub record HasRun (intake : Taking) (core : Core) (workers threads sessions : ℕ) (deliveries : List RawDelivery) (lines : List Lines) : Type 0 where
  pub taken : HasTaken intake threads deliveries
  pub state : CoreState
  pub ran : RunsFrom threads [] (opening workers sessions) deliveries lines state
  pub legal : LegalFrom threads sessions [] 0 deliveries lines
  pub columns : UsesColumnsFrom threads [] 0 [] deliveries lines
  pub between : IsBetween core state workers sessions (end_after 0 lines) (pasts_after [] deliveries lines)
  pub log : state.log ≡ merged_log taken.records
  pub frontier : state.frontier ≡ frontier taken.records

-- With one delivery more they were run, with these lines behind the others; or its redo has this fault, or memory is
-- wanting.
abbrev pub RunsOne : {intake : Taking} {core : Core} {workers threads sessions : ℕ} {deliveries : List RawDelivery} {lines : List Lines}
    → HasRun intake core workers threads sessions deliveries lines → Taking → Core → RawDelivery → Result Lines Unanswered → Type 0
RunsOne {intake} {core} {workers} {threads} {sessions} {deliveries} {lines} before new core_now d (Ok more) =
    HasRun new core_now workers threads sessions (deliveries ++ d ∷ []) (lines ++ more ∷ [])
RunsOne {intake} {core} {workers} {threads} {sessions} {deliveries} {lines} before new core_now d (Err (Redo fault)) = IsRedoFault threads (deliveries ++ d ∷ []) fault
RunsOne before new core_now d (Err Memory) = Unit {0}

-- Deliveries were answered: they were run, and these bytes are their lines.
pub record HasAnswered (s : CoreStandby) (workers threads sessions : ℕ) (deliveries : List RawDelivery) (written : List ℕ) : Type 0 where
  pub lines : List Lines
  pub run : HasRun s.intake s.core workers threads sessions deliveries lines
  pub bytes : written ≡ printed 1 lines
  pub delivered : s.delivered ≡ length deliveries
