-- The headline over the words, from what the run of a feed and a realistic run promise.
use Rattle.std.proofs.Common.{◌≡◌, ◌≢◌, ℕ, List, [], ◌∷◌, Option, Some, None, refl, sym, subst, ap}
use Rattle.adg_model.specs.declared.delivery.RawDelivery.{RawDelivery}
use Rattle.feed_run.specs.declared.outcome.Outcome.{Outcome}
use Rattle.feed_run.specs.Ending.{RunEnds}
use Rattle.feed_run.specs.Headline as run
use Rattle.feed_run.specs.Standby.{Meaning, SomeAnswered}
use Rattle.feed_run.specs.View.{SourceView, SinkView}
use Rattle.feed_run.proofs.Weaker.{some_weaker, ends_weaker, headline_weaker}
use Rattle.core_standby.specs.Ran.{RanAll}
use Rattle.core_standby.specs.Standing.{HasAnswered}
use Rattle.core_standby.specs.declared.standby.CoreStandby.{CoreStandby}
use Rattle.core_standby.proofs.RanLaws.{ran_all, ran_none}
use Rattle.soak_run.specs.declared.words.Job.{Job}
use Rattle.soak_run.specs.Run.{TellsTranscripts, SoakEnds, IsSoakComplete}
use Rattle.soak_run.specs.Words.{IsSoakLine}
use Rattle.soak_run.proofs.OneJob.{one_job}
use Rattle.std.specs.Mem.{manually_drop_value}
use Rattle.imadg_top.specs.declared.kept.Kept.{Kept}
use Rattle.imadg_top.specs.Headline.{Step, Soak, Usage, AskOnce, Headline, IsComplete}
use Rattle.imadg_top.specs.Stepped.{SteppedEnds, SteppedHeadline, IsSteppedComplete}
use Rattle.imadg_top.specs.Words.{workers_of}

-- a standby that is kept has answered what the one inside has
abbrev pub KeptAnswered : Kept CoreStandby → (workers : ℕ) → Meaning
KeptAnswered k workers = HasAnswered (manually_drop_value k.standby) workers

-- what was answered was run
kept_ran : (workers threads sessions : ℕ) (ds : List RawDelivery) (out : List ℕ) → SomeAnswered KeptAnswered workers threads sessions ds out → RanAll workers threads sessions ds out
kept_ran workers = some_weaker KeptAnswered workers (RanAll workers) (λ k. ran_all (manually_drop_value k.standby) workers) (ran_none workers)

-- the words were accepted and the feed was run
pub headline_run : (words : List (List ℕ)) (workers : ℕ) → workers_of words ≡ Some workers → (source source_now : SourceView) (sink sink_now : SinkView) (outcome : Outcome)
    → run.Headline (RunEnds (SomeAnswered KeptAnswered workers) source.left) source source_now sink sink_now outcome → SteppedHeadline words source source_now sink sink_now outcome
headline_run words workers e source source_now sink sink_now outcome h =
    subst (λ (o : Option ℕ). run.Headline (SteppedEnds o source.left) source source_now sink sink_now outcome) (sym e)
    (headline_weaker (RunEnds (SomeAnswered KeptAnswered workers) source.left) (RunEnds (RanAll workers) source.left)
    (ends_weaker (SomeAnswered KeptAnswered workers) (RanAll workers) (kept_ran workers) source.left)
    source source_now sink sink_now outcome h)

-- ---- a legal transcript is told of what was run

pub kept_tells : (workers : ℕ) → TellsTranscripts (SomeAnswered KeptAnswered workers)
kept_tells workers threads sessions ds out h =
    let ran = kept_ran workers threads sessions ds out h in
    record { lines = ran.lines; legal = ran.legal; print = ran.bytes }

-- ---- no line is of both modes

other_mode : (words : List (List ℕ)) (job : Job) (workers : ℕ) → IsSoakLine words job → workers_of words ≡ Some workers → ⊥
other_mode [] job workers h e = absurd h
other_mode (mode ∷ []) job workers h e = absurd cc
other_mode (mode ∷ option ∷ []) job workers h e = absurd cc
other_mode (mode ∷ name ∷ value ∷ []) job workers h e = absurd cc
other_mode (mode ∷ name ∷ value ∷ other ∷ more) job workers h e = absurd cc

-- ---- an accepted line of the mode soak

module _ (words : List (List ℕ)) (job : Job) (line : IsSoakLine words job) (source source_now : SourceView) (sink sink_now : SinkView) (outcome : Outcome) where
  pub headline_soak : run.Headline (SoakEnds job.seed job.txns) source source_now sink sink_now outcome → Headline words source source_now sink sink_now outcome
  headline_soak h = record { task = Soak job; asks = line; ran = h }

  pub complete_soak : IsSoakComplete sink sink_now outcome → IsComplete words source source_now sink sink_now outcome
  complete_soak h (Step workers) asks = absurd (other_mode words job workers line asks)
  complete_soak h (Soak other) asks = h
  complete_soak h Usage asks = tt

-- ---- any other line

some_workers : (o : Option ℕ) (workers : ℕ) → o ≡ Some workers → o ≢ None
some_workers o workers e none = absurd cc

module _ (words : List (List ℕ)) (none : (job : Job) → IsSoakLine words job → ⊥) (source source_now : SourceView) (sink sink_now : SinkView) (outcome : Outcome) where
  pub headline_other : SteppedHeadline words source source_now sink sink_now outcome → Headline words source source_now sink sink_now outcome
  headline_other h = by (workers_of words) refl h
    where
      by : (o : Option ℕ) → workers_of words ≡ o → run.Headline (SteppedEnds o source.left) source source_now sink sink_now outcome → Headline words source source_now sink sink_now outcome
      by (Some workers) e ran = record { task = Step workers; asks = e; ran = ran }
      by None e ran = record { task = Usage; asks = (e, none); ran = ran }

  pub complete_other : IsSteppedComplete words source source_now sink sink_now outcome → IsComplete words source source_now sink sink_now outcome
  complete_other h (Step workers) asks = h (some_workers (workers_of words) workers asks)
  complete_other h (Soak job) asks = absurd (none job asks)
  complete_other h Usage asks = tt

-- ---- words ask for one thing only

pub ask_once : AskOnce
ask_once words (Step a) (Step b) f g = cc
ask_once words (Step a) (Soak job) f g = absurd (other_mode words job a g f)
ask_once words (Step a) Usage f g = absurd (some_workers (workers_of words) a f g.0)
ask_once words (Soak job) (Step b) f g = absurd (other_mode words job b f g)
ask_once words (Soak job) (Soak other) f g = ap Soak (one_job words job other f g)
ask_once words (Soak job) Usage f g = absurd (g.1 job f)
ask_once words Usage (Step b) f g = absurd (some_workers (workers_of words) b g f.0)
ask_once words Usage (Soak job) f g = absurd (f.1 job g)
ask_once words Usage Usage f g = refl
