-- The run of a feed on the bench, from what the run of any feed promises.
use Rattle.std.proofs.Common.{◌≡◌, ◌++◌, ℕ, List, [], Some, ◌∙◌, ap, sym, subst}
use Rattle.feed_run.specs.declared.outcome.Outcome.{Outcome}
use Rattle.feed_run.specs.Ending.{RunEnds}
use Rattle.feed_run.specs.Headline.{Headline}
use Rattle.feed_run.specs.Standby.{SomeAnswered}
use Rattle.feed_run.specs.View.{source_view, sink_view}
use Rattle.feed_run.proofs.Weaker.{some_weaker, ends_weaker}
use Rattle.core_standby.specs.Ran.{RanAll}
use Rattle.core_standby.specs.Standing.{HasAnswered}
use Rattle.core_standby.proofs.RanLaws.{ran_all, ran_none}
use Rattle.driver_runs.specs.declared.bench.Answer.{Answer}
use Rattle.driver_runs.specs.Run.{HasRun}

-- a feed was run, from a source that gave it to a sink that was empty
pub has_run : (workers : ℕ) (feed given left empty held : List ℕ) (faults faults_now failures failures_now : ℕ) (outcome : Outcome) (answer : Answer) → given ≡ feed → empty ≡ []
    → Headline (RunEnds (SomeAnswered HasAnswered workers) (Some given)) (source_view (Some given) faults) (source_view (Some left) faults_now) (sink_view (Some empty) failures) (sink_view (Some held) failures_now) outcome
    → answer.status ≡ outcome.status → answer.lines.items ≡ held → HasRun workers feed answer
has_run workers feed given left empty held faults faults_now failures failures_now outcome answer gives none h status lines = record {
  taken = h.taken;
  left = left;
  split = sym gives ∙ h.took;
  ending = h.ending;
  status = status ∙ h.status;
  ends =
      let written : answer.lines.items ≡ h.written = lines ∙ h.wrote ∙ ap (λ (l : List ℕ). l ++ h.written) none in
      subst (λ (bytes : List ℕ). RunEnds (RanAll workers) (Some feed) h.ending h.taken bytes) (sym written)
      (subst (λ (bytes : List ℕ). RunEnds (RanAll workers) (Some bytes) h.ending h.taken h.written) gives
      (ends_weaker (SomeAnswered HasAnswered workers) (RanAll workers) (some_weaker HasAnswered workers (RanAll workers) (λ s. ran_all s workers) (ran_none workers)) (Some given) h.ending h.taken h.written h.ends));
}
