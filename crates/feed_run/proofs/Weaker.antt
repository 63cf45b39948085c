-- What follows from how the run of a feed ends, over what follows from the answers of its standby.
use Rattle.std.proofs.Common.{ℕ, List, [], Option, subst, sym, inl, inr}
use Rattle.adg_model.specs.declared.delivery.RawDelivery.{RawDelivery}
use Rattle.feed_run.specs.declared.outcome.Outcome.{Outcome}
use Rattle.feed_run.specs.Ending.{Ending, FeedRead, WordsRefused, FeedRefused, RedoRefused, SourceFailed, SinkFailed, NoMemory, HasOneMore, HasRunFront, IsCutTranscript, Stops, StopsWithLine, RunEnds, all_of}
use Rattle.feed_run.specs.Headline.{Ends, Headline}
use Rattle.feed_run.specs.Standby.{Meaning, SomeAnswered}
use Rattle.feed_run.specs.View.{SourceView, SinkView}
use Rattle.feed_run.proofs.ProgressLaws.{Follows}

-- what follows from what each standby has answered, and holds before the first delivery
pub some_weaker : {S T : Type 0} (answered : S → T → Meaning) (setup : T) (q : Meaning) → ((standby : S) → Follows (answered standby setup) q) → ((threads sessions : ℕ) → q threads sessions [] []) → Follows (SomeAnswered answered setup) q
some_weaker answered setup q f nothing threads sessions ds out (inl (none, empty)) =
    subst (λ (l : List RawDelivery). q threads sessions l out) (sym none) (subst (q threads sessions []) (sym empty) (nothing threads sessions))
some_weaker answered setup q f nothing threads sessions ds out (inr (standby, h)) = f standby threads sessions ds out h

module _ (p q : Meaning) (means : Follows p q) where
  one_weaker : (taken written : List ℕ) → HasOneMore p taken written → HasOneMore q taken written
  one_weaker taken written h = record { threads = h.threads; sessions = h.sessions; deliveries = h.deliveries; last = h.last; feed = h.feed; read = h.read; ran = means h.threads h.sessions _ written h.ran }

  front_weaker : (taken written : List ℕ) → HasRunFront p taken written → HasRunFront q taken written
  front_weaker taken written h = record { threads = h.threads; sessions = h.sessions; deliveries = h.deliveries; front = h.front; ran = means h.threads h.sessions _ written h.ran }

  cut_weaker : (taken written : List ℕ) → IsCutTranscript p taken written → IsCutTranscript q taken written
  unfolding one_weaker
  cut_weaker taken written h = record {
    before = h.before;
    front = h.front;
    cut = h.cut;
    one = one_weaker taken h.before h.one;
    ran = means h.one.threads h.one.sessions (all_of h.one) _ h.ran;
    some = h.some;
    written_is = h.written_is;
  }

  pub stops_weaker : (ending : Ending) (source : Option (List ℕ)) (taken written : List ℕ) → Stops p ending source taken written → Stops q ending source taken written
  unfolding one_weaker
  stops_weaker FeedRead source taken written h = record { threads = h.threads; sessions = h.sessions; deliveries = h.deliveries; feed = h.feed; read = h.read; ran = means h.threads h.sessions _ written h.ran }
  stops_weaker WordsRefused source taken written h = absurd h
  stops_weaker (FeedRefused kind byte) source taken written h = record {
    threads = h.threads;
    sessions = h.sessions;
    deliveries = h.deliveries;
    fails = h.fails;
    shown = h.shown;
    at_once = h.at_once;
    ran = means h.threads h.sessions _ written h.ran;
  }
  stops_weaker (RedoRefused fault) source taken written h = record { one = one_weaker taken written h.one; bad = h.bad }
  stops_weaker SourceFailed source taken written h = front_weaker taken written h
  stops_weaker SinkFailed source taken written h = cut_weaker taken written h
  stops_weaker NoMemory source taken written (inl h) = inl (front_weaker taken written h)
  stops_weaker NoMemory source taken written (inr h) = inr (front_weaker _ written h)

  line_weaker : (ending : Ending) (source : Option (List ℕ)) (taken written : List ℕ) → StopsWithLine p ending source taken written → StopsWithLine q ending source taken written
  line_weaker ending source taken written h = record { before = h.before; stops = stops_weaker ending source taken h.before h.stops; then_line = h.then_line }

  pub ends_weaker : (source : Option (List ℕ)) (ending : Ending) (taken written : List ℕ) → RunEnds p source ending taken written → RunEnds q source ending taken written
  ends_weaker source FeedRead taken written h = line_weaker FeedRead source taken written h
  ends_weaker source WordsRefused taken written h = absurd h
  ends_weaker source (FeedRefused kind byte) taken written h = line_weaker (FeedRefused kind byte) source taken written h
  ends_weaker source (RedoRefused fault) taken written h = line_weaker (RedoRefused fault) source taken written h
  ends_weaker source SourceFailed taken written h = line_weaker SourceFailed source taken written h
  ends_weaker source SinkFailed taken written (inl h) = inl (cut_weaker taken written h)
  ends_weaker source SinkFailed taken written (inr h) = inr (record {
    ending = h.ending;
    told = h.told;
    before = h.before;
    front = h.front;
    cut = h.cut;
    stops = stops_weaker h.ending source taken h.before h.stops;
    line = h.line;
    some = h.some;
    written_is = h.written_is;
  })
  ends_weaker source NoMemory taken written (inl h) = inl (stops_weaker NoMemory source taken written h)
  ends_weaker source NoMemory taken written (inr h) = inr (record { ending = h.ending; told = h.told; stops = stops_weaker h.ending source taken written h.stops })

-- what follows from how a run ends
pub headline_weaker : (e f : Ends) → ((ending : Ending) (taken written : List ℕ) → e ending taken written → f ending taken written) → (source source_now : SourceView) (sink sink_now : SinkView) (outcome : Outcome)
    → Headline e source source_now sink sink_now outcome → Headline f source source_now sink sink_now outcome
headline_weaker e f g source source_now sink sink_now outcome h = record {
  taken = h.taken;
  written = h.written;
  took = h.took;
  wrote = h.wrote;
  taken_count = h.taken_count;
  written_count = h.written_count;
  ending = h.ending;
  status = h.status;
  ends = g h.ending h.taken h.written h.ends;
  causes = h.causes;
}
