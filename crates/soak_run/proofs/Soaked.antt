-- How the run of the generated feed ends.
use Rattle.std.proofs.Common.{◌≡◌, ℕ, ◌+◌, ◌^◌, ◌<◌, ◌≤◌, List, [], ◌++◌, length, map, take, drop, Option, Some, None, ◌⊎◌, inl, inr, refl, sym, ap, ◌∙◌, subst, arith, append-nil, append_assoc}
use Rattle.std.specs.Io.KnownBytes.{Appends, Consumes}
use Rattle.std.proofs.lemmas.List.{length-append, length-drop, length-take-le, nil_from_length, take_all, take-append-drop}
use Rattle.adg_io.specs.Faults.{Rose}
use Rattle.adg_model.specs.Feed.{Item, IsFeed, BeginsFeed, opening_bytes, deliveries_bytes, stop_bytes, feed_bytes, delivery_of}
use Rattle.adg_model.proofs.FeedWhole.{deliveries_are_one}
use Rattle.feed_gen.specs.Generated.{generated, generated_deliveries}
use Rattle.feed_gen.proofs.Lawful.{whole_feed}
use Rattle.feed_run.specs.declared.outcome.Outcome.{Outcome}
use Rattle.feed_run.specs.Ending.{Ending, FeedRead, WordsRefused, FeedRefused, RedoRefused, SourceFailed, SinkFailed, NoMemory, status_of, HasEnded, RunEnds}
use Rattle.feed_run.specs.Headline.{Headline, counted}
use Rattle.feed_run.specs.Standby.{Meaning}
use Rattle.feed_run.specs.View.{SinkView, source_view, sink_view}
use Rattle.soak_run.specs.Run.{SoakEnds, IsSoakComplete, WroteText, WroteSome, Offers}
use Rattle.soak_run.specs.Summary.{IsSummary, soaked}

-- ---- a whole feed that was read is the one that was generated

one_feed : (bytes rest : List ℕ) (t s t' s' : ℕ) (ds es : List (List Item)) → IsFeed t s ds → bytes ≡ feed_bytes t s ds ++ rest → BeginsFeed bytes t' s' es []
    → (t ≡ t') × (s ≡ s') × (ds ≡ es)
one_feed bytes rest t s t' s' ds es feed read whole =
    let here = deliveries_are_one bytes t s ds (stop_bytes ++ rest) feed (read ∙ append_assoc (opening_bytes t s ++ deliveries_bytes ds) stop_bytes rest) t' s' es [] whole in
    let there = deliveries_are_one bytes t' s' es stop_bytes whole.feed (whole.spelled ∙ append-nil (feed_bytes t' s' es)) t s ds rest (record { feed = feed; spelled = read }) in
    let one : length es ≡ length ds + length here.2.0 = ap length here.2.1 ∙ length-append ds here.2.0 in
    let other : length ds ≡ length es + length there.2.0 = ap length there.2.1 ∙ length-append es there.2.0 in
    let none : here.2.0 ≡ [] = nil_from_length here.2.0 (omega (arith, one, other)) in
    (here.0, here.1, sym (here.2.1 ∙ ap (λ l. ds ++ l) none ∙ append-nil ds))

module _ (meaning : Meaning) (seed txns : ℕ) (few : txns ≤ 100000) (bytes : List ℕ) where
  ended : (rest : Option (List ℕ)) (taken written : List ℕ) → HasEnded meaning taken written → Consumes (Some (generated seed txns)) rest taken → bytes ≡ written → meaning 3 4 (soaked seed txns) bytes
  ended None taken written h took wrote = absurd took
  ended (Some rest) taken written h took wrote =
      let same = one_feed (generated seed txns) rest h.threads h.sessions 3 4 h.deliveries (generated_deliveries seed txns) h.feed (took ∙ ap (λ x. x ++ rest) h.read) (whole_feed seed txns few) in
      subst (meaning 3 4 (soaked seed txns)) (sym wrote)
      (subst (λ ds. meaning 3 4 (map delivery_of ds) written) same.2 (subst (λ s. meaning 3 s (map delivery_of h.deliveries) written) same.1 (subst (λ t. meaning t h.sessions (map delivery_of h.deliveries) written) same.0 h.ran)))

  by_ending : (e : Ending) (rest : Option (List ℕ)) (taken written : List ℕ) → 0 ≡ status_of e → RunEnds meaning (Some (generated seed txns)) e taken written → Consumes (Some (generated seed txns)) rest taken → bytes ≡ written
      → meaning 3 4 (soaked seed txns) bytes
  by_ending FeedRead rest taken written e h took wrote = ended rest taken h.before h.stops took (wrote ∙ h.then_line ∙ append-nil h.before)
  by_ending WordsRefused rest taken written e h took wrote = absurd h
  by_ending (FeedRefused kind byte) rest taken written e h took wrote = absurd (omega (arith, e))
  by_ending (RedoRefused fault) rest taken written e h took wrote = absurd (omega (arith, e))
  by_ending SourceFailed rest taken written e h took wrote = absurd (omega (arith, e))
  by_ending SinkFailed rest taken written e h took wrote = absurd (omega (arith, e))
  by_ending NoMemory rest taken written e h took wrote = absurd (omega (arith, e))

  -- where the run ended with status 0, the deliveries were answered by what the sink holds
  pub ran : (reads reads_now writes writes_now : ℕ) (rest : Option (List ℕ)) (outcome : Outcome)
      → Headline (RunEnds meaning (Some (generated seed txns))) (source_view (Some (generated seed txns)) reads) (source_view rest reads_now) (sink_view (Some []) writes) (sink_view (Some bytes) writes_now) outcome
      → outcome.status ≡ 0 → meaning 3 4 (soaked seed txns) bytes
  ran reads reads_now writes writes_now rest outcome h s = by_ending h.ending rest h.taken h.written (sym s ∙ h.status) h.ends h.took h.wrote

-- ---- what was written

no_bytes : (held : Option (List ℕ)) → Appends held held []
no_bytes None = tt
no_bytes (Some xs) = sym (append-nil xs)

nothing_taken : (left : Option (List ℕ)) → Consumes left left []
nothing_taken None = tt
nothing_taken (Some xs) = refl

is_cut : Ending → ℕ
is_cut SinkFailed = 1
is_cut e = 0

is_read : Ending → ℕ
is_read SourceFailed = 1
is_read e = 0

pub offered : (seed txns : ℕ) (left : Option (List ℕ)) (faults : ℕ) (sink sink_now : SinkView) (text : List ℕ) (outcome : Outcome) → length text < 2 ^ 64 → IsSummary seed txns text
    → Offers sink sink_now text outcome → Headline (SoakEnds seed txns) (source_view left faults) (source_view left faults) sink sink_now outcome
unfolding is_cut is_read
offered seed txns left faults sink sink_now text outcome short summary h = by_written h.written
  where
    count : (n : ℕ) (bytes : List ℕ) → n ≡ length bytes → length bytes < 2 ^ 64 → n ≡ counted bytes
    count n bytes is few = omega (arith, is, few)

    by_written : (WroteText sink sink_now text outcome ⊎ WroteSome sink sink_now text outcome) → Headline (SoakEnds seed txns) (source_view left faults) (source_view left faults) sink sink_now outcome
    by_written (inl w) = record {
      taken = [];
      written = text;
      took = nothing_taken left;
      wrote = w.wrote;
      taken_count = h.taken;
      written_count = count outcome.written text w.count short;
      ending = FeedRead;
      status = w.ended;
      ends = record { nothing_read = refl; summary = subst (IsSummary seed txns) (sym (append-nil text)) summary };
      causes = record {
        read_fault = λ e. absurd (omega (arith, ap is_read e));
        no_read_fault = λ e. refl;
        write_fault = λ e. absurd (omega (arith, ap is_cut e));
        no_write_fault = λ e. w.no_fault;
      };
    }
    by_written (inr w) = record {
      taken = [];
      written = w.front;
      took = nothing_taken left;
      wrote = w.wrote;
      taken_count = h.taken;
      written_count = count outcome.written w.front w.count (omega (arith, short, ap length w.split, length-append w.front w.cut));
      ending = SinkFailed;
      status = w.ended;
      ends = (w.cut, w.some, record { nothing_read = refl; summary = subst (IsSummary seed txns) (sym w.split) summary });
      causes = record {
        read_fault = λ e. absurd (omega (arith, ap is_read e));
        no_read_fault = λ e. refl;
        write_fault = λ e. w.fault;
        no_write_fault = λ e. absurd (e refl);
      };
    }

pub wanting : (seed txns : ℕ) (left : Option (List ℕ)) (faults : ℕ) (sink : SinkView) → Headline (SoakEnds seed txns) (source_view left faults) (source_view left faults) sink sink (record { status = 6; taken = 0; written = 0 })
unfolding is_cut is_read
wanting seed txns left faults sink = record {
  taken = [];
  written = [];
  took = nothing_taken left;
  wrote = no_bytes sink.held;
  taken_count = refl;
  written_count = refl;
  ending = NoMemory;
  status = refl;
  ends = (refl, refl);
  causes = record {
    read_fault = λ e. absurd (omega (arith, ap is_read e));
    no_read_fault = λ e. refl;
    write_fault = λ e. absurd (omega (arith, ap is_cut e));
    no_write_fault = λ e. refl;
  };
}

pub whole_or_cut : (sink sink_now : SinkView) (text : List ℕ) (outcome : Outcome) → Offers sink sink_now text outcome → IsSoakComplete sink sink_now outcome
whole_or_cut sink sink_now text outcome h calm = by_written h.written
  where
    by_written : (WroteText sink sink_now text outcome ⊎ WroteSome sink sink_now text outcome) → (outcome.status ≡ 0) ⊎ (outcome.status ≡ 6)
    by_written (inl w) = inl w.ended
    by_written (inr w) = absurd (calm w.fault)

-- ---- as the calls say it

pub ran_from : (meaning : Meaning) (seed txns : ℕ) → txns ≤ 100000 → (bytes left held : List ℕ) (reads reads_now writes writes_now : ℕ) (rest : Option (List ℕ)) (outcome : Outcome) → left ≡ generated seed txns → held ≡ []
    → Headline (RunEnds meaning (Some left)) (source_view (Some left) reads) (source_view rest reads_now) (sink_view (Some held) writes) (sink_view (Some bytes) writes_now) outcome
    → outcome.status ≡ 0 → meaning 3 4 (soaked seed txns) bytes
ran_from meaning seed txns few bytes left held reads reads_now writes writes_now rest outcome is none h s =
    ran meaning seed txns few bytes reads reads_now writes writes_now rest outcome
    (subst (λ x. Headline (RunEnds meaning (Some (generated seed txns))) (source_view (Some (generated seed txns)) reads) (source_view rest reads_now) (sink_view (Some x) writes) (sink_view (Some bytes) writes_now) outcome) none
    (subst (λ x. Headline (RunEnds meaning (Some x)) (source_view (Some x) reads) (source_view rest reads_now) (sink_view (Some held) writes) (sink_view (Some bytes) writes_now) outcome) is h)) s

pub whole_offer : (sink sink_now : SinkView) (text : List ℕ) (count status : ℕ) → status ≡ 0 → count ≡ length text → Appends sink.held sink_now.held (take count text) → sink_now.faults ≡ sink.faults
    → Offers sink sink_now text (record { status = status; taken = 0; written = count })
whole_offer sink sink_now text count status s all wrote same = record {
  taken = refl;
  written = inl (record { wrote = subst (Appends sink.held sink_now.held) (take_all count text (omega (arith, all))) wrote; count = all; no_fault = same; ended = s });
}

pub cut_offer : (sink sink_now : SinkView) (text : List ℕ) (count status : ℕ) → status ≡ 5 → count ≤ length text → (count ≡ length text → ⊥) → Appends sink.held sink_now.held (take count text) → Rose sink.faults sink_now.faults
    → Offers sink sink_now text (record { status = status; taken = 0; written = count })
cut_offer sink sink_now text count status s within some wrote rose = record {
  taken = refl;
  written = inr (record {
    front = take count text;
    cut = drop count text;
    split = take-append-drop count text;
    some = λ none. some (omega (arith, within, ap length none, length-drop count text));
    wrote = wrote;
    count = sym (length-take-le count text within);
    fault = rose;
    ended = s;
  });
}
