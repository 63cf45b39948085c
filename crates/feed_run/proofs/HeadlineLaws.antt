-- The headline, from how the run of a feed stopped and what was written to end it.
use Rattle.std.proofs.Common.{◌≡◌, ◌≢◌, ◌++◌, ℕ, List, [], length, Option, Some, None, IfSome, ◌∷◌, append-nil, ◌∙◌, ap, sym, subst, refl, zero-add, inl, inr, ◌⊎◌}
use Rattle.std.specs.Io.KnownBytes.{Consumes}
use Rattle.adg_io.specs.Faults.{Rose}
use Rattle.adg_model.specs.declared.fault.FeedKind.{FeedKind}
use Rattle.adg_model.specs.declared.fault.FeedKind.TheVariants as kinds
use Rattle.adg_model.specs.declared.fault.RedoFault.{RedoFault}
use Rattle.adg_model.specs.Feed.{Item, FeedFails}
use Rattle.adg_model.specs.Sound.{IsRedoFault}
use Rattle.adg_model.proofs.FeedWhole.{deliveries_are_one, whole_excludes_fault}
use Rattle.feed_run.specs.declared.outcome.Outcome.{Outcome}
use Rattle.feed_run.specs.Ending.{Ending, FeedRead, WordsRefused, FeedRefused, RedoRefused, SourceFailed, SinkFailed, NoMemory, HasLine, Stops, IsCutTranscript, HasRedoFault, RunEnds, UsageEnds, line_of, status_of}
use Rattle.feed_run.specs.Headline.{HasCauses, Headline, IsGoodFeed, IsComplete, counted}
use Rattle.feed_run.specs.Progress.{RunStops, WrotePiece, Tells, IsEnded, feed_ending}
use Rattle.feed_run.specs.Report.{usage_line}
use Rattle.feed_run.specs.Standby.{Meaning, deliveries_of}
use Rattle.feed_run.specs.View.{SourceView, SinkView}
use Rattle.feed_run.proofs.ProgressLaws.{appends_none, appends_join}

consumes_none : (a : Option (List ℕ)) → Consumes a a []
consumes_none None = tt
consumes_none (Some a) = refl

-- nothing was written
pub wrote_nothing : (k : SinkView) (n : ℕ) → WrotePiece k k n n []
wrote_nothing k n = record { wrote = appends_none k.held; count = λ output e. e ∙ ap counted (sym (append-nil output)); no_fault = refl }

-- a kind of fault that is neither the source's nor want of memory
pub refused_ending : (kind : FeedKind) (byte : ℕ) → kind ≢ kinds.Read → kind ≢ kinds.Memory → feed_ending kind byte ≡ FeedRefused kind byte
refused_ending kinds.BadMagic byte r m = refl
refused_ending kinds.BadTag byte r m = refl
refused_ending kinds.BadOrder byte r m = refl
refused_ending kinds.BadLength byte r m = refl
refused_ending kinds.TooLarge byte r m = refl
refused_ending kinds.TooManyDeliveries byte r m = refl
refused_ending kinds.BadThread byte r m = refl
refused_ending kinds.BadSession byte r m = refl
refused_ending kinds.TooManyCommands byte r m = refl
refused_ending kinds.Truncated byte r m = refl
refused_ending kinds.Read byte r m = absurd (r refl)
refused_ending kinds.Memory byte r m = absurd (m refl)

-- endings that are told from the others
abbrev IsSink : Ending → Type 0
IsSink SinkFailed = Unit {0}
IsSink _ = ⊥

abbrev IsWant : Ending → Type 0
IsWant NoMemory = Unit {0}
IsWant _ = ⊥

abbrev IsUsageEnd : Ending → Type 0
IsUsageEnd WordsRefused = Unit {0}
IsUsageEnd _ = ⊥

-- an ending that a line tells is neither the source's nor the sink's
line_source : (e : Ending) → HasLine e → e ≢ SourceFailed
line_source e h is = subst HasLine is h

line_sink : (e : Ending) → HasLine e → e ≢ SinkFailed
line_sink e h is = subst HasLine is h

nothing_cut : (front cut : List ℕ) → front ++ cut ≡ [] → cut ≡ []
nothing_cut [] cut e = e
nothing_cut (x ∷ xs) cut e = absurd cc

-- the line of an ending was told
pub ended_told : (ending : Ending) (k k' : SinkView) (before after result : ℕ) (line : List ℕ) → line ≡ line_of ending → Tells k k' before after line (status_of ending) result → IsEnded ending k k' before after result
ended_told ending k k' before after result line e h = inl (subst (λ (t : List ℕ). Tells k k' before after t (status_of ending) result) e h)

pub ended_feed : (kind : FeedKind) (byte : ℕ) (k k' : SinkView) (before after result : ℕ) (line : List ℕ) → kind ≢ kinds.Read → kind ≢ kinds.Memory
    → line ≡ line_of (FeedRefused kind byte) → Tells k k' before after line 2 result → IsEnded (feed_ending kind byte) k k' before after result
ended_feed kind byte k k' before after result line r m e h =
    subst (λ (ending : Ending). IsEnded ending k k' before after result) (sym (refused_ending kind byte r m)) (ended_told (FeedRefused kind byte) k k' before after result line e h)

-- ---- the run of a feed, over what the bytes mean

module _ (meaning : Meaning) where
  -- an ending of whose line something was left has a line
  line_told : (e : Ending) (source : Option (List ℕ)) (taken output front cut : List ℕ) → Stops meaning e source taken output → front ++ cut ≡ line_of e → cut ≢ [] → HasLine e
  line_told FeedRead source taken output front cut s split some = absurd (some (nothing_cut front cut split))
  line_told WordsRefused source taken output front cut s split some = absurd s
  line_told (FeedRefused kind byte) source taken output front cut s split some = tt
  line_told (RedoRefused fault) source taken output front cut s split some = tt
  line_told SourceFailed source taken output front cut s split some = absurd (some (nothing_cut front cut split))
  line_told SinkFailed source taken output front cut s split some = absurd (some (nothing_cut front cut split))
  line_told NoMemory source taken output front cut s split some = absurd (some (nothing_cut front cut split))

  -- the ending's line was written whole
  ends_of : (ending : Ending) (source : Option (List ℕ)) (taken output : List ℕ) → Stops meaning ending source taken output → RunEnds meaning source ending taken (output ++ line_of ending)
  ends_of FeedRead source taken output s = record { before = output; stops = s; then_line = refl }
  ends_of WordsRefused source taken output s = absurd s
  ends_of (FeedRefused kind byte) source taken output s = record { before = output; stops = s; then_line = refl }
  ends_of (RedoRefused fault) source taken output s = record { before = output; stops = s; then_line = refl }
  ends_of SourceFailed source taken output s = record { before = output; stops = s; then_line = refl }
  ends_of SinkFailed source taken output s = inl (subst (IsCutTranscript meaning taken) (sym (append-nil output)) s)
  ends_of NoMemory source taken output s = inl (subst (λ (w : List ℕ). Stops meaning NoMemory source taken w) (sym (append-nil output)) s)

  -- the feed was run
  pub headline_run : (source source_now : SourceView) (sink middle sink_now : SinkView) (ending : Ending) (taken before after status : ℕ)
      → RunStops meaning source.left source_now.left sink.held middle.held taken before ending → HasCauses ending source source_now sink middle → IsEnded ending middle sink_now before after status
      → Headline (RunEnds meaning source.left) source source_now sink sink_now (record { status = status; taken = taken; written = after })
  headline_run source source_now sink middle sink_now ending taken before after status run causes (inl (inl (p, is))) = record {
    taken = run.bytes;
    written = run.output ++ line_of ending;
    took = run.took.consumed;
    wrote = appends_join sink.held middle.held sink_now.held run.output (line_of ending) run.wrote p.wrote;
    taken_count = run.took.counted ∙ zero-add (length run.bytes);
    written_count = p.count run.output run.written_count;
    ending = ending;
    status = is;
    ends = ends_of ending source.left run.bytes run.output run.stops;
    causes = record {
      read_fault = causes.read_fault;
      no_read_fault = causes.no_read_fault;
      write_fault = λ s. subst (λ (n : ℕ). Rose sink.faults n) (sym p.no_fault) (causes.write_fault s);
      no_write_fault = λ s. p.no_fault ∙ causes.no_write_fault s;
    };
  }
  headline_run source source_now sink middle sink_now ending taken before after status run causes (inl (inr (f, is))) =
      let told : HasLine ending = line_told ending source.left run.bytes run.output f.front f.cut run.stops f.split f.some in
      record {
        taken = run.bytes;
        written = run.output ++ f.front;
        took = run.took.consumed;
        wrote = appends_join sink.held middle.held sink_now.held run.output f.front run.wrote f.wrote;
        taken_count = run.took.counted ∙ zero-add (length run.bytes);
        written_count = f.count run.output run.written_count;
        ending = SinkFailed;
        status = is;
        ends = inr (record {
          ending = ending;
          told = told;
          before = run.output;
          front = f.front;
          cut = f.cut;
          stops = run.stops;
          line = f.split;
          some = f.some;
          written_is = refl;
        });
        causes = record {
          read_fault = λ s. absurd (subst IsSink s tt);
          no_read_fault = λ s. causes.no_read_fault (line_source ending told);
          write_fault = λ s. subst (λ (n : ℕ). Rose n sink_now.faults) (causes.no_write_fault (line_sink ending told)) f.fault;
          no_write_fault = λ s. absurd (s refl);
        };
      }
  headline_run source source_now sink middle sink_now ending taken before after status run causes (inr (p, is, told)) = record {
    taken = run.bytes;
    written = run.output ++ [];
    took = run.took.consumed;
    wrote = appends_join sink.held middle.held sink_now.held run.output [] run.wrote p.wrote;
    taken_count = run.took.counted ∙ zero-add (length run.bytes);
    written_count = p.count run.output run.written_count;
    ending = NoMemory;
    status = is;
    ends = inr (record { ending = ending; told = told; stops = subst (λ (w : List ℕ). Stops meaning ending source.left run.bytes w) (sym (append-nil run.output)) run.stops });
    causes = record {
      read_fault = λ s. absurd (subst IsWant s tt);
      no_read_fault = λ s. causes.no_read_fault (line_source ending told);
      write_fault = λ s. absurd (subst IsWant s tt);
      no_write_fault = λ s. p.no_fault ∙ causes.no_write_fault (line_sink ending told);
    };
  }

  -- the redo of a good feed has no fault
  no_redo_fault : (bytes : List ℕ) (rest : Option (List ℕ)) (taken before : List ℕ) (fault : RedoFault) → IsGoodFeed bytes → Consumes (Some bytes) rest taken → HasRedoFault meaning fault taken before → ⊥
  no_redo_fault bytes None taken before fault good took h = absurd took
  no_redo_fault bytes (Some rest) taken before fault good took h =
      let ds : List (List Item) = h.one.deliveries ++ h.one.last ∷ [] in
      let p = deliveries_are_one bytes h.one.threads h.one.sessions ds rest h.one.feed (took ∙ ap (λ (t : List ℕ). t ++ rest) h.one.read) good.threads good.sessions good.deliveries good.unread good.begins in
      good.no_fault ds p.2.0 fault p.2.1 (subst (λ (t : ℕ). IsRedoFault t (deliveries_of ds) fault) p.0 h.bad)

  complete_ends : (source rest : Option (List ℕ)) (reads reads_now writes writes_now status : ℕ) (taken written : List ℕ) (ending : Ending)
      → status ≡ status_of ending → RunEnds meaning source ending taken written → Consumes source rest taken → (ending ≡ SourceFailed → Rose reads reads_now) → (ending ≡ SinkFailed → Rose writes writes_now)
      → (bytes : List ℕ) → source ≡ Some bytes → IsGoodFeed bytes → (Rose reads reads_now → ⊥) → (Rose writes writes_now → ⊥) → (status ≡ 0) ⊎ (status ≡ 6)
  complete_ends source rest reads reads_now writes writes_now status taken written FeedRead e ends took rf wf bytes is good no_read no_write = inl e
  complete_ends source rest reads reads_now writes writes_now status taken written WordsRefused e ends took rf wf bytes is good no_read no_write = absurd ends
  complete_ends source rest reads reads_now writes writes_now status taken written (FeedRefused kind byte) e ends took rf wf bytes is good no_read no_write =
      let h = ends.stops in
      let fails = subst (λ (o : Option (List ℕ)). IfSome o (λ b. FeedFails b h.threads h.sessions h.deliveries kind byte)) is h.fails in
      absurd (whole_excludes_fault bytes good.threads good.sessions good.deliveries good.unread h.threads h.sessions h.deliveries kind byte good.begins fails)
  complete_ends source rest reads reads_now writes writes_now status taken written (RedoRefused fault) e ends took rf wf bytes is good no_read no_write =
      absurd (no_redo_fault bytes rest taken ends.before fault good (subst (λ (o : Option (List ℕ)). Consumes o rest taken) is took) ends.stops)
  complete_ends source rest reads reads_now writes writes_now status taken written SourceFailed e ends took rf wf bytes is good no_read no_write = absurd (no_read (rf refl))
  complete_ends source rest reads reads_now writes writes_now status taken written SinkFailed e ends took rf wf bytes is good no_read no_write = absurd (no_write (wf refl))
  complete_ends source rest reads reads_now writes writes_now status taken written NoMemory e ends took rf wf bytes is good no_read no_write = inr e

  pub complete : (source source_now : SourceView) (sink sink_now : SinkView) (outcome : Outcome) → Headline (RunEnds meaning source.left) source source_now sink sink_now outcome → IsComplete source source_now sink sink_now outcome
  complete source source_now sink sink_now outcome h bytes is good =
      complete_ends source.left source_now.left source.faults source_now.faults sink.faults sink_now.faults outcome.status h.taken h.written h.ending h.status h.ends h.took h.causes.read_fault h.causes.write_fault bytes is good

-- ---- the words were refused

pub headline_usage : (source : SourceView) (sink sink_now : SinkView) (after status : ℕ) (line : List ℕ) → line ≡ usage_line → Tells sink sink_now 0 after line 1 status
    → Headline UsageEnds source source sink sink_now (record { status = status; taken = 0; written = after })
headline_usage source sink sink_now after status line u h = by_end (subst (λ (t : List ℕ). Tells sink sink_now 0 after t 1 status) u h)
  where
    by_end : Tells sink sink_now 0 after usage_line 1 status → Headline UsageEnds source source sink sink_now (record { status = status; taken = 0; written = after })
    by_end (inl (p, is)) = record {
      taken = [];
      written = usage_line;
      took = consumes_none source.left;
      wrote = p.wrote;
      taken_count = refl;
      written_count = p.count [] refl;
      ending = WordsRefused;
      status = is;
      ends = record { nothing_read = refl; usage = append-nil usage_line };
      causes = record {
        read_fault = λ s. absurd (subst IsUsageEnd s tt);
        no_read_fault = λ s. refl;
        write_fault = λ s. absurd (subst IsUsageEnd s tt);
        no_write_fault = λ s. p.no_fault;
      };
    }
    by_end (inr (f, is)) = record {
      taken = [];
      written = f.front;
      took = consumes_none source.left;
      wrote = f.wrote;
      taken_count = refl;
      written_count = f.count [] refl;
      ending = SinkFailed;
      status = is;
      ends = (f.cut, f.some, record { nothing_read = refl; usage = f.split });
      causes = record {
        read_fault = λ s. absurd (subst IsSink s tt);
        no_read_fault = λ s. refl;
        write_fault = λ s. f.fault;
        no_write_fault = λ s. absurd (s refl);
      };
    }
