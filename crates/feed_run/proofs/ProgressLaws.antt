-- How the run of a feed goes on and how it stops.
use Rattle.std.proofs.Common.{◌⊎◌, ◌≡◌, ◌≢◌, ◌++◌, ◌+◌, ◌-◌, ◌≤◌, ◌^◌, ℕ, List, [], ◌∷◌, length, Option, Some, None, IfSome, append_assoc, append-nil, length-append, ◌∙◌, ap, sym, subst, refl, arith, zero-add, min, inl, inr, ⊎_elim, Bool, true, false, drop, Result, Ok, Err}
use Rattle.std.proofs.lemmas.List.{length-drop}
use Rattle.std.specs.Ffi.{without_last}
use Rattle.std.specs.Io.KnownBytes.{Consumes, Appends}
use Rattle.adg_model.specs.declared.delivery.RawDelivery.{RawDelivery}
use Rattle.adg_model.specs.declared.fault.FeedKind.{FeedKind}
use Rattle.adg_model.specs.declared.fault.FeedKind.TheVariants as kinds
use Rattle.adg_model.specs.Feed.{Item, Standing, AreItems, AreDeliveries, frame_fault, IsFeed, IsHeader, IsDelivery, FeedFails, DeliveryFails, start, after_delivery, after_deliveries, delivery_of, opening_bytes, deliveries_bytes, delivery_bytes, items_bytes, stop_bytes}
use Rattle.adg_model.proofs.FeedLaws.{deliveries_more, after_more, feed_more}
use Rattle.feed_frames.specs.State.{FeedState, fresh}
use Rattle.feed_frames.specs.declared.phase.Phase.TheVariants.{Open}
use Rattle.feed_frames.specs.declared.fault.FeedFault.{FeedFault}
use Rattle.feed_frames.specs.Intake.{Took, fault_byte}
use Rattle.feed_frames.specs.declared.phase.Phase.{Phase}
use Rattle.feed_frames.specs.declared.reader.Step.{Step}
use Rattle.feed_frames.specs.Frames.{FrameStops}
use Rattle.feed_frames.specs.Answers.{ReadHeader, NoHeader, OpeningFails, ReadDelivery, ReadEnd, NoDelivery, IsOfBytes, HeaderAnswer, StepAnswer, AnswersDelivery, IsReading}
use Rattle.feed_run.specs.declared.refusal.Refusal.{Refusal}
use Rattle.feed_run.specs.declared.refusal.Refusal.TheVariants as refusals
use Rattle.feed_run.specs.declared.standby.Unanswered.{Unanswered}
use Rattle.feed_run.specs.declared.standby.Unanswered.TheVariants as unanswered
use Rattle.feed_run.specs.Ending.{IsFeedFront, HasRunFront, FeedRead, SinkFailed, Stops, HasFeedFault, read_bytes}
use Rattle.feed_run.specs.Headline.{counted}
use Rattle.feed_run.specs.Progress.{IsAt, RunStops, WroteFront, WrotePiece, Writes, feed_ending, ending_of}
use Rattle.feed_run.specs.Standby.{Meaning, IsNext, Responds, SomeAnswered, deliveries_of}
use Rattle.feed_run.specs.View.{SinkView}
use Rattle.feed_run.proofs.StoppedReading.{IsOpeningFront, IsDeliveryFront, IsFrontBefore, opening_read, opening_memory, opening_shown, opening_before, delivery_read, delivery_memory, delivery_shown, delivery_found, delivery_before, delivery_none}

-- ---- bytes that were taken and written, one after another

consumes_join : (a b c : Option (List ℕ)) (x y : List ℕ) → Consumes a b x → Consumes b c y → Consumes a c (x ++ y)
consumes_join None b c x y h k = tt
consumes_join (Some a) None c x y h k = absurd h
consumes_join (Some a) (Some b) None x y h k = absurd k
consumes_join (Some a) (Some b) (Some c) x y h k = h ∙ ap (λ (t : List ℕ). x ++ t) k ∙ sym (append_assoc x y c)

pub appends_join : (a b c : Option (List ℕ)) (x y : List ℕ) → Appends a b x → Appends b c y → Appends a c (x ++ y)
appends_join None b c x y h k = tt
appends_join (Some a) None c x y h k = absurd h
appends_join (Some a) (Some b) None x y h k = absurd k
appends_join (Some a) (Some b) (Some c) x y h k = k ∙ ap (λ (t : List ℕ). t ++ y) h ∙ append_assoc a x y

pub appends_none : (a : Option (List ℕ)) → Appends a a []
appends_none None = tt
appends_none (Some a) = sym (append-nil a)

took_join : (a b c : Option (List ℕ)) (m n : ℕ) (x y : List ℕ) → Took a b 0 m x → Took b c m n y → Took a c 0 n (x ++ y)
took_join a b c m n x y h k = record { consumed = consumes_join a b c x y h.consumed k.consumed; counted = omega (arith, h.counted, k.counted, length-append x y) }

took_as : (a b : Option (List ℕ)) (m n : ℕ) (x y : List ℕ) → x ≡ y → Took a b m n x → Took a b m n y
took_as a b m n x y e h = subst (Took a b m n) e h

-- a piece of which not all was taken
pub not_whole : (n : ℕ) (piece : List ℕ) (whole : Bool) → n ≤ length piece → whole ≡ false → (n ≡ length piece → whole ≡ true) → drop n piece ≢ []
not_whole n piece whole most other all none =
    let full = all (omega (arith, most, length-drop n piece, ap (λ (t : List ℕ). length t) none)) in
    let clash : true ≡ false = sym full ∙ other in
    absurd cc

-- the count after a front of a piece was taken
pub count_more : (before n after : ℕ) (output front : List ℕ) → length front ≡ n → after ≡ min (before + n) (2 ^ 64 - 1) → before ≡ counted output → after ≡ counted (output ++ front)
count_more before n after output front len sum e = omega (arith, length-append output front, len, sum, e)

-- ---- what the reader answers

-- what a fresh reader answers to the header, and one that stands before a delivery
pub header_err : (old new : FeedState) (from to : Option (List ℕ)) (fault : FeedFault) → old ≡ fresh → HeaderAnswer old.phase old new from to (Err fault) → NoHeader fresh new from to fault
header_err old new from to fault e h = subst (λ (s : FeedState). HeaderAnswer s.phase s new from to (Err fault)) e h

pub header_ok : (old new : FeedState) (from to : Option (List ℕ)) (done : Unit {0}) → old ≡ fresh → HeaderAnswer old.phase old new from to (Ok done) → ReadHeader fresh new from to
header_ok old new from to done e h = subst (λ (s : FeedState). HeaderAnswer s.phase s new from to (Ok done)) e h

pub fresh_reads : (old : FeedState) → old ≡ fresh → IsReading old.phase
fresh_reads old e = subst (λ (s : FeedState). IsReading s.phase) (sym e) tt

pub open_reads : (old : FeedState) → old.phase ≡ Open → IsReading old.phase
open_reads old e = subst IsReading (sym e) tt

pub step_of : (old new : FeedState) (from to : Option (List ℕ)) (r : Result Step FeedFault) → old.phase ≡ Open → StepAnswer old.phase old new from to r → AnswersDelivery old new from to r
step_of old new from to r e h = subst (λ (p : Phase). StepAnswer p old new from to r) e h

-- the header that was read names the threads and the sessions that the reader tells
pub record HasRead (source from : Option (List ℕ)) (opened : FeedState) : Type 0 where
  pub header : IsHeader opened.standing.threads opened.standing.sessions
  pub phase : opened.phase ≡ Open
  pub standing : opened.standing ≡ start opened.standing.threads opened.standing.sessions
  pub took : Took source from 0 opened.taken (opening_bytes opened.standing.threads opened.standing.sessions)

pub has_read : (source from : Option (List ℕ)) (opened : FeedState) → ReadHeader fresh opened source from → HasRead source from opened
has_read source from opened h =
    let standing : opened.standing ≡ start h.threads h.sessions = ap (λ (s : FeedState). s.standing) h.state in
    let threads : h.threads ≡ opened.standing.threads = sym (ap (λ (s : Standing). s.threads) standing) in
    let sessions : h.sessions ≡ opened.standing.sessions = sym (ap (λ (s : Standing). s.sessions) standing) in
    record {
      header = subst (λ (t : ℕ). IsHeader t opened.standing.sessions) threads (subst (λ (s : ℕ). IsHeader h.threads s) sessions h.header);
      phase = ap (λ (s : FeedState). s.phase) h.state;
      standing = standing ∙ ap (λ (t : ℕ). start t h.sessions) threads ∙ ap (λ (s : ℕ). start opened.standing.threads s) sessions;
      took = subst (λ (t : ℕ). Took source from 0 opened.taken (opening_bytes t opened.standing.sessions)) threads
          (subst (λ (s : ℕ). Took source from 0 opened.taken (opening_bytes h.threads s)) sessions h.took);
    }

-- ---- deliveries of a feed, one after another

-- the bytes with one delivery more
read_more : (threads sessions : ℕ) (ds : List (List Item)) (items : List Item) → read_bytes threads sessions ds ++ delivery_bytes items ≡ read_bytes threads sessions (ds ++ items ∷ [])
read_more threads sessions ds items =
    append_assoc (opening_bytes threads sessions) (deliveries_bytes ds) (delivery_bytes items) ∙ ap (λ (t : List ℕ). opening_bytes threads sessions ++ t) (sym (deliveries_more ds items))

pub of_more : (ds : List (List Item)) (items : List Item) → deliveries_of (ds ++ items ∷ []) ≡ deliveries_of ds ++ delivery_of items ∷ []
of_more [] items = refl
of_more (d ∷ ds) items = ap (λ (l : List RawDelivery). delivery_of d ∷ l) (of_more ds items)

-- the last delivery of a feed
pub last_delivery : (st : Standing) (ds : List (List Item)) (items : List Item) → AreDeliveries st (ds ++ items ∷ []) → IsDelivery (after_deliveries st ds) items
last_delivery st [] items h = h.0
last_delivery st (d ∷ ds) items h = last_delivery (after_delivery st d) ds items h.1

-- ---- where the run stands

-- the reader stands before the first delivery
pub at_start : (meaning : Meaning) (source from sink : Option (List ℕ)) (opened : FeedState) (threads sessions : ℕ) → HasRead source from opened → threads ≡ opened.standing.threads → sessions ≡ opened.standing.sessions
    → meaning threads sessions [] [] → IsAt meaning source from sink sink opened 0
at_start meaning source from sink opened threads sessions h t s none = record {
  threads = opened.standing.threads;
  sessions = opened.standing.sessions;
  deliveries = [];
  output = [];
  feed = (h.header, tt);
  phase = h.phase;
  standing = h.standing;
  took = took_as source from 0 opened.taken _ _ (sym (append-nil (opening_bytes opened.standing.threads opened.standing.sessions))) h.took;
  ran = subst (λ (n : ℕ). meaning opened.standing.threads n [] []) s (subst (λ (n : ℕ). meaning n sessions [] []) t none);
  wrote = appends_none sink;
  written_count = refl;
}

-- what follows from a claim on bytes
abbrev pub Follows : Meaning → Meaning → Type 0
Follows p q = (threads sessions : ℕ) (ds : List RawDelivery) (out : List ℕ) → p threads sessions ds out → q threads sessions ds out

-- what a standby has answered some standby has
pub some_of : {S T : Type 0} (answered : S → T → Meaning) (standby : S) (setup : T) → Follows (answered standby setup) (SomeAnswered answered setup)
some_of answered standby setup threads sessions ds out h = inr (standby, h)

-- The facts of one delivery more that was read where the run stands.
pub record OneRead (source to : Option (List ℕ)) (threads sessions : ℕ) (ds : List (List Item)) (new : FeedState) (d : RawDelivery) : Type 0 where
  pub items : List Item
  pub feed : IsFeed threads sessions (ds ++ items ∷ [])
  pub standing : new.standing ≡ after_deliveries (start threads sessions) (ds ++ items ∷ [])
  pub took : Took source to 0 new.taken (read_bytes threads sessions (ds ++ items ∷ []))
  pub brings : d ≡ delivery_of items
  pub deliveries : deliveries_of ds ++ d ∷ [] ≡ deliveries_of (ds ++ items ∷ [])

module _ (meaning : Meaning) (source from sink held : Option (List ℕ)) (old : FeedState) (written : ℕ) (at : IsAt meaning source from sink held old written) (to : Option (List ℕ)) (new : FeedState) (d : RawDelivery) (r : ReadDelivery old new from to d) where
  pub one_read : OneRead source to at.threads at.sessions at.deliveries new d
  one_read =
      let st : Standing = start at.threads at.sessions in
      let is : IsDelivery (after_deliveries st at.deliveries) r.items = subst (λ (s : Standing). IsDelivery s r.items) at.standing r.is_delivery in
      let next : new.standing ≡ after_delivery (after_deliveries st at.deliveries) r.items = ap (λ (s : FeedState). s.standing) r.state ∙ ap (λ (s : Standing). after_delivery s r.items) at.standing in
      record {
        items = r.items;
        feed = (at.feed.0, feed_more st at.deliveries r.items at.feed.1 is);
        standing = next ∙ sym (after_more st at.deliveries r.items);
        took = took_as source to 0 new.taken _ _ (read_more at.threads at.sessions at.deliveries r.items) (took_join source from to old.taken new.taken _ _ at.took r.took);
        brings = r.brings;
        deliveries = ap (λ (k : RawDelivery). deliveries_of at.deliveries ++ k ∷ []) r.brings ∙ sym (of_more at.deliveries r.items);
      }

  -- it was answered and its lines were written
  pub at_more : (q : Meaning) (k k' : SinkView) (written' : ℕ) (printed : List ℕ) → held ≡ k.held → q at.threads at.sessions (deliveries_of at.deliveries ++ d ∷ []) (at.output ++ printed)
      → WrotePiece k k' written written' printed → IsAt q source to sink k'.held new written'
  at_more q k k' written' printed same ran wrote = record {
    threads = at.threads;
    sessions = at.sessions;
    deliveries = at.deliveries ++ one_read.items ∷ [];
    output = at.output ++ printed;
    feed = one_read.feed;
    phase = ap (λ (s : FeedState). s.phase) r.state;
    standing = one_read.standing;
    took = one_read.took;
    ran = subst (λ (l : List RawDelivery). q at.threads at.sessions l (at.output ++ printed)) one_read.deliveries ran;
    wrote = appends_join sink k.held k'.held at.output printed (subst (λ (o : Option (List ℕ)). Appends sink o at.output) same at.wrote) wrote.wrote;
    written_count = wrote.count at.output at.written_count;
  }

-- ---- how the run stops

-- a fault by its kind
stops_by_kind : (meaning : Meaning) (kind : FeedKind) (byte : ℕ) (source : Option (List ℕ)) (taken written : List ℕ) → (IsOfBytes kind → HasFeedFault meaning source kind byte taken written)
    → (kind ≡ kinds.Read → HasRunFront meaning taken written) → (kind ≡ kinds.Memory → HasRunFront meaning taken written ⊎ HasRunFront meaning (without_last taken) written)
    → Stops meaning (feed_ending kind byte) source taken written
stops_by_kind meaning kinds.BadMagic byte source taken written f r m = f tt
stops_by_kind meaning kinds.BadTag byte source taken written f r m = f tt
stops_by_kind meaning kinds.BadOrder byte source taken written f r m = f tt
stops_by_kind meaning kinds.BadLength byte source taken written f r m = f tt
stops_by_kind meaning kinds.TooLarge byte source taken written f r m = f tt
stops_by_kind meaning kinds.TooManyDeliveries byte source taken written f r m = f tt
stops_by_kind meaning kinds.BadThread byte source taken written f r m = f tt
stops_by_kind meaning kinds.BadSession byte source taken written f r m = f tt
stops_by_kind meaning kinds.TooManyCommands byte source taken written f r m = f tt
stops_by_kind meaning kinds.Truncated byte source taken written f r m = f tt
stops_by_kind meaning kinds.Read byte source taken written f r m = r refl
stops_by_kind meaning kinds.Memory byte source taken written f r m = m refl

-- bytes of a delivery come after whole deliveries that were answered
module _ (meaning : Meaning) (threads sessions : ℕ) (ds : List (List Item)) (out : List ℕ) (feed : IsFeed threads sessions ds) (ran : meaning threads sessions (deliveries_of ds) out) where
  run_front : (bytes : List ℕ) → IsDeliveryFront (after_deliveries (start threads sessions) ds) (read_bytes threads sessions ds) bytes → HasRunFront meaning (read_bytes threads sessions ds ++ bytes) out
  run_front bytes front = record { threads = threads; sessions = sessions; deliveries = ds; front = inr (record { rest = bytes; feed = feed; spelled = refl; fails = front }); ran = ran }

  -- the same where the last byte is left out
  feed_before : (bytes : List ℕ) → IsFrontBefore (after_deliveries (start threads sessions) ds) (read_bytes threads sessions ds) bytes → IsFeedFront (without_last (read_bytes threads sessions ds ++ bytes)) threads sessions ds
  feed_before bytes h = subst (λ (t : List ℕ). IsFeedFront t threads sessions ds) (sym h.spelled) (inr (record { rest = h.rest; feed = feed; spelled = refl; fails = h.front }))

  run_before : (bytes : List ℕ) → IsFrontBefore (after_deliveries (start threads sessions) ds) (read_bytes threads sessions ds) bytes → HasRunFront meaning (without_last (read_bytes threads sessions ds ++ bytes)) out
  run_before bytes h = record { threads = threads; sessions = sessions; deliveries = ds; front = feed_before bytes h; ran = ran }

-- the fault of what the source told of a delivery is the fault of all that it told
later_fails : (source from : Option (List ℕ)) (threads sessions : ℕ) (ds : List (List Item)) (offset : ℕ) (st : Standing) (kind : FeedKind) (byte : ℕ) → IsFeed threads sessions ds → st ≡ after_deliveries (start threads sessions) ds
    → Took source from 0 offset (read_bytes threads sessions ds) → IfSome from (λ left. DeliveryFails st offset left kind byte) → IfSome source (λ bytes. FeedFails bytes threads sessions ds kind byte)
later_fails None from threads sessions ds offset st kind byte feed same took h = tt
later_fails (Some bytes) None threads sessions ds offset st kind byte feed same took h = absurd took.consumed
later_fails (Some bytes) (Some left) threads sessions ds offset st kind byte feed same took h =
    inr (record {
      rest = left;
      feed = feed;
      spelled = took.consumed;
      fails = subst (λ (n : ℕ). DeliveryFails (after_deliveries (start threads sessions) ds) n left kind byte) (took.counted ∙ zero-add _) (subst (λ (s : Standing). DeliveryFails s offset left kind byte) same h);
    })

-- Where the run stands before a delivery, over what the bytes mean.
module _ (p meaning : Meaning) (means : Follows p meaning) (source from sink held : Option (List ℕ)) (old : FeedState) (written : ℕ) (at : IsAt p source from sink held old written) (to : Option (List ℕ)) (new : FeedState) where
  ran_so : meaning at.threads at.sessions (deliveries_of at.deliveries) at.output
  ran_so = means at.threads at.sessions (deliveries_of at.deliveries) at.output at.ran

  -- the stop frame was read
  pub stop_end : ReadEnd old new from to → RunStops meaning source to sink held new.taken written FeedRead
  stop_end r = record {
    bytes = read_bytes at.threads at.sessions at.deliveries ++ stop_bytes;
    output = at.output;
    took = took_join source from to old.taken new.taken _ _ at.took r.took;
    wrote = at.wrote;
    written_count = at.written_count;
    stops = record { threads = at.threads; sessions = at.sessions; deliveries = at.deliveries; feed = at.feed; read = refl; ran = ran_so };
  }

  -- the first fault of a feed after deliveries that were answered
  later_fault : (fault : FeedFault) (r : NoDelivery old new from to fault) → IsOfBytes fault.kind → HasFeedFault meaning source fault.kind fault.byte (read_bytes at.threads at.sessions at.deliveries ++ (items_bytes r.before ++ r.rest)) at.output
  later_fault fault r shown =
      let st : Standing = after_deliveries (start at.threads at.sessions) at.deliveries in
      let earlier : List ℕ = read_bytes at.threads at.sessions at.deliveries in
      let here : old.taken ≡ length earlier = at.took.counted ∙ zero-add _ in
      let byte = subst (λ (n : ℕ). fault.byte ≡ fault_byte fault.kind (n + length (items_bytes r.before)) new.taken) here r.byte in
      let all : new.taken ≡ length earlier + length (items_bytes r.before) + length r.rest = omega (arith, here, r.took.counted, length-append (items_bytes r.before) r.rest) in
      let items = subst (λ (s : Standing). AreItems s [] r.before) at.standing r.items in
      let stops = subst (λ (s : Standing). FrameStops fault.kind (frame_fault s r.before) to r.rest) at.standing r.stops in
      record {
        threads = at.threads;
        sessions = at.sessions;
        deliveries = at.deliveries;
        fails = later_fails source from at.threads at.sessions at.deliveries old.taken old.standing fault.kind fault.byte at.feed at.standing at.took (r.first shown);
        shown = inr (record {
          rest = items_bytes r.before ++ r.rest;
          feed = at.feed;
          spelled = refl;
          fails = delivery_shown st r.before r.rest to fault.kind (length earlier) fault.byte new.taken shown items stops byte all;
        });
        at_once = λ other. feed_before meaning at.threads at.sessions at.deliveries at.output at.feed ran_so (items_bytes r.before ++ r.rest) (delivery_found st earlier r.before r.rest to fault.kind (shown, other) items stops);
        ran = ran_so;
      }

  pub stop_fault : (fault : FeedFault) → NoDelivery old new from to fault → RunStops meaning source to sink held new.taken written (feed_ending fault.kind fault.byte)
  stop_fault fault r =
      let st : Standing = after_deliveries (start at.threads at.sessions) at.deliveries in
      let earlier : List ℕ = read_bytes at.threads at.sessions at.deliveries in
      let bytes : List ℕ = items_bytes r.before ++ r.rest in
      let items = subst (λ (s : Standing). AreItems s [] r.before) at.standing r.items in
      let stops = subst (λ (s : Standing). FrameStops fault.kind (frame_fault s r.before) to r.rest) at.standing r.stops in
      record {
        bytes = earlier ++ bytes;
        output = at.output;
        took = took_join source from to old.taken new.taken _ _ at.took r.took;
        wrote = at.wrote;
        written_count = at.written_count;
        stops = stops_by_kind meaning fault.kind fault.byte source (earlier ++ bytes) at.output (later_fault fault r)
            (λ e. run_front meaning at.threads at.sessions at.deliveries at.output at.feed ran_so bytes (delivery_read st earlier r.before r.rest to fault.kind e items stops))
            (λ e. ⊎_elim (λ front. inl (run_front meaning at.threads at.sessions at.deliveries at.output at.feed ran_so bytes front))
            (λ front. inr (run_before meaning at.threads at.sessions at.deliveries at.output at.feed ran_so bytes front))
            (delivery_memory st earlier r.before r.rest to fault.kind e items stops));
      }

  -- why a delivery that was read was not answered
  unanswered_stops : (ds : List (List Item)) (items : List Item) (out : List ℕ) (one : IsFeed at.threads at.sessions (ds ++ items ∷ [])) → IsFeed at.threads at.sessions ds → meaning at.threads at.sessions (deliveries_of ds) out
      → (q : Meaning) (before : List ℕ) (u : Unanswered) → Responds q at.threads at.sessions (deliveries_of (ds ++ items ∷ [])) before (Err u)
      → Stops meaning (ending_of (Err (refusals.Delivery u))) source (read_bytes at.threads at.sessions (ds ++ items ∷ [])) out
  unanswered_stops ds items out feed earlier ran q before (unanswered.Redo fault) h = record { one = record { threads = at.threads; sessions = at.sessions; deliveries = ds; last = items; feed = feed; read = refl; ran = ran }; bad = h }
  unanswered_stops ds items out feed earlier ran q before unanswered.Memory h =
      let st : Standing = after_deliveries (start at.threads at.sessions) ds in
      let are = last_delivery (start at.threads at.sessions) ds items feed.1 in
      inr (subst (λ (t : List ℕ). HasRunFront meaning (without_last t) out) (read_more at.threads at.sessions ds items)
      (run_before meaning at.threads at.sessions ds out earlier ran (delivery_bytes items) (delivery_before st (read_bytes at.threads at.sessions ds) items are.0)))

  -- a delivery was read and not answered
  pub stop_delivery : (d : RawDelivery) (r : ReadDelivery old new from to d) (q : Meaning) (before : List ℕ) (u : Unanswered) → Responds q at.threads at.sessions (deliveries_of at.deliveries ++ d ∷ []) before (Err u)
      → RunStops meaning source to sink held new.taken written (ending_of (Err (refusals.Delivery u)))
  stop_delivery d r q before u h =
      let one = one_read p source from sink held old written at to new d r in
      record {
        bytes = read_bytes at.threads at.sessions (at.deliveries ++ one.items ∷ []);
        output = at.output;
        took = one.took;
        wrote = at.wrote;
        written_count = at.written_count;
        stops = unanswered_stops at.deliveries one.items at.output one.feed at.feed ran_so q before u
            (subst (λ (l : List RawDelivery). Responds q at.threads at.sessions l before (Err u)) one.deliveries h);
      }

  -- the lines of a delivery were not all taken
  stop_write : (d : RawDelivery) (r : ReadDelivery old new from to d) (printed : List ℕ) (k k' : SinkView) (written' : ℕ) → held ≡ k.held → meaning at.threads at.sessions (deliveries_of at.deliveries ++ d ∷ []) (at.output ++ printed)
      → WroteFront k k' written written' printed → RunStops meaning source to sink k'.held new.taken written' SinkFailed
  stop_write d r printed k k' written' same ran wrote =
      let one = one_read p source from sink held old written at to new d r in
      record {
        bytes = read_bytes at.threads at.sessions (at.deliveries ++ one.items ∷ []);
        output = at.output ++ wrote.front;
        took = one.took;
        wrote = appends_join sink k.held k'.held at.output wrote.front (subst (λ (o : Option (List ℕ)). Appends sink o at.output) same at.wrote) wrote.wrote;
        written_count = wrote.count at.output at.written_count;
        stops = record {
          before = at.output;
          front = wrote.front;
          cut = wrote.cut;
          one = record { threads = at.threads; sessions = at.sessions; deliveries = at.deliveries; last = one.items; feed = one.feed; read = refl; ran = ran_so };
          ran = subst (λ (t : List ℕ). meaning at.threads at.sessions (deliveries_of (at.deliveries ++ one.items ∷ [])) (at.output ++ t)) (sym wrote.split)
              (subst (λ (l : List RawDelivery). meaning at.threads at.sessions l (at.output ++ printed)) one.deliveries ran);
          some = wrote.some;
          written_is = refl;
        };
      }

  -- the sink did not take all of the lines
  pub stop_put : (d : RawDelivery) (r : ReadDelivery old new from to d) (printed : List ℕ) (k k' : SinkView) (written' : ℕ) (refusal : Refusal) → held ≡ k.held → meaning at.threads at.sessions (deliveries_of at.deliveries ++ d ∷ []) (at.output ++ printed)
      → Writes k k' written written' printed (Err refusal) → RunStops meaning source to sink k'.held new.taken written' (ending_of (Err refusal))
  stop_put d r printed k k' written' (refusals.Feed f) same ran h = absurd h
  stop_put d r printed k k' written' (refusals.Delivery u) same ran h = absurd h
  stop_put d r printed k k' written' refusals.Write same ran h = stop_write d r printed k k' written' same ran h

-- Nothing was answered yet.
module _ (meaning : Meaning) (nothing : (threads sessions : ℕ) → meaning threads sessions [] []) (source to sink : Option (List ℕ)) (new : FeedState) where
  none_run : (bytes : List ℕ) → IsOpeningFront bytes → HasRunFront meaning bytes []
  none_run bytes front = record { threads = 1; sessions = 1; deliveries = []; front = inl (refl, front); ran = nothing 1 1 }

  opening_fails : (s : Option (List ℕ)) (kind : FeedKind) (byte : ℕ) → IfSome s (λ left. OpeningFails left kind byte) → IfSome s (λ bytes. FeedFails bytes 1 1 [] kind byte)
  opening_fails None kind byte h = tt
  opening_fails (Some bytes) kind byte h = inl (refl, h)

  -- the header has a fault
  pub stop_header : (fault : FeedFault) → NoHeader fresh new source to fault → RunStops meaning source to sink sink new.taken 0 (feed_ending fault.kind fault.byte)
  stop_header fault r = record {
    bytes = r.bytes;
    output = [];
    took = r.took;
    wrote = appends_none sink;
    written_count = refl;
    stops = stops_by_kind meaning fault.kind fault.byte source r.bytes [] (λ shown. record {
      threads = 1;
      sessions = 1;
      deliveries = [];
      fails = opening_fails source fault.kind fault.byte (r.first shown);
      shown = inl (refl, opening_shown fault to r.bytes shown r.stops);
      at_once = λ other. inl (refl, opening_before fault to r.bytes (shown, other) r.stops);
      ran = nothing 1 1;
    })
        (λ e. none_run r.bytes (opening_read fault to r.bytes e r.stops))
        (λ e. ⊎_elim (λ f. inl (none_run r.bytes f)) (λ f. inr (none_run (without_last r.bytes) f)) (opening_memory fault to r.bytes e r.stops));
  }

  -- no standby began
  pub stop_begin : HasRead source to new → RunStops meaning source to sink sink new.taken 0 (ending_of (Err (refusals.Delivery unanswered.Memory)))
  stop_begin h =
      let earlier : List ℕ = read_bytes new.standing.threads new.standing.sessions [] in
      record {
        bytes = opening_bytes new.standing.threads new.standing.sessions;
        output = [];
        took = h.took;
        wrote = appends_none sink;
        written_count = refl;
        stops = inl (subst (λ (t : List ℕ). HasRunFront meaning t []) (append-nil earlier ∙ append-nil (opening_bytes new.standing.threads new.standing.sessions))
            (run_front meaning new.standing.threads new.standing.sessions [] [] (h.header, tt) (nothing new.standing.threads new.standing.sessions) [] (delivery_none (start new.standing.threads new.standing.sessions) earlier)));
      }

-- before the first delivery nothing is written
pub nothing_of : {S T : Type 0} (answered : S → T → Meaning) (setup : T) (threads sessions : ℕ) → SomeAnswered answered setup threads sessions [] []
nothing_of answered setup threads sessions = inl (refl, refl)

-- A delivery that was read where the run stands may be answered.
module _ {T : Type 0} (answered : T → Meaning) (setup : T) (source from sink held : Option (List ℕ)) (old : FeedState) (written : ℕ) (at : IsAt (answered setup) source from sink held old written) (to : Option (List ℕ)) (new : FeedState) (d : RawDelivery) (r : ReadDelivery old new from to d) where
  abbrev pub is_next : IsNext answered d
  is_next =
      let one = one_read (answered setup) source from sink held old written at to new d r in
      record {
        setup = setup;
        threads = at.threads;
        sessions = at.sessions;
        before = at.deliveries;
        items = one.items;
        written = at.output;
        has = at.ran;
        feed = one.feed;
        brings = one.brings;
      }
