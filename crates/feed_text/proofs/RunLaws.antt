-- How a run ends.
use Rattle.std.proofs.Common.{◌≡◌, ◌≢◌, ◌⊎◌, Bool, List, [], ℕ, ◌≤◌, length, drop, Some, None, true, false, refl, sym, ap, ◌∙◌, subst, inl, inr, arith}
use Rattle.std.specs.Prelude.{Option}
use Rattle.std.proofs.lemmas.List.{length-drop}
use Rattle.std.specs.Io.KnownBytes.{Consumes, IsAtEnd}
use Rattle.adg_io.specs.Faults.{Rose}
use Rattle.feed_text.specs.declared.reason.Reason.{Reason}
use Rattle.feed_text.specs.declared.top.Turn.{Turn}
use Rattle.feed_text.specs.declared.top.Turn.TheVariants.{Assemble, Show}
use Rattle.feed_text.specs.declared.top.Ended.{Ended}
use Rattle.feed_text.specs.declared.top.Ended.TheVariants.{Done, Refused, SourceFailed, SinkFailed, NoMemory}
use Rattle.feed_text.specs.LineReading.{split}
use Rattle.feed_text.specs.Meaning.{BreaksAt}
use Rattle.feed_text.specs.Run.{SinkView, Sinks, sinks_view, WriteEnds, Turned, TurnEnds, RunEnds, refusal_text}

-- a piece of which not all was taken
pub not_whole : (n : ℕ) (piece : List ℕ) (whole : Bool) → n ≤ length piece → whole ≡ false → (n ≡ length piece → whole ≡ true) → drop n piece ≢ []
not_whole n piece whole most other all none =
    let full = all (omega (arith, most, length-drop n piece, ap (λ (t : List ℕ). length t) none)) in
    let clash : true ≡ false = sym full ∙ other in
    absurd cc

-- the output was written, or a front of it
pub wrote_ends : (turn : Turn) (input output : List ℕ) (sink sink_now errors : SinkView) (r : Ended) → Turned turn input output → WriteEnds sink sink_now output Done r → TurnEnds turn input (sinks_view sink errors) (sinks_view sink_now errors) r
wrote_ends turn input output sink sink_now errors r turned (inl (e, all)) =
    subst (λ (q : Ended). TurnEnds turn input (sinks_view sink errors) (sinks_view sink_now errors) q) (sym e) (record { output = output; turned = turned; written = all }, refl)
wrote_ends turn input output sink sink_now errors r turned (inr (e, front)) =
    subst (λ (q : Ended). TurnEnds turn input (sinks_view sink errors) (sinks_view sink_now errors) q) (sym e) (inl (record { output = output; turned = turned; written = front }, refl))

-- the line of a refusal was written, or a front of it, or there was no memory for it
pub told_ends : (text : List ℕ) (number : ℕ) (reason : Reason) (sink errors errors_now : SinkView) (r : Ended) → BreaksAt 1 (split 10 text) number reason
    → WriteEnds errors errors_now (refusal_text number reason) Refused r ⊎ ((r ≡ NoMemory) × (errors_now ≡ errors))
    → TurnEnds Assemble text (sinks_view sink errors) (sinks_view sink errors_now) r
told_ends text number reason sink errors errors_now r breaks (inl (inl (e, all))) =
    subst (λ (q : Ended). TurnEnds Assemble text (sinks_view sink errors) (sinks_view sink errors_now) q) (sym e) (record { number = number; reason = reason; breaks = breaks; written = all }, refl)
told_ends text number reason sink errors errors_now r breaks (inl (inr (e, front))) =
    subst (λ (q : Ended). TurnEnds Assemble text (sinks_view sink errors) (sinks_view sink errors_now) q) (sym e) (inr (record { number = number; reason = reason; breaks = breaks; written = front }, refl))
told_ends text number reason sink errors errors_now r breaks (inr (e, same)) =
    subst (λ (q : Ended). TurnEnds Assemble text (sinks_view sink errors) (sinks_view sink errors_now) q) (sym e) (ap (λ (s : SinkView). sinks_view sink s) same)

pub turned_run : (turn : Turn) (input : List ℕ) (left left_now : Option (List ℕ)) (sinks now : Sinks) (r : Ended) → Consumes left left_now input → IsAtEnd left_now → TurnEnds turn input sinks now r → RunEnds (Some turn) left left_now sinks now r
turned_run turn input left left_now sinks now Done read at_end h = record { input = input; read = read; at_end = at_end; turned = h }
turned_run turn input left left_now sinks now Refused read at_end h = record { input = input; read = read; at_end = at_end; turned = h }
turned_run turn input left left_now sinks now SourceFailed read at_end h = absurd h
turned_run turn input left left_now sinks now SinkFailed read at_end h = record { input = input; read = read; at_end = at_end; turned = h }
turned_run turn input left left_now sinks now NoMemory read at_end h = h

-- the same, of what the words ask for and of the slice that holds the input
pub turned_asked : (asked : Option Turn) (turn : Turn) (input text : List ℕ) (left left_now : Option (List ℕ)) (sinks now : Sinks) (r : Ended) → asked ≡ Some turn → text ≡ input → Consumes left left_now input → IsAtEnd left_now → TurnEnds turn text sinks now r → RunEnds asked left left_now sinks now r
turned_asked asked turn input text left left_now sinks now r ask same read at_end h =
    subst (λ (a : Option Turn). RunEnds a left left_now sinks now r) (sym ask) (turned_run turn input left left_now sinks now r read at_end (subst (λ (t : List ℕ). TurnEnds turn t sinks now r) same h))

-- the turning of an input never ends as a failed source
pub turned_read : (turn : Turn) (input : List ℕ) (sinks now : Sinks) (r : Ended) → TurnEnds turn input sinks now r → r ≡ SourceFailed → ⊥
turned_read turn input sinks now r h e = subst (λ (q : Ended). TurnEnds turn input sinks now q) e h

pub told_read : (sink sink_now : SinkView) (text : List ℕ) (r : Ended) → WriteEnds sink sink_now text Refused r → r ≡ SourceFailed → ⊥
told_read sink sink_now text r (inl (e, all)) is = let clash : Refused ≡ SourceFailed = sym e ∙ is in cc
told_read sink sink_now text r (inr (e, front)) is = let clash : SinkFailed ≡ SourceFailed = sym e ∙ is in cc

-- where a run ends so, a sink failed
cut_failed : (turn : Turn) (input : List ℕ) (sinks now : Sinks) → TurnEnds turn input sinks now SinkFailed → Rose sinks.output.faults now.output.faults ⊎ Rose sinks.errors.faults now.errors.faults
cut_failed turn input sinks now (inl (front, same)) = inl front.written.failed
cut_failed Assemble input sinks now (inr (front, same)) = inr front.written.failed
cut_failed Show input sinks now (inr (never, same)) = absurd never

pub turned_failed : (turn : Turn) (input : List ℕ) (sinks now : Sinks) (r : Ended) → TurnEnds turn input sinks now r → r ≡ SinkFailed → Rose sinks.output.faults now.output.faults ⊎ Rose sinks.errors.faults now.errors.faults
turned_failed turn input sinks now r h e = cut_failed turn input sinks now (subst (λ (q : Ended). TurnEnds turn input sinks now q) e h)

pub told_failed : (sink sink_now : SinkView) (text : List ℕ) (r : Ended) → WriteEnds sink sink_now text Refused r → r ≡ SinkFailed → Rose sink.faults sink_now.faults
told_failed sink sink_now text r (inl (e, all)) is = let clash : Refused ≡ SinkFailed = sym e ∙ is in absurd cc
told_failed sink sink_now text r (inr (e, front)) is = front.failed
