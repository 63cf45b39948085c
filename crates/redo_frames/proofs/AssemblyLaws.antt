-- What an assembler holds, before any bytes, after a piece, and after more bytes behind a fault.
use Rattle.std.proofs.Common.{◌≡◌, ℕ, List, [], ◌++◌, Option, Some, None, refl, sym, ap, subst, ◌∙◌, append_assoc, arith, inl}
use Rattle.std.specs.Prelude.{IsSome}
use Rattle.adg_model.specs.declared.fault.FrameKind.{FrameKind}
use Rattle.adg_model.specs.Records.{Raw, Mark, mark_after, first_mark, SplitsFrom}
use Rattle.adg_model.proofs.RecordsFault.{fault_begun}
use Rattle.adg_model.proofs.LogLaws.{mark_after_append}
use Rattle.adg_model.proofs.RecordsSplit.{FailsFrom_append}
use Rattle.redo_frames.specs.Reading.{Stands, Gains}
use Rattle.redo_frames.specs.Assembly.{Assembly, Holds, empty}
use Rattle.redo_frames.proofs.ReadingLaws.{Stands_then}

Holds_empty : Holds empty [] []
Holds_empty = record {
  count = refl;
  mark = refl;
  stands = record { spelled = refl; follow = tt; part = inl (omega arith); good = fault_begun first_mark [] refl (omega arith) };
}

pub Holds_where_empty : (a : Assembly) → a ≡ empty → Holds a [] []
Holds_where_empty a e = subst (λ (x : Assembly). Holds x [] []) (sym e) Holds_empty

Stands_on : (refused : Option FrameKind) (mark : Mark) (text piece : List ℕ) (records : List Raw) (rest : List ℕ) → IsSome refused → Stands refused mark text records rest → Stands refused mark (text ++ piece) records rest
Stands_on None mark text piece records rest some p = absurd cc
Stands_on (Some kind) mark text piece records rest some p = FailsFrom_append mark text piece records kind p

-- behind a fault all stays as it is
pub Holds_again : (a : Assembly) (text piece : List ℕ) (taken : List Raw) → IsSome a.refused → Holds a text taken → Holds a (text ++ piece) taken
Holds_again a text piece taken some h = record {
  count = h.count;
  mark = h.mark;
  stands = Stands_on a.refused first_mark text piece (taken ++ a.held) a.rest some h.stands;
}

-- a piece brings the records that it ends
pub Holds_gains : (a b : Assembly) (text piece : List ℕ) (taken : List Raw) → a.refused ≡ None → b.taken ≡ a.taken → Gains a.held b.held a.mark b.mark b.refused (a.rest ++ piece) b.rest → Holds a text taken → Holds b (text ++ piece) taken
Holds_gains a b text piece taken open_thread count gains h =
    let records = taken ++ a.held in
    let before : SplitsFrom first_mark text records a.rest =
    subst (λ (refused : Option FrameKind). Stands refused first_mark text records a.rest) open_thread h.stands in
    let later : Stands b.refused (mark_after first_mark records) (a.rest ++ piece) gains.more b.rest =
    subst (λ (m : Mark). Stands b.refused m (a.rest ++ piece) gains.more b.rest) h.mark gains.stands in
    let all : records ++ gains.more ≡ taken ++ b.held =
    append_assoc taken a.held gains.more ∙ ap (λ (l : List Raw). taken ++ l) (sym gains.added) in
    record {
      count = h.count ∙ sym count;
      mark = gains.mark ∙ ap (λ (m : Mark). mark_after m gains.more) h.mark ∙ sym (mark_after_append first_mark records gains.more) ∙ ap (mark_after first_mark) all;
      stands = subst (λ (l : List Raw). Stands b.refused first_mark (text ++ piece) l b.rest) all (Stands_then b.refused first_mark text piece records gains.more a.rest b.rest before later);
    }
