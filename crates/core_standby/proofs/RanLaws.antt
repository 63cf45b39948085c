-- What was run, with one delivery more; and before the first.
use Rattle.std.proofs.Common.{◌≡◌, ◌++◌, ◌+◌, ℕ, suc, List, [], ◌∷◌, length, append_assoc, append-nil, add-zero, ◌∙◌, ap, sym, subst, refl, arith}
use Rattle.adg_base.specs.declared.answer.Lines.{Lines}
use Rattle.adg_model.specs.declared.delivery.RawDelivery.{RawDelivery}
use Rattle.adg_model.specs.Log.{frontier, merged_log, ReceivedFrom}
use Rattle.adg_model.specs.Reply.{lines_bytes}
use Rattle.adg_model.specs.Sound.{IsSound}
use Rattle.adg_model.specs.Transcript.{IsLegal, LegalFrom, printed}
use Rattle.core_rules.specs.ColumnUse.{ColumnUse}
use Rattle.core_rules.specs.State.{CoreState, opening}
use Rattle.redo_intake.specs.Intake.{Taking, HasTaken}
use Rattle.redo_intake.proofs.NothingLaws.{nothing}
use Rattle.turn_rules.specs.Earlier.{Past, born_by_lines, told_by_lines}
use Rattle.core_standby.specs.declared.standby.CoreStandby.{CoreStandby}
use Rattle.core_standby.specs.Ran.{HasRedo, RunsDelivery, RunsFrom, UsesColumnsFrom, RanAll}
use Rattle.core_standby.specs.Standing.{HasAnswered, end_after, pasts_after}

-- the redo that was taken
abbrev pub has_redo : (t : Taking) (threads : ℕ) (ds : List RawDelivery) → HasTaken t threads ds → HasRedo threads ds
has_redo t threads ds h = record { records = h.records; all = h.all; received = h.received; sound = h.known.sound }

-- ---- with one delivery more

pub runs_more : (threads : ℕ) (earlier : List RawDelivery) (c : CoreState) (ds : List RawDelivery) (ls : List Lines) (last : CoreState) (d : RawDelivery) (new : CoreState) (l : Lines)
    → RunsFrom threads earlier c ds ls last → RunsDelivery threads (earlier ++ ds) last d new l → RunsFrom threads earlier c (ds ++ d ∷ []) (ls ++ l ∷ []) new
runs_more threads earlier c [] [] last d new l h one =
    (new, subst (λ (k : CoreState). RunsDelivery threads earlier k d new l) h (subst (λ (e : List RawDelivery). RunsDelivery threads e last d new l) (append-nil earlier) one), refl)
runs_more threads earlier c [] (k ∷ ls) last d new l h one = absurd h
runs_more threads earlier c (e ∷ ds) [] last d new l h one = absurd h
runs_more threads earlier c (e ∷ ds) (k ∷ ls) last d new l h one =
    (h.0, h.1, runs_more threads (earlier ++ e ∷ []) h.0 ds ls last d new l h.2 (subst (λ (t : List RawDelivery). RunsDelivery threads t last d new l) (sym (append_assoc earlier (e ∷ []) ds)) one))

pub legal_more : (threads sessions : ℕ) (earlier : List RawDelivery) (floor : ℕ) (ds : List RawDelivery) (ls : List Lines) (d : RawDelivery) (l : Lines) (redo : HasRedo threads ((earlier ++ ds) ++ d ∷ []))
    → LegalFrom threads sessions earlier floor ds ls → IsLegal sessions (merged_log redo.records) (end_after floor ls) (frontier redo.records) d.commands l → LegalFrom threads sessions earlier floor (ds ++ d ∷ []) (ls ++ l ∷ [])
legal_more threads sessions earlier floor [] [] d l redo h one =
    (redo.records, redo.all, subst (λ (e : List RawDelivery). ReceivedFrom 1 (e ++ d ∷ []) redo.records) (append-nil earlier) redo.received, one, tt)
legal_more threads sessions earlier floor [] (k ∷ ls) d l redo h one = absurd h
legal_more threads sessions earlier floor (e ∷ ds) [] d l redo h one = absurd h
legal_more threads sessions earlier floor (e ∷ ds) (k ∷ ls) d l redo h one =
    let same : (earlier ++ e ∷ ds) ++ d ∷ [] ≡ ((earlier ++ e ∷ []) ++ ds) ++ d ∷ [] = ap (λ (t : List RawDelivery). t ++ d ∷ []) (sym (append_assoc earlier (e ∷ []) ds)) in (
      h.0,
      h.1,
      h.2,
      h.3,
      legal_more threads sessions (earlier ++ e ∷ []) k.end ds ls d l
          (record { records = redo.records; all = redo.all; received = subst (λ (t : List RawDelivery). ReceivedFrom 1 t redo.records) same redo.received; sound = redo.sound }) h.4 one,
    )

pub uses_more : (threads : ℕ) (earlier : List RawDelivery) (floor : ℕ) (pasts : List Past) (ds : List RawDelivery) (ls : List Lines) (d : RawDelivery) (l : Lines) (redo : HasRedo threads ((earlier ++ ds) ++ d ∷ []))
    → UsesColumnsFrom threads earlier floor pasts ds ls
    → ColumnUse (merged_log redo.records) (frontier redo.records) (end_after floor ls) (born_by_lines (pasts_after pasts ds ls)) (told_by_lines (pasts_after pasts ds ls)) d.commands l
    → UsesColumnsFrom threads earlier floor pasts (ds ++ d ∷ []) (ls ++ l ∷ [])
uses_more threads earlier floor pasts [] [] d l redo h one = (
  record {
    records = redo.records;
    all = redo.all;
    received = subst (λ (e : List RawDelivery). ReceivedFrom 1 (e ++ d ∷ []) redo.records) (append-nil earlier) redo.received;
    sound = redo.sound;
  },
  one,
  tt,
)
uses_more threads earlier floor pasts [] (k ∷ ls) d l redo h one = absurd h
uses_more threads earlier floor pasts (e ∷ ds) [] d l redo h one = absurd h
uses_more threads earlier floor pasts (e ∷ ds) (k ∷ ls) d l redo h one =
    let same : (earlier ++ e ∷ ds) ++ d ∷ [] ≡ ((earlier ++ e ∷ []) ++ ds) ++ d ∷ [] = ap (λ (t : List RawDelivery). t ++ d ∷ []) (sym (append_assoc earlier (e ∷ []) ds)) in (
      h.0,
      h.1,
      uses_more threads (earlier ++ e ∷ []) k.end (record { commands = e.commands; lines = k } ∷ pasts) ds ls d l
          (record { records = redo.records; all = redo.all; received = subst (λ (t : List RawDelivery). ReceivedFrom 1 t redo.records) same redo.received; sound = redo.sound }) h.2 one,
    )

-- what is over, with one delivery more
pub pasts_more : (threads : ℕ) (earlier : List RawDelivery) (c last : CoreState) (pasts : List Past) (ds : List RawDelivery) (ls : List Lines) (d : RawDelivery) (l : Lines) → RunsFrom threads earlier c ds ls last
    → pasts_after pasts (ds ++ d ∷ []) (ls ++ l ∷ []) ≡ record { commands = d.commands; lines = l } ∷ pasts_after pasts ds ls
pasts_more threads earlier c last pasts [] [] d l h = refl
pasts_more threads earlier c last pasts [] (k ∷ ls) d l h = absurd h
pasts_more threads earlier c last pasts (e ∷ ds) [] d l h = absurd h
pasts_more threads earlier c last pasts (e ∷ ds) (k ∷ ls) d l h = pasts_more threads (earlier ++ e ∷ []) h.0 last (record { commands = e.commands; lines = k } ∷ pasts) ds ls d l h.2

pub lines_count : (threads : ℕ) (earlier : List RawDelivery) (c last : CoreState) (ds : List RawDelivery) (ls : List Lines) → RunsFrom threads earlier c ds ls last → length ls ≡ length ds
lines_count threads earlier c last [] [] h = refl
lines_count threads earlier c last [] (k ∷ ls) h = absurd h
lines_count threads earlier c last (e ∷ ds) [] h = absurd h
lines_count threads earlier c last (e ∷ ds) (k ∷ ls) h = ap suc (lines_count threads (earlier ++ e ∷ []) h.0 last ds ls h.2)

pub end_more : (floor : ℕ) (ls : List Lines) (l : Lines) → end_after floor (ls ++ l ∷ []) ≡ l.end
end_more floor [] l = refl
end_more floor (k ∷ ls) l = end_more k.end ls l

pub printed_more : (n : ℕ) (ls : List Lines) (l : Lines) → printed n (ls ++ l ∷ []) ≡ printed n ls ++ lines_bytes (n + length ls) l
printed_more n [] l = append-nil _ ∙ ap (λ (k : ℕ). lines_bytes k l) (sym (add-zero n))
printed_more n (k ∷ ls) l =
    ap (λ (t : List ℕ). lines_bytes n k ++ t) (printed_more (n + 1) ls l ∙ ap (λ (m : ℕ). printed (n + 1) ls ++ lines_bytes m l) (omega arith))
    ∙ sym (append_assoc (lines_bytes n k) (printed (n + 1) ls) (lines_bytes (n + length (k ∷ ls)) l))

-- ---- all that was answered was run

pub ran_all : (s : CoreStandby) (workers threads sessions : ℕ) (ds : List RawDelivery) (written : List ℕ) → HasAnswered s workers threads sessions ds written → RanAll workers threads sessions ds written
ran_all s workers threads sessions ds written h = record {
  redo = has_redo s.intake threads ds h.run.taken;
  lines = h.lines;
  bytes = h.bytes;
  core = h.run.state;
  ran = h.run.ran;
  legal = h.run.legal;
  columns = h.run.columns;
}

-- nothing was run
pub ran_none : (workers threads sessions : ℕ) → RanAll workers threads sessions [] []
ran_none workers threads sessions =
    let n = nothing threads in
    record {
      redo = record { records = n.records; all = n.all; received = n.received; sound = subst IsSound (sym n.none) tt };
      lines = [];
      bytes = refl;
      core = opening workers sessions;
      ran = refl;
      legal = tt;
      columns = tt;
    }
