-- The lines of the last delivery of a transcript, and the text before them.
use Rattle.std.proofs.Common.{◌≡◌, ℕ, ◌+◌, List, [], ◌∷◌, ◌++◌, length, ◌⊎◌, inl, inr, refl, sym, ap, ◌∙◌, subst, arith, append_assoc, append-nil}
use Rattle.std.specs.Prelude.{codes, decimal}
use Rattle.std.specs.List.{flat_map}
use Rattle.adg_base.specs.declared.answer.Lines.{Lines}
use Rattle.adg_base.specs.declared.vector.RedoRecord.{RedoRecord}
use Rattle.adg_model.specs.declared.delivery.RawDelivery.{RawDelivery}
use Rattle.adg_model.specs.Log.{frontier, merged_log, ReceivedFrom}
use Rattle.adg_model.specs.Reply.{at_scn, newline, line_bytes, lines_bytes}
use Rattle.adg_model.specs.Transcript.{LegalFrom, IsLegal, printed}

-- ---- the last lines are legal

pub record LastLines (threads sessions : ℕ) (deliveries : List RawDelivery) (last : RawDelivery) (lines : List Lines) : Type 0 where
  pub front : List Lines
  pub end : Lines
  pub split : lines ≡ front ++ end ∷ []
  pub records : List (List RedoRecord)
  pub all : length records ≡ threads
  pub received : ReceivedFrom 1 deliveries records
  pub floor : ℕ
  pub legal : IsLegal sessions (merged_log records) floor (frontier records) last.commands end

pub last_lines : (threads sessions floor : ℕ) (earlier ds : List RawDelivery) (d : RawDelivery) (ls : List Lines)
    → LegalFrom threads sessions earlier floor (ds ++ d ∷ []) ls → LastLines threads sessions (earlier ++ (ds ++ d ∷ [])) d ls
last_lines threads sessions floor earlier [] d [] h = absurd h
last_lines threads sessions floor earlier [] d (l ∷ []) h = record {
  front = [];
  end = l;
  split = refl;
  records = h.0;
  all = h.1;
  received = h.2;
  floor = floor;
  legal = h.3;
}
last_lines threads sessions floor earlier [] d (l ∷ m ∷ ls) h = absurd h.4
last_lines threads sessions floor earlier (e ∷ ds) d [] h = absurd h
last_lines threads sessions floor earlier (e ∷ ds) d (l ∷ ls) h =
    let later = last_lines threads sessions l.end (earlier ++ e ∷ []) ds d ls h.4 in
    record {
      front = l ∷ later.front;
      end = later.end;
      split = ap (λ x. l ∷ x) later.split;
      records = later.records;
      all = later.all;
      received = subst (λ x. ReceivedFrom 1 x later.records) (append_assoc earlier (e ∷ []) (ds ++ d ∷ [])) later.received;
      floor = later.floor;
      legal = later.legal;
    }

-- ---- the text before them ends with a newline, where there is any

abbrev pub EndsLine : List ℕ → Type 0
EndsLine text = (text ≡ []) ⊎ ((front : List ℕ) × (text ≡ front ++ newline))

lines_end : (delivery : ℕ) (l : Lines) → (front : List ℕ) × (lines_bytes delivery l ≡ front ++ newline)
lines_end delivery l =
    let body = flat_map (line_bytes delivery) l.list in
    let line = codes "d" ++ decimal delivery ++ codes " end" ++ at_scn l.end in
    (body ++ line, sym (append_assoc body line newline))

pub printed_last : (delivery : ℕ) (front : List Lines) (end : Lines)
    → (text : List ℕ) × EndsLine text × (printed delivery (front ++ end ∷ []) ≡ text ++ lines_bytes (delivery + length front) end)
printed_last delivery [] end = ([], inl refl, append-nil (lines_bytes delivery end) ∙ ap (λ n. lines_bytes n end) (number delivery))
  where
    number : (n : ℕ) → n ≡ n + 0
    number n = omega arith
printed_last delivery (l ∷ front) end =
    let later = printed_last (delivery + 1) front end in
    let here = lines_bytes delivery l in
    let number : delivery + 1 + length front ≡ delivery + length (l ∷ front) = omega arith in
    (here ++ later.0, inr (ends later.0 later.1), ap (λ x. here ++ x) (later.2 ∙ ap (λ n. later.0 ++ lines_bytes n end) number) ∙ sym (append_assoc here later.0 (lines_bytes (delivery + length (l ∷ front)) end)))
  where
    ends : (text : List ℕ) → EndsLine text → (f : List ℕ) × (lines_bytes delivery l ++ text ≡ f ++ newline)
    ends text (inl none) = let p = lines_end delivery l in (p.0, ap (λ x. lines_bytes delivery l ++ x) none ∙ append-nil (lines_bytes delivery l) ∙ p.1)
    ends text (inr (f, is)) = (lines_bytes delivery l ++ f, ap (λ x. lines_bytes delivery l ++ x) is ∙ sym (append_assoc (lines_bytes delivery l) f newline))
