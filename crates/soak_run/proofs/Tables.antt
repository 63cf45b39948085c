-- The lines of the last delivery are told table by table.
use Rattle.std.proofs.Common.{◌≡◌, ℕ, zero, suc, ◌+◌, ◌<◌, ◌≤◌, ◌==◌, Bool, true, false, cond, List, [], ◌∷◌, ◌++◌, Some, ◌⊎◌, inl, inr, refl, sym, ap, ap₂, ◌∙◌, arith, append_assoc, append-nil}
use Rattle.std.specs.Prelude.{codes, decimal}
use Rattle.std.specs.List.{flat_map, range_with_len, AllByRecursion, AllZip}
use Rattle.std.proofs.lemmas.Bool.Decides.{nat_tests}
use Rattle.adg_base.specs.declared.answer.Line.{Line}
use Rattle.adg_base.specs.declared.answer.Reply.{Reply}
use Rattle.adg_base.specs.declared.log.LogEntry.{LogEntry}
use Rattle.adg_model.specs.Database.{no_database}
use Rattle.adg_model.specs.Reply.{IsReply, line_bytes, result_line_bytes, newline}
use Rattle.adg_model.specs.Sound.{SoundFrom}
use Rattle.adg_model.specs.Transcript.{Answers, asked_from, is_down, scn_of}
use Rattle.soak_run.specs.Summary.{balances_of, answer_at, line_text, table_text}
use Rattle.soak_run.specs.Telling.{Told, between, with_table, after_lines, lines_in}
use Rattle.soak_run.proofs.Asked.{table_question, questions, is_question}
use Rattle.soak_run.proofs.Cells.{balances_plain}
use Rattle.soak_run.proofs.Lines.{IsPlain, plain_append, decimal_plain, ends_append}
use Rattle.soak_run.proofs.Reading.{read_line, read_answer, after_reply}
use Rattle.soak_run.proofs.Replies.{Prints, table_reply}

-- a line that answers at an SCN
pub record AnswersAt (f : ℕ) (l : Line) : Type 0 where
  pub up : is_down l.reply ≡ false
  pub scn : scn_of l.reply ≡ Some f

-- what is told of a table: its place among them counts from 0
abbrev head_text : ℕ → ℕ → List ℕ
head_text f k = codes "t" ++ decimal (k + 1) ++ codes " scn=" ++ decimal f

abbrev pub piece : List LogEntry → ℕ → ℕ → List ℕ
piece log f k = between k ++ head_text f k ++ flat_map line_text (answer_at log f (balances_of (k + 1)))

abbrev pub told : ℕ → ℕ → List ℕ → Told
told f k text = record { scn = decimal f; tables = k; text = text }

-- the line in front of an answer's lines, behind its first letter
abbrev head_line : (delivery session number : ℕ) → List ℕ → List ℕ
head_line delivery session number tail = decimal delivery ++ codes " s" ++ decimal session ++ codes " c" ++ decimal number ++ tail

module _ (log : List LogEntry) (f : ℕ) (sound : SoundFrom no_database log) (delivery : ℕ) where
  read_reply : (k : ℕ) (text rest : List ℕ) (l : Line) → k < 20 → Prints l.reply (answer_at log f (balances_of (k + 1)))
      → after_lines (told f k text) (lines_in (line_bytes delivery l ++ rest)) ≡ after_lines (told f (k + 1) (text ++ piece log f k)) (lines_in rest)
  read_reply k text rest l few p =
      let front = decimal delivery ++ codes " s" ++ decimal l.session ++ codes " c" ++ decimal l.number in
      let answers = flat_map result_line_bytes (answer_at log f (balances_of (k + 1))) in
      let parts : line_bytes delivery l ++ rest ≡ (100 ∷ (front ++ p.tail)) ++ 10 ∷ (answers ++ rest) =
      ap (λ x. ((100 ∷ front) ++ x) ++ rest) p.text ∙ whole (100 ∷ front) p.tail answers rest in
      let plain : IsPlain (100 ∷ (front ++ p.tail)) = (
        refl,
        plain_append front p.tail
            (plain_append _ (decimal l.number) (plain_append _ (codes " c") (plain_append _ (decimal l.session) (plain_append (decimal delivery) (codes " s") (decimal_plain delivery) (refl, (refl, tt))) (decimal_plain l.session)) (refl, (refl, tt))) (decimal_plain l.number))
            p.plain,
      ) in
      let line = read_line (told f k text) (100 ∷ (front ++ p.tail)) (answers ++ rest) plain in
      let table = ap (λ t. after_lines t (lines_in (answers ++ rest))) (after_reply (told f k text) (front ++ p.tail) (ends_append (100 ∷ front) p.tail p.ends) few) in
      let cells = read_answer (with_table (told f k text)) (answer_at log f (balances_of (k + 1))) rest (balances_plain log f (k + 1) sound) in
      ap (λ x. after_lines (told f k text) (lines_in x)) parts ∙ line ∙ table ∙ cells
      ∙ ap (λ x. after_lines (told f (k + 1) x) (lines_in rest)) (joined text (between k) (codes "t") (decimal (k + 1)) (codes " scn=") (decimal f) (flat_map line_text (answer_at log f (balances_of (k + 1)))))
    where
      whole : (front tail answers rest : List ℕ) → (front ++ (tail ++ 10 ∷ answers)) ++ rest ≡ (front ++ tail) ++ 10 ∷ (answers ++ rest)
      whole front tail answers rest =
          ap (λ x. x ++ rest) (sym (append_assoc front tail (10 ∷ answers))) ∙ append_assoc (front ++ tail) (10 ∷ answers) rest

      joined : (text between a b c d cells : List ℕ) → (text ++ between ++ a ++ b ++ c ++ d) ++ cells ≡ text ++ (between ++ (a ++ b ++ c ++ d) ++ cells)
      joined text between a b c d cells = simp append_assoc refl

  pub read_tables : (n k number : ℕ) (text rest : List ℕ) (ls : List Line) → k + n ≡ 20
      → AllZip (Answers log f) (asked_from 1 number (questions (range_with_len (k + 1) n))) ls → AllByRecursion (AnswersAt f) ls
      → after_lines (told f k text) (lines_in (flat_map (line_bytes delivery) ls ++ rest)) ≡ after_lines (told f 20 (text ++ flat_map (piece log f) (range_with_len k n))) (lines_in rest)
  read_tables zero k number text rest [] all zip at =
      ap₂ (λ j x. after_lines (told f j x) (lines_in rest)) (omega (arith, all)) (sym (append-nil text))
  read_tables zero k number text rest (l ∷ ls) all zip at = absurd zip
  read_tables (suc n) k number text rest [] all zip at = absurd zip
  read_tables (suc n) k number text rest (l ∷ ls) all zip at =
      let few : k < 20 = omega (arith, all) in
      let question = is_question (k + 1) (omega arith) (omega (arith, few)) in
      let reply = table_reply log f (k + 1) question l.reply at.0.scn (not_down l at.0.up zip.0.2) in
      let here = read_reply k text (flat_map (line_bytes delivery) ls ++ rest) l few reply in
      let later = read_tables n (k + 1) (number + 1) (text ++ piece log f k) rest ls (omega (arith, all)) zip.1 at.1 in
      ap (λ x. after_lines (told f k text) (lines_in x)) (append_assoc (line_bytes delivery l) (flat_map (line_bytes delivery) ls) rest)
      ∙ here ∙ later
      ∙ ap (λ x. after_lines (told f 20 x) (lines_in rest)) (append_assoc text (piece log f k) (flat_map (piece log f) (range_with_len (k + 1) n)))
    where
      not_down : (l : Line) → is_down l.reply ≡ false → ((l.reply ≡ Reply.Down) ⊎ IsReply log f (table_question (k + 1)) l.reply) → IsReply log f (table_question (k + 1)) l.reply
      not_down l up (inl is) = let clash : true ≡ false = sym (ap is_down is) ∙ up in absurd cc
      not_down l up (inr h) = h

-- ---- the texts of the tables, put together

table_is : (log : List LogEntry) (f k : ℕ) → table_text log f (k + 1) ≡ head_text f k ++ flat_map line_text (answer_at log f (balances_of (k + 1))) ++ newline
table_is log f k = ap (λ x. x ++ flat_map line_text (answer_at log f (balances_of (k + 1))) ++ newline) (sym (append_assoc (codes "t" ++ decimal (k + 1)) (codes " scn=") (decimal f)))

moved : (nl head cells pieces tables : List ℕ) → pieces ++ nl ≡ nl ++ tables → ((head ++ cells) ++ pieces) ++ nl ≡ (head ++ cells ++ nl) ++ tables
moved nl head cells pieces tables e =
    append_assoc (head ++ cells) pieces nl ∙ ap (λ x. (head ++ cells) ++ x) e ∙ sym (append_assoc (head ++ cells) nl tables)

not_zero : (k : ℕ) → 1 ≤ k → (k == 0) ≡ false
not_zero k h = grind (arith, nat_tests)

later_pieces : (log : List LogEntry) (f n k : ℕ) → 1 ≤ k → flat_map (piece log f) (range_with_len k n) ++ newline ≡ newline ++ flat_map (table_text log f) (range_with_len (k + 1) n)
later_pieces log f zero k some = refl
later_pieces log f (suc n) k some =
    let cells = flat_map line_text (answer_at log f (balances_of (k + 1))) in
    let pieces = flat_map (piece log f) (range_with_len (k + 1) n) in
    let tables = flat_map (table_text log f) (range_with_len (k + 1 + 1) n) in
    ap (λ x. ((x ++ head_text f k ++ cells) ++ pieces) ++ newline) (first k some)
    ∙ ap (λ x. newline ++ x) (moved newline (head_text f k) cells pieces tables (later_pieces log f n (k + 1) (omega arith)) ∙ ap (λ x. x ++ tables) (sym (table_is log f k)))
  where
    first : (k : ℕ) → 1 ≤ k → between k ≡ newline
    first k h = ap (λ (t : Bool). cond t [] newline) (not_zero k h)

pub all_pieces : (log : List LogEntry) (f n : ℕ) → flat_map (piece log f) (range_with_len 0 (suc n)) ++ newline ≡ flat_map (table_text log f) (range_with_len 1 (suc n))
all_pieces log f n =
    let cells = flat_map line_text (answer_at log f (balances_of 1)) in
    moved newline (head_text f 0) cells (flat_map (piece log f) (range_with_len 1 n)) (flat_map (table_text log f) (range_with_len 2 n)) (later_pieces log f n 1 (omega arith))
    ∙ ap (λ x. x ++ flat_map (table_text log f) (range_with_len 2 n)) (sym (table_is log f 0))
