-- What is read of lines, one after another.
use Rattle.std.proofs.Common.{◌≡◌, ℕ, ◌-◌, ◌<◌, nat_lt, Bool, true, false, cond, List, [], ◌∷◌, ◌++◌, length, take, inl, inr, refl, sym, ap, ◌∙◌, arith, append_assoc, append-nil}
use Rattle.std.specs.Prelude.{codes, nat_eq}
use Rattle.std.specs.List.{flat_map, ends_with, AllByRecursion}
use Rattle.std.proofs.lemmas.Bool.Decides.{Decides-eqb, nat_tests}
use Rattle.std.proofs.lemmas.Slice.Eq.{ends_is}
use Rattle.std.proofs.lemmas.List.{same_from_push, length-append, take_at}
use Rattle.adg_base.specs.declared.answer.Cell.{Cell}
use Rattle.adg_model.specs.Reply.{cells_bytes, result_line_bytes, newline}
use Rattle.soak_run.specs.Summary.{line_text}
use Rattle.soak_run.specs.Telling.{Told, synced_mark, synced, with_table, after_line, after_lines, lines_in}
use Rattle.soak_run.proofs.Lines.{IsPlain, IsPlainCell, cells_plain, EndsOtherwise, lines_split, one_line}
use Rattle.soak_run.proofs.LastLines.{EndsLine}

pub after_append : (t : Told) (xs ys : List (List ℕ)) → after_lines t (xs ++ ys) ≡ after_lines (after_lines t xs) ys
after_append t [] ys = refl
after_append t (x ∷ xs) ys = after_append (after_line t x) xs ys

-- a plain line, with more behind it
pub read_line : (t : Told) (line rest : List ℕ) → IsPlain line → after_lines t (lines_in (line ++ 10 ∷ rest)) ≡ after_lines (after_line t line) (lines_in rest)
read_line t line rest h = ap (after_lines t) (lines_split line rest ∙ ap (λ l. l ++ lines_in rest) (one_line line h))

-- some whole lines, whatever they are
pub read_some : (t : Told) (text rest : List ℕ) → EndsLine text → (u : Told) × (after_lines t (lines_in (text ++ rest)) ≡ after_lines u (lines_in rest))
read_some t text rest (inl none) = (t, ap (λ x. after_lines t (lines_in (x ++ rest))) none)
read_some t text rest (inr (front, is)) = (
  after_lines t (lines_in front),
  ap (λ x. after_lines t (lines_in (x ++ rest))) is ∙ ap (λ x. after_lines t (lines_in x)) (append_assoc front newline rest)
      ∙ ap (after_lines t) (lines_split front rest) ∙ after_append t (lines_in front) (lines_in rest),
)

-- ---- the sorts of lines

-- an answer's line
pub read_cells : (t : Told) (cells : List Cell) (rest : List ℕ) → AllByRecursion IsPlainCell cells
    → after_lines t (lines_in (result_line_bytes cells ++ rest)) ≡ after_lines (record t { text = t.text ++ line_text cells }) (lines_in rest)
read_cells t cells rest h =
    let line = codes "= " ++ cells_bytes cells in
    ap (λ x. after_lines t (lines_in x)) (append_assoc line newline rest) ∙ read_line t line rest (refl, (refl, cells_plain cells h))
    ∙ ap (λ x. after_lines (record t { text = x }) (lines_in rest)) (append_assoc t.text (codes " ") (cells_bytes cells))

pub read_answer : (t : Told) (lines : List (List Cell)) (rest : List ℕ) → AllByRecursion (AllByRecursion IsPlainCell) lines
    → after_lines t (lines_in (flat_map result_line_bytes lines ++ rest)) ≡ after_lines (record t { text = t.text ++ flat_map line_text lines }) (lines_in rest)
read_answer t [] rest h = ap (λ x. after_lines (record t { text = x }) (lines_in rest)) (sym (append-nil t.text))
read_answer t (cells ∷ lines) rest h =
    ap (λ x. after_lines t (lines_in x)) (append_assoc (result_line_bytes cells) (flat_map result_line_bytes lines) rest)
    ∙ read_cells t cells (flat_map result_line_bytes lines ++ rest) h.0
    ∙ read_answer (record t { text = t.text ++ line_text cells }) lines rest h.1
    ∙ ap (λ x. after_lines (record t { text = x }) (lines_in rest)) (append_assoc t.text (line_text cells) (flat_map line_text lines))

-- a line that does not end as that of a SYNC
pub not_synced : (line : List ℕ) → EndsOtherwise line → ends_with nat_eq line synced_mark ≡ false
not_synced line h = by_test (ends_with nat_eq line synced_mark) refl
  where
    by_test : (b : Bool) → ends_with nat_eq line synced_mark ≡ b → b ≡ false
    by_test false e = refl
    by_test true e =
        let is : line ≡ take (length line - 7) line ++ synced_mark = (ends_is Decides-eqb line synced_mark (ends_with nat_eq line synced_mark) refl).0 e in
        let front = take (length line - 7) line ++ codes " synce" in
        let whole : h.front ++ h.last ∷ [] ≡ front ++ 100 ∷ [] = sym h.split ∙ is ∙ sym (append_assoc (take (length line - 7) line) (codes " synce") (100 ∷ [])) in
        absurd (h.other (same_from_push h.front front h.last 100 whole).1)

-- the lines that begin with a d
pub after_reply : (t : Told) (more : List ℕ) → EndsOtherwise (100 ∷ more) → t.tables < 20 → after_line t (100 ∷ more) ≡ with_table t
after_reply t more h few =
    ap (λ (b : Bool). cond b (synced (take (length (100 ∷ more) - 7) (100 ∷ more))) (cond (nat_lt t.tables 20) (with_table t) t)) (not_synced (100 ∷ more) h)
    ∙ ap (λ (b : Bool). cond b (with_table t) t) (below t.tables few)
  where
    below : (n : ℕ) → n < 20 → nat_lt n 20 ≡ true
    below n l = grind (arith, nat_tests)

pub after_end : (t : Told) (more : List ℕ) → EndsOtherwise (100 ∷ more) → t.tables ≡ 20 → after_line t (100 ∷ more) ≡ t
after_end t more h all =
    ap (λ (b : Bool). cond b (synced (take (length (100 ∷ more) - 7) (100 ∷ more))) (cond (nat_lt t.tables 20) (with_table t) t)) (not_synced (100 ∷ more) h)
    ∙ ap (λ (n : ℕ). cond (nat_lt n 20) (with_table t) t) all

pub after_sync : (t : Told) (more : List ℕ) → after_line t (100 ∷ (more ++ synced_mark)) ≡ synced (100 ∷ more)
after_sync t more =
    let line = 100 ∷ (more ++ synced_mark) in
    let ends : ends_with nat_eq line synced_mark ≡ true = (ends_is Decides-eqb line synced_mark (ends_with nat_eq line synced_mark) refl).1 (100 ∷ more) refl in
    let len : length line - 7 ≡ length (100 ∷ more) = omega (arith, length-append more synced_mark) in
    ap (λ (b : Bool). cond b (synced (take (length line - 7) line)) (cond (nat_lt t.tables 20) (with_table t) t)) ends
    ∙ ap synced (ap (λ n. take n line) len ∙ take_at (100 ∷ more) synced_mark (length (100 ∷ more)) refl)
