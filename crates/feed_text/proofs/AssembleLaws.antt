-- A text is assembled line by line, and stands for at most one feed.
use Rattle.std.proofs.Common.{◌≡◌, ℕ, ◌+◌, ◌<◌, ◌≤◌, List, [], ◌∷◌, ◌++◌, length, Option, Some, None, Result, Ok, Err, inl, inr, refl, sym, ap, subst, ◌∙◌, append_assoc, arith}
use Rattle.std.proofs.lemmas.List.{append-nil}
use Rattle.feed_text.specs.declared.line.Line.{Line}
use Rattle.feed_text.specs.declared.reason.Reason.{Reason}
use Rattle.feed_text.specs.declared.reason.Reason.TheVariants.{NoSpelling}
use Rattle.feed_text.specs.declared.refused.TextRefused.{TextRefused}
use Rattle.feed_text.specs.declared.refused.TextRefused.TheVariants as refused
use Rattle.feed_text.specs.Lines.{line_bytes, IsGood}
use Rattle.feed_text.specs.Reading.{cut}
use Rattle.feed_text.specs.LineReading.{line_of, split}
use Rattle.feed_text.specs.Meaning.{Adds, AddAll, Assembles, Breaks, BreaksAt}
use Rattle.feed_text.proofs.Cuts.{parts_of, split_cut}

-- how far a text is assembled
pub record Assembled (text feed rest : List ℕ) (before : ℕ) : Type 0 where
  pub adds : (more : List ℕ) → AddAll (split 10 rest) more → Assembles text (feed ++ more)
  pub breaks : (number : ℕ) (reason : Reason) → BreaksAt (before + 1) (split 10 rest) number reason → BreaksAt 1 (split 10 text) number reason
  pub few : before + length rest ≤ length text

pub at_start : (text : List ℕ) → Assembled text [] text 0
at_start text = record { adds = λ more h. h; breaks = λ number reason h. h; few = omega arith }

pub next_line : (text feed new rest line more : List ℕ) (before : ℕ) (bytes : List ℕ) → Assembled text feed rest before → cut 10 rest ≡ (line, Some more) → length more < length rest → Adds line bytes → new ≡ feed ++ bytes → Assembled text new more (before + 1)
next_line text feed new rest line more before bytes so_far parts less adds is =
    let here : split 10 rest ≡ line ∷ split 10 more = split_cut 10 rest ∙ ap (parts_of 10) parts in
    record {
      adds = λ others h.
          let joined : feed ++ (bytes ++ others) ≡ new ++ others = sym (append_assoc feed bytes others) ∙ ap (λ (l : List ℕ). l ++ others) (sym is) in
          subst (λ (l : List ℕ). Assembles text l) joined (so_far.adds (bytes ++ others) (subst (λ (ls : List (List ℕ)). AddAll ls (bytes ++ others)) (sym here) (bytes, others, refl, adds, h)));
      breaks = λ number reason h.
          so_far.breaks number reason (subst (λ (ls : List (List ℕ)). BreaksAt (before + 1) ls number reason) (sym here) (inr (bytes, adds, h)));
      few = let f = so_far.few in omega arith;
    }

pub last_line : (text feed new rest line : List ℕ) (before : ℕ) (bytes : List ℕ) → Assembled text feed rest before → cut 10 rest ≡ (line, None) → Adds line bytes → new ≡ feed ++ bytes → Assembles text new
last_line text feed new rest line before bytes so_far parts adds is =
    let here : split 10 rest ≡ line ∷ [] = split_cut 10 rest ∙ ap (parts_of 10) parts in
    subst (λ (l : List ℕ). Assembles text l) (sym is)
    (so_far.adds bytes (subst (λ (ls : List (List ℕ)). AddAll ls bytes) (sym here) (bytes, [], sym (append-nil bytes), adds, refl)))

broken_here : (sep : ℕ) (line : List ℕ) (tail : Option (List ℕ)) (from number : ℕ) (reason : Reason) → number ≡ from → Breaks line reason → BreaksAt from (parts_of sep (line, tail)) number reason
broken_here sep line None from number reason is breaks = inl (is, breaks)
broken_here sep line (Some rest) from number reason is breaks = inl (is, breaks)

pub broken_line : (text feed rest line : List ℕ) (tail : Option (List ℕ)) (before : ℕ) (reason : Reason) → Assembled text feed rest before → cut 10 rest ≡ (line, tail) → Breaks line reason → BreaksAt 1 (split 10 text) (before + 1) reason
broken_line text feed rest line tail before reason so_far parts breaks =
    let here : split 10 rest ≡ parts_of 10 (line, tail) = split_cut 10 rest ∙ ap (parts_of 10) parts in
    so_far.breaks (before + 1) reason (subst (λ (ls : List (List ℕ)). BreaksAt (before + 1) ls (before + 1) reason) (sym here) (broken_here 10 line tail (before + 1) (before + 1) reason refl breaks))

-- ---- one feed at most

same_line : (a b : Line) (read : Result Line Reason) → read ≡ Ok a → read ≡ Ok b → a ≡ b
same_line a b read h k = cc

no_line : (a : Line) (reason : Reason) (read : Result Line Reason) → read ≡ Ok a → read ≡ Err reason → ⊥
no_line a reason read h k = cc

pub adds_one : (text a b : List ℕ) → Adds text a → Adds text b → a ≡ b
adds_one text a b h k = h.spelled ∙ ap line_bytes (same_line h.line k.line (line_of text) h.read k.read) ∙ sym k.spelled

pub add_one : (texts : List (List ℕ)) (a b : List ℕ) → AddAll texts a → AddAll texts b → a ≡ b
add_one [] a b h k = h ∙ sym k
add_one (text ∷ texts) a b h k =
    let first : h.0 ≡ k.0 = adds_one text h.0 k.0 h.3 k.3 in
    let others : h.1 ≡ k.1 = add_one texts h.1 k.1 h.4 k.4 in
    h.2 ∙ ap (λ (l : List ℕ). l ++ h.1) first ∙ ap (λ (l : List ℕ). k.0 ++ l) others ∙ sym k.2

adds_breaks : (text bytes : List ℕ) (reason : Reason) → Adds text bytes → Breaks text reason → ⊥
adds_breaks text bytes reason h (inl e) = no_line h.line reason (line_of text) h.read e
adds_breaks text bytes reason h (inr k) = k.3 (subst IsGood (same_line h.line k.1 (line_of text) h.read k.2) h.good)

pub none_breaks : (from : ℕ) (texts : List (List ℕ)) (bytes : List ℕ) (number : ℕ) (reason : Reason) → AddAll texts bytes → BreaksAt from texts number reason → ⊥
none_breaks from [] bytes number reason h k = k
none_breaks from (text ∷ texts) bytes number reason h (inl k) = adds_breaks text h.0 reason h.3 k.1
none_breaks from (text ∷ texts) bytes number reason h (inr k) = none_breaks (from + 1) texts h.1 number reason h.4 k.2

-- what was read was added
pub line_adds : (text old new : List ℕ) (line : Line) → line_of text ≡ Ok line → new ≡ old ++ line_bytes line → IsGood line → (bytes : List ℕ) × Adds text bytes × (new ≡ old ++ bytes)
line_adds text old new line read written good = (line_bytes line, record { line = line; read = read; good = good; spelled = refl }, written)

pub line_breaks : (text : List ℕ) (line : Line) → line_of text ≡ Ok line → (IsGood line → ⊥) → Breaks text NoSpelling
line_breaks text line read bad = inr (refl, line, read, bad)

-- ---- what a refusal says

abbrev refused_as : {X : Type 0} → ℕ → Reason → Result X TextRefused
refused_as n reason = Err (refused.Line n reason)

same_number : {X : Type 0} (m n : ℕ) (r s : Reason) → refused_as {X = X} m r ≡ Err (refused.Line n s) → m ≡ n
same_number m n r s e = cc

same_reason : {X : Type 0} (m n : ℕ) (r s : Reason) → refused_as {X = X} m r ≡ Err (refused.Line n s) → r ≡ s
same_reason m n r s e = cc

pub breaks_there : {X : Type 0} (text : List ℕ) (m n : ℕ) (r s : Reason) → refused_as {X = X} m r ≡ Err (refused.Line n s) → BreaksAt 1 (split 10 text) m r → BreaksAt 1 (split 10 text) n s
breaks_there {X = X} text m n r s e h =
    subst (λ (k : ℕ). BreaksAt 1 (split 10 text) k s) (same_number {X = X} m n r s e) (subst (λ (q : Reason). BreaksAt 1 (split 10 text) m q) (same_reason {X = X} m n r s e) h)
