-- Lines that add the bytes of a feed are a text that stands for them.
use Rattle.std.proofs.Common.{◌≡◌, ℕ, ◌<◌, ◌^◌, length, lit<, take, drop, take-append-drop, ap₂, List, [], ◌∷◌, ◌++◌, Some, codes, refl, sym, ap, subst, ◌∙◌, append_assoc}
use Rattle.std.specs.List.{AllByRecursion}
use Rattle.std.proofs.lemmas.List.{append-nil}
use Rattle.feed_text.specs.declared.line.Line.TheVariants.{Nothing, Raw}
use Rattle.feed_text.specs.LineReading.{split, line_of, worded_line, raw_of, hex_of}
use Rattle.feed_text.specs.Meaning.{Adds, AddAll, Assembles}
use Rattle.feed_text.specs.Shown.{IsLine, lines_text, Shows, Grows, ShowsFront}
use Rattle.feed_text.specs.Hex.{hex_text}
use Rattle.feed_text.proofs.HexLaws.{IsBytes, split_part, hex_again, hex_above}

pub nothing_shown : Shows [] []
nothing_shown = record { lines = []; spelled = refl; each = tt; add = refl }

add_append : (lines others : List (List ℕ)) (a b : List ℕ) → AddAll lines a → AddAll others b → AddAll (lines ++ others) (a ++ b)
add_append [] others a b h k = subst (λ (l : List ℕ). AddAll others (l ++ b)) (sym h) k
add_append (line ∷ lines) others a b h k =
    (h.0, h.1 ++ b, ap (λ (l : List ℕ). l ++ b) h.2 ∙ append_assoc h.0 h.1 b, h.3, add_append lines others h.1 b h.4 k)

each_append : (lines others : List (List ℕ)) → AllByRecursion IsLine lines → AllByRecursion IsLine others → AllByRecursion IsLine (lines ++ others)
each_append [] others h k = k
each_append (line ∷ lines) others h k = (h.0, each_append lines others h.1 k)

text_append : (lines others : List (List ℕ)) → lines_text (lines ++ others) ≡ lines_text lines ++ lines_text others
text_append [] others = refl
text_append (line ∷ lines) others = ap (λ (l : List ℕ). (line ++ 10 ∷ []) ++ l) (text_append lines others) ∙ sym (append_assoc (line ++ 10 ∷ []) (lines_text lines) (lines_text others))

-- one line more
pub one_line : (old new line bytes : List ℕ) → IsLine line → Adds line bytes → new ≡ old ++ (line ++ 10 ∷ []) → Grows old new bytes
one_line old new line bytes is adds e before shown = record {
  lines = shown.lines ++ line ∷ [];
  spelled = e ∙ ap (λ (l : List ℕ). l ++ (line ++ 10 ∷ [])) shown.spelled ∙ sym (text_append shown.lines (line ∷ []) ∙ ap (λ (l : List ℕ). lines_text shown.lines ++ l) (append-nil (line ++ 10 ∷ [])));
  each = each_append shown.lines (line ∷ []) shown.each (is, tt);
  add = add_append shown.lines (line ∷ []) before bytes shown.add (bytes, [], sym (append-nil bytes), adds, refl);
}

pub grows_twice : (old mid new a b : List ℕ) → Grows old mid a → Grows mid new b → Grows old new (a ++ b)
grows_twice old mid new a b h k before shown = subst (λ (l : List ℕ). Shows new l) (append_assoc before a b) (k (before ++ a) (h before shown))

pub grows_none : (old : List ℕ) → Grows old old []
grows_none old before shown = subst (λ (l : List ℕ). Shows old l) (sym (append-nil before)) shown

pub front_more : (old mid new bytes frame rest behind : List ℕ) → ShowsFront old mid bytes rest → rest ≡ frame ++ behind → Grows mid new frame → ShowsFront old new bytes behind
front_more old mid new bytes frame rest behind h parts grows = record {
  front = h.front ++ frame;
  parts = h.parts ∙ ap (λ (l : List ℕ). h.front ++ l) parts ∙ sym (append_assoc h.front frame behind);
  grows = grows_twice old mid new h.front frame h.grows grows;
}

pub front_none : (old bytes : List ℕ) → ShowsFront old old bytes bytes
front_none old bytes = record { front = []; parts = refl; grows = grows_none old }

pub front_after : (old mid new bytes first rest behind : List ℕ) → Grows old mid first → bytes ≡ first ++ rest → ShowsFront mid new rest behind → ShowsFront old new bytes behind
front_after old mid new bytes first rest behind grows parts h = record {
  front = first ++ h.front;
  parts = parts ∙ ap (λ (l : List ℕ). first ++ l) h.parts ∙ sym (append_assoc first h.front behind);
  grows = grows_twice old mid new first h.front grows h.grows;
}

-- ---- lines of a text

nothing_adds : Adds [] []
unfolding line_of
nothing_adds = record { line = Nothing; read = refl; good = tt; spelled = refl }

lines_add : (lines : List (List ℕ)) (bytes : List ℕ) → AllByRecursion IsLine lines → AddAll lines bytes → AddAll (split 10 (lines_text lines)) bytes
lines_add [] bytes each h = ([], [], h, nothing_adds, refl)
lines_add (line ∷ lines) bytes each h =
    let parts : split 10 ((line ++ 10 ∷ []) ++ lines_text lines) ≡ line ∷ split 10 (lines_text lines) =
    ap (split 10) (append_assoc line (10 ∷ []) (lines_text lines)) ∙ split_part 10 line (lines_text lines) each.0 in
    subst (λ (ls : List (List ℕ)). AddAll ls bytes) (sym parts) (h.0, h.1, h.2, h.3, lines_add lines h.1 each.1 h.4)

pub shown_assembles : (text bytes : List ℕ) → Shows text bytes → Assembles text bytes
shown_assembles text bytes h = subst (λ (l : List ℕ). Assembles l bytes) (sym h.spelled) (lines_add h.lines bytes h.each h.add)

-- ---- a line of bytes in hexadecimal, and a comment

pub raw_adds : (bytes : List ℕ) → hex_of (hex_text bytes) ≡ Some bytes → Adds (codes "bytes" ++ hex_text bytes) bytes
unfolding line_of worded_line raw_of
raw_adds bytes again = record {
  line = Raw bytes;
  read = rw again refl;
  good = tt;
  spelled = refl;
}

pub comment_adds : (text : List ℕ) → Adds (35 ∷ text) []
unfolding line_of
comment_adds text = record { line = Nothing; read = refl; good = tt; spelled = refl }

-- ---- all of a feed

pub shown_whole : (out0 out1 out2 out3 out4 feed front behind rest : List ℕ) → out0 ≡ [] → ShowsFront out0 out1 front rest → Grows out1 out2 [] → Grows out2 out3 rest → Grows out3 out4 behind → feed ≡ front ++ behind → Assembles out4 feed
shown_whole out0 out1 out2 out3 out4 feed front behind rest empty f note more last parts =
    let start : Shows out0 [] = subst (λ (l : List ℕ). Shows l []) (sym empty) nothing_shown in
    let all : Shows out4 (((f.front ++ []) ++ rest) ++ behind) = last ((f.front ++ []) ++ rest) (more (f.front ++ []) (note f.front (f.grows [] start))) in
    let same : ((f.front ++ []) ++ rest) ++ behind ≡ feed =
    ap (λ (l : List ℕ). (l ++ rest) ++ behind) (append-nil f.front) ∙ ap (λ (l : List ℕ). l ++ behind) (sym f.parts) ∙ sym parts in
    shown_assembles out4 feed (subst (λ (l : List ℕ). Shows out4 l) same all)

pub added_line : (old mid new line : List ℕ) → mid ≡ old ++ line → new ≡ mid ++ 10 ∷ [] → new ≡ old ++ (line ++ 10 ∷ [])
added_line old mid new line p q = q ∙ ap (λ (l : List ℕ). l ++ 10 ∷ []) p ∙ append_assoc old line (10 ∷ [])

pub raw_line : (bytes : List ℕ) → length bytes < 2 ^ 64 → IsBytes bytes → IsLine (codes "bytes" ++ hex_text bytes)
raw_line bytes few all = (lit< tt, (lit< tt, (lit< tt, (lit< tt, (lit< tt, hex_above bytes few all)))))

pub raw_text : (bytes empty text slice : List ℕ) → slice ≡ text → text ≡ empty ++ (codes "bytes" ++ hex_text bytes) → empty ≡ [] → slice ≡ codes "bytes" ++ hex_text bytes
raw_text bytes empty text slice s t e = s ∙ t ∙ ap (λ (l : List ℕ). l ++ (codes "bytes" ++ hex_text bytes)) e

pub raw_adds_again : (bytes slice : List ℕ) → length bytes < 2 ^ 64 → IsBytes bytes → slice ≡ codes "bytes" ++ hex_text bytes → Adds slice bytes
raw_adds_again bytes slice few all same = subst (λ (l : List ℕ). Adds l bytes) (sym same) (raw_adds bytes (hex_again bytes few all))

pub raw_is_line : (bytes slice : List ℕ) → length bytes < 2 ^ 64 → IsBytes bytes → slice ≡ codes "bytes" ++ hex_text bytes → IsLine slice
raw_is_line bytes slice few all same = subst IsLine (sym same) (raw_line bytes few all)

pub comment_line : (comment slice : List ℕ) → IsLine comment → slice ≡ codes "# " ++ comment → IsLine slice
comment_line comment slice h same = subst IsLine (sym same) (lit< tt, (lit< tt, h))

pub comment_added : (comment slice : List ℕ) → slice ≡ codes "# " ++ comment → Adds slice []
comment_added comment slice same = subst (λ (l : List ℕ). Adds l []) (sym same) (comment_adds (32 ∷ comment))

pub split_parts : (n : ℕ) (bytes front behind : List ℕ) → front ≡ take n bytes → behind ≡ drop n bytes → bytes ≡ front ++ behind
split_parts n bytes front behind f b = sym (ap₂ (λ (x y : List ℕ). x ++ y) f b ∙ take-append-drop n bytes)
