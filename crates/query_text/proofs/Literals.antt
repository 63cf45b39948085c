-- Literals are read as they are spelled.
use Rattle.std.proofs.Common.{◌≡◌, ℕ, ℤ, ◌+◌, ◌-◌, ◌<◌, ◌≤◌, Bool, true, false, List, [], ◌∷◌, ◌++◌, length, get_or, take, drop, Some, refl, sym, ap, ap₂, ◌∙◌, subst, arith, append_assoc}
use Rattle.std.specs.Prelude.{FitsSigned, nat_le}
use Rattle.std.specs.List.{AllByRecursion, list_all}
use Rattle.std.specs.Int.{w64}
use Rattle.std.specs.Fmt.{signed_decimal}
use Rattle.std.proofs.lemmas.Bool.{and_parts, and_from, leb-true, le-leb}
use Rattle.std.proofs.lemmas.List.{append-nil, length-append, length-take-le, take-append-drop, length-drop, drop_more}
use Rattle.adg_base.specs.Text.{IsText, is_text_byte}
use Rattle.adg_base.specs.declared.value.Value.{Value}
use Rattle.adg_base.specs.declared.value.Value.TheVariants.{Null, Int, Text}
use Rattle.adg_model.specs.Command.{literal_bytes}
use Rattle.query_text.specs.Stopping.{first, Stops, Refuses, Spelled, Front, Anything}
use Rattle.query_text.specs.declared.fault.Fault.{Fault}
use Rattle.query_text.specs.Parts.{Ended, IsLiteral, EndsLiteral, closed}
use Rattle.query_text.specs.Literals.{IsTextLen}
use Rattle.query_text.proofs.Stopping.{heads, stops_in, stops_as, refuses}
use Rattle.adg_model.proofs.CommandLaws.{IsNoQuote, no_quotes, signed_no_quote}

-- ---- texts

-- a text goes on at least as far as what stands before the first byte that is no quotation mark
record GoesOn (text before rest : List ℕ) : Type 0 where
  byte : ℕ
  mid : List ℕ
  later : List ℕ
  front : rest ≡ byte ∷ later
  longer : text ≡ before ++ byte ∷ mid

text_goes_on : (text before k rest : List ℕ) → AllByRecursion IsNoQuote before → (first rest ≡ Some 39 → ⊥) → text ++ 39 ∷ k ≡ before ++ rest → GoesOn text before rest
text_goes_on [] [] k rest all other e = absurd (other (ap first (sym e)))
text_goes_on [] (b ∷ before) k rest all other e = absurd (all.0 (sym (heads 39 b k (before ++ rest) e)))
text_goes_on (t ∷ text) [] k rest all other e = record { byte = t; mid = text; later = text ++ 39 ∷ k; front = sym e; longer = refl }
text_goes_on (t ∷ text) (b ∷ before) k rest all other e =
    let r = text_goes_on text before k rest all.1 other (ap (drop 1) e) in
    record { byte = r.byte; mid = r.mid; later = r.later; front = r.front; longer = ap₂ (λ x xs. x ∷ xs) (heads t b (text ++ 39 ∷ k) (before ++ rest) e) r.longer }

all_at : (before mid : List ℕ) (c : ℕ) → list_all is_text_byte (before ++ c ∷ mid) ≡ true → is_text_byte c ≡ true
all_at [] mid c h = (and_parts (is_text_byte c) (list_all is_text_byte mid) h).0
all_at (b ∷ before) mid c h = all_at before mid c (and_parts (is_text_byte b) (list_all is_text_byte (before ++ c ∷ mid)) h).1

front_len : (bytes : List ℕ) (n : ℕ) → IsTextLen bytes n → length (take n bytes) ≡ n
front_len bytes n h = length-take-le n bytes h.within

front_text : (bytes : List ℕ) (n : ℕ) → IsTextLen bytes n → IsText (take n bytes)
front_text bytes n h =
    let small : length (take n bytes) ≤ 64 = omega (arith, front_len bytes n h, h.small) in
    and_from (nat_le (length (take n bytes)) 64) (list_all is_text_byte (take n bytes)) (le-leb (length (take n bytes)) 64 small) h.allowed

front_no_quotes : (bytes : List ℕ) (n : ℕ) → IsTextLen bytes n → AllByRecursion IsNoQuote (take n bytes)
front_no_quotes bytes n h = no_quotes (take n bytes) h.allowed

abbrev pub TextStops : List ℕ → ℕ → Type 0
TextStops text left = Stops (Spelled IsText closed) (Front Anything IsText closed) text left

-- no text goes on with a byte behind the front
no_text : (bytes : List ℕ) (n : ℕ) → IsTextLen bytes n → (text k rest : List ℕ) → IsText text → (first rest ≡ Some 39 → ⊥) → first rest ≡ first (drop n bytes) → text ++ 39 ∷ k ≡ take n bytes ++ rest → ⊥
no_text bytes n h text k rest good other same e =
    let g = text_goes_on text (take n bytes) k rest (front_no_quotes bytes n h) other e in
    let parts = and_parts (nat_le (length text) 64) (list_all is_text_byte text) good in
    let allowed : is_text_byte g.byte ≡ true = all_at (take n bytes) g.mid g.byte (subst (λ l. list_all is_text_byte l ≡ true) g.longer parts.1) in
    let short : length text ≤ 64 = leb-true (length text) 64 parts.0 in
    let len : length text ≡ length (take n bytes) + length (g.byte ∷ g.mid) = ap length g.longer ∙ length-append (take n bytes) (g.byte ∷ g.mid) in
    let small : n < 64 = omega (arith, len, short, front_len bytes n h) in
    let is_first : first (drop n bytes) ≡ Some g.byte = sym same ∙ ap first g.front in
    let some : n < length bytes = some_left bytes n g.byte is_first in
    let front : get_or bytes n 0 ≡ g.byte = byte_at bytes n g.byte some is_first in
    two_tests (is_text_byte g.byte) allowed (ap is_text_byte (sym front) ∙ h.ended small some)
  where
    some_left : (bytes : List ℕ) (n c : ℕ) → first (drop n bytes) ≡ Some c → n < length bytes
    some_left bytes n c e = at_least (drop n bytes) e (length-drop n bytes)
      where
        at_least : (l : List ℕ) → first l ≡ Some c → length l ≡ length bytes - n → n < length bytes
        at_least [] e f = absurd cc
        at_least (d ∷ l) e f = omega (arith, f)

    byte_at : (bytes : List ℕ) (n c : ℕ) → n < length bytes → first (drop n bytes) ≡ Some c → get_or bytes n 0 ≡ c
    byte_at bytes n c lt e = let f : first (drop n bytes) ≡ Some (get_or bytes n 0) = ap first (drop_more bytes n 0 lt) in cc

    two_tests : (b : Bool) → b ≡ true → b ≡ false → ⊥
    two_tests b e f = absurd cc

pub text_stops : (bytes : List ℕ) (n : ℕ) → IsTextLen bytes n → (first (drop n bytes) ≡ Some 39 → ⊥) → TextStops bytes (length (drop n bytes))
text_stops bytes n h other =
    record {
      before = take n bytes;
      behind = drop n bytes;
      parts = sym (take-append-drop n bytes);
      len = refl;
      more = 39 ∷ [];
      begins = record { value = take n bytes; good = front_text bytes n h; is = refl };
      none = λ f. no_text bytes n h f.value f.rest (drop n bytes) f.good other refl (sym (append_assoc f.value (39 ∷ []) f.rest) ∙ sym f.is ∙ sym (take-append-drop n bytes));
      longest = λ c cs later is f.
          let same : first (c ∷ later) ≡ first (drop n bytes) = sym (ap first is) in
          no_text bytes n h f.value f.rest (c ∷ later) f.good (λ q. other (sym same ∙ q)) same (sym (append_assoc f.value (39 ∷ []) f.rest) ∙ sym f.is);
    }

-- ---- literals

abbrev pub LiteralStops : List ℕ → ℕ → Type 0
LiteralStops text left = Stops (Spelled IsLiteral literal_bytes) (Front EndsLiteral IsLiteral literal_bytes) text left

text_of_literal : (x : List ℕ) → Front EndsLiteral IsLiteral literal_bytes (39 ∷ x) → Front Anything IsText closed x
text_of_literal x f = text_cases f.value f.rest f.good f.is
  where
    text_cases : (v : Value) (rest : List ℕ) → IsLiteral v → 39 ∷ x ≡ literal_bytes v ++ rest → Front Anything IsText closed x
    text_cases Null rest good e = absurd (good.1 refl)
    text_cases (Int n) rest good e = absurd (signed_no_quote n rest good.0 (ap (λ l. get_or l 0 0) (sym e)))
    text_cases (Text t) rest good e = record { value = t; rest = rest; good = good.0; ends = tt; is = ap (drop 1) e }

pub no_null_text : (t : List ℕ) → (let v : Value = Text t in v) ≡ Null → ⊥
no_null_text t e = absurd cc

pub no_null_int : (n : ℤ) → (let v : Value = Int n in v) ≡ Null → ⊥
no_null_int n e = absurd cc

pub text_literal_stops : (text : List ℕ) (left : ℕ) → TextStops text left → LiteralStops (39 ∷ text) left
text_literal_stops text left s =
    stops_in (Spelled IsText closed) (Front Anything IsText closed) (Spelled IsLiteral literal_bytes) (Front EndsLiteral IsLiteral literal_bytes) (39 ∷ []) text left
    (λ x h. ([], record { value = Text h.value; good = (h.good, no_null_text h.value); is = ap (λ l. 39 ∷ l) (append-nil x ∙ h.is) }))
    (λ x e f. text_of_literal x f)
    s

int_of_literal : (x : List ℕ) → (first x ≡ Some 39 → ⊥) → Front EndsLiteral IsLiteral literal_bytes x → Front Ended (FitsSigned w64) signed_decimal x
int_of_literal x other f = int_cases f.value f.rest f.good f.ends f.is
  where
    int_cases : (v : Value) (rest : List ℕ) → IsLiteral v → EndsLiteral v rest → x ≡ literal_bytes v ++ rest → Front Ended (FitsSigned w64) signed_decimal x
    int_cases Null rest good ends e = absurd (good.1 refl)
    int_cases (Int n) rest good ends e = record { value = n; rest = rest; good = good.0; ends = ends; is = e }
    int_cases (Text t) rest good ends e = absurd (other (ap first e))

pub int_literal_stops : (text : List ℕ) (left : ℕ) → (first text ≡ Some 39 → ⊥) → Stops (Spelled (FitsSigned w64) signed_decimal) (Front Ended (FitsSigned w64) signed_decimal) text left → LiteralStops text left
int_literal_stops text left other s =
    stops_as (Spelled (FitsSigned w64) signed_decimal) (Front Ended (FitsSigned w64) signed_decimal) (Spelled IsLiteral literal_bytes) (Front EndsLiteral IsLiteral literal_bytes) text left
    (λ x h. ([], record { value = Int h.value; good = (h.good, no_null_int h.value); is = append-nil x ∙ h.is }))
    (λ x e f. int_of_literal x (λ q. other (sym e ∙ q)) f)
    s

-- ---- what a call gave

pub text_literal_refused : (all text : List ℕ) (fault : Fault) → all ≡ 39 ∷ text → Refuses (Spelled IsText closed) (Front Anything IsText closed) text fault → Refuses (Spelled IsLiteral literal_bytes) (Front EndsLiteral IsLiteral literal_bytes) all fault
text_literal_refused all text fault is r = refuses _ _ _ _ text all fault (λ left s. subst (λ l. LiteralStops l left) (sym is) (text_literal_stops text left s)) r

pub int_literal_refused : (text : List ℕ) (fault : Fault) → (first text ≡ Some 39 → ⊥) → Refuses (Spelled (FitsSigned w64) signed_decimal) (Front Ended (FitsSigned w64) signed_decimal) text fault → Refuses (Spelled IsLiteral literal_bytes) (Front EndsLiteral IsLiteral literal_bytes) text fault
int_literal_refused text fault other r = refuses _ _ _ _ text text fault (λ left s. int_literal_stops text left other s) r
