-- The loops that write the opening.
use Rattle.std.proofs.Common.{◌≡◌, ℕ, zero, suc, ◌+◌, ◌-◌, ◌*◌, ◌%◌, ◌≤◌, Bool, true, false, cond, filter, eq-eqb, true≢false, List, [], ◌∷◌, ◌++◌, map, length, refl, sym, ap, ◌∙◌, arith, append_assoc, append-nil}
use Rattle.std.specs.List.{flat_map, range_with_len}
use Rattle.std.proofs.lemmas.Bool.{eqb-true}
use Rattle.std.proofs.lemmas.List.FromFn.{map-range_with_len_more, length-map-range_with_len}
use Rattle.adg_base.specs.declared.vector.Vector.{Vector}
use Rattle.feed_gen.specs.declared.writing.Writing.{Writing}
use Rattle.feed_gen.specs.Tables.{put, first_balance, puts, create, load, creates, loads}
use Rattle.adg_base.specs.declared.command.Command.{Command}
use Rattle.adg_model.specs.Command.{command_bytes}
use Rattle.adg_model.specs.Feed.{item_bytes, Asks}
use Rattle.feed_gen.specs.declared.question.Question.{Question}
use Rattle.feed_gen.specs.Commands.{Asking, ask, command_of, is_own, asks_own}
use Rattle.feed_gen.specs.Written.{Written, with_writings, with_asked, with_text}
use Rattle.feed_gen.proofs.Written.{with_writings_then, with_asked_then, with_nothing_asked}
use Rattle.std.proofs.lemmas.List.{map-append}
use Rattle.std.proofs.lemmas.List.Elements.{filter-append}

pub puts_none : (vs : List Vector) (table from : ℕ) → vs ++ puts table from (from - from) ≡ vs
puts_none vs table from = let e : from - from ≡ 0 = omega arith in ap (λ n. vs ++ puts table from n) e ∙ append-nil vs

pub puts_more : (vs : List Vector) (table from row : ℕ) → from ≤ row → (vs ++ puts table from (row - from)) ++ put table table row first_balance ∷ [] ≡ vs ++ puts table from (row + 1 - from)
puts_more vs table from row le =
    let e : row + 1 - from ≡ row - from + 1 = omega arith in
    append_assoc vs (puts table from (row - from)) (put table table row first_balance ∷ [])
    ∙ ap (λ l. vs ++ l) (sym (map-range_with_len_more (λ j. put table table j first_balance) from (row - from) row (omega arith)))
    ∙ ap (λ n. vs ++ puts table from n) (sym e)

-- a list from each number of a range, and one more
pub flat_map_more : {X : Type 0} (f : ℕ → List X) (a n k : ℕ) → a + n ≡ k → flat_map f (range_with_len a (suc n)) ≡ flat_map f (range_with_len a n) ++ f k
flat_map_more f a zero k e = let same : a ≡ k = omega arith in append-nil (f a) ∙ ap f same
flat_map_more f a (suc n) k e =
    ap (λ l. f a ++ l) (flat_map_more f (a + 1) n k (omega arith)) ∙ sym (append_assoc (f a) (flat_map f (range_with_len (a + 1) n)) (f k))

-- so many records more
pub records_of : (v w : Written) (ws : List Writing) → v ≡ with_writings w ws → v.records ≡ w.records + length ws
records_of v w ws e = ap (λ (x : Written). x.records) e

pub mapped_more : (w v x : Written) (f : ℕ → Writing) (k : ℕ) → 1 ≤ k → v ≡ with_writings w (map f (range_with_len 1 (k - 1))) → x ≡ with_writings v (f k ∷ []) → x ≡ with_writings w (map f (range_with_len 1 (k + 1 - 1)))
mapped_more w v x f k some e h =
    let n : k + 1 - 1 ≡ k - 1 + 1 = omega arith in
    h ∙ ap (λ v. with_writings v (f k ∷ [])) e
    ∙ with_writings_then w (map f (range_with_len 1 (k - 1))) (f k ∷ [])
    ∙ ap (with_writings w) (sym (map-range_with_len_more f 1 (k - 1) k (omega arith)))
    ∙ ap (λ n. with_writings w (map f (range_with_len 1 n))) (sym n)

pub flattened_more : (w v x : Written) (f : ℕ → List Writing) (k : ℕ) → 1 ≤ k → v ≡ with_writings w (flat_map f (range_with_len 1 (k - 1))) → x ≡ with_writings v (f k) → x ≡ with_writings w (flat_map f (range_with_len 1 (k + 1 - 1)))
flattened_more w v x f k some e h =
    let n : k + 1 - 1 ≡ suc (k - 1) = omega arith in
    h ∙ ap (λ v. with_writings v (f k)) e
    ∙ with_writings_then w (flat_map f (range_with_len 1 (k - 1))) (f k)
    ∙ ap (with_writings w) (sym (flat_map_more f 1 (k - 1) k (omega arith)))
    ∙ ap (λ n. with_writings w (flat_map f (range_with_len 1 n))) (sym n)

pub asked_more : (w v x : Written) (f : ℕ → List Asking) (k : ℕ) → 1 ≤ k → v ≡ with_asked w (flat_map f (range_with_len 1 (k - 1))) → x ≡ with_asked v (f k) → x ≡ with_asked w (flat_map f (range_with_len 1 (k + 1 - 1)))
asked_more w v x f k some e h =
    let n : k + 1 - 1 ≡ suc (k - 1) = omega arith in
    h ∙ ap (λ v. with_asked v (f k)) e
    ∙ with_asked_then w (flat_map f (range_with_len 1 (k - 1))) (f k)
    ∙ ap (with_asked w) (sym (flat_map_more f 1 (k - 1) k (omega arith)))
    ∙ ap (λ n. with_asked w (flat_map f (range_with_len 1 n))) (sym n)

pub created_len : (n : ℕ) → length (map create (range_with_len 1 n)) ≡ n
created_len n = length-map-range_with_len create 1 n

pub loaded_len : (a n : ℕ) → length (flat_map load (range_with_len a n)) ≡ 2 * n
loaded_len a zero = refl
loaded_len a (suc n) = omega (arith, loaded_len (a + 1) n)

pub all_created_len : length creates ≡ 20
unfolding creates
all_created_len = created_len 20

pub all_loaded_len : length loads ≡ 40
unfolding loads
all_loaded_len = loaded_len 1 20

-- one part after another, as calls give them
pub written_then : (w v x : Written) (a b : List Writing) → v ≡ with_writings w a → x ≡ with_writings v b → x ≡ with_writings w (a ++ b)
written_then w v x a b e h = h ∙ ap (λ v. with_writings v b) e ∙ with_writings_then w a b

pub asked_then : (w v x : Written) (a b : List Asking) → v ≡ with_asked w a → x ≡ with_asked v b → x ≡ with_asked w (a ++ b)
asked_then w v x a b e h = h ∙ ap (λ v. with_asked v b) e ∙ with_asked_then w a b

-- a command and its text
pub text_asked : (w x : Written) (session : ℕ) (command : Command) (text : List ℕ) → text ≡ command_bytes command → x ≡ with_text session text w → x ≡ with_asked w (ask session command ∷ [])
text_asked w x session command text e h =
    h ∙ ap (λ t. with_text session t w) e
    ∙ ap (λ bytes. record w { bytes = w.bytes ++ bytes }) (sym (append-nil (item_bytes (Asks session (command_bytes command)))))

-- one more table, which is the session's or not
pub own_more : (w v x : Written) (question : Question) (session k : ℕ) → 1 ≤ k → v ≡ with_asked w (asks_own question session (range_with_len 1 (k - 1))) → x ≡ with_asked v (asks_own question session (k ∷ [])) → x ≡ with_asked w (asks_own question session (range_with_len 1 (k + 1 - 1)))
own_more w v x question session k some e h =
    let n : k + 1 - 1 ≡ suc (k - 1) = omega arith in
    let make = λ (k : ℕ). ask session (command_of question k) in
    let own = is_own session in
    let before = range_with_len 1 (k - 1) in
    let all : range_with_len 1 (suc (k - 1)) ≡ before ++ k ∷ [] = range_more 1 (k - 1) k (omega arith) in
    asked_then w v x (asks_own question session before) (asks_own question session (k ∷ [])) e h
    ∙ ap (with_asked w) (sym (map-append make (filter own before) (filter own (k ∷ []))) ∙ ap (map make) (sym (filter-append own before (k ∷ []))) ∙ ap (asks_own question session) (sym all) ∙ ap (λ n. asks_own question session (range_with_len 1 n)) (sym n))
  where
    range_more : (a n j : ℕ) → a + n ≡ j → range_with_len a (suc n) ≡ range_with_len a n ++ j ∷ []
    range_more a zero j e = let same : a ≡ j = omega arith in ap (λ i. i ∷ []) same
    range_more a (suc n) j e = ap (λ l. a ∷ l) (range_more (a + 1) n j (omega arith))

abbrev own_if : Bool → ℕ → Command → List Asking
own_if true session command = ask session command ∷ []
own_if false session command = []

pub own_asked : (v x : Written) (question : Question) (session k : ℕ) → (k % 4) ≡ (session % 4) → x ≡ with_asked v (ask session (command_of question k) ∷ []) → x ≡ with_asked v (asks_own question session (k ∷ []))
own_asked v x question session k e h = h ∙ ap (with_asked v) (one (is_own session k) (eq-eqb (k % 4) (session % 4) e))
  where
    one : (b : Bool) → b ≡ true → ask session (command_of question k) ∷ [] ≡ map (λ k. ask session (command_of question k)) (cond b (k ∷ []) [])
    one true t = refl
    one false t = absurd (true≢false (sym t))

pub other_asked : (v x : Written) (question : Question) (session k : ℕ) → ((k % 4) ≡ (session % 4) → ⊥) → x ≡ v → x ≡ with_asked v (asks_own question session (k ∷ []))
other_asked v x question session k ne h = h ∙ sym (with_nothing_asked v) ∙ ap (with_asked v) (none (is_own session k) refl)
  where
    none : (b : Bool) → is_own session k ≡ b → [] ≡ map (λ k. ask session (command_of question k)) (cond b (k ∷ []) [])
    none true t = absurd (ne (eqb-true (k % 4) (session % 4) t))
    none false t = refl
