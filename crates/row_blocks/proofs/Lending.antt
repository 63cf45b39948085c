-- Lemmas on the rows of a block.
use Rattle.std.proofs.Common.{◌≡◌, ℕ, zero, suc, ◌+◌, List, [], ◌∷◌, ◌++◌, slice_index_or, Option, Some, None, refl, sym, ap, ◌∙◌, arith, append_assoc}
use Rattle.std.specs.Prelude.{option_to_list}
use Rattle.std.specs.List.{filter_map, range_with_len}
use Rattle.std.proofs.lemmas.List.Elements.{filter_map-append}
use Rattle.adg_base.specs.declared.value.Value.{Value}
use Rattle.row_blocks.specs.declared.version.Version.{Version}
use Rattle.row_blocks.specs.Pick.{Commits, picked_by}
use Rattle.row_blocks.specs.Lent.{rows_in_slots}

range_more : (a n : ℕ) → range_with_len a (n + 1) ≡ range_with_len a n ++ (a + n) ∷ []
range_more a zero = let e : a ≡ a + 0 = omega arith in ap (λ k. k ∷ []) e
range_more a (suc n) =
    let s : suc n + 1 ≡ suc (n + 1) = omega arith in
    let e : a + 1 + n ≡ a + suc n = omega arith in
    ap (range_with_len a) s ∙ ap (λ l. a ∷ l) (range_more (a + 1) n ∙ ap (λ k. range_with_len (a + 1) n ++ k ∷ []) e)

filter_one : {X Y : Type 0} (f : X → Option Y) (x : X) → filter_map f (x ∷ []) ≡ option_to_list (f x)
filter_one {Y} f x = by_case (f x) refl
  where
    by_case : (o : Option Y) → f x ≡ o → filter_map f (x ∷ []) ≡ option_to_list o
    by_case None e = rw e refl
    by_case (Some y) e = rw e refl

-- one slot more
pub rows_more : (c : Commits) (slots : List (List Version)) (n : ℕ) (before rows next : List (List Value)) (row : Option (List Value))
    → rows ≡ before ++ rows_in_slots c slots n → row ≡ picked_by c (slice_index_or slots n []) → next ≡ rows ++ option_to_list row
    → next ≡ before ++ rows_in_slots c slots (n + 1)
rows_more c slots n before rows next row h e k =
    let f : ℕ → Option (List Value) = λ slot. picked_by c (slice_index_or slots slot []) in
    let range : range_with_len 0 (n + 1) ≡ range_with_len 0 n ++ n ∷ [] = range_more 0 n ∙ (let z : 0 + n ≡ n = omega arith in ap (λ j. range_with_len 0 n ++ j ∷ []) z) in
    let more : rows_in_slots c slots (n + 1) ≡ rows_in_slots c slots n ++ option_to_list row =
    ap (filter_map f) range ∙ filter_map-append f (range_with_len 0 n) (n ∷ []) ∙ ap (λ l. rows_in_slots c slots n ++ l) (filter_one f n ∙ ap option_to_list (sym e)) in
    k ∙ ap (λ l. l ++ option_to_list row) h ∙ append_assoc before (rows_in_slots c slots n) (option_to_list row) ∙ ap (λ l. before ++ l) (sym more)
