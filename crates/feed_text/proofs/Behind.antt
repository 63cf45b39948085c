-- Words in front of a text.
use Rattle.std.proofs.Common.{◌≡◌, ℕ, suc, ◌<◌, List, [], ◌∷◌, length, get_or, drop, Option, None, sym, ap, ◌∙◌, arith, drop-cons}
use Rattle.feed_text.specs.Reading.{behind}

-- the text ends inside the word
pub behind_short : (word text : List ℕ) (i : ℕ) (total : Option (List ℕ)) → i < length word → length text < 1 → behind (drop i word) text ≡ total → total ≡ None
behind_short word [] i total lt short so_far =
    let e : drop i word ≡ get_or word i 0 ∷ drop (suc i) word = drop-cons word i 0 lt in
    sym so_far ∙ ap (λ w. behind w []) e
behind_short word (c ∷ text) i total lt short so_far = absurd (omega arith)
