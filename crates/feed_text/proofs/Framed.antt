-- A frame that was written.
use Rattle.std.proofs.Common.{◌≡◌, ℕ, ◌+◌, List, [], ◌∷◌, ◌++◌, length, sym, ap, ◌∙◌, append_assoc, length-append}
use Rattle.std.specs.Int.{w32, to_be_bytes}
use Rattle.adg_model.specs.Feed.{frame}

pub framed : (o a b c d front payload : List ℕ) (tag len : ℕ) → a ≡ o ++ tag ∷ [] → b ≡ a ++ to_be_bytes w32 len → c ≡ b ++ front → d ≡ c ++ payload → len ≡ length front + length payload → d ≡ o ++ frame tag (front ++ payload)
unfolding frame
framed o a b c d front payload tag len ea eb ec ed is =
    let size : len ≡ length (front ++ payload) = is ∙ sym (length-append front payload) in
    let all : d ≡ (((o ++ tag ∷ []) ++ to_be_bytes w32 len) ++ front) ++ payload =
    ed ∙ ap (λ (l : List ℕ). l ++ payload) (ec ∙ ap (λ (l : List ℕ). l ++ front) (eb ∙ ap (λ (l : List ℕ). l ++ to_be_bytes w32 len) ea)) in
    let flat : (((o ++ tag ∷ []) ++ to_be_bytes w32 len) ++ front) ++ payload ≡ o ++ (tag ∷ (to_be_bytes w32 len ++ (front ++ payload))) = simp append_assoc in
    all ∙ flat ∙ ap (λ (n : ℕ). o ++ (tag ∷ (to_be_bytes w32 n ++ (front ++ payload)))) size
