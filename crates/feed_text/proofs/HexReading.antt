-- Words of hexadecimal are read one after another.
use Rattle.std.proofs.Common.{◌≡◌, ℕ, List, [], ◌∷◌, ◌++◌, Option, Some, None, refl, sym, ap, ◌∙◌, append_assoc}
use Rattle.std.specs.Prelude.{replicate}
use Rattle.std.proofs.lemmas.List.{append-nil}
use Rattle.change_vectors.specs.Reading.{◌>>=◌}
use Rattle.feed_text.specs.Reading.{cut}
use Rattle.feed_text.specs.LineReading.{split, run_of, runs_of}
use Rattle.feed_text.proofs.Cuts.{with_bytes, parts_of, split_cut}

regroup : (front run : List ℕ) (read : Option (List ℕ)) → with_bytes front (read >>= λ m. Some (run ++ m)) ≡ with_bytes (front ++ run) read
regroup front run (Some x) = ap Some (sym (append_assoc front run x))
regroup front run None = refl

pub words_on : (bytes new rest word more : List ℕ) (byte times : ℕ) (total : Option (List ℕ)) → cut 32 rest ≡ (word, Some more) → run_of word ≡ Some (byte, times) → new ≡ bytes ++ replicate times byte
    → with_bytes bytes (runs_of (split 32 rest)) ≡ total → with_bytes new (runs_of (split 32 more)) ≡ total
unfolding runs_of
words_on bytes new rest word more byte times total parts run is so_far =
    let here : split 32 rest ≡ word ∷ split 32 more = split_cut 32 rest ∙ ap (parts_of 32) parts in
    let one : with_bytes bytes (runs_of (split 32 rest)) ≡ with_bytes (bytes ++ replicate times byte) (runs_of (split 32 more)) = rw (here, run) (regroup bytes (replicate times byte) (runs_of (split 32 more))) in
    ap (λ (l : List ℕ). with_bytes l (runs_of (split 32 more))) is ∙ sym one ∙ so_far

pub words_end : (bytes new rest word : List ℕ) (byte times : ℕ) (total : Option (List ℕ)) → cut 32 rest ≡ (word, None) → run_of word ≡ Some (byte, times) → new ≡ bytes ++ replicate times byte
    → with_bytes bytes (runs_of (split 32 rest)) ≡ total → total ≡ Some new
unfolding runs_of
words_end bytes new rest word byte times total parts run is so_far =
    let here : split 32 rest ≡ word ∷ [] = split_cut 32 rest ∙ ap (parts_of 32) parts in
    let one : with_bytes bytes (runs_of (split 32 rest)) ≡ Some (bytes ++ (replicate times byte ++ [])) = rw (here, run) refl in
    sym so_far ∙ one ∙ ap (λ (l : List ℕ). Some (bytes ++ l)) (append-nil (replicate times byte)) ∙ ap Some (sym is)

none_of : (bytes word : List ℕ) (tail : Option (List ℕ)) → run_of word ≡ None → with_bytes bytes (runs_of (parts_of 32 (word, tail))) ≡ None
unfolding runs_of
none_of bytes word None h = rw h refl
none_of bytes word (Some rest) h = rw h refl

pub words_fail : (bytes rest word : List ℕ) (tail : Option (List ℕ)) (total : Option (List ℕ)) → cut 32 rest ≡ (word, tail) → run_of word ≡ None → with_bytes bytes (runs_of (split 32 rest)) ≡ total → total ≡ None
words_fail bytes rest word tail total parts h so_far =
    let here : split 32 rest ≡ parts_of 32 (word, tail) = split_cut 32 rest ∙ ap (parts_of 32) parts in
    sym so_far ∙ ap (λ (ls : List (List ℕ)). with_bytes bytes (runs_of ls)) here ∙ none_of bytes word tail h
