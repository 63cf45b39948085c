-- Lemmas on the front of a piece that a read fills and on the bytes that it takes.
use Rattle.std.proofs.Common.{◌≡◌, ℕ, ◌+◌, ◌-◌, ◌<◌, ◌≤◌, min, Option, List, [], ◌++◌, length, take, drop, sym, ap, ◌∙◌, subst, arith, take-append-drop, length-take-le, length-drop}
use Rattle.std.proofs.lemmas.List.{take_at, drop-drop, drop_all, take-append-le, take_rest}
use Rattle.std.proofs.Math.Seq.{take-add, take-append-add}
use Rattle.std.proofs.KnownBytes.{Consumes-trans, Appends-trans}
use Rattle.std.specs.Io.KnownBytes.{Consumes, Appends}
use borrow.Rule.Slice.PartMut.{put_mid, post_of}

-- a read that copied the next n bytes into the front of a piece took those from what is left
pub taken_from : (bytes part rest : List ℕ) (at n : ℕ) → part ≡ take n (drop at bytes) → n ≤ length (drop at bytes)
    → drop at bytes ≡ take n (part ++ rest) ++ drop (at + n) bytes
taken_from bytes part rest at n copied within =
    let long : length part ≡ n = ap length copied ∙ length-take-le n (drop at bytes) within in
    let front : take n (part ++ rest) ≡ take n (drop at bytes) = take_at part rest n long ∙ copied in
    rw (front, ← drop-drop n at bytes) (sym (take-append-drop n (drop at bytes)))

-- a read that could take a byte and took none stands at the end
pub none_left : (bytes : List ℕ) (at most room n : ℕ) → n ≡ min (min (length (drop at bytes)) most) room → 0 < most → 0 < room → n ≡ 0
    → drop (at + n) bytes ≡ []
none_left bytes at most room n least some_most some_room none =
    let all : length bytes ≤ at = omega (arith, length-drop at bytes) in
    drop_all (at + n) bytes (omega arith)

-- what fills the front of a piece up to k, and then n bytes of the part from k on, is the front up to k + n
pub filled_on : (before mid after : Option (List ℕ)) (piece part : List ℕ) (k n room : ℕ) → k ≤ length piece → n ≤ length part
    → Consumes before mid (take k piece) → Consumes mid after (take n part) → Consumes before after (take (k + n) (put_mid k room piece part))
filled_on before mid after piece part k n room inside fits first second =
    let long : length (take k piece) ≡ k = length-take-le k piece inside in
    let joined : take (k + n) (put_mid k room piece part) ≡ take k piece ++ take n part =
    ap (λ m. take (m + n) (put_mid k room piece part)) (sym long) ∙ take-append-add (take k piece) (part ++ post_of k room piece) n
    ∙ ap (λ l. take k piece ++ l) (take-append-le n part (post_of k room piece) fits) in
    subst (Consumes before after) (sym joined) (Consumes-trans before mid after _ _ first second)

-- what appends the front of a piece up to k, and then n bytes of the rest, appends the front up to k + n
pub written_on : (before mid after : Option (List ℕ)) (piece : List ℕ) (k n : ℕ)
    → Appends before mid (take k piece) → Appends mid after (take n (take (length piece - k) (drop k piece))) → Appends before after (take (k + n) piece)
written_on before mid after piece k n first second =
    let joined : take k piece ++ take n (take (length piece - k) (drop k piece)) ≡ take (k + n) piece =
    ap (λ l. take k piece ++ take n l) (take_rest piece k) ∙ sym (take-add k n piece) in
    subst (Appends before after) joined (Appends-trans before mid after _ _ first second)
