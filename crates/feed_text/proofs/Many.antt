-- Reading things one after another, as a loop does.
use Rattle.std.proofs.Common.{◌≡◌, ℕ, suc, ◌-◌, ◌+◌, ◌≤◌, ◌<◌, List, [], ◌∷◌, ◌++◌, Option, Some, None, refl, sym, ap, ◌∙◌, append_assoc, arith}
use Rattle.std.proofs.lemmas.List.{append-nil}
use Rattle.change_vectors.specs.declared.unread.Unread.{Unread}
use Rattle.change_vectors.specs.declared.unread.Unread.TheVariants.{Memory, Bad}
use Rattle.change_vectors.specs.Reading.{◌>>=◌, Fails}
use Rattle.feed_text.specs.Reading.{behind, more_at, list_at}

-- what was read before, and what is still read
abbrev pub with_front : {X : Type 0} → List X → Option (List X × List ℕ) → Option (List X × List ℕ)
with_front front read = read >>= λ x. Some (front ++ x.0, x.1)

regroup : {X : Type 0} (front : List X) (n : X) (read : Option (List X × List ℕ)) → with_front front (read >>= λ x. Some (n ∷ x.0, x.1)) ≡ with_front (front ++ n ∷ []) read
regroup {X = X} front n (Some x) = ap (λ (ns : List X). Some (ns, x.1)) (simp append_assoc)
regroup front n None = refl

-- the first thing was read
pub begins : {X : Type 0} (read : List ℕ → Option (X × List ℕ)) (word : List ℕ) (count : ℕ) (text : List ℕ) (x : X) (after : List ℕ) → read text ≡ Some (x, after)
    → with_front (x ∷ []) (more_at read word (count - 0) after) ≡ list_at read word count text
unfolding list_at
begins read word count text x after h =
    let k : count - 0 ≡ count = omega arith in
    rw (h, k) refl

pub none_begins : {X : Type 0} (read : List ℕ → Option (X × List ℕ)) (word : List ℕ) (count : ℕ) (text : List ℕ) (e : Unread) → Fails e (read text) → Fails e (list_at read word count text)
unfolding list_at
none_begins read word count text Memory h = tt
none_begins read word count text Bad h = rw h refl

pub goes_on : {X : Type 0} (read : List ℕ → Option (X × List ℕ)) (word : List ℕ) (front : List X) (count i : ℕ) (text inside : List ℕ) (n : X) (after : List ℕ) (total : Option (List X × List ℕ)) → i < count → behind word text ≡ Some inside → read inside ≡ Some (n, after)
    → with_front front (more_at read word (count - i) text) ≡ total → with_front (front ++ n ∷ []) (more_at read word (count - (i + 1)) after) ≡ total
unfolding more_at
goes_on read word front count i text inside n after total lt b h so_far =
    let k : count - i ≡ suc (count - (i + 1)) = omega arith in
    let one : with_front front (more_at read word (count - i) text) ≡ with_front (front ++ n ∷ []) (more_at read word (count - (i + 1)) after) = rw (k, b, h) (regroup front n (more_at read word (count - (i + 1)) after)) in
    sym one ∙ so_far

pub ends : {X : Type 0} (read : List ℕ → Option (X × List ℕ)) (word : List ℕ) (e : Unread) (front : List X) (count i : ℕ) (text inside : List ℕ) (total : Option (List X × List ℕ)) → i < count → behind word text ≡ Some inside → Fails e (read inside)
    → with_front front (more_at read word (count - i) text) ≡ total → Fails e total
unfolding more_at
ends read word Memory front count i text inside total lt b h so_far = tt
ends read word Bad front count i text inside total lt b h so_far =
    let k : count - i ≡ suc (count - (i + 1)) = omega arith in
    let one : with_front front (more_at read word (count - i) text) ≡ None = rw (k, b, h) refl in
    sym so_far ∙ one

pub stops : {X : Type 0} (read : List ℕ → Option (X × List ℕ)) (word : List ℕ) (front : List X) (count i : ℕ) (text : List ℕ) (total : Option (List X × List ℕ)) → i < count → behind word text ≡ None → with_front front (more_at read word (count - i) text) ≡ total → total ≡ Some (front, text)
unfolding more_at
stops {X = X} read word front count i text total lt b so_far =
    let k : count - i ≡ suc (count - (i + 1)) = omega arith in
    let one : with_front front (more_at read word (count - i) text) ≡ Some (front, text) = rw (k, b) (ap (λ (ns : List X). Some (ns, text)) (append-nil front)) in
    sym so_far ∙ one

pub is_done : {X : Type 0} (read : List ℕ → Option (X × List ℕ)) (word : List ℕ) (front : List X) (count i : ℕ) (text : List ℕ) (total : Option (List X × List ℕ)) → count ≤ i → with_front front (more_at read word (count - i) text) ≡ total → total ≡ Some (front, text)
unfolding more_at
is_done {X = X} read word front count i text total le so_far =
    let k : count - i ≡ 0 = omega arith in
    let one : with_front front (more_at read word (count - i) text) ≡ Some (front, text) = rw k (ap (λ (ns : List X). Some (ns, text)) (append-nil front)) in
    sym so_far ∙ one
