-- How the place where a text goes wrong follows from that where a part of it goes wrong.
use Rattle.std.proofs.Common.{◌≡◌, ℕ, ◌≤◌, List, [], ◌∷◌, ◌++◌, length, get_or, drop, min, ◌⊎◌, inl, inr, refl, sym, ap, ap₂, ◌∙◌, subst, arith, append_assoc}
use Rattle.std.proofs.lemmas.Bool.{cases_lt}
use Rattle.std.proofs.lemmas.List.{append-nil, length-append}
use Rattle.query_text.specs.Stopping.{first, Stops, Refuses}
use Rattle.query_text.specs.declared.fault.Fault.{Fault}
use Rattle.query_text.specs.declared.fault.Fault.TheVariants.{Stopped, Memory}

pub heads : (c d : ℕ) (cs ds : List ℕ) → c ∷ cs ≡ d ∷ ds → c ≡ d
heads c d cs ds e = ap (λ l. get_or l 0 0) e

-- the byte in front stays the same, whatever comes later
first_same : (before : List ℕ) (c : ℕ) (cs later : List ℕ) → first (before ++ c ∷ later) ≡ first (before ++ c ∷ cs)
first_same [] c cs later = refl
first_same (d ∷ before) c cs later = refl

-- A part goes wrong behind a front: what the part begins can be gone on with to something good, and
-- what may come of the whole behind the front may come of the part.
pub stops_in : (Good May All Whole : List ℕ → Type 0) (front text : List ℕ) (left : ℕ) → ((x : List ℕ) → Good x → (k : List ℕ) × All (front ++ (x ++ k))) → ((x : List ℕ) → first x ≡ first text → Whole (front ++ x) → May x) → Stops Good May text left → Stops All Whole (front ++ text) left
stops_in Good May All Whole front text left goes comes s =
    let e = goes (s.before ++ s.more) s.begins in
    let regroup : front ++ ((s.before ++ s.more) ++ e.0) ≡ (front ++ s.before) ++ (s.more ++ e.0) = simp append_assoc in
    record {
      before = front ++ s.before;
      behind = s.behind;
      parts = ap (λ l. front ++ l) s.parts ∙ sym (append_assoc front s.before s.behind);
      len = s.len;
      more = s.more ++ e.0;
      begins = subst All regroup e.1;
      none = λ h. s.none (comes text refl h);
      longest = λ c cs later is h.
          let same : first (s.before ++ c ∷ later) ≡ first text = first_same s.before c cs later ∙ sym (ap first (s.parts ∙ ap (λ l. s.before ++ l) is)) in
          s.longest c cs later is (comes (s.before ++ c ∷ later) same (subst Whole (append_assoc front s.before (c ∷ later)) h));
    }

-- the same with nothing in front
pub stops_as : (Good May All Whole : List ℕ → Type 0) (text : List ℕ) (left : ℕ) → ((x : List ℕ) → Good x → (k : List ℕ) × All (x ++ k)) → ((x : List ℕ) → first x ≡ first text → Whole x → May x) → Stops Good May text left → Stops All Whole text left
stops_as Good May All Whole text left goes comes s = stops_in Good May All Whole [] text left goes comes s

-- of two ways to cut a list, the one with the shorter end has the longer front
split : (a b c d : List ℕ) → a ++ b ≡ c ++ d → length b ≤ length d → (mid : List ℕ) × (a ≡ c ++ mid) × (d ≡ mid ++ b)
split a b [] d e le = (a, refl, sym e)
split [] b (x ∷ c) d e le = absurd (omega (arith, ap length e, length-append c d))
split (y ∷ a) b (x ∷ c) d e le =
    let r = split a b c d (ap (drop 1) e) le in
    (r.0, ap₂ (λ h t. h ∷ t) (heads y x (a ++ b) (c ++ d) e) r.1, r.2)

-- what goes wrong earlier does not go on where it goes wrong later
no_longer : (Good May : List ℕ → Type 0) (text : List ℕ) (n : ℕ) (before behind mid : List ℕ) (t : Stops Good May text n) → before ≡ t.before ++ mid → t.behind ≡ mid ++ behind → (c : ℕ) (cs later : List ℕ) → behind ≡ c ∷ cs → May (before ++ c ∷ later) → ⊥
no_longer Good May text n before behind [] t e f c cs later is h =
    t.longest c cs later (f ∙ is) (subst (λ l. May (l ++ c ∷ later)) (e ∙ append-nil t.before) h)
no_longer Good May text n before behind (d ∷ mid) t e f c cs later is h =
    t.longest d (mid ++ behind) (mid ++ c ∷ later) f (subst May (ap (λ l. l ++ c ∷ later) e ∙ append_assoc t.before (d ∷ mid) (c ∷ later)) h)

stops_later : (A K B L : List ℕ → Type 0) (text : List ℕ) (m n : ℕ) → m ≤ n → Stops A K text m → Stops B L text n → Stops (λ x. A x ⊎ B x) (λ x. K x ⊎ L x) text m
stops_later A K B L text m n le s t =
    let s-len = s.len in
    let t-len = t.len in
    let r = split s.before s.behind t.before t.behind (sym s.parts ∙ t.parts) (omega arith) in
    record {
      before = s.before;
      behind = s.behind;
      parts = s.parts;
      len = s.len;
      more = s.more;
      begins = inl s.begins;
      none = λ h. elim h [ inl k ↦ s.none k | inr l ↦ t.none l ];
      longest = λ c cs later is h. elim h [ inl k ↦ s.longest c cs later is k | inr l ↦ no_longer B L text n s.before s.behind r.0 t r.1 r.2 c cs later is l ];
    }

swapped : {A B : Type 0} → A ⊎ B → B ⊎ A
swapped (inl a) = inr a
swapped (inr b) = inl b

-- of two sorts, a text begins something of one as far as the later place where it goes wrong
pub stops_either : (A K B L : List ℕ → Type 0) (text : List ℕ) (m n : ℕ) → Stops A K text m → Stops B L text n → Stops (λ x. A x ⊎ B x) (λ x. K x ⊎ L x) text (min m n)
stops_either A K B L text m n s t =
    let P : ℕ → Type 0 = λ l. Stops (λ x. A x ⊎ B x) (λ x. K x ⊎ L x) text l in
    elim (cases_lt m n) [
      | inl lt ↦ (let is : m ≡ min m n = omega arith in subst P is (stops_later A K B L text m n (omega arith) s t))
      | inr le ↦ (let is : n ≡ min m n = omega arith in subst P is (stops_as (λ x. B x ⊎ A x) (λ x. L x ⊎ K x) (λ x. A x ⊎ B x) (λ x. K x ⊎ L x) text n (λ x h. ([], subst (λ l. A l ⊎ B l) (sym (append-nil x)) (swapped h))) (λ x e h. swapped h) (stops_later B L A K text n m le t s)))
    ]

-- the same where memory may run out
pub refuses : (Good May All Whole : List ℕ → Type 0) (text all : List ℕ) (fault : Fault) → ((left : ℕ) → Stops Good May text left → Stops All Whole all left) → Refuses Good May text fault → Refuses All Whole all fault
refuses Good May All Whole text all (Stopped left) follows s = follows left s
refuses Good May All Whole text all Memory follows s = tt
