-- Lemmas on the latest of some versions.
use Rattle.std.proofs.Common.{◌≡◌, length, drop, get_or, add-one, drop-cons, ℕ, ◌+◌, ◌<◌, ◌≤◌, ◌==◌, Bool, true, false, not, cond, ◌&&◌, List, [], ◌∷◌, ◌++◌, Option, Some, None, refl, sym, ap, ap₂, ◌∙◌, arith, append-nil}
use Rattle.std.specs.List.{list_any}
use Rattle.std.proofs.lemmas.Bool.{eqb-true}
use Rattle.std.proofs.lemmas.Bool.Decides.{nat_tests}
use Rattle.adg_base.specs.declared.value.Value.{Value}
use Rattle.row_blocks.specs.declared.version.Version.{Version}
use Rattle.row_blocks.specs.declared.version.End.{End}
use Rattle.row_blocks.specs.Pick.{Commits, Candidate, candidate, is_upto, later, latest, row_of, latest_by, candidates}
use Rattle.row_blocks.specs.Versions.{stands, strike}

-- commits that are the same for each transaction give the same pick
pub latest_by_same : (c d : Commits) → ((t : ℕ) → c t ≡ d t) → (vs : List Version) → latest_by c vs ≡ latest_by d vs
latest_by_same c d h [] = refl
latest_by_same c d h (v ∷ vs) = ap₂ (λ x y. later (candidate v x) y) (h v.txn) (latest_by_same c d h vs)

pub later_none : (x : Option Candidate) → later x None ≡ x
later_none None = refl
later_none (Some x) = refl

pub candidate_struck : (v : Version) (x : Option ℕ) → v.struck ≡ true → candidate v x ≡ None
candidate_struck v None e = refl
candidate_struck v (Some p) e = rw e refl

-- a version of a transaction that does not count changes no pick
pub latest_by_push : (c : Commits) (vs : List Version) (v : Version) → c v.txn ≡ None → latest_by c (vs ++ v ∷ []) ≡ latest_by c vs
latest_by_push c [] v e = rw e refl
latest_by_push c (w ∷ vs) v e = ap (λ y. later (candidate w (c w.txn)) y) (latest_by_push c vs v e)

pub stands_parts : (t : ℕ) (v : Version) → stands t v ≡ true → (v.txn ≡ t) × (v.struck ≡ false)
stands_parts t v h = (grind (arith, nat_tests), grind (arith, nat_tests))

pub latest_by_strike : (c : Commits) (t : ℕ) (vs : List Version) → c t ≡ None → latest_by c (strike t vs) ≡ latest_by c vs
latest_by_strike c t [] e = refl
latest_by_strike c t (v ∷ vs) e = by_tests (list_any (stands t) vs) (stands t v) refl (latest_by_strike c t vs e)
  where
    by_tests : (x y : Bool) → stands t v ≡ y → latest_by c (strike t vs) ≡ latest_by c vs
        → latest_by c (cond x (v ∷ strike t vs) (cond y (record v { struck = true } ∷ vs) (v ∷ vs))) ≡ latest_by c (v ∷ vs)
    by_tests true y h ih = ap (λ z. later (candidate v (c v.txn)) z) ih
    by_tests false false h ih = refl
    by_tests false true h ih =
        let n : c v.txn ≡ None = ap c (stands_parts t v h).0 ∙ e in
        rw n refl

-- the rows of the versions of a transaction that stand, the latest first
abbrev pub standing : ℕ → List Version → List (Option (List Value))
standing t [] = []
standing t (v ∷ vs) = standing t vs ++ cond (stands t v) (v.row ∷ []) []

-- positions that rise, from one on
abbrev pub Rising : ℕ → List Version → Type 0
Rising low [] = Unit {0}
Rising low (v ∷ vs) = (low ≤ v.pos) × Rising (v.pos + 1) vs

-- all commits are below a position
abbrev pub Below : ℕ → Commits → Type 0
Below pos c = (t p : ℕ) → c t ≡ Some p → p < pos

abbrev pub CommitBelow : ℕ → Option Candidate → Type 0
CommitBelow pos None = Unit {0}
CommitBelow pos (Some x) = x.commit < pos

candidate_below : (c : Commits) (pos : ℕ) (v : Version) → Below pos c → CommitBelow pos (candidate v (c v.txn))
candidate_below c pos v h = by_cases (c v.txn) v.struck refl refl
  where
    by_cases : (o : Option ℕ) (b : Bool) → c v.txn ≡ o → v.struck ≡ b → CommitBelow pos (candidate v o)
    by_cases None b e k = tt
    by_cases (Some p) true e k = rw k tt
    by_cases (Some p) false e k = rw k (h v.txn p e)

pub later_below : (pos : ℕ) (x y : Option Candidate) → CommitBelow pos x → CommitBelow pos y → CommitBelow pos (later x y)
later_below pos None y h k = k
later_below pos (Some x) None h k = h
later_below pos (Some x) (Some y) h k = by_test (is_upto x y)
  where
    by_test : (s : Bool) → CommitBelow pos (cond s (Some y) (Some x))
    by_test true = k
    by_test false = h

latest_below : (c : Commits) (pos : ℕ) (vs : List Version) → Below pos c → CommitBelow pos (latest_by c vs)
latest_below c pos [] h = tt
latest_below c pos (v ∷ vs) h = later_below pos (candidate v (c v.txn)) (latest_by c vs) (candidate_below c pos v h) (latest_below c pos vs h)

pub later_wins : (x y : Candidate) → x.commit < y.commit → later (Some x) (Some y) ≡ Some y
later_wins x y h = grind (arith, nat_tests)

pub later_loses : (x y : Candidate) → y.commit < x.commit → later (Some x) (Some y) ≡ Some x
later_loses x y h = grind (arith, nat_tests)

later_own : (x y : Candidate) → x.commit ≡ y.commit → x.pos < y.pos → later (Some x) (Some y) ≡ Some y
later_own x y e h = grind (arith, nat_tests)

-- what the commit of a transaction at a position makes of the latest, by its versions that stand
abbrev pub Won : ℕ → ℕ → List (Option (List Value)) → Option Candidate → Option Candidate → Type 0
Won pos low [] old new = new ≡ old
Won pos low (r ∷ rs) old new = (p : ℕ) × (low ≤ p) × (new ≡ Some (record { commit = pos; pos = p; row = r }))

won_lower : (pos low high : ℕ) (rs : List (Option (List Value))) (x y : Option Candidate) → low ≤ high → Won pos high rs x y → Won pos low rs x y
won_lower pos low high [] x y h w = w
won_lower pos low high (r ∷ rs) x y h w = let k : high ≤ w.0 = w.1 in (w.0, omega arith, w.2)

-- a version that does not count newly
won_other : (pos low : ℕ) (v : Option Candidate) (rs : List (Option (List Value))) (x y : Option Candidate) → CommitBelow pos v → Won pos low rs x y → Won pos low rs (later v x) (later v y)
won_other pos low v [] x y h w = ap (later v) w
won_other pos low None (r ∷ rs) x y h w = w
won_other pos low (Some v) (r ∷ rs) x y h w =
    (w.0, w.1, ap (later (Some v)) w.2 ∙ later_wins v (record { commit = pos; pos = w.0; row = r }) h)

-- a version that counts newly
won_own : (pos low p : ℕ) (row : Option (List Value)) (rs : List (Option (List Value))) (x y : Option Candidate) → low ≤ p → CommitBelow pos x
    → Won pos (p + 1) rs x y → Won pos low (rs ++ row ∷ []) x (later (Some (record { commit = pos; pos = p; row = row })) y)
won_own pos low p row [] None y l h w = (p, l, ap (later (Some (record { commit = pos; pos = p; row = row }))) w)
won_own pos low p row [] (Some x) y l h w =
    (p, l, ap (later (Some (record { commit = pos; pos = p; row = row }))) w ∙ later_loses (record { commit = pos; pos = p; row = row }) x h)
won_own pos low p row (r ∷ rs) x y l h w =
    let k : p + 1 ≤ w.0 = w.1 in (
      w.0,
      omega arith,
      ap (later (Some (record { commit = pos; pos = p; row = row }))) w.2
          ∙ later_own (record { commit = pos; pos = p; row = row }) (record { commit = pos; pos = w.0; row = r }) refl (omega arith),
    )

-- The commit of a transaction at a position above all: of its versions that stand the last one wins,
-- and where there is none nothing changes.
pub record CommitsAt (c d : Commits) (t pos : ℕ) : Type 0 where
  pub none : c t ≡ None
  pub here : d t ≡ Some pos
  pub others : (u : ℕ) → (u == t) ≡ false → d u ≡ c u
  pub below : Below pos c

abbrev WonMore : ℕ → ℕ → ℕ → Version → List Version → Bool → (before after first second : Option Candidate) → Type 0
WonMore pos low t v vs b before after first second = Won pos low (standing t vs ++ cond b (v.row ∷ []) []) (later first before) (later second after)

pub won : (c d : Commits) (t pos : ℕ) → CommitsAt c d t pos → (low : ℕ) (vs : List Version) → Rising low vs → Won pos low (standing t vs) (latest_by c vs) (latest_by d vs)
won c d t pos s low [] h = refl
won c d t pos s low (v ∷ vs) h = by_tests (v.txn == t) v.struck refl refl (won c d t pos s (v.pos + 1) vs h.1)
  where
    lowered : Won pos (v.pos + 1) (standing t vs) (latest_by c vs) (latest_by d vs) → Won pos low (standing t vs ++ []) (latest_by c vs) (latest_by d vs)
    lowered ih = let k : low ≤ v.pos = h.0 in rw (append-nil (standing t vs)) (won_lower pos low (v.pos + 1) (standing t vs) _ _ (omega arith) ih)

    by_tests : (own struck : Bool) → (v.txn == t) ≡ own → v.struck ≡ struck → Won pos (v.pos + 1) (standing t vs) (latest_by c vs) (latest_by d vs) → WonMore pos low t v vs (own && not struck) (latest_by c vs) (latest_by d vs) (candidate v (c v.txn)) (candidate v (d v.txn))
    by_tests true true e k ih = rw (candidate_struck v (c v.txn) k, candidate_struck v (d v.txn) k) (lowered ih)
    by_tests false true e k ih = rw (candidate_struck v (c v.txn) k, candidate_struck v (d v.txn) k) (lowered ih)
    by_tests false false e k ih =
        rw (s.others v.txn e) (won_other pos low (candidate v (c v.txn)) (standing t vs ++ []) _ _ (candidate_below c pos v s.below) (lowered ih))
    by_tests true false e k ih =
        let same : v.txn ≡ t = eqb-true v.txn t e in
        let old : candidate v (c v.txn) ≡ None = ap (λ o. candidate v o) (ap c same ∙ s.none) in
        let new : candidate v (d v.txn) ≡ Some (record { commit = pos; pos = v.pos; row = v.row }) = ap (λ o. candidate v o) (ap d same ∙ s.here) ∙ ap (λ b. cond b None (Some (record { commit = pos; pos = v.pos; row = v.row }))) k in
        rw (old, new) (won_own pos low v.pos v.row (standing t vs) _ _ h.0 (latest_below c pos vs s.below) ih)

abbrev pub first_or : List (Option (List Value)) → Option (List Value) → Option (List Value)
first_or [] row = row
first_or (r ∷ rs) row = r

pub won_row : (pos low : ℕ) (rs : List (Option (List Value))) (x y : Option Candidate) → Won pos low rs x y → row_of y ≡ first_or rs (row_of x)
won_row pos low [] x y w = ap row_of w
won_row pos low (r ∷ rs) x y w = ap row_of w.2

-- the later of three, in either order
pub later_assoc : (x y z : Option Candidate) → later (later x y) z ≡ later x (later y z)
later_assoc None y z = refl
later_assoc (Some x) None z = refl
later_assoc (Some x) (Some y) None = later_none (later (Some x) (Some y))
later_assoc (Some x) (Some y) (Some z) = by_tests (is_upto x y) (is_upto y z) refl refl
  where
    by_tests : (b c : Bool) → is_upto x y ≡ b → is_upto y z ≡ c → later (cond b (Some y) (Some x)) (Some z) ≡ later (Some x) (cond c (Some z) (Some y))
    by_tests true true k m = let h : is_upto x z ≡ true = grind (arith, nat_tests) in rw (m, h) refl
    by_tests true false k m = rw (m, k) refl
    by_tests false true k m = refl
    by_tests false false k m = let h : is_upto x z ≡ false = grind (arith, nat_tests) in rw (h, k) refl

-- no versions, or no ends, no candidates
no_versions : (q : ℕ) (versions : List Version) (ends : List (Option End)) → length versions ≡ 0 → candidates q versions ends ≡ []
no_versions q [] ends h = refl
no_versions q (v ∷ vs) ends h = absurd (omega arith)

no_ends : (q : ℕ) (versions : List Version) (ends : List (Option End)) → length ends ≡ 0 → candidates q versions ends ≡ []
no_ends q [] ends h = refl
no_ends q (v ∷ vs) [] h = refl
no_ends q (v ∷ vs) (e ∷ es) h = absurd (omega arith)

-- the best of a loop that has come to the end of one of the lists
best_is_latest : (q : ℕ) (versions : List Version) (ends : List (Option End)) (best all : Option Candidate) → later best (latest (candidates q versions ends)) ≡ all
    → candidates q versions ends ≡ [] → best ≡ all
best_is_latest q versions ends best all e h = sym (later_none best) ∙ ap (λ cs. later best (latest cs)) (sym h) ∙ e

pub best_is_latest_versions : (q : ℕ) (versions : List Version) (ends : List (Option End)) (best all : Option Candidate) → later best (latest (candidates q versions ends)) ≡ all
    → length versions ≡ 0 → best ≡ all
best_is_latest_versions q versions ends best all e h = best_is_latest q versions ends best all e (no_versions q versions ends h)

pub best_is_latest_ends : (q : ℕ) (versions : List Version) (ends : List (Option End)) (best all : Option Candidate) → later best (latest (candidates q versions ends)) ≡ all
    → length ends ≡ 0 → best ≡ all
best_is_latest_ends q versions ends best all e h = best_is_latest q versions ends best all e (no_ends q versions ends h)

-- a loop over versions: the best so far with the next one and the latest of the rest are the latest of all
pub latest_more : (c : Commits) (vs : List Version) (i : ℕ) (v : Version) (best next all : Option Candidate) → i < length vs → v ≡ get_or vs i v → next ≡ later best (candidate v (c v.txn))
    → later best (latest_by c (drop i vs)) ≡ all → later next (latest_by c (drop (i + 1) vs)) ≡ all
latest_more c vs i v best next all h is e inv =
    let split : drop i vs ≡ v ∷ drop (i + 1) vs = rw (add-one) (drop-cons vs i v h) ∙ ap (λ w. w ∷ drop (i + 1) vs) (sym is) in
    ap (λ x. later x (latest_by c (drop (i + 1) vs))) e
    ∙ later_assoc best (candidate v (c v.txn)) (latest_by c (drop (i + 1) vs))
    ∙ ap (λ l. later best (latest_by c l)) (sym split) ∙ inv
