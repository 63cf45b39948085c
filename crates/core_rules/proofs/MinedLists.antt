-- The entries that all workers have mined, with one more, and the table of changes of definitions then.
use Rattle.std.proofs.Common.{◌≡◌, ℕ, zero, suc, ◌+◌, ◌<◌, ◌≤◌, Bool, true, false, cond, List, [], ◌∷◌, ◌++◌, filter, take, Option, Some, None, refl, sym, ap, ◌∙◌, subst, arith, append_assoc, IsPermutation}
use Rattle.std.specs.Prelude.{slice_set, nat_lt, nat_le}
use Rattle.std.specs.List.{AllByRecursion, cons_option}
use Rattle.std.proofs.lemmas.Bool.{lt-ltb, leb-true, leb-false}
use Rattle.std.proofs.lemmas.List.Elements.{filter-append, filter_map-append}
use Rattle.std.proofs.lemmas.List.Sorted.{IsPermutation-refl, IsPermutation-cons, IsPermutation-trans, IsPermutation-middle}
use Rattle.adg_base.specs.declared.log.LogEntry.{LogEntry}
use Rattle.adg_base.specs.declared.node.DdlNode.{DdlNode}
use Rattle.core_rules.specs.Share.{share, ddl_of, ddl_in}
use Rattle.core_rules.specs.State.{At}
use Rattle.core_rules.specs.Applying.{entered, entered_if}
use Rattle.core_rules.specs.Parts.{mined_from, AreByScn, DdlIs}
use Rattle.core_rules.proofs.Lists.{take_next}

-- what was mined before a worker's next entry, and what of the workers after it
pub record SplitsMined (workers place worker : ℕ) (log : List LogEntry) (counts : List ℕ) (m : ℕ) (e : LogEntry) : Type 0 where
  pub before : List LogEntry
  pub later : List LogEntry
  pub was : mined_from workers place log counts ≡ before ++ later
  pub is : mined_from workers place log (slice_set counts worker (m + 1)) ≡ before ++ e ∷ later

pub splits_mined : (workers place worker : ℕ) (log : List LogEntry) (counts : List ℕ) (m : ℕ) (e : LogEntry) → At counts worker m → At (share workers (place + worker) log) m e
    → SplitsMined workers place worker log counts m e
splits_mined workers place worker log [] m e h k = let x : None ≡ Some m = h in absurd cc
splits_mined workers place zero log (n ∷ ns) m e h k = record {
  before = take m (share workers place log);
  later = mined_from workers (place + 1) log ns;
  was = ap (λ i. take i (share workers place log) ++ mined_from workers (place + 1) log ns) same;
  is = ap (λ es. es ++ mined_from workers (place + 1) log ns) (take_next (share workers place log) m e at)
      ∙ append_assoc (take m (share workers place log)) (e ∷ []) (mined_from workers (place + 1) log ns);
}
  where
    same : n ≡ m
    same = let x : Some n ≡ Some m = h in cc

    at : At (share workers place log) m e
    at = let z : place + 0 ≡ place = omega arith in subst (λ i. At (share workers i log) m e) z k
splits_mined workers place (suc worker) log (n ∷ ns) m e h k = step (splits_mined workers (place + 1) worker log ns m e h at)
  where
    at : At (share workers (place + 1 + worker) log) m e
    at = let z : place + suc worker ≡ place + 1 + worker = omega arith in subst (λ i. At (share workers i log) m e) z k

    step : SplitsMined workers (place + 1) worker log ns m e → SplitsMined workers place (suc worker) log (n ∷ ns) m e
    step r = record {
      before = take n (share workers place log) ++ r.before;
      later = r.later;
      was = ap (λ es. take n (share workers place log) ++ es) r.was ∙ sym (append_assoc (take n (share workers place log)) r.before r.later);
      is = ap (λ es. take n (share workers place log) ++ es) r.is ∙ sym (append_assoc (take n (share workers place log)) r.before (e ∷ r.later));
    }

-- the nodes above a limit of some entries
abbrev pub kept_ddl : ℕ → List LogEntry → List DdlNode
kept_ddl limit entries = filter (λ (n : DdlNode). nat_lt limit n.scn) (ddl_in entries)

pub kept_ddl_append : (limit : ℕ) (xs ys : List LogEntry) → kept_ddl limit (xs ++ ys) ≡ kept_ddl limit xs ++ kept_ddl limit ys
kept_ddl_append limit xs ys =
    ap (filter (λ (n : DdlNode). nat_lt limit n.scn)) (filter_map-append ddl_of xs ys) ∙ filter-append (λ (n : DdlNode). nat_lt limit n.scn) (ddl_in xs) (ddl_in ys)

-- entering a node
each_entered : (P : DdlNode → Type 0) (d : DdlNode) (ds : List DdlNode) → P d → AllByRecursion P ds → AllByRecursion P (entered d ds)
each_entered P d [] h k = (h, tt)
each_entered P d (m ∷ ms) h k = by_test (nat_le m.scn d.scn) (each_entered P d ms h k.1)
  where
    by_test : (b : Bool) → AllByRecursion P (entered d ms) → AllByRecursion P (cond b (m ∷ entered d ms) (d ∷ m ∷ ms))
    by_test true ih = (k.0, ih)
    by_test false ih = (h, k)

all_from : (d m : DdlNode) (ms : List DdlNode) → d.scn ≤ m.scn → AllByRecursion (λ (x : DdlNode). m.scn ≤ x.scn) ms → AllByRecursion (λ (x : DdlNode). d.scn ≤ x.scn) ms
all_from d m [] l h = tt
all_from d m (x ∷ xs) l h = let k : m.scn ≤ x.scn = h.0 in (omega arith, all_from d m xs l h.1)

pub entered_order : (d : DdlNode) (ds : List DdlNode) → AreByScn ds → AreByScn (entered d ds)
entered_order d [] h = (tt, tt)
entered_order d (m ∷ ms) h = by_test (nat_le m.scn d.scn) refl (entered_order d ms h.1)
  where
    by_test : (b : Bool) → nat_le m.scn d.scn ≡ b → AreByScn (entered d ms) → AreByScn (cond b (m ∷ entered d ms) (d ∷ m ∷ ms))
    by_test true u ih = (each_entered (λ (x : DdlNode). m.scn ≤ x.scn) d ms (leb-true m.scn d.scn u) h.0, ih)
    by_test false u ih =
        let less : d.scn < m.scn = leb-false m.scn d.scn u in
        let not_above : d.scn ≤ m.scn = omega arith in
        ((not_above, all_from d m ms not_above h.0), h)

pub entered_same : (d : DdlNode) (ds : List DdlNode) → IsPermutation (d ∷ ds) (entered d ds)
entered_same d [] = IsPermutation-refl (d ∷ [])
entered_same d (m ∷ ms) = by_test (nat_le m.scn d.scn) (entered_same d ms)
  where
    by_test : (b : Bool) → IsPermutation (d ∷ ms) (entered d ms) → IsPermutation (d ∷ m ∷ ms) (cond b (m ∷ entered d ms) (d ∷ m ∷ ms))
    by_test true ih = IsPermutation-trans (d ∷ m ∷ ms) (m ∷ d ∷ ms) (m ∷ entered d ms) (IsPermutation-middle (d ∷ []) m ms) (IsPermutation-cons m (d ∷ ms) (entered d ms) ih)
    by_test false ih = IsPermutation-refl (d ∷ m ∷ ms)

-- one entry more that lies above the limit
kept_none : (limit : ℕ) (e : LogEntry) (later : List LogEntry) → ddl_of e ≡ None → kept_ddl limit (e ∷ later) ≡ kept_ddl limit later
kept_none limit e later h = ap (λ o. filter (λ (n : DdlNode). nat_lt limit n.scn) (cons_option o (ddl_in later))) h

kept_some : (limit : ℕ) (e : LogEntry) (later : List LogEntry) (d : DdlNode) → ddl_of e ≡ Some d → limit < d.scn → kept_ddl limit (e ∷ later) ≡ d ∷ kept_ddl limit later
kept_some limit e later d h l =
    ap (λ o. filter (λ (n : DdlNode). nat_lt limit n.scn) (cons_option o (ddl_in later))) h
    ∙ ap (λ b. cond b (d ∷ kept_ddl limit later) (kept_ddl limit later)) (lt-ltb limit d.scn l)

pub mined_ddl_keeps : (limit : ℕ) (before later : List LogEntry) (e : LogEntry) (ddl : List DdlNode) (o : Option DdlNode) → ddl_of e ≡ o
    → ((d : DdlNode) → o ≡ Some d → limit < d.scn) → DdlIs limit (before ++ later) ddl → DdlIs limit (before ++ e ∷ later) (entered_if o ddl)
mined_ddl_keeps limit before later e ddl None h l r = record {
  same = subst (λ ns. IsPermutation ns ddl) (sym all) r.same;
  order = r.order;
}
  where
    all : kept_ddl limit (before ++ e ∷ later) ≡ kept_ddl limit (before ++ later)
    all = kept_ddl_append limit before (e ∷ later) ∙ ap (λ ns. kept_ddl limit before ++ ns) (kept_none limit e later h) ∙ sym (kept_ddl_append limit before later)
mined_ddl_keeps limit before later e ddl (Some d) h l r = record {
  same = subst (λ ns. IsPermutation ns (entered d ddl)) (sym all) moved;
  order = entered_order d ddl r.order;
}
  where
    all : kept_ddl limit (before ++ e ∷ later) ≡ kept_ddl limit before ++ d ∷ kept_ddl limit later
    all = kept_ddl_append limit before (e ∷ later) ∙ ap (λ ns. kept_ddl limit before ++ ns) (kept_some limit e later d h (l d refl))

    old : IsPermutation (kept_ddl limit before ++ kept_ddl limit later) ddl
    old = subst (λ ns. IsPermutation ns ddl) (kept_ddl_append limit before later) r.same

    front : IsPermutation (kept_ddl limit before ++ d ∷ kept_ddl limit later) (d ∷ ddl)
    front = IsPermutation-trans (kept_ddl limit before ++ d ∷ kept_ddl limit later) (d ∷ (kept_ddl limit before ++ kept_ddl limit later)) (d ∷ ddl)
        (IsPermutation-middle (kept_ddl limit before) d (kept_ddl limit later))
        (IsPermutation-cons d (kept_ddl limit before ++ kept_ddl limit later) ddl old)

    moved : IsPermutation (kept_ddl limit before ++ d ∷ kept_ddl limit later) (entered d ddl)
    moved = IsPermutation-trans (kept_ddl limit before ++ d ∷ kept_ddl limit later) (d ∷ ddl) (entered d ddl) front (entered_same d ddl)
