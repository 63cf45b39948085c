-- The order of the ends of transactions, while some are entered and taken out.
use Rattle.std.proofs.Common.{◌≡◌, ℕ, ◌+◌, ◌<◌, ◌≤◌, Bool, true, false, cond, leb, ltb, List, [], ◌∷◌, ◌++◌, filter, inl, inr, Result, Ok, Err, OnOk, OnErr, IfOk, sym, ◌∙◌, subst, refl, arith}
use Rattle.std.specs.List.{AllByRecursion}
use Rattle.std.proofs.lemmas.Bool.{leb-true, ltb-true, ltb-false}
use Rattle.adg_base.specs.declared.node.Node.{Node}
use Rattle.scn_queue.specs.Queue.{upto, above, entered}
use Rattle.scn_queue.proofs.Entered.{entered_last}
use Rattle.commit_table.specs.Order.{IsBefore, IsInOrder, IsBehindAll}

module _ (p : Node → Bool) where
  -- what holds of all nodes holds of those that pass a test
  kept_all : (P : Node → Type 0) (ns : List Node) → AllByRecursion P ns → AllByRecursion P (filter p ns)
  kept_all P [] h = tt
  kept_all P (n ∷ ns) h = by (p n) (kept_all P ns h.1)
    where
      by : (b : Bool) → AllByRecursion P (filter p ns) → AllByRecursion P (cond b (n ∷ filter p ns) (filter p ns))
      by true rest = (h.0, rest)
      by false rest = rest

  -- nodes that pass a test stay in order
  pub kept_in_order : (ns : List Node) → IsInOrder ns → IsInOrder (filter p ns)
  kept_in_order [] h = tt
  kept_in_order (n ∷ ns) h = by (p n) (kept_all (IsBefore n) ns h.0) (kept_in_order ns h.1)
    where
      by : (b : Bool) → AllByRecursion (IsBefore n) (filter p ns) → IsInOrder (filter p ns) → IsInOrder (cond b (n ∷ filter p ns) (filter p ns))
      by true first rest = (first, rest)
      by false first rest = rest

-- what holds of each node and follows from it in another way
weaker : (P Q : Node → Type 0) → ((n : Node) → P n → Q n) → (ns : List Node) → AllByRecursion P ns → AllByRecursion Q ns
weaker P Q from [] h = tt
weaker P Q from (n ∷ ns) h = (from n h.0, weaker P Q from ns h.1)

both : (P Q : Node → Type 0) (ns : List Node) → AllByRecursion P ns → AllByRecursion Q ns → AllByRecursion (λ n. P n × Q n) ns
both P Q [] h k = tt
both P Q (n ∷ ns) h k = ((h.0, k.0), both P Q ns h.1 k.1)

-- what holds of all nodes of two lists and of one between them holds of all
all_joined : (P : Node → Type 0) (ns : List Node) (n : Node) (ms : List Node) → AllByRecursion P ns → P n → AllByRecursion P ms → AllByRecursion P (ns ++ n ∷ ms)
all_joined P [] n ms h one k = (one, k)
all_joined P (m ∷ ns) n ms h one k = (h.0, all_joined P ns n ms h.1 one k)

-- two lists in order, with a node behind those of the first and before those of the second
joined : (ns : List Node) (n : Node) (ms : List Node) → IsInOrder ns → IsInOrder ms → AllByRecursion (λ m. IsBefore m n) ns → AllByRecursion (IsBefore n) ms
    → AllByRecursion (λ m. AllByRecursion (IsBefore m) ms) ns → IsInOrder (ns ++ n ∷ ms)
joined [] n ms first second low high across = (high, second)
joined (m ∷ ns) n ms first second low high across =
    (all_joined (IsBefore m) ns n ms first.0 low.0 across.0, joined ns n ms first.1 second low.1 high across.1)

-- nodes that pass a test have what follows from it
passed : (p : Node → Bool) (P : Node → Type 0) → ((n : Node) → p n ≡ true → P n) → (ns : List Node) → AllByRecursion P (filter p ns)
passed p P from [] = tt
passed p P from (n ∷ ns) = by (p n) refl (passed p P from ns)
  where
    by : (b : Bool) → p n ≡ b → AllByRecursion P (filter p ns) → AllByRecursion P (cond b (n ∷ filter p ns) (filter p ns))
    by true k rest = (from n k, rest)
    by false k rest = rest

-- the nodes up to an SCN have SCNs up to it, and those above it SCNs above it
low_upto : (through : ℕ) (ns : List Node) → AllByRecursion (λ n. n.scn ≤ through) (upto (λ (n : Node). n.scn) through ns)
low_upto through ns = passed (λ n. leb n.scn through) (λ n. n.scn ≤ through) (λ n k. leb-true n.scn through k) ns

high_above : (through : ℕ) (ns : List Node) → AllByRecursion (λ n. through < n.scn) (above (λ (n : Node). n.scn) through ns)
high_above through ns = passed (λ n. ltb through n.scn) (λ n. through < n.scn) (λ n k. ltb-true through n.scn k) ns

-- an earlier node with an SCN up to another's stands before it
before : (n node : Node) → n.scn ≤ node.scn → n.pos < node.pos → IsBefore n node
before n node low early = by (ltb n.scn node.scn) refl
  where
    by : (b : Bool) → ltb n.scn node.scn ≡ b → IsBefore n node
    by true k = inl (ltb-true n.scn node.scn k)
    by false k = inr (omega (arith, low, ltb-false n.scn node.scn k), early)

-- a node that is entered behind all leaves them in order
pub entered_in_order : (node : Node) (ns : List Node) → IsBehindAll node ns → IsInOrder ns → IsInOrder (entered (λ (n : Node). n.scn) node ns)
entered_in_order node ns behind order =
    let low = low_upto node.scn ns in
    let high = high_above node.scn ns in
    let early : AllByRecursion (λ n. n.pos < node.pos) (upto (λ (n : Node). n.scn) node.scn ns) = kept_all (λ n. leb n.scn node.scn) (λ n. n.pos < node.pos) ns behind in
    let across = weaker (λ n. n.scn ≤ node.scn) (λ n. AllByRecursion (IsBefore n) (above (λ (n : Node). n.scn) node.scn ns))
    (λ n k. weaker (λ m. node.scn < m.scn) (IsBefore n) (λ m j. inl (omega (arith, k, j))) (above (λ (n : Node). n.scn) node.scn ns) high) (upto (λ (n : Node). n.scn) node.scn ns) low in
    joined (upto (λ (n : Node). n.scn) node.scn ns) node (above (λ (n : Node). n.scn) node.scn ns)
    (kept_in_order (λ n. leb n.scn node.scn) ns order)
    (kept_in_order (λ n. ltb node.scn n.scn) ns order)
    (weaker (λ n. (n.scn ≤ node.scn) × (n.pos < node.pos)) (λ n. IsBefore n node) (λ n k. before n node k.0 k.1) (upto (λ (n : Node). n.scn) node.scn ns) (both _ _ _ low early))
    (weaker (λ m. node.scn < m.scn) (IsBefore node) (λ m j. inl j) (above (λ (n : Node). n.scn) node.scn ns) high)
    across

-- so they are in order whether it was entered or not
pub enter_keeps : {X E : Type 0} (result : Result X E) (node : Node) (old new : List Node) → OnOk result (new ≡ entered (λ (n : Node). n.scn) node old) → OnErr result (new ≡ old)
    → IsBehindAll node old → IsInOrder old → IsInOrder new
enter_keeps (Ok x) node old new is same behind order = subst IsInOrder (sym is) (entered_in_order node old behind order)
enter_keeps (Err e) node old new is same behind order = subst IsInOrder (sym same) order

-- and whether some were taken out or not
pub cut_keeps : {X E : Type 0} (result : Result X E) (through : ℕ) (old new : List Node) → OnOk result (new ≡ above (λ (n : Node). n.scn) through old) → OnErr result (new ≡ old)
    → IsInOrder old → IsInOrder new
cut_keeps (Ok x) through old new is same order = subst IsInOrder (sym is) (kept_in_order (λ n. ltb through n.scn) old order)
cut_keeps (Err e) through old new is same order = subst IsInOrder (sym same) order

-- what is given out is in order
pub found_in_order : {E : Type 0} (result : Result (List Node) E) (through : ℕ) (old : List Node) → IfOk result (λ found. found ≡ upto (λ (n : Node). n.scn) through old)
    → IsInOrder old → IfOk result IsInOrder
found_in_order (Ok found) through old is order = subst IsInOrder (sym is) (kept_in_order (λ n. leb n.scn through) old order)
found_in_order (Err e) through old is order = tt

-- a node that none is above was entered last
pub entered_as_last : {X E : Type 0} (result : Result X E) (node : Node) (old new : List Node) → OnOk result (new ≡ entered (λ (n : Node). n.scn) node old)
    → OnOk result (AllByRecursion (λ n. n.scn ≤ node.scn) old → new ≡ old ++ node ∷ [])
entered_as_last (Ok x) node old new is = λ low. is ∙ entered_last (λ (n : Node). n.scn) node old low
entered_as_last (Err e) node old new is = tt

-- a node at a position below which all others are is, with them, below the next
pub entered_below : (node : Node) (ns : List Node) → IsBehindAll node ns → AllByRecursion (λ n. n.pos < node.pos + 1) (entered (λ (n : Node). n.scn) node ns)
entered_below node ns behind =
    let below = weaker (λ n. n.pos < node.pos) (λ n. n.pos < node.pos + 1) (λ n k. omega (arith, k)) ns behind in
    all_joined (λ n. n.pos < node.pos + 1) (upto (λ (n : Node). n.scn) node.scn ns) node (above (λ (n : Node). n.scn) node.scn ns)
    (kept_all (λ n. leb n.scn node.scn) (λ n. n.pos < node.pos + 1) ns below) (omega arith) (kept_all (λ n. ltb node.scn n.scn) (λ n. n.pos < node.pos + 1) ns below)
