-- Where the events of a flush can happen there is a state that they make.
use Rattle.std.proofs.Common.{◌≡◌, ℕ, zero, suc, ◌<◌, ◌≤◌, Bool, true, false, cond, not, ◌||◌, List, [], ◌∷◌, ◌++◌, map, filter, length, take, drop, get_or, Some, ◌⊎◌, inl, inr, refl, sym, ap, ◌∙◌, subst, arith, true≢false, IsPermutation}
use Rattle.std.specs.Prelude.{nat_le}
use Rattle.std.specs.List.{Contains, AllByRecursion, list_any, flat_map}
use Rattle.std.specs.List.Sorted.{IsNonDecreasingBy}
use Rattle.std.proofs.lemmas.Bool.{leb-true, leb-false}
use Rattle.std.proofs.lemmas.List.{take-append-drop, length-take, length-drop}
use Rattle.std.proofs.lemmas.List.Sorted.{IsPermutation-refl, IsPermutation-cons, IsPermutation-trans, IsPermutation-middle}
use Rattle.adg_base.specs.Address.{Place}
use Rattle.adg_base.specs.Area.{Held, HoldsPlace}
use Rattle.adg_base.specs.declared.node.Node.{Node}
use Rattle.adg_base.specs.declared.node.DdlNode.{DdlNode}
use Rattle.adg_base.specs.declared.node.Item.{Item}
use Rattle.adg_model.specs.Mined.{node_item, ddl_item}
use Rattle.core_rules.specs.State.{CoreState, Worker, Collected, Stage, Unclaimed, Claimed, Finished, Link, At, is_unclaimed, has_txn, HasCollected}
use Rattle.core_rules.specs.Flush.{CanBeginFlush, BeginsFlush, nodes_upto, AreFull, CanClaim, Claims, CanCollect, Collects, AreaGives, Gains}
use Rattle.core_rules.proofs.Lists.{Has, has, contains, at_exists, has_filter, has_filter_back, has_map, has_map_back, has_append_left, has_append_right, has_append_cases}

-- nodes put in the order of their positions
abbrev pub placed : Node → List Node → List Node
placed n [] = n ∷ []
placed n (m ∷ ms) = cond (nat_le n.pos m.pos) (n ∷ m ∷ ms) (m ∷ placed n ms)

abbrev pub by_place : List Node → List Node
by_place [] = []
by_place (n ∷ ns) = placed n (by_place ns)

abbrev AreByPlace : List Node → Type 0
AreByPlace [] = Unit {0}
AreByPlace (n ∷ ns) = AllByRecursion (λ (m : Node). n.pos ≤ m.pos) ns × AreByPlace ns

each_placed : (P : Node → Type 0) (n : Node) (ns : List Node) → P n → AllByRecursion P ns → AllByRecursion P (placed n ns)
each_placed P n [] h k = (h, tt)
each_placed P n (m ∷ ms) h k = by_test (nat_le n.pos m.pos) (each_placed P n ms h k.1)
  where
    by_test : (b : Bool) → AllByRecursion P (placed n ms) → AllByRecursion P (cond b (n ∷ m ∷ ms) (m ∷ placed n ms))
    by_test true ih = (h, k)
    by_test false ih = (k.0, ih)

all_from : (n m : Node) (ms : List Node) → n.pos ≤ m.pos → AllByRecursion (λ (x : Node). m.pos ≤ x.pos) ms → AllByRecursion (λ (x : Node). n.pos ≤ x.pos) ms
all_from n m [] l h = tt
all_from n m (x ∷ xs) l h = let k : m.pos ≤ x.pos = h.0 in (omega arith, all_from n m xs l h.1)

placed_order : (n : Node) (ns : List Node) → AreByPlace ns → AreByPlace (placed n ns)
placed_order n [] h = (tt, tt)
placed_order n (m ∷ ms) h = by_test (nat_le n.pos m.pos) refl (placed_order n ms h.1)
  where
    by_test : (b : Bool) → nat_le n.pos m.pos ≡ b → AreByPlace (placed n ms) → AreByPlace (cond b (n ∷ m ∷ ms) (m ∷ placed n ms))
    by_test true u ih = let l : n.pos ≤ m.pos = leb-true n.pos m.pos u in ((l, all_from n m ms l h.0), h)
    by_test false u ih = let l : m.pos < n.pos = leb-false n.pos m.pos u in let k : m.pos ≤ n.pos = omega arith in (each_placed (λ (x : Node). m.pos ≤ x.pos) n ms k h.0, ih)

placed_same : (n : Node) (ns : List Node) → IsPermutation (n ∷ ns) (placed n ns)
placed_same n [] = IsPermutation-refl (n ∷ [])
placed_same n (m ∷ ms) = by_test (nat_le n.pos m.pos) (placed_same n ms)
  where
    by_test : (b : Bool) → IsPermutation (n ∷ ms) (placed n ms) → IsPermutation (n ∷ m ∷ ms) (cond b (n ∷ m ∷ ms) (m ∷ placed n ms))
    by_test true ih = IsPermutation-refl (n ∷ m ∷ ms)
    by_test false ih = IsPermutation-trans (n ∷ m ∷ ms) (m ∷ n ∷ ms) (m ∷ placed n ms) (IsPermutation-middle (n ∷ []) m ms) (IsPermutation-cons m (n ∷ ms) (placed n ms) ih)

by_place_order : (ns : List Node) → AreByPlace (by_place ns)
by_place_order [] = tt
by_place_order (n ∷ ns) = placed_order n (by_place ns) (by_place_order ns)

by_place_same : (ns : List Node) → IsPermutation ns (by_place ns)
by_place_same [] = IsPermutation-refl []
by_place_same (n ∷ ns) = IsPermutation-trans (n ∷ ns) (n ∷ by_place ns) (placed n (by_place ns)) (IsPermutation-cons n ns (by_place ns) (by_place_same ns)) (placed_same n (by_place ns))

each_get : (P : Node → Type 0) (ns : List Node) (j : ℕ) (d : Node) → AllByRecursion P ns → j < length ns → P (get_or ns j d)
each_get P [] j d h l = absurd (omega arith)
each_get P (n ∷ ns) zero d h l = h.0
each_get P (n ∷ ns) (suc j) d h l = each_get P ns j d h.1 (omega arith)

rising : (ns : List Node) → AreByPlace ns → IsNonDecreasingBy (λ (n : Node). n.pos) ns
rising [] h i j d l k = absurd (omega arith)
rising (n ∷ ns) h zero zero d l k = omega arith
rising (n ∷ ns) h zero (suc j) d l k = each_get (λ (m : Node). n.pos ≤ m.pos) ns j d h.0 (omega arith)
rising (n ∷ ns) h (suc i) zero d l k = absurd (omega arith)
rising (n ∷ ns) h (suc i) (suc j) d l k = rising ns h.1 i j d (omega arith) (omega arith)

-- items chopped
abbrev pub chop : ℕ → List Item → List (List Item)
chop zero items = []
chop (suc n) [] = []
chop (suc n) (i ∷ is) = take 64 (i ∷ is) ∷ chop n (drop 64 (i ∷ is))

chop_whole : (n : ℕ) (items : List Item) → length items ≤ n → flat_map (λ (part : List Item). part) (chop n items) ≡ items
chop_whole zero [] l = refl
chop_whole zero (i ∷ is) l = absurd (omega arith)
chop_whole (suc n) [] l = refl
chop_whole (suc n) (i ∷ is) l =
    let few : length (drop 64 (i ∷ is)) ≤ n = let e = length-drop 64 (i ∷ is) in omega arith in
    ap (λ ys. take 64 (i ∷ is) ++ ys) (chop_whole n (drop 64 (i ∷ is)) few) ∙ take-append-drop 64 (i ∷ is)

chop_some : (n : ℕ) (items : List Item) (q : List Item) (more : List (List Item)) → chop n items ≡ q ∷ more → 1 ≤ length items
chop_some zero items q more h = let e : [] ≡ q ∷ more = h in absurd cc
chop_some (suc n) [] q more h = let e : [] ≡ q ∷ more = h in absurd cc
chop_some (suc n) (i ∷ is) q more h = omega arith

chop_full : (n : ℕ) (items : List Item) → AreFull (chop n items)
chop_full zero items = tt
chop_full (suc n) [] = tt
chop_full (suc n) (i ∷ is) = by_rest (chop n (drop 64 (i ∷ is))) refl (chop_full n (drop 64 (i ∷ is)))
  where
    by_rest : (rest : List (List Item)) → chop n (drop 64 (i ∷ is)) ≡ rest → AreFull rest → AreFull (take 64 (i ∷ is) ∷ rest)
    by_rest [] e h =
        let t = length-take 64 (i ∷ is) in
        (omega arith, omega arith)
    by_rest (q ∷ more) e h =
        let t = length-take 64 (i ∷ is) in
        let d = length-drop 64 (i ∷ is) in
        let some : 1 ≤ length (drop 64 (i ∷ is)) = chop_some n (drop 64 (i ∷ is)) q more e in
        (omega arith, h)

pub possible_begin_flush : (c : CoreState) (through : ℕ) → CanBeginFlush c through → (new : CoreState) × BeginsFlush c through new
possible_begin_flush c through can = (
  _,
  record {
    can = can;
    nodes = by_place nodes;
    order = rising (by_place nodes) (by_place_order nodes);
    same = by_place_same nodes;
    parts = chop (length items) items;
    chopped = record { whole = chop_whole (length items) items (omega arith); full = chop_full (length items) items };
    effect = refl;
  },
)
  where
    nodes : List Node
    nodes = nodes_upto through c.workers

    items : List Item
    items = map node_item (by_place nodes) ++ map ddl_item (filter (λ (d : DdlNode). nat_le d.scn through) c.ddl)

-- the first that passes a test
pub record IsFirst {X : Type 0} (p : X → Bool) (xs : List X) : Type 0 where
  pub number : ℕ
  pub element : X
  pub found : At xs number element
  pub passes : p element ≡ true
  pub first : (n : ℕ) (x : X) → n < number → At xs n x → p x ≡ false

first_of_any : {X : Type 0} (p : X → Bool) (xs : List X) → list_any p xs ≡ true → IsFirst p xs
first_of_any p [] h = absurd (true≢false (sym h))
first_of_any p (x ∷ xs) h = by_test (p x) refl h (first_of_any p xs)
  where
    by_test : (b : Bool) → p x ≡ b → (b || list_any p xs) ≡ true → (list_any p xs ≡ true → IsFirst p xs) → IsFirst p (x ∷ xs)
    by_test true e k ih = record { number = 0; element = x; found = refl; passes = e; first = λ n y l a. absurd (omega arith) }
    by_test false e k ih = let r = ih k in record { number = suc r.number; element = r.element; found = r.found; passes = r.passes; first = earlier r }
      where
        earlier : (r : IsFirst p xs) → (n : ℕ) (y : _) → n < suc r.number → At (x ∷ xs) n y → p y ≡ false
        earlier r zero y l a = let s : Some x ≡ Some y = a in let one : x ≡ y = cc in ap p (sym one) ∙ e
        earlier r (suc n) y l a = r.first n y (omega arith) a

unclaimed_stage : (s : Stage) → is_unclaimed s ≡ true → s ≡ Unclaimed
unclaimed_stage Unclaimed h = refl
unclaimed_stage (Claimed actor cursor collected) h = absurd (true≢false (sym h))
unclaimed_stage Finished h = absurd (true≢false (sym h))

pub possible_claim : (c : CoreState) (actor : ℕ) → CanClaim c actor → (new : CoreState) × Claims c actor new
possible_claim c actor can = (
  _,
  record {
    can = can;
    number = first.number;
    link = first.element;
    first = record { found = first.found; is = unclaimed_stage first.element.stage first.passes; first = first.first };
    effect = refl;
  },
)
  where
    first : IsFirst (λ (l : Link). is_unclaimed l.stage) c.links
    first = first_of_any (λ (l : Link). is_unclaimed l.stage) c.links can.some

-- what an area keeps, and what it gives out
abbrev pub kept_held : List Item → List Held → List Held
kept_held items area = filter (λ (h : Held). not (has_txn h.txn items)) area

abbrev pub given : List Item → List Held → List Collected
given items area = map (λ (h : Held). record { txn = h.txn; places = h.places }) (filter (λ (h : Held). has_txn h.txn items) area)

not_true : (b : Bool) → not b ≡ true → b ≡ false
not_true false h = refl
not_true true h = absurd (true≢false (sym h))

area_gives : (items : List Item) (area : List Held) → AreaGives items area (kept_held items area)
area_gives items area = record {
  places_kept = λ t a h k. record { held = h.held; within = kept t h.held h.within h.of k; of = h.of; noted = h.noted };
  places_only = λ t a h. let r = only t h.held h.within h.of in (record { held = h.held; within = r.0; of = h.of; noted = h.noted }, r.1);
  begins_kept = λ t h k. record { held = h.held; within = kept t h.held h.within h.of k; of = h.of; noted = h.noted };
  begins_only = λ t h. let r = only t h.held h.within h.of in (record { held = h.held; within = r.0; of = h.of; noted = h.noted }, r.1);
}
  where
    kept : (t : ℕ) (h : Held) → Contains area h → h.txn ≡ t → has_txn t items ≡ false → Contains (filter (λ (x : Held). not (has_txn x.txn items)) area) h
    kept t h w e k = contains (filter (λ (x : Held). not (has_txn x.txn items)) area) h
        (has_filter (λ (x : Held). not (has_txn x.txn items)) area h (has area h w) (ap not (ap (λ n. has_txn n items) e ∙ k)))

    only : (t : ℕ) (h : Held) → Contains (filter (λ (x : Held). not (has_txn x.txn items)) area) h → h.txn ≡ t → Contains area h × (has_txn t items ≡ false)
    only t h w e =
        let r = has_filter_back (λ (x : Held). not (has_txn x.txn items)) area h (has (filter (λ (x : Held). not (has_txn x.txn items)) area) h w) in
        (contains area h r.0, ap (λ n. has_txn n items) (sym e) ∙ not_true (has_txn h.txn items) r.1)

gains : (items : List Item) (area : List Held) (old : List Collected) → Gains items area old (old ++ given items area)
gains items area old = record {
  kept = λ t a h. record { entry = h.entry; within = contains (old ++ given items area) h.entry (has_append_left old (given items area) h.entry (has old h.entry h.within)); of = h.of; noted = h.noted };
  gained = gained;
  only = λ t a h. only t a h (has_append_cases old (given items area) h.entry (has (old ++ given items area) h.entry h.within));
}
  where
    as_collected : Held → Collected
    as_collected h = record { txn = h.txn; places = h.places }

    gained : (t : ℕ) (a : Place) → HoldsPlace area t a → has_txn t items ≡ true → HasCollected (old ++ given items area) t a
    gained t a h k = record {
      entry = record { txn = h.held.txn; places = h.held.places };
      within = contains (old ++ given items area) (record { txn = h.held.txn; places = h.held.places })
          (has_append_right old (given items area) (record { txn = h.held.txn; places = h.held.places })
          (has_map (λ (x : Held). record { txn = x.txn; places = x.places }) (filter (λ (x : Held). has_txn x.txn items) area) h.held
          (has_filter (λ (x : Held). has_txn x.txn items) area h.held (has area h.held h.within) (ap (λ n. has_txn n items) h.of ∙ k))));
      of = h.of;
      noted = h.noted;
    }

    only : (t : ℕ) (a : Place) → (h : HasCollected (old ++ given items area) t a) → Has old h.entry ⊎ Has (given items area) h.entry → HasCollected old t a ⊎ (HoldsPlace area t a × (has_txn t items ≡ true))
    only t a h (inl k) = inl (record { entry = h.entry; within = contains old h.entry k; of = h.of; noted = h.noted })
    only t a h (inr k) =
        let m = has_map_back (λ (x : Held). record { txn = x.txn; places = x.places }) (filter (λ (x : Held). has_txn x.txn items) area) h.entry k in
        let f = has_filter_back (λ (x : Held). has_txn x.txn items) area m.0 m.1 in
        let of : m.0.txn ≡ t = ap (λ (x : Collected). x.txn) m.2 ∙ h.of in
        inr (record { held = m.0; within = contains area m.0 f.0; of = of; noted = subst (λ (x : Collected). Contains x.places a) (sym m.2) h.noted }, ap (λ n. has_txn n items) (sym of) ∙ f.1)

pub possible_collect : (c : CoreState) (actor : ℕ) → CanCollect c actor → (new : CoreState) × Collects c actor new
possible_collect c actor can = (
  _,
  record {
    number = can.number;
    link = can.link;
    cursor = can.cursor;
    collected = can.collected;
    has = can.has;
    was = was.0;
    at = was.1;
    area = kept_held can.link.items was.0.area;
    gives = area_gives can.link.items was.0.area;
    more = can.collected ++ given can.link.items was.0.area;
    gains = gains can.link.items was.0.area can.collected;
    effect = refl;
  },
)
  where
    was : (w : Worker) × At c.workers can.cursor w
    was = at_exists c.workers can.cursor can.area
