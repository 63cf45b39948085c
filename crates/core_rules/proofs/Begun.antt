-- The begin of a flush keeps the invariant, once the units are known to.
use Rattle.std.proofs.Common.{◌≡◌, ℕ, suc, ◌+◌, ◌<◌, ◌≤◌, Bool, true, false, cond, ◌&&◌, List, [], ◌∷◌, ◌++◌, map, filter, length, take, drop, Option, Some, refl, sym, ap, ap₂, ◌∙◌, subst, arith, true≢false, append-nil}
use Rattle.std.specs.Prelude.{◌==◌, nat_lt, nat_le}
use Rattle.std.specs.List.{AllByRecursion, filter_map, flat_map, range_with_len, count_by}
use Rattle.std.proofs.lemmas.Bool.{ltb-true, lt-ltb, eqb-true, eq-eqb, leb-true, and_parts}
use Rattle.std.proofs.lemmas.List.{take-append-drop}
use Rattle.std.proofs.lemmas.List.Elements.{filter-append, filter_map-append}
use Rattle.adg_base.specs.declared.log.LogEntry.{LogEntry}
use Rattle.adg_base.specs.declared.node.Node.{Node}
use Rattle.adg_base.specs.declared.node.DdlNode.{DdlNode}
use Rattle.adg_base.specs.declared.node.Item.{Item}
use Rattle.adg_model.specs.Mined.{node_item, ddl_item}
use Rattle.core_rules.specs.Share.{share, shares, ends, begun_above, node_of, nodes_of, ddl_of, ddl_in}
use Rattle.core_rules.specs.State.{Worker, Link, Stage, Unclaimed, Claimed, At, is_unclaimed, is_held_by, is_item_of}
use Rattle.core_rules.specs.Flush.{cut_worker, nodes_upto, unclaimed}
use Rattle.core_rules.specs.LogFacts.{LogFacts}
use Rattle.core_rules.specs.Parts.{PartitionIs, AreByScn, mined_from, is_within, flush_nodes, flush_ddl, flush_items, items_of, ClaimsAre, stages_of, AllCollected}
use Rattle.core_rules.proofs.Lists.{Has, at_map_back, has_filter_map_back, has_map_back, each_has}
use Rattle.core_rules.proofs.Shares.{node_is}
use Rattle.core_rules.proofs.Items.{item_of_node}
use Rattle.core_rules.proofs.Restarted.{filter_none}
use Rattle.core_rules.proofs.MinedEntry.{ddl_scn}
use Rattle.core_rules.proofs.Once.{count_append, count_none, count_filter, count_map, count_filter_map, end_once}

-- two tests one after the other
filter_both : {X : Type 0} (p q : X → Bool) (xs : List X) → filter (λ x. p x && q x) xs ≡ filter q (filter p xs)
filter_both p q [] = refl
filter_both p q (x ∷ xs) = by_test (p x) (filter_both p q xs)
  where
    by_test : (b : Bool) → filter (λ y. p y && q y) xs ≡ filter q (filter p xs)
        → cond (b && q x) (x ∷ filter (λ y. p y && q y) xs) (filter (λ y. p y && q y) xs) ≡ filter q (cond b (x ∷ filter p xs) (filter p xs))
    by_test true ih = ap (λ ys. cond (q x) (x ∷ ys) ys) ih
    by_test false ih = ih

-- a test that passes less makes the other needless
pub filter_stronger : {X : Type 0} (p q : X → Bool) (xs : List X) → ((x : X) → q x ≡ true → p x ≡ true) → filter q (filter p xs) ≡ filter q xs
filter_stronger p q [] h = refl
filter_stronger p q (x ∷ xs) h = by_test (p x) refl (filter_stronger p q xs h)
  where
    by_test : (b : Bool) → p x ≡ b → filter q (filter p xs) ≡ filter q xs → filter q (cond b (x ∷ filter p xs) (filter p xs)) ≡ cond (q x) (x ∷ filter q xs) (filter q xs)
    by_test true e ih = ap (λ ys. cond (q x) (x ∷ ys) ys) ih
    by_test false e ih = ih ∙ by_other (q x) refl
      where
        by_other : (d : Bool) → q x ≡ d → filter q xs ≡ cond d (x ∷ filter q xs) (filter q xs)
        by_other false k = refl
        by_other true k = absurd (true≢false (sym (h x k) ∙ e))

pub above_more : (low high n : ℕ) → low < high → nat_lt high n ≡ true → nat_lt low n ≡ true
above_more low high n l h = let k : high < n = ltb-true high n h in lt-ltb low n (omega arith)

-- What the entries up to an SCN leave is what the first of them leave, where the rest is above it.
cut_part : {Y : Type 0} (g : LogEntry → Option Y) (scn : Y → ℕ) → ((e : LogEntry) (y : Y) → g e ≡ Some y → scn y ≡ e.scn)
    → (low high m : ℕ) (entries : List LogEntry) → AllByRecursion (λ (e : LogEntry). high < e.scn) (drop m entries)
    → filter (λ y. is_within low high (scn y)) (filter_map g entries) ≡ filter (λ y. nat_le (scn y) high) (filter (λ y. nat_lt low (scn y)) (filter_map g (take m entries)))
cut_part g scn same low high m entries h =
    ap (λ es. filter (λ y. is_within low high (scn y)) (filter_map g es)) (sym (take-append-drop m entries))
    ∙ ap (filter (λ y. is_within low high (scn y))) (filter_map-append g (take m entries) (drop m entries))
    ∙ filter-append (λ y. is_within low high (scn y)) (filter_map g (take m entries)) (filter_map g (drop m entries))
    ∙ ap (λ ys. filter (λ y. is_within low high (scn y)) (filter_map g (take m entries)) ++ ys) (filter_none (λ y. is_within low high (scn y)) (filter_map g (drop m entries)) above)
    ∙ append-nil (filter (λ y. is_within low high (scn y)) (filter_map g (take m entries)))
    ∙ filter_both (λ y. nat_lt low (scn y)) (λ y. nat_le (scn y) high) (filter_map g (take m entries))
  where
    above : (y : _) → Has (filter_map g (drop m entries)) y → is_within low high (scn y) ≡ false
    above y k = by_test (is_within low high (scn y)) refl
      where
        r : (e : LogEntry) × Has (drop m entries) e × (g e ≡ Some y)
        r = has_filter_map_back g (drop m entries) y k

        by_test : (b : Bool) → is_within low high (scn y) ≡ b → b ≡ false
        by_test false e = refl
        by_test true e =
            let p = and_parts (nat_lt low (scn y)) (nat_le (scn y) high) e in
            let upto : scn y ≤ high = leb-true (scn y) high p.1 in
            let over : high < r.0.scn = each_has (λ (x : LogEntry). high < x.scn) (drop m entries) r.0 h r.1 in
            let scns : scn y ≡ r.0.scn = same r.0 y r.2 in
            absurd (omega arith)

-- what is cut of the workers is what their shares have up to the SCN
pub record CutsRight (log : List LogEntry) (born query through workers place : ℕ) (w : Worker) : Type 0 where
  pub partition : PartitionIs log born query (take w.mined (share workers place log)) w.ends
  pub above : AllByRecursion (λ (e : LogEntry). through < e.scn) (drop w.mined (share workers place log))

abbrev pub CutRight : List LogEntry → (born query through workers place : ℕ) → List Worker → Type 0
CutRight log born query through workers place ws = (i : ℕ) (w : Worker) → At ws i w → CutsRight log born query through workers (place + i) w

cut_tail : (log : List LogEntry) (born query through workers place : ℕ) (w : Worker) (ws : List Worker) → CutRight log born query through workers place (w ∷ ws)
    → CutRight log born query through workers (place + 1) ws
cut_tail log born query through workers place w ws h i x at =
    let e : place + suc i ≡ place + 1 + i = omega arith in
    subst (λ n. CutsRight log born query through workers n x) e (h (suc i) x at)

cut_head : (log : List LogEntry) (born query through workers place : ℕ) (w : Worker) (ws : List Worker) → CutRight log born query through workers place (w ∷ ws)
    → CutsRight log born query through workers place w
cut_head log born query through workers place w ws h = let e : place + 0 ≡ place = omega arith in subst (λ n. CutsRight log born query through workers n w) e (h 0 w refl)

node_scn : (log : List LogEntry) (born : ℕ) (e : LogEntry) (n : Node) → node_of (begun_above log born) e ≡ Some n → n.scn ≡ e.scn
node_scn log born e n h = (node_is (begun_above log born) e n h).scn

pub nodes_cut : (log : List LogEntry) (born query through workers place : ℕ) (ws : List Worker) → CutRight log born query through workers place ws
    → flush_nodes log born query through (flat_map (λ w. share workers w log) (range_with_len place (length ws))) ≡ nodes_upto through ws
nodes_cut log born query through workers place [] h = refl
nodes_cut log born query through workers place (w ∷ ws) h =
    ap (filter (λ (n : Node). is_within query through n.scn)) (filter_map-append (node_of (begun_above log born)) (share workers place log) rest)
    ∙ filter-append (λ (n : Node). is_within query through n.scn) (nodes_of log born (share workers place log)) (nodes_of log born rest)
    ∙ ap₂ (λ xs ys. xs ++ ys) first (nodes_cut log born query through workers (place + 1) ws (cut_tail log born query through workers place w ws h))
  where
    rest : List LogEntry
    rest = flat_map (λ n. share workers n log) (range_with_len (place + 1) (length ws))

    is : CutsRight log born query through workers place w
    is = cut_head log born query through workers place w ws h

    first : filter (λ (n : Node). is_within query through n.scn) (nodes_of log born (share workers place log)) ≡ filter (λ (n : Node). nat_le n.scn through) w.ends
    first = cut_part (node_of (begun_above log born)) (λ (n : Node). n.scn) (node_scn log born) query through w.mined (share workers place log) is.above
        ∙ ap (filter (λ (n : Node). nat_le n.scn through)) (sym is.partition)

pub ddl_cut : (log : List LogEntry) (born query through workers place : ℕ) (ws : List Worker) → CutRight log born query through workers place ws
    → flush_ddl query through (flat_map (λ w. share workers w log) (range_with_len place (length ws)))
    ≡ filter (λ (n : DdlNode). nat_le n.scn through) (filter (λ (n : DdlNode). nat_lt query n.scn) (ddl_in (mined_from workers place log (map (λ (w : Worker). w.mined) ws))))
ddl_cut log born query through workers place [] h = refl
ddl_cut log born query through workers place (w ∷ ws) h =
    ap (filter (λ (n : DdlNode). is_within query through n.scn)) (filter_map-append ddl_of (share workers place log) rest)
    ∙ filter-append (λ (n : DdlNode). is_within query through n.scn) (ddl_in (share workers place log)) (ddl_in rest)
    ∙ ap₂ (λ xs ys. xs ++ ys) first (ddl_cut log born query through workers (place + 1) ws (cut_tail log born query through workers place w ws h))
    ∙ sym (filter-append (λ (n : DdlNode). nat_le n.scn through) (filter (λ (n : DdlNode). nat_lt query n.scn) (ddl_in mine)) (filter (λ (n : DdlNode). nat_lt query n.scn) (ddl_in others)))
    ∙ ap (filter (λ (n : DdlNode). nat_le n.scn through)) (sym (filter-append (λ (n : DdlNode). nat_lt query n.scn) (ddl_in mine) (ddl_in others)))
    ∙ ap (λ ns. filter (λ (n : DdlNode). nat_le n.scn through) (filter (λ (n : DdlNode). nat_lt query n.scn) ns)) (sym (filter_map-append ddl_of mine others))
  where
    rest : List LogEntry
    rest = flat_map (λ n. share workers n log) (range_with_len (place + 1) (length ws))

    mine : List LogEntry
    mine = take w.mined (share workers place log)

    others : List LogEntry
    others = mined_from workers (place + 1) log (map (λ (x : Worker). x.mined) ws)

    is : CutsRight log born query through workers place w
    is = cut_head log born query through workers place w ws h

    first : filter (λ (n : DdlNode). is_within query through n.scn) (ddl_in (share workers place log))
        ≡ filter (λ (n : DdlNode). nat_le n.scn through) (filter (λ (n : DdlNode). nat_lt query n.scn) (ddl_in mine))
    first = cut_part ddl_of (λ (n : DdlNode). n.scn) ddl_scn query through w.mined (share workers place log) is.above

-- of one transaction a flush has at most one item
pub one_item : (log : List LogEntry) (frontier born low high workers t : ℕ) → LogFacts log frontier → 0 < workers → count_by (is_item_of t) (flush_items log born low high (shares workers log)) ≤ 1
one_item log frontier born low high workers t facts manned =
    let ends_once = end_once log frontier workers t facts manned in
    let in_nodes = count_filter_map (λ (n : Node). n.txn == t) (λ (e : LogEntry). ends t e.vector) (node_of (begun_above log born)) (shares workers log) node_ends in
    let cut = count_filter (λ (n : Node). n.txn == t) (λ (n : Node). is_within low high n.scn) (nodes_of log born (shares workers log)) in
    let as_items = count_map (is_item_of t) (λ (n : Node). n.txn == t) node_item (flush_nodes log born low high (shares workers log)) (λ n h. eq-eqb n.txn t (item_of_node t n h)) in
    let no_ddl = count_none (is_item_of t) (map ddl_item (flush_ddl low high (shares workers log))) ddl_none in
    let all = count_append (is_item_of t) (map node_item (flush_nodes log born low high (shares workers log))) (map ddl_item (flush_ddl low high (shares workers log))) in
    omega arith
  where
    node_ends : (e : LogEntry) (n : Node) → node_of (begun_above log born) e ≡ Some n → (n.txn == t) ≡ true → ends t e.vector ≡ true
    node_ends e n h k = subst (λ m. ends m e.vector ≡ true) (eqb-true n.txn t k) (node_is (begun_above log born) e n h).end

    ddl_none : (i : Item) → Has (map ddl_item (flush_ddl low high (shares workers log))) i → is_item_of t i ≡ false
    ddl_none i h = let m = has_map_back ddl_item (flush_ddl low high (shares workers log)) i h in subst (λ j. is_item_of t j ≡ false) m.2 refl

-- nodes in their order stay so
pub kept_order : (p : DdlNode → Bool) (ds : List DdlNode) → AreByScn ds → AreByScn (filter p ds)
kept_order p [] h = tt
kept_order p (d ∷ ds) h = by_test (p d) (kept_order p ds h.1)
  where
    kept_each : (xs : List DdlNode) → AllByRecursion (λ (m : DdlNode). d.scn ≤ m.scn) xs → AllByRecursion (λ (m : DdlNode). d.scn ≤ m.scn) (filter p xs)
    kept_each [] k = tt
    kept_each (x ∷ xs) k = by_first (p x) (kept_each xs k.1)
      where
        by_first : (b : Bool) → AllByRecursion (λ (m : DdlNode). d.scn ≤ m.scn) (filter p xs) → AllByRecursion (λ (m : DdlNode). d.scn ≤ m.scn) (cond b (x ∷ filter p xs) (filter p xs))
        by_first true ih = (k.0, ih)
        by_first false ih = ih

    by_test : (b : Bool) → AreByScn (filter p ds) → AreByScn (cond b (d ∷ filter p ds) (filter p ds))
    by_test true ih = (kept_each ds h.0, ih)
    by_test false ih = ih

pub same_parts : (parts : List (List Item)) → items_of (map unclaimed parts) ≡ parts
same_parts [] = refl
same_parts (p ∷ ps) = ap (λ qs. p ∷ qs) (same_parts ps)

pub same_mined : (through : ℕ) (ws : List Worker) → map (λ (w : Worker). w.mined) (map (cut_worker through) ws) ≡ map (λ (w : Worker). w.mined) ws
same_mined through [] = refl
same_mined through (w ∷ ws) = ap (λ ns. w.mined ∷ ns) (same_mined through ws)

pub new_stage : (parts : List (List Item)) (n : ℕ) (s : Stage) → At (stages_of (map unclaimed parts)) n s → s ≡ Unclaimed
new_stage parts n s h =
    let l = at_map_back (λ (x : Link). x.stage) (map unclaimed parts) n s h in
    let p = at_map_back unclaimed parts n l.0 l.1 in
    sym l.2 ∙ ap (λ (x : Link). x.stage) (sym p.2)

pub new_claims : (workers : ℕ) (parts : List (List Item)) → ClaimsAre workers (stages_of (map unclaimed parts))
new_claims workers parts = record {
  alone = λ i j x y actor h k u w. absurd (true≢false (sym u ∙ ap (is_held_by actor) (new_stage parts i x h)));
  last = λ i j x y l h k u. ap is_unclaimed (new_stage parts j y k);
  bounds = λ i actor cursor collected h. let e : Claimed actor cursor collected ≡ Unclaimed = new_stage parts i (Claimed actor cursor collected) h in absurd cc;
}

pub none_new : (log : List LogEntry) (born workers : ℕ) (parts : List (List Item)) → AllCollected log born workers (map unclaimed parts)
none_new log born workers parts n l actor cursor collected h k =
    let p = at_map_back unclaimed parts n l h in
    let e : Unclaimed ≡ Claimed actor cursor collected = ap (λ (x : Link). x.stage) p.2 ∙ k in
    absurd cc
