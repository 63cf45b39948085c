-- Restart keeps the invariant, and the opening state meets it.
use Rattle.std.proofs.Common.{◌≡◌, ℕ, zero, suc, ◌+◌, ◌<◌, ◌≤◌, Bool, true, false, cond, List, [], ◌∷◌, ◌++◌, map, filter, length, take, drop, replicate, Some, None, ◌⊎◌, inl, inr, refl, sym, ap, ap₂, ◌∙◌, subst, arith, IsPermutation}
use Rattle.std.specs.Prelude.{nat_lt, nat_le}
use Rattle.std.specs.List.{AllByRecursion, filter_map, range_with_len}
use Rattle.std.proofs.lemmas.Bool.{ltb-true, leb-true, ltb-false, and_parts, cases_lt}
use Rattle.std.proofs.lemmas.List.Sorted.{IsPermutation-refl}
use Rattle.std.proofs.lemmas.List.FromFn.{length-map-range_with_len}
use Rattle.std.proofs.lemmas.List.{length-replicate}
use Rattle.adg_base.specs.Address.{Place}
use Rattle.adg_base.specs.Area.{HoldsPlace, HoldsBegin}
use Rattle.adg_base.specs.Shard.{shard_of_vector}
use Rattle.adg_base.specs.declared.log.LogEntry.{LogEntry}
use Rattle.adg_base.specs.declared.node.Node.{Node}
use Rattle.adg_base.specs.declared.node.DdlNode.{DdlNode}
use Rattle.adg_model.specs.Mined.{node_item, ddl_item}
use Rattle.core_rules.specs.Share.{is_shared_by, share, shares, first_above, begun_above, node_of, nodes_of, ddl_of, ddl_in, NotedIn, BegunIn}
use Rattle.core_rules.specs.State.{CoreState, Worker, Shard, Session, Free, Populating, Scanning, Link, Claimed, At, share_of, limit, holders, idle_worker, empty_shard, opening}
use Rattle.core_rules.specs.LogFacts.{LogHasFacts}
use Rattle.core_rules.specs.Restarts.{rewound, rewound_workers, restarted}
use Rattle.core_rules.specs.Parts.{AppliedAre, AreaIs, mined_from, is_within, flush_items, ItemsAre, ClaimsAre, AllCollected}
use Rattle.core_rules.specs.Invariant.{Invariant, Precise, WorkerIs}
use Rattle.core_rules.proofs.Lists.{Has, has, at_has, at_map_back, at_take_back, at_take, at_contains, at_replicate, at_exists, has_append_cases, has_filter_map_back, each_from, each_drop_at, filter_order}
use Rattle.core_rules.proofs.Keeps.{Keeps, KeepsPrecise}
use Rattle.core_rules.proofs.Shares.{node_is}
use Rattle.core_rules.proofs.MinedEntry.{ddl_scn}
use Rattle.core_rules.proofs.Crew.{WorkerAt, worker_is}

-- entries whose SCNs do not fall
abbrev pub DoNotFall : List LogEntry → Type 0
DoNotFall xs = (i j : ℕ) (e f : LogEntry) → i < j → At xs i e → At xs j f → e.scn ≤ f.scn

do_not_fall_tail : (x : LogEntry) (xs : List LogEntry) → DoNotFall (x ∷ xs) → DoNotFall xs
do_not_fall_tail x xs h i j e f l a b = h (suc i) (suc j) e f (omega arith) a b

share_rises : (c : CoreState) → LogHasFacts → Invariant c → (worker : ℕ) → DoNotFall (share_of c worker)
share_rises c facts v worker i j e f l a b =
    let r = filter_order (λ (x : LogEntry). is_shared_by (length c.workers) worker (shard_of_vector x.vector)) c.log i j e f l a b in
    let upto : r.0 ≤ r.1 = omega arith in
    (facts c.log c.frontier v.log).rises r.0 r.1 e f upto r.2 r.3

-- The first entry above an SCN: those before it are at most at the SCN, and those from it on are above.
first_above_within : (scn : ℕ) (xs : List LogEntry) → first_above scn xs ≤ length xs
first_above_within scn [] = omega arith
first_above_within scn (x ∷ xs) = by_test (nat_lt scn x.scn) (first_above_within scn xs)
  where
    by_test : (b : Bool) → first_above scn xs ≤ length xs → cond b 0 (first_above scn xs + 1) ≤ length (x ∷ xs)
    by_test true h = omega arith
    by_test false h = omega arith

first_above_before : (scn : ℕ) (xs : List LogEntry) (n : ℕ) (e : LogEntry) → n < first_above scn xs → At xs n e → e.scn ≤ scn
first_above_before scn [] n e l h = absurd (omega arith)
first_above_before scn (x ∷ xs) n e l h = by_test (nat_lt scn x.scn) refl n l h (first_above_before scn xs)
  where
    by_test : (b : Bool) → nat_lt scn x.scn ≡ b → (m : ℕ) → m < cond b 0 (first_above scn xs + 1) → At (x ∷ xs) m e
        → ((k : ℕ) (f : LogEntry) → k < first_above scn xs → At xs k f → f.scn ≤ scn) → e.scn ≤ scn
    by_test true u m k a ih = absurd (omega arith)
    by_test false u zero k a ih =
        let same : Some x ≡ Some e = a in
        let one : x ≡ e = cc in
        let scns : x.scn ≡ e.scn = ap (λ (y : LogEntry). y.scn) one in
        let not_above : x.scn ≤ scn = ltb-false scn x.scn u in
        omega arith
    by_test false u (suc m) k a ih = ih m e (omega arith) a

each_above : (scn : ℕ) (x : LogEntry) (xs : List LogEntry) → DoNotFall (x ∷ xs) → scn < x.scn → AllByRecursion (λ (e : LogEntry). scn < e.scn) xs
each_above scn x xs h l = each_from (λ (e : LogEntry). scn < e.scn) xs (λ e k. above e (at_has xs e (has xs e k)))
  where
    above : (e : LogEntry) → (n : ℕ) × At xs n e → scn < e.scn
    above e at = let rises : x.scn ≤ e.scn = h 0 (suc at.0) x e (omega arith) refl at.1 in omega arith

first_above_rest : (scn : ℕ) (xs : List LogEntry) → DoNotFall xs → AllByRecursion (λ (e : LogEntry). scn < e.scn) (drop (first_above scn xs) xs)
first_above_rest scn [] h = by_count (first_above scn [])
  where
    by_count : (n : ℕ) → AllByRecursion (λ (e : LogEntry). scn < e.scn) (drop n [])
    by_count zero = tt
    by_count (suc n) = tt
first_above_rest scn (x ∷ xs) h = by_test (nat_lt scn x.scn) refl (first_above_rest scn xs (do_not_fall_tail x xs h))
  where
    by_test : (b : Bool) → nat_lt scn x.scn ≡ b → AllByRecursion (λ (e : LogEntry). scn < e.scn) (drop (first_above scn xs) xs)
        → AllByRecursion (λ (e : LogEntry). scn < e.scn) (drop (cond b 0 (first_above scn xs + 1)) (x ∷ xs))
    by_test true u ih = let l : scn < x.scn = ltb-true scn x.scn u in (l, each_above scn x xs h l)
    by_test false u ih = let e : suc (first_above scn xs) ≡ first_above scn xs + 1 = omega arith in subst (λ n. AllByRecursion (λ (y : LogEntry). scn < y.scn) (drop n (x ∷ xs))) e ih

-- nothing passes a test that nothing passes
pub filter_none : {X : Type 0} (p : X → Bool) (xs : List X) → ((x : X) → Has xs x → p x ≡ false) → filter p xs ≡ []
filter_none p [] h = refl
filter_none p (x ∷ xs) h = ap (λ b. cond b (x ∷ filter p xs) (filter p xs)) (h x (inl refl)) ∙ filter_none p xs (λ y k. h y (inr k))

not_above : (scn n : ℕ) → n ≤ scn → nat_lt scn n ≡ false
not_above scn n h = by_test (nat_lt scn n) refl
  where
    by_test : (b : Bool) → nat_lt scn n ≡ b → b ≡ false
    by_test false e = refl
    by_test true e = let l : scn < n = ltb-true scn n e in absurd (omega arith)

-- of entries at most at an SCN nothing is above it
abbrev pub AllUpto : ℕ → List LogEntry → Type 0
AllUpto scn xs = (e : LogEntry) → Has xs e → e.scn ≤ scn

no_nodes : (scn : ℕ) (complete : ℕ → Bool) (xs : List LogEntry) → AllUpto scn xs → filter (λ (n : Node). nat_lt scn n.scn) (filter_map (node_of complete) xs) ≡ []
no_nodes scn complete xs h = filter_none (λ (n : Node). nat_lt scn n.scn) (filter_map (node_of complete) xs) (λ n k. each n (has_filter_map_back (node_of complete) xs n k))
  where
    each : (n : Node) → (e : LogEntry) × Has xs e × (node_of complete e ≡ Some n) → nat_lt scn n.scn ≡ false
    each n r =
        let same : n.scn ≡ r.0.scn = (node_is complete r.0 n r.2).scn in
        let upto : r.0.scn ≤ scn = h r.0 r.1 in
        not_above scn n.scn (omega arith)

no_ddl : (scn : ℕ) (xs : List LogEntry) → AllUpto scn xs → filter (λ (n : DdlNode). nat_lt scn n.scn) (ddl_in xs) ≡ []
no_ddl scn xs h = filter_none (λ (n : DdlNode). nat_lt scn n.scn) (ddl_in xs) (λ n k. each n (has_filter_map_back ddl_of xs n k))
  where
    each : (n : DdlNode) → (e : LogEntry) × Has xs e × (ddl_of e ≡ Some n) → nat_lt scn n.scn ≡ false
    each n r =
        let same : n.scn ≡ r.0.scn = ddl_scn r.0 n r.2 in
        let upto : r.0.scn ≤ scn = h r.0 r.1 in
        not_above scn n.scn (omega arith)

-- between an SCN and itself there is nothing to flush
nothing_within : (scn n : ℕ) → is_within scn scn n ≡ false
nothing_within scn n = by_test (is_within scn scn n) refl
  where
    by_test : (b : Bool) → is_within scn scn n ≡ b → b ≡ false
    by_test false e = refl
    by_test true e =
        let p = and_parts (nat_lt scn n) (nat_le n scn) e in
        let l : scn < n = ltb-true scn n p.0 in
        let u : n ≤ scn = leb-true n scn p.1 in
        absurd (omega arith)

pub no_flush : (log : List LogEntry) (born scn : ℕ) (entries : List LogEntry) → flush_items log born scn scn entries ≡ []
no_flush log born scn entries =
    ap₂ (λ xs ys. map node_item xs ++ map ddl_item ys)
    (filter_none (λ (n : Node). is_within scn scn n.scn) (nodes_of log born entries) (λ n k. nothing_within scn n.scn))
    (filter_none (λ (n : DdlNode). is_within scn scn n.scn) (ddl_in entries) (λ n k. nothing_within scn n.scn))

pub no_items : (log : List LogEntry) (born scn : ℕ) (entries : List LogEntry) → ItemsAre log born scn scn entries []
no_items log born scn entries = record {
  once = subst (λ items. IsPermutation items []) (sym (no_flush log born scn entries)) (IsPermutation-refl []);
  together = λ i j x y t h k u w. let e : None ≡ Some x = h in absurd cc;
}

pub no_claims : (workers : ℕ) → ClaimsAre workers []
no_claims workers = record {
  alone = λ i j x y actor h k u w. let e : None ≡ Some x = h in absurd cc;
  last = λ i j x y l h k u. let e : None ≡ Some x = h in absurd cc;
  bounds = λ i actor cursor collected h. let e : None ≡ Some (Claimed actor cursor collected) = h in absurd cc;
}

pub none_collected : (log : List LogEntry) (born workers : ℕ) → AllCollected log born workers []
none_collected log born workers n l actor cursor collected h k = let e : None ≡ Some l = h in absurd cc

-- an area that holds nothing
pub empty_area : (log : List LogEntry) (born query place : ℕ) (links : List Link) (entries : List LogEntry) → AllUpto born entries → AreaIs log born query links place entries []
empty_area log born query place links entries h = record {
  noted = λ t a k. absurd (no_place t a k);
  stays = λ t a k g. no_place t a k;
  holds = λ t a k g. absurd (not_noted t a k);
  begun = λ t k. absurd (no_begin t k);
  begin_stays = λ t k g. no_begin t k;
  holds_begin = λ t k g. absurd (not_begun t k);
}
  where
    no_place : (t : ℕ) (a : Place) → HoldsPlace [] t a → ⊥
    no_place t a k = has [] k.held k.within

    no_begin : (t : ℕ) → HoldsBegin [] t → ⊥
    no_begin t k = has [] k.held k.within

    not_noted : (t : ℕ) (a : Place) → NotedIn log born entries t a → ⊥
    not_noted t a k =
        let upto : k.entry.scn ≤ born = h k.entry (has entries k.entry k.within) in
        let above : born < k.entry.scn = k.above in
        omega arith

    not_begun : (t : ℕ) → BegunIn born entries t → ⊥
    not_begun t k =
        let upto : k.entry.scn ≤ born = h k.entry (has entries k.entry k.within) in
        let above : born < k.entry.scn = k.above in
        omega arith

-- sessions that do nothing
pub no_holders : (n : ℕ) → holders (replicate n Free) ≡ 0
no_holders zero = refl
no_holders (suc n) = let ih : holders (replicate n Free) ≡ 0 = no_holders n in omega arith

pub all_free : (n place : ℕ) (s : Session) → At (replicate n Free) place s → s ≡ Free
all_free n place s h = at_replicate n place s Free h

-- the worker at a place of those that go back
at_range : (n a i k : ℕ) → At (range_with_len a n) i k → (k ≡ a + i) × (i < n)
at_range zero a i k h = let e : None ≡ Some k = h in absurd cc
at_range (suc n) a zero k h = let e : Some a ≡ Some k = h in let same : a ≡ k = cc in (omega arith, omega arith)
at_range (suc n) a (suc i) k h = let r = at_range n (a + 1) i k h in (omega arith, omega arith)

rewound_at : (query : ℕ) (log : List LogEntry) (workers place : ℕ) (w : Worker) → At (rewound_workers query log workers) place w → (w ≡ rewound query (share workers place log)) × (place < workers)
rewound_at query log workers place w h =
    let m = at_map_back (λ n. rewound query (share workers n log)) (range_with_len 0 workers) place w h in
    let r = at_range workers 0 place m.0 m.1 in
    let same : m.0 ≡ place = omega arith in
    (sym m.2 ∙ ap (λ n. rewound query (share workers n log)) same, r.1)

-- what they have mined is at most at the QuerySCN
taken_upto : (query : ℕ) (xs : List LogEntry) → AllUpto query (take (first_above query xs) xs)
taken_upto query xs e h =
    let at = at_has (take (first_above query xs) xs) e h in
    let back = at_take_back xs (first_above query xs) at.0 e at.1 in
    first_above_before query xs at.0 e back.1 back.0

rewound_mined : (query workers : ℕ) (log : List LogEntry) (n a : ℕ)
    → AllUpto query (mined_from workers a log (map (λ (w : Worker). w.mined) (map (λ m. rewound query (share workers m log)) (range_with_len a n))))
rewound_mined query workers log zero a e h = absurd h
rewound_mined query workers log (suc n) a e h =
    either (rewound_mined query workers log n (a + 1) e) (has_append_cases (take (first_above query (share workers a log)) (share workers a log)) later e h)
  where
    later : List LogEntry
    later = mined_from workers (a + 1) log (map (λ (w : Worker). w.mined) (map (λ m. rewound query (share workers m log)) (range_with_len (a + 1) n)))

    either : (Has later e → e.scn ≤ query) → Has (take (first_above query (share workers a log)) (share workers a log)) e ⊎ Has later e → e.scn ≤ query
    either ih (inl k) = taken_upto query (share workers a log) e k
    either ih (inr k) = ih k

-- of a worker that goes back
rewound_is : (c : CoreState) → LogHasFacts → Invariant c → (place : ℕ) → place < length c.workers
    → WorkerAt (length c.workers) c.query c.frontier c.log c.query c.query [] c.shards place (rewound c.query (share_of c place))
rewound_is c facts v place h = record {
  counts = record {
    behind = omega arith;
    within = first_above_within c.query entries;
    above = first_above_rest c.query entries (share_rises c facts v place);
  };
  progress = record {
    reached = omega arith;
    received = let p : c.query ≤ limit c = v.numbers.published in let q : limit c ≤ c.frontier = v.numbers.cut in omega arith;
  };
  applied = applied;
  area = empty_area c.log c.query c.query place [] (take (first_above c.query entries) entries) (taken_upto c.query entries);
  partition = sym (no_nodes c.query (begun_above c.log c.query) (take (first_above c.query entries) entries) (taken_upto c.query entries));
}
  where
    entries : List LogEntry
    entries = share_of c place

    was : (w : Worker) × At c.workers place w
    was = at_exists c.workers place h

    was_is : WorkerIs c place was.0
    was_is = v.workers place was.0 was.1

    applied : AppliedAre (take (first_above c.query entries) entries) c.shards
    applied e k n s own at = was_is.applied e (at_contains (take was.0.applied entries) there.0 e (at_take entries was.0.applied there.0 e before back.0)) n s own at
      where
        there : (i : ℕ) × At (take (first_above c.query entries) entries) i e
        there = at_has (take (first_above c.query entries) entries) e (has (take (first_above c.query entries) entries) e k)

        back : At entries there.0 e × (there.0 < first_above c.query entries)
        back = at_take_back entries (first_above c.query entries) there.0 e there.1

        mined : (there.0 < was.0.mined) ⊎ (was.0.mined ≤ there.0) → there.0 < was.0.applied
        mined (inl l) = let b : was.0.mined ≤ was.0.applied = was_is.counts.behind in omega arith
        mined (inr l) =
            let upto : e.scn ≤ c.query = first_above_before c.query entries there.0 e back.1 back.0 in
            let above : was.0.progress < e.scn = each_drop_at (λ (x : LogEntry). was.0.progress < x.scn) was.0.mined there.0 entries e was_is.counts.above l back.0 in
            let reached : limit c ≤ was.0.progress = was_is.progress.reached in
            let published : c.query ≤ limit c = v.numbers.published in
            absurd (omega arith)

        before : there.0 < was.0.applied
        before = mined (cases_lt there.0 was.0.mined)

pub restart_keeps : Keeps (λ c new. new ≡ restarted c)
restart_keeps facts c new r v = subst Invariant (sym r) (record {
  log = v.log;
  numbers = record {
    restarted = omega arith;
    published = omega arith;
    cut = let p : c.query ≤ limit c = v.numbers.published in let q : limit c ≤ c.frontier = v.numbers.cut in omega arith;
  };
  quiesce = (no_holders (length c.sessions), refl);
  shards = v.shards;
  manned = subst (λ n. 0 < n) (sym same) v.manned;
  workers = each_worker;
  ddl = record {
    same = subst (λ ns. IsPermutation ns []) (sym no_ddl_left) (IsPermutation-refl []);
    order = tt;
  };
  flush = record {
    items = no_items c.log c.query c.query (shares (length (rewound_workers c.query c.log (length c.workers))) c.log);
    claims = no_claims (length (rewound_workers c.query c.log (length c.workers)));
    collected = none_collected c.log c.query (length (rewound_workers c.query c.log (length c.workers)));
  };
  units = λ obj extent u h. let e : None ≡ Some u = h in absurd cc;
  populations = λ place p h. let e : Populating p ≡ Free = all_free (length c.sessions) place (Populating p) h in absurd cc;
  tickets = λ i j p q h k u. let e : Populating p ≡ Free = all_free (length c.sessions) i (Populating p) h in absurd cc;
  tied = λ place p h. let e : Populating p ≡ Free = all_free (length c.sessions) place (Populating p) h in absurd cc;
  scans = λ place s h. let e : Scanning s ≡ Free = all_free (length c.sessions) place (Scanning s) h in absurd cc;
})
  where
    same : length (rewound_workers c.query c.log (length c.workers)) ≡ length c.workers
    same = length-map-range_with_len (λ w. rewound c.query (share (length c.workers) w c.log)) 0 (length c.workers)

    each_worker : (n : ℕ) (w : Worker) → At (rewound_workers c.query c.log (length c.workers)) n w → WorkerIs (restarted c) n w
    each_worker n w h =
        let at = rewound_at c.query c.log (length c.workers) n w h in
        worker_is (restarted c) (length c.workers) n w same
        (subst (λ x. WorkerAt (length c.workers) c.query c.frontier c.log c.query c.query [] c.shards n x) (sym at.0) (rewound_is c facts v n at.1))

    no_ddl_left : filter (λ (n : DdlNode). nat_lt c.query n.scn) (ddl_in (mined_from (length (rewound_workers c.query c.log (length c.workers))) 0 c.log (map (λ (w : Worker). w.mined) (rewound_workers c.query c.log (length c.workers))))) ≡ []
    no_ddl_left = subst (λ m. filter (λ (n : DdlNode). nat_lt c.query n.scn) (ddl_in (mined_from m 0 c.log (map (λ (w : Worker). w.mined) (rewound_workers c.query c.log (length c.workers))))) ≡ []) (sym same)
        (no_ddl c.query (mined_from (length c.workers) 0 c.log (map (λ (w : Worker). w.mined) (rewound_workers c.query c.log (length c.workers)))) (rewound_mined c.query (length c.workers) c.log (length c.workers) 0))

pub restart_precise : KeepsPrecise (λ c new. new ≡ restarted c)
restart_precise facts c new r v p = subst Precise (sym r) (λ obj extent u h. let e : None ≡ Some u = h in absurd cc)

-- The opening state.
nothing_mined : (workers place : ℕ) (counts : List ℕ) → mined_from workers place [] counts ≡ []
nothing_mined workers place [] = refl
nothing_mined workers place (n ∷ ns) = ap₂ (λ xs ys. xs ++ ys) (take_nil n) (nothing_mined workers (place + 1) ns)
  where
    take_nil : (k : ℕ) → take k (share workers place []) ≡ []
    take_nil zero = refl
    take_nil (suc k) = refl

opened_worker : (c : CoreState) (workers place : ℕ) (shards : List Shard) → WorkerAt workers 0 0 [] 0 0 [] shards place idle_worker
opened_worker c workers place shards = record {
  counts = record { behind = omega arith; within = omega arith; above = tt };
  progress = record { reached = omega arith; received = omega arith };
  applied = λ e h n s own at. absurd (has [] e h);
  area = empty_area [] 0 0 place [] [] (λ e h. absurd h);
  partition = refl;
}

pub opening_meets : (workers sessions : ℕ) → 0 < workers → Invariant (opening workers sessions)
opening_meets workers sessions h = record {
  log = record { sound = tt; places = refl; scns = tt };
  numbers = record { restarted = omega arith; published = omega arith; cut = omega arith };
  quiesce = (no_holders sessions, refl);
  shards = record {
    count = length-replicate 64 empty_shard;
    within = λ n s k. let e : s ≡ empty_shard = at_replicate 64 n s empty_shard k in let a : s.applied ≡ 0 = ap (λ (x : Shard). x.applied) e in omega arith;
    floor = λ n s k. ap (λ (x : Shard). x.floor) (at_replicate 64 n s empty_shard k);
  };
  manned = let e : length (replicate workers idle_worker) ≡ workers = length-replicate workers idle_worker in omega arith;
  workers = λ n w k. worker_is (opening workers sessions) workers n w (length-replicate workers idle_worker)
      (subst (λ x. WorkerAt workers 0 0 [] 0 0 [] (replicate 64 empty_shard) n x) (sym (at_replicate workers n w idle_worker k)) (opened_worker (opening workers sessions) workers n (replicate 64 empty_shard)));
  ddl = record {
    same = subst (λ es. IsPermutation (filter (λ (n : DdlNode). nat_lt 0 n.scn) (ddl_in es)) [])
        (sym (nothing_mined (length (replicate workers idle_worker)) 0 (map (λ (w : Worker). w.mined) (replicate workers idle_worker)))) (IsPermutation-refl []);
    order = tt;
  };
  flush = record {
    items = no_items [] 0 0 (shares (length (replicate workers idle_worker)) []);
    claims = no_claims (length (replicate workers idle_worker));
    collected = none_collected [] 0 (length (replicate workers idle_worker));
  };
  units = λ obj extent u k. let e : None ≡ Some u = k in absurd cc;
  populations = λ place p k. let e : Populating p ≡ Free = all_free sessions place (Populating p) k in absurd cc;
  tickets = λ i j p q k l u. let e : Populating p ≡ Free = all_free sessions i (Populating p) k in absurd cc;
  tied = λ place p k. let e : Populating p ≡ Free = all_free sessions place (Populating p) k in absurd cc;
  scans = λ place s k. let e : Scanning s ≡ Free = all_free sessions place (Scanning s) k in absurd cc;
}

pub opening_precise : (workers sessions : ℕ) → Precise (opening workers sessions)
opening_precise workers sessions obj extent u k = let e : None ≡ Some u = k in absurd cc
