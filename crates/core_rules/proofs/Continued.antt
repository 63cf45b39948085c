-- A log with entries that continue it: what was there stays as it is, at every SCN up to the old frontier.
use Rattle.std.proofs.Common.{◌≡◌, ℕ, suc, ◌+◌, ◌<◌, ◌≤◌, Bool, true, false, cond, List, [], ◌∷◌, ◌++◌, filter, length, take, Option, Some, None, ◌⊎◌, inl, inr, refl, sym, ap, ap₂, ◌∙◌, subst, arith, append-nil}
use Rattle.std.specs.Cmp.{both_ways}
use Rattle.std.specs.List.{Contains, AllByRecursion, filter_map, flat_map, cons_option}
use Rattle.std.proofs.lemmas.Bool.{eq-eqb}
use Rattle.std.proofs.lemmas.List.{take-append-le}
use Rattle.std.proofs.lemmas.List.Elements.{filter-append, filter_map-append}
use Rattle.adg_base.specs.Address.{Place, place}
use Rattle.adg_base.specs.Shard.{shard_of_vector}
use Rattle.adg_base.specs.declared.vector.Vector.{Vector}
use Rattle.adg_base.specs.declared.vector.Vector.TheVariants.{Begin, Put, Delete, Undo, Commit, Abort, Create, DropObject, AddColumn, NoInMemory, EndThread}
use Rattle.adg_base.specs.declared.log.LogEntry.{LogEntry}
use Rattle.adg_base.specs.declared.node.NodeKind.TheVariants as node
use Rattle.adg_model.specs.declared.mined.Mined.TheVariants as mined
use Rattle.adg_model.specs.Log.{numbered}
use Rattle.adg_model.specs.Database.{Table, is_in_memory, rows_at, table_at, touched_by, touched}
use Rattle.adg_model.specs.Sound.{IsContinuation, IsLog}
use Rattle.adg_model.specs.Mined.{mined_of, mined_by}
use Rattle.adg_model.proofs.LogLaws.{numbered_append}
use Rattle.adg_model.proofs.RowLaws.{rows_stop_at_scn}
use Rattle.core_rules.specs.Share.{is_shared_by, share, ends, begun_above, node_by, node_of, nodes_of, CommitsAt}
use Rattle.core_rules.specs.State.{At}
use Rattle.core_rules.specs.LogFacts.{LogFacts}
use Rattle.core_rules.specs.Parts.{mined_from}
use Rattle.core_rules.proofs.Lists.{Has, has, contains, has_append_left, has_append_cases, has_filter_back, has_filter_map_back, each_has, each_weaker, contains_filter_map, contains_filter_map_back}
use Rattle.core_rules.proofs.Shares.{begun_entry, entry_begun}
use Rattle.core_rules.proofs.Restarted.{filter_none}
use Rattle.core_rules.proofs.FactsOrder.{scns_above, scns_append, received}

-- maps that agree
same_filter_map : {X Y : Type 0} (f g : X → Option Y) (xs : List X) → ((x : X) → Has xs x → f x ≡ g x) → filter_map f xs ≡ filter_map g xs
same_filter_map f g [] h = refl
same_filter_map f g (x ∷ xs) h = ap₂ cons_option (h x (inl refl)) (same_filter_map f g xs (λ y k. h y (inr k)))

-- the node of an entry by two tests that agree on the transaction that it ends
same_node_of : (p q : ℕ → Bool) (e : LogEntry) → ((t : ℕ) → ends t e.vector ≡ true → p t ≡ q t) → node_of p e ≡ node_of q e
same_node_of p q e h = by_vector e.vector h
  where
    by_vector : (v : Vector) → ((t : ℕ) → ends t v ≡ true → p t ≡ q t) → node_by p e.scn e.pos v ≡ node_by q e.scn e.pos v
    by_vector (Commit txn flag) k = ap (λ b. Some (record { scn = e.scn; pos = e.pos; txn = txn; complete = b; kind = node.Committed flag })) (k txn (eq-eqb txn txn refl))
    by_vector (Abort txn) k = ap (λ b. Some (record { scn = e.scn; pos = e.pos; txn = txn; complete = b; kind = node.Aborted })) (k txn (eq-eqb txn txn refl))
    by_vector (Begin txn) k = refl
    by_vector (Put txn o b s row) k = refl
    by_vector (Delete txn o b s) k = refl
    by_vector (Undo txn o b s) k = refl
    by_vector (Create o x f columns) k = refl
    by_vector (DropObject o) k = refl
    by_vector (AddColumn o x) k = refl
    by_vector (NoInMemory o) k = refl
    by_vector EndThread k = refl

-- what an entry notes by two logs that define the same at its SCN
same_mined : (log more : List LogEntry) (scn : ℕ) (v : Vector) → table_at more scn ≡ table_at log scn → mined_by more scn v ≡ mined_by log scn v
same_mined log more scn (Put txn o b s row) h = ap (λ (tables : ℕ → Option Table). cond (is_in_memory (tables o)) (Some (mined.Note txn (place o b s))) None) h
same_mined log more scn (Delete txn o b s) h = ap (λ (tables : ℕ → Option Table). cond (is_in_memory (tables o)) (Some (mined.Note txn (place o b s))) None) h
same_mined log more scn (Undo txn o b s) h = ap (λ (tables : ℕ → Option Table). cond (is_in_memory (tables o)) (Some (mined.Note txn (place o b s))) None) h
same_mined log more scn (Begin txn) h = refl
same_mined log more scn (Commit txn flag) h = refl
same_mined log more scn (Abort txn) h = refl
same_mined log more scn (Create o x f columns) h = refl
same_mined log more scn (DropObject o) h = refl
same_mined log more scn (AddColumn o x) h = refl
same_mined log more scn (NoInMemory o) h = refl
same_mined log more scn EndThread h = refl

module _ (log entries : List LogEntry) (old new : ℕ) (is : IsLog log old) (more : IsContinuation log old entries new) where
  -- the whole is a log up to the new frontier
  pub log_continued : IsLog (log ++ entries) new
  log_continued = record {
    sound = more.sound;
    places =
        let here : 0 + length log ≡ length log = omega arith in
        let rest : numbered (0 + length log) entries ≡ entries = ap (λ (n : ℕ). numbered n entries) here ∙ more.places in
        numbered_append 0 log entries ∙ ap₂ (λ xs ys. xs ++ ys) is.places rest;
    scns = scns_append 1 old new log entries is.scns more.scns (omega arith) more.forward;
  }

  -- new entries are above the old frontier, and what is not above it was there
  pub new_above : AllByRecursion (λ e. old < e.scn) entries
  new_above = each_weaker (λ (e : LogEntry). old + 1 ≤ e.scn) (λ (e : LogEntry). old < e.scn) entries (λ e h. omega arith) (scns_above (old + 1) new entries more.scns)

  pub new_is_above : (e : LogEntry) → Has entries e → old < e.scn
  new_is_above e h = each_has (λ (x : LogEntry). old < x.scn) entries e new_above h

  pub stays_within : (e : LogEntry) → Contains log e → Contains (log ++ entries) e
  stays_within e h = contains (log ++ entries) e (has_append_left log entries e (has log e h))

  pub was_within : (e : LogEntry) → Contains (log ++ entries) e → e.scn ≤ old → Contains log e
  was_within e h l = either (has_append_cases log entries e (has (log ++ entries) e h))
    where
      either : Has log e ⊎ Has entries e → Contains log e
      either (inl k) = contains log e k
      either (inr k) = let above : old < e.scn = new_is_above e k in absurd (omega arith)

  -- definitions, rows and what is mined stay
  pub tables_stay : (scn : ℕ) → scn ≤ old → table_at (log ++ entries) scn ≡ table_at log scn
  tables_stay scn l = (rows_stop_at_scn log entries scn (each_weaker (λ (e : LogEntry). old < e.scn) (λ (e : LogEntry). scn < e.scn) entries (λ e h. omega arith) new_above)).1

  pub rows_stay : (scn : ℕ) → scn ≤ old → rows_at (log ++ entries) scn ≡ rows_at log scn
  rows_stay scn l = (rows_stop_at_scn log entries scn (each_weaker (λ (e : LogEntry). old < e.scn) (λ (e : LogEntry). scn < e.scn) entries (λ e h. omega arith) new_above)).0

  pub mined_stays : (e : LogEntry) → Contains log e → mined_of (log ++ entries) e ≡ mined_of log e
  mined_stays e h = same_mined log (log ++ entries) e.scn e.vector (tables_stay e.scn (received log old is e h))

  -- shares only grow at their end
  pub share_grows : (workers worker : ℕ) → share workers worker (log ++ entries) ≡ share workers worker log ++ share workers worker entries
  share_grows workers worker = filter-append (λ (e : LogEntry). is_shared_by workers worker (shard_of_vector e.vector)) log entries

  pub take_stays : (workers worker n : ℕ) → n ≤ length (share workers worker log) → take n (share workers worker (log ++ entries)) ≡ take n (share workers worker log)
  take_stays workers worker n l = ap (take n) (share_grows workers worker) ∙ take-append-le n (share workers worker log) (share workers worker entries) l

  pub mined_from_stays : (workers place : ℕ) (counts : List ℕ) → ((i n : ℕ) → At counts i n → n ≤ length (share workers (place + i) log))
      → mined_from workers place (log ++ entries) counts ≡ mined_from workers place log counts
  mined_from_stays workers place [] h = refl
  mined_from_stays workers place (n ∷ ns) h =
      let here : place + 0 ≡ place = omega arith in
      let first : n ≤ length (share workers place log) = subst (λ (i : ℕ). n ≤ length (share workers i log)) here (h 0 n refl) in
      ap₂ (λ xs ys. xs ++ ys) (take_stays workers place n first) (mined_from_stays workers (place + 1) ns (λ i m a. later i m a))
    where
      later : (i m : ℕ) → At ns i m → m ≤ length (share workers (place + 1 + i) log)
      later i m a =
          let there : place + suc i ≡ place + 1 + i = omega arith in
          subst (λ (j : ℕ). m ≤ length (share workers j log)) there (h (suc i) m a)

  -- what is filtered out of the shares stays where it agrees on old entries, and nothing new passes
  pub kept_of_shares : {Y : Type 0} (test : Y → Bool) (f g : LogEntry → Option Y) → ((e : LogEntry) → Has log e → f e ≡ g e)
      → ((e : LogEntry) (y : Y) → Has entries e → f e ≡ Some y → test y ≡ false) → (workers : ℕ) (ws : List ℕ)
      → filter test (filter_map f (flat_map (λ w. share workers w (log ++ entries)) ws)) ≡ filter test (filter_map g (flat_map (λ w. share workers w log) ws))
  kept_of_shares test f g same none workers [] = refl
  kept_of_shares {Y} test f g same none workers (w ∷ ws) =
      split f (share workers w (log ++ entries)) (flat_map (λ x. share workers x (log ++ entries)) ws)
      ∙ ap₂ (λ xs ys. xs ++ ys) here (kept_of_shares test f g same none workers ws)
      ∙ sym (split g (share workers w log) (flat_map (λ x. share workers x log) ws))
    where
      split : (h : LogEntry → Option Y) (xs ys : List LogEntry) → filter test (filter_map h (xs ++ ys)) ≡ filter test (filter_map h xs) ++ filter test (filter_map h ys)
      split h xs ys = ap (filter test) (filter_map-append h xs ys) ∙ filter-append test (filter_map h xs) (filter_map h ys)

      member : (xs : List LogEntry) (e : LogEntry) → Has (share workers w xs) e → Has xs e
      member xs e h = (has_filter_back (λ (x : LogEntry). is_shared_by workers w (shard_of_vector x.vector)) xs e h).0

      fresh : filter test (filter_map f (share workers w entries)) ≡ []
      fresh = filter_none test (filter_map f (share workers w entries)) (λ y h. each y (has_filter_map_back f (share workers w entries) y h))
        where
          each : (y : Y) → (e : LogEntry) × Has (share workers w entries) e × (f e ≡ Some y) → test y ≡ false
          each y r = none r.0 y (member entries r.0 r.1) r.2

      here : filter test (filter_map f (share workers w (log ++ entries))) ≡ filter test (filter_map g (share workers w log))
      here =
          ap (λ es. filter test (filter_map f es)) (share_grows workers w)
          ∙ split f (share workers w log) (share workers w entries)
          ∙ ap (λ ys. filter test (filter_map f (share workers w log)) ++ ys) fresh
          ∙ append-nil (filter test (filter_map f (share workers w log)))
          ∙ ap (filter test) (same_filter_map f g (share workers w log) (λ e h. same e (member log e h)))

  -- Of a transaction that ended before: its end is the old one, all that it touched was there, and it began before.
  module _ (facts : LogFacts (log ++ entries) new) where
    pub end_was : (t : ℕ) (x e : LogEntry) → Contains (log ++ entries) x → ends t x.vector ≡ true → Contains log e → ends t e.vector ≡ true → Contains log x
    end_was t x e h k w u = let one : e ≡ x = facts.ended_once t e x (stays_within e w) h u k in subst (λ (y : LogEntry). Contains log y) one w

    pub touch_was : (t : ℕ) (a : Place) (x e : LogEntry) → Contains (log ++ entries) x → touched_by t x.vector ≡ Some a → Contains log e → ends t e.vector ≡ true → Contains log x
    touch_was t a x e h k w u =
        let before : x.scn ≤ e.scn = (facts.touched_to_end t a x e h (stays_within e w) k u).1 in
        let end : e.scn ≤ old = received log old is e w in
        was_within x h (omega arith)

    pub touches_stay : (t : ℕ) (a : Place) (e : LogEntry) → Contains log e → ends t e.vector ≡ true → Contains (touched t (log ++ entries)) a → Contains (touched t log) a
    touches_stay t a e w u h =
        let r = contains_filter_map_back (λ (x : LogEntry). touched_by t x.vector) (log ++ entries) a h in
        contains_filter_map (λ (x : LogEntry). touched_by t x.vector) log r.0 a (touch_was t a r.0 e r.1 r.2 w u) r.2

    pub begun_stays : (scn t : ℕ) (e : LogEntry) → Contains log e → ends t e.vector ≡ true → begun_above (log ++ entries) scn t ≡ begun_above log scn t
    begun_stays scn t e w u = both_ways (begun_above (log ++ entries) scn t) (begun_above log scn t) back forth
      where
        back : begun_above (log ++ entries) scn t ≡ true → begun_above log scn t ≡ true
        back h =
            let r = begun_entry (log ++ entries) scn t h in
            let b = facts.begun_to_end t e (stays_within e w) u in
            let one : b.0 ≡ r.0 = facts.begun_once t b.0 r.0 b.1 r.1 b.2 r.2 in
            let same : b.0.scn ≡ r.0.scn = ap (λ (y : LogEntry). y.scn) one in
            let before : b.0.scn ≤ e.scn = b.4 in
            let end : e.scn ≤ old = received log old is e w in
            entry_begun log scn t r.0 (was_within r.0 r.1 (omega arith)) r.2 r.3

        forth : begun_above log scn t ≡ true → begun_above (log ++ entries) scn t ≡ true
        forth h = let r = begun_entry log scn t h in entry_begun (log ++ entries) scn t r.0 (stays_within r.0 r.1) r.2 r.3

    -- so the nodes of old entries stay
    pub node_stays : (born : ℕ) (e : LogEntry) → Has log e → node_of (begun_above (log ++ entries) born) e ≡ node_of (begun_above log born) e
    node_stays born e h = same_node_of (begun_above (log ++ entries) born) (begun_above log born) e (λ t u. begun_stays born t e (contains log e h) u)

    pub nodes_stay : (born : ℕ) (xs : List LogEntry) → ((e : LogEntry) → Has xs e → Has log e) → nodes_of (log ++ entries) born xs ≡ nodes_of log born xs
    nodes_stay born xs within = same_filter_map (node_of (begun_above (log ++ entries) born)) (node_of (begun_above log born)) xs (λ e h. node_stays born e (within e h))

    -- and a commit of it
    pub commit_was : (t scn : ℕ) (e : LogEntry) → Contains log e → ends t e.vector ≡ true → CommitsAt (log ++ entries) t scn → CommitsAt log t scn
    commit_was t scn e w u r =
        let ended : ends t r.entry.vector ≡ true = subst (λ v. ends t v ≡ true) (sym r.commits) (eq-eqb t t refl) in
        record { entry = r.entry; flag = r.flag; within = end_was t r.entry e r.within ended w u; commits = r.commits; at = r.at }
