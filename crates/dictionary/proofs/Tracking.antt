-- The transactions of a dictionary, as entries begin, change and end them.
use Rattle.std.proofs.Common.{◌≡◌, ℕ, ◌+◌, ◌-◌, Bool, true, false, cond, not, ◌&&◌, ◌||◌, nat_eq, nat_lt, List, [], ◌∷◌, Option, Some, None, refl, sym, ap, ap₂, ◌∙◌, subst, is_some, eq-eqb, arith}
use Rattle.std.specs.List.{list_any}
use Rattle.std.specs.Map.{lookup}
use Rattle.std.specs.Option.{option_map}
use Rattle.std.proofs.lemmas.Bool.{eqb-true, eqb-false, ne_eqb, cond-true, cond-false, true≢false, false≢true, or_parts, lt-ltb}
use Rattle.adg_base.specs.Address.{Place, same_place}
use Rattle.adg_model.specs.Database.{Change as Played, has_change, struck, set_at}
use Rattle.dictionary.specs.declared.change.Change.{Change}
use Rattle.dictionary.specs.declared.change.Pending.{Pending}
use Rattle.dictionary.specs.declared.change.Running.{Running}
use Rattle.dictionary.specs.Pending.{kept_at, change_of, same_change, count_of, one_more, one_less, SetsAt, earlier_at, HasChain}
use Rattle.dictionary.specs.Transactions.{Held, running_at, is_ended, IsNoted, latest_of, count_at, Tracks}
use Rattle.dictionary.proofs.Chains.{same_place_true, same_place_refl, HasChain_same, HasChain_none, HasChain_more}
use Rattle.dictionary.proofs.Counts.{same_change_place, same_change_at}

-- what holds of one transaction, and of those that are not that one, holds of all
pub by_name : (P : ℕ → Type 0) (txn : ℕ) → P txn → ((q : ℕ) → nat_eq txn q ≡ false → P q) → (q : ℕ) → P q
by_name P txn here others q = by_test (nat_eq txn q) refl
  where
    by_test : (b : Bool) → nat_eq txn q ≡ b → P q
    by_test true e = subst P (eqb-true txn q e) here
    by_test false e = others q e

pub set_at_here : {X : Type 0} (k : ℕ) (x : X) (f : ℕ → X) → set_at k x f k ≡ x
set_at_here k x f = cond-true (nat_eq k k) x (f k) (eq-eqb k k refl)

pub set_at_apart : {X : Type 0} (k : ℕ) (x : X) (f : ℕ → X) (q : ℕ) → nat_eq k q ≡ false → set_at k x f q ≡ f q
set_at_apart k x f q apart = cond-false (nat_eq q k) x (f q) (ne_eqb q k (λ e. eqb-false k q apart (sym e)))

sets_here : {X : Type 0} (k : ℕ) (x y : X) → cond (nat_eq k k) x y ≡ x
sets_here k x y = cond-true (nat_eq k k) x y (eq-eqb k k refl)

-- a change at a place, and how many there are
pub has_change_count : (a : Place) (cs : List Played) → has_change a cs ≡ nat_lt 0 (count_at a cs)
has_change_count a [] = refl
has_change_count a (c ∷ cs) = by_test (same_place a c.at) (has_change_count a cs)
  where
    by_test : (b : Bool) → has_change a cs ≡ nat_lt 0 (count_at a cs) → (b || has_change a cs) ≡ nat_lt 0 (cond b (count_at a cs + 1) (count_at a cs))
    by_test true ih = sym (lt-ltb 0 (count_at a cs + 1) (omega arith))
    by_test false ih = ih

place_sym : (a b : Place) → same_place a b ≡ same_place b a
place_sym a b = by_tests (same_place a b) refl (same_place b a) refl
  where
    by_tests : (x : Bool) → same_place a b ≡ x → (y : Bool) → same_place b a ≡ y → x ≡ y
    by_tests true e true h = refl
    by_tests false e false h = refl
    by_tests true e false h = absurd (true≢false (sym (subst (λ (p : Place). same_place p a ≡ true) (same_place_true a b e) (same_place_refl a)) ∙ h))
    by_tests false e true h = absurd (false≢true (sym e ∙ subst (λ (p : Place). same_place p b ≡ true) (same_place_true b a h) (same_place_refl b)))

-- a struck change is one less at its place
count_at_struck : (a p : Place) (cs : List Played) → count_at p (struck a cs) ≡ cond (same_place a p) (count_at p cs - 1) (count_at p cs)
count_at_struck a p [] = by_test (same_place a p)
  where
    by_test : (b : Bool) → count_at p [] ≡ cond b (count_at p [] - 1) (count_at p [])
    by_test true = refl
    by_test false = refl
count_at_struck a p (c ∷ cs) = by_test (same_place a c.at) refl (same_place a p) refl (count_at_struck a p cs)
  where
    by_test : (x : Bool) → same_place a c.at ≡ x → (y : Bool) → same_place a p ≡ y → count_at p (struck a cs) ≡ cond (same_place a p) (count_at p cs - 1) (count_at p cs)
        → count_at p (cond x cs (c ∷ struck a cs)) ≡ cond y (count_at p (c ∷ cs) - 1) (count_at p (c ∷ cs))
    by_test true e true h ih =
        let same : same_place p c.at ≡ true = subst (λ (q : Place). same_place q c.at ≡ true) (same_place_true a p h) e in
        rw same (omega arith)
    by_test true e false h ih =
        let apart : same_place p c.at ≡ false = place_sym p c.at ∙ subst (λ (q : Place). same_place q p ≡ false) (same_place_true a c.at e) h in
        rw apart refl
    by_test false e true h ih =
        let apart : same_place p c.at ≡ false = subst (λ (q : Place). same_place q c.at ≡ false) (same_place_true a p h) e in
        rw apart (ih ∙ cond-true (same_place a p) _ _ h)
    by_test false e false h ih =
        let same : count_at p (struck a cs) ≡ count_at p cs = ih ∙ cond-false (same_place a p) (count_at p cs - 1) (count_at p cs) h in
        ap (λ (n : ℕ). cond (same_place p c.at) (n + 1) n) same

-- two transactions' changes
earlier_of_other : (old new : List (Change × Pending)) (change : Change) (kept : Option Pending) (q : ℕ) → SetsAt old new change kept → nat_eq change.txn q ≡ false → (p : Place) → kept_at new (change_of q p) ≡ kept_at old (change_of q p)
earlier_of_other old new change kept q sets apart p =
    sets (change_of q p) ∙ cond-false (same_change change (change_of q p)) kept (kept_at old (change_of q p)) (same_change_at change.txn change.addr (change_of q p) apart)

kept_here : (old new : List (Change × Pending)) (txn : ℕ) (a : Place) (kept : Option Pending) → SetsAt old new (change_of txn a) kept → (p : Place) → kept_at new (change_of txn p) ≡ cond (same_place a p) kept (kept_at old (change_of txn p))
kept_here old new txn a kept sets p =
    sets (change_of txn p) ∙ ap (λ (b : Bool). cond b kept (kept_at old (change_of txn p))) (same_change_place txn a p)

abbrev earlier_of : Option Pending → Option (Option Place)
earlier_of o = option_map (λ (k : Pending). k.earlier) o

earlier_of_cond : (b : Bool) (k : Pending) (o : Option Pending) → earlier_of (cond b (Some k) o) ≡ cond b (Some k.earlier) (earlier_of o)
earlier_of_cond true k o = refl
earlier_of_cond false k o = refl

latest_of_none : (o : Option Running) → is_some o ≡ false → latest_of o ≡ None
latest_of_none None e = refl
latest_of_none (Some r) e = absurd (true≢false e)

-- a chain of which nothing is kept otherwise
chain_moved : (old new : List (Change × Pending)) (l m : Option Running) (q : ℕ) → ((p : Place) → kept_at new (change_of q p) ≡ kept_at old (change_of q p)) → latest_of m ≡ latest_of l → HasChain (earlier_at old q) (latest_of l) → HasChain (earlier_at new q) (latest_of m)
chain_moved old new l m q same e h =
    subst (HasChain (earlier_at new q)) (sym e) (HasChain_same (earlier_at old q) (earlier_at new q) (latest_of l) (λ p. ap earlier_of (same p)) h)

module _ (was_begun has_ended was_noted : ℕ → Bool) (changes : ℕ → List Played) (txn : ℕ) where
  -- a transaction begins
  pub Tracks_begin : (old new : Held) → new.ended ≡ old.ended → new.pending ≡ old.pending
      → ((q : ℕ) → running_at new q ≡ cond (nat_eq txn q) (Some (record { noted = false; latest = None })) (running_at old q))
      → Tracks old was_begun has_ended was_noted changes → was_begun txn ≡ false → Tracks new (set_at txn true was_begun) has_ended was_noted changes
  Tracks_begin old new ended pending running h fresh =
      let first : Running = record { noted = false; latest = None } in
      let here : running_at new txn ≡ Some first = running txn ∙ sets_here txn (Some first) (running_at old txn) in
      let apart : (q : ℕ) → nat_eq txn q ≡ false → running_at new q ≡ running_at old q = λ q e. running q ∙ cond-false (nat_eq txn q) (Some first) (running_at old q) e in
      let none : is_some (running_at old txn) ≡ false = (or_parts (is_some (running_at old txn)) (is_ended old txn) (sym (h.begun txn) ∙ fresh)).0 in
      record {
        begun = by_name (λ q. set_at txn true was_begun q ≡ (is_some (running_at new q) || is_ended new q)) txn
            (set_at_here txn true was_begun ∙ sym (ap (λ (o : Option Running). is_some o || is_ended new txn) here))
            (λ q e. set_at_apart txn true was_begun q e ∙ h.begun q ∙ ap₂ (λ (o : Option Running) (l : List ℕ). is_some o || list_any (nat_eq q) l) (sym (apart q e)) (sym ended));
        running = by_name (λ q. is_some (running_at new q) ≡ (set_at txn true was_begun q && not (has_ended q))) txn
            (ap is_some here ∙ sym (ap₂ (λ (b : Bool) (e : Bool). b && not e) (set_at_here txn true was_begun) (h.fresh txn fresh).0))
            (λ q e. ap is_some (apart q e) ∙ h.running q ∙ ap (λ (b : Bool). b && not (has_ended q)) (sym (set_at_apart txn true was_begun q e)));
        noted = by_name (λ q. IsNoted (running_at new q) (was_noted q)) txn
            (subst (λ (o : Option Running). IsNoted o (was_noted txn)) (sym here) (sym (h.fresh txn fresh).1))
            (λ q e. subst (λ (o : Option Running). IsNoted o (was_noted q)) (sym (apart q e)) (h.noted q));
        fresh = by_name (λ q. set_at txn true was_begun q ≡ false → (has_ended q ≡ false) × (was_noted q ≡ false)) txn
            (λ f. h.fresh txn fresh)
            (λ q e f. h.fresh q (sym (set_at_apart txn true was_begun q e) ∙ f));
        counts = λ q p. ap (λ (l : List (Change × Pending)). count_of (kept_at l (change_of q p))) pending ∙ h.counts q p;
        chains = by_name (λ q. HasChain (earlier_at new.pending q) (latest_of (running_at new q))) txn
            (chain_moved old.pending new.pending (running_at old txn) (running_at new txn) txn (λ p. ap (λ (l : List (Change × Pending)). kept_at l (change_of txn p)) pending) (ap latest_of here ∙ sym (latest_of_none (running_at old txn) none)) (h.chains txn))
            (λ q e. chain_moved old.pending new.pending (running_at old q) (running_at new q) q (λ p. ap (λ (l : List (Change × Pending)). kept_at l (change_of q p)) pending) (ap latest_of (apart q e)) (h.chains q));
      }

  -- a running transaction makes a change
  pub Tracks_change : (old new : Held) (change : Played) (in_memory is_new : Bool) (was : Running) → new.ended ≡ old.ended
      → running_at old txn ≡ Some was
      → is_new ≡ not (is_some (kept_at old.pending (change_of txn change.at)))
      → SetsAt old.pending new.pending (change_of txn change.at) (Some (one_more was.latest (kept_at old.pending (change_of txn change.at))))
      → ((q : ℕ) → running_at new q ≡ cond (nat_eq txn q) (Some (record { noted = was.noted || in_memory; latest = cond is_new (Some change.at) was.latest })) (running_at old q))
      → Tracks old was_begun has_ended was_noted changes
      → Tracks new was_begun has_ended (set_at txn (was_noted txn || in_memory) was_noted) (set_at txn (change ∷ changes txn) changes)
  Tracks_change old new change in_memory is_new was ended had new_is sets running h =
      let next : Running = record { noted = was.noted || in_memory; latest = cond is_new (Some change.at) was.latest } in
      let kept = kept_at old.pending (change_of txn change.at) in
      let here : running_at new txn ≡ Some next = running txn ∙ sets_here txn (Some next) (running_at old txn) in
      let apart : (q : ℕ) → nat_eq txn q ≡ false → running_at new q ≡ running_at old q = λ q e. running q ∙ cond-false (nat_eq txn q) (Some next) (running_at old q) e in
      let some : (q : ℕ) → is_some (running_at new q) ≡ is_some (running_at old q) =
      by_name (λ q. is_some (running_at new q) ≡ is_some (running_at old q)) txn (ap is_some here ∙ sym (ap is_some had)) (λ q e. ap is_some (apart q e)) in
      let others : (q : ℕ) → nat_eq txn q ≡ false → (p : Place) → kept_at new.pending (change_of q p) ≡ kept_at old.pending (change_of q p) =
      λ q e p. earlier_of_other old.pending new.pending (change_of txn change.at) (Some (one_more was.latest kept)) q sets e p in
      let at_place : (p : Place) → kept_at new.pending (change_of txn p) ≡ cond (same_place change.at p) (Some (one_more was.latest kept)) (kept_at old.pending (change_of txn p)) =
      kept_here old.pending new.pending txn change.at (Some (one_more was.latest kept)) sets in
      let note : was.noted ≡ was_noted txn = subst (λ (o : Option Running). IsNoted o (was_noted txn)) had (h.noted txn) in
      record {
        begun = λ q. h.begun q ∙ ap₂ (λ (b : Bool) (l : List ℕ). b || list_any (nat_eq q) l) (sym (some q)) (sym ended);
        running = λ q. some q ∙ h.running q;
        noted = by_name (λ q. IsNoted (running_at new q) (set_at txn (was_noted txn || in_memory) was_noted q)) txn
            (subst (λ (o : Option Running). IsNoted o (set_at txn (was_noted txn || in_memory) was_noted txn)) (sym here) (ap (λ (b : Bool). b || in_memory) note ∙ sym (set_at_here txn (was_noted txn || in_memory) was_noted)))
            (λ q e. subst (λ (b : Bool). IsNoted (running_at new q) b) (sym (set_at_apart txn (was_noted txn || in_memory) was_noted q e)) (subst (λ (o : Option Running). IsNoted o (was_noted q)) (sym (apart q e)) (h.noted q)));
        fresh = by_name (λ q. was_begun q ≡ false → (has_ended q ≡ false) × (set_at txn (was_noted txn || in_memory) was_noted q ≡ false)) txn
            (λ f. absurd (true≢false (sym (ap is_some had) ∙ h.running txn ∙ ap (λ (b : Bool). b && not (has_ended txn)) f)))
            (λ q e f. ((h.fresh q f).0, set_at_apart txn (was_noted txn || in_memory) was_noted q e ∙ (h.fresh q f).1));
        counts = by_name (λ q. (p : Place) → count_of (kept_at new.pending (change_of q p)) ≡ count_at p (set_at txn (change ∷ changes txn) changes q)) txn
            (λ p. ap count_of (at_place p) ∙ more_at change was.latest p kept refl (h.counts txn) ∙ sym (ap (count_at p) (set_at_here txn (change ∷ changes txn) changes)))
            (λ q e p. ap count_of (others q e p) ∙ h.counts q p ∙ sym (ap (count_at p) (set_at_apart txn (change ∷ changes txn) changes q e)));
        chains = by_name (λ q. HasChain (earlier_at new.pending q) (latest_of (running_at new q))) txn
            (subst (λ (o : Option Running). HasChain (earlier_at new.pending txn) (latest_of o)) (sym here)
            (chain_grown old.pending new.pending change.at was.latest is_new kept refl new_is at_place (subst (λ (o : Option Running). HasChain (earlier_at old.pending txn) (latest_of o)) had (h.chains txn))))
            (λ q e. chain_moved old.pending new.pending (running_at old q) (running_at new q) q (others q e) (ap latest_of (apart q e)) (h.chains q));
      }
    where
      more_at : (change : Played) (latest : Option Place) (p : Place) (kept : Option Pending) → kept ≡ kept_at old.pending (change_of txn change.at)
          → ((p : Place) → count_of (kept_at old.pending (change_of txn p)) ≡ count_at p (changes txn))
          → count_of (cond (same_place change.at p) (Some (one_more latest kept)) (kept_at old.pending (change_of txn p))) ≡ count_at p (change ∷ changes txn)
      more_at change latest p kept is counted = by_test (same_place change.at p) refl
        where
          more : (o : Option Pending) → (one_more latest o).count ≡ count_of o + 1
          more None = refl
          more (Some k) = refl

          by_test : (b : Bool) → same_place change.at p ≡ b → count_of (cond b (Some (one_more latest kept)) (kept_at old.pending (change_of txn p))) ≡ count_at p (change ∷ changes txn)
          by_test true e =
              let same : same_place p change.at ≡ true = place_sym p change.at ∙ e in
              let there : count_of kept ≡ count_at p (changes txn) =
              ap count_of is ∙ counted change.at ∙ ap (λ (x : Place). count_at x (changes txn)) (same_place_true change.at p e) in
              rw same (more kept ∙ ap (λ (n : ℕ). n + 1) there)
          by_test false e =
              let apart : same_place p change.at ≡ false = place_sym p change.at ∙ e in
              rw apart (counted p)

      chain_grown : (was_kept now_kept : List (Change × Pending)) (a : Place) (latest : Option Place) (is_new : Bool) (kept : Option Pending) → kept ≡ kept_at was_kept (change_of txn a) → is_new ≡ not (is_some kept)
          → ((p : Place) → kept_at now_kept (change_of txn p) ≡ cond (same_place a p) (Some (one_more latest kept)) (kept_at was_kept (change_of txn p)))
          → HasChain (earlier_at was_kept txn) latest → HasChain (earlier_at now_kept txn) (cond is_new (Some a) latest)
      chain_grown was_kept now_kept a latest is_new None is new_is at_place chain =
          subst (λ (b : Bool). HasChain (earlier_at now_kept txn) (cond b (Some a) latest)) (sym new_is)
          (HasChain_more (earlier_at was_kept txn) (earlier_at now_kept txn) latest a (ap earlier_of (sym is)) (λ p. ap earlier_of (at_place p) ∙ earlier_of_cond (same_place a p) (one_more latest None) (kept_at was_kept (change_of txn p))) chain)
      chain_grown was_kept now_kept a latest is_new (Some k) is new_is at_place chain =
          subst (λ (b : Bool). HasChain (earlier_at now_kept txn) (cond b (Some a) latest)) (sym new_is)
          (HasChain_same (earlier_at was_kept txn) (earlier_at now_kept txn) latest (λ p. ap earlier_of (at_place p) ∙ as_it_was p (same_place a p) refl) chain)
        where
          as_it_was : (p : Place) (b : Bool) → same_place a p ≡ b → earlier_of (cond b (Some (one_more latest (Some k))) (kept_at was_kept (change_of txn p))) ≡ earlier_at was_kept txn p
          as_it_was p true e = ap earlier_of is ∙ ap (λ (x : Place). earlier_at was_kept txn x) (same_place_true a p e)
          as_it_was p false e = refl

  -- the latest change at a place is struck
  pub Tracks_undo : (old new : Held) (a : Place) → new.ended ≡ old.ended → new.running ≡ old.running
      → SetsAt old.pending new.pending (change_of txn a) (one_less (kept_at old.pending (change_of txn a)))
      → Tracks old was_begun has_ended was_noted changes → Tracks new was_begun has_ended was_noted (set_at txn (struck a (changes txn)) changes)
  Tracks_undo old new a ended running sets h =
      let kept = kept_at old.pending (change_of txn a) in
      let same : (q : ℕ) → running_at new q ≡ running_at old q = λ q. ap (λ (l : List (ℕ × Running)). lookup (nat_eq q) l) running in
      let others : (q : ℕ) → nat_eq txn q ≡ false → (p : Place) → kept_at new.pending (change_of q p) ≡ kept_at old.pending (change_of q p) =
      λ q e p. earlier_of_other old.pending new.pending (change_of txn a) (one_less kept) q sets e p in
      let at_place : (p : Place) → kept_at new.pending (change_of txn p) ≡ cond (same_place a p) (one_less kept) (kept_at old.pending (change_of txn p)) =
      kept_here old.pending new.pending txn a (one_less kept) sets in
      record {
        begun = λ q. h.begun q ∙ ap₂ (λ (o : Option Running) (l : List ℕ). is_some o || list_any (nat_eq q) l) (sym (same q)) (sym ended);
        running = λ q. ap is_some (same q) ∙ h.running q;
        noted = λ q. subst (λ (o : Option Running). IsNoted o (was_noted q)) (sym (same q)) (h.noted q);
        fresh = h.fresh;
        counts = by_name (λ q. (p : Place) → count_of (kept_at new.pending (change_of q p)) ≡ count_at p (set_at txn (struck a (changes txn)) changes q)) txn
            (λ p. ap count_of (at_place p) ∙ less_at p (same_place a p) refl ∙ sym (count_at_struck a p (changes txn)) ∙ sym (ap (count_at p) (set_at_here txn (struck a (changes txn)) changes)))
            (λ q e p. ap count_of (others q e p) ∙ h.counts q p ∙ sym (ap (count_at p) (set_at_apart txn (struck a (changes txn)) changes q e)));
        chains = by_name (λ q. HasChain (earlier_at new.pending q) (latest_of (running_at new q))) txn
            (subst (λ (o : Option Running). HasChain (earlier_at new.pending txn) (latest_of o)) (sym (same txn))
            (HasChain_same (earlier_at old.pending txn) (earlier_at new.pending txn) (latest_of (running_at old txn)) (λ p. ap earlier_of (at_place p) ∙ as_it_was p (same_place a p) refl) (h.chains txn)))
            (λ q e. chain_moved old.pending new.pending (running_at old q) (running_at new q) q (others q e) (ap latest_of (same q)) (h.chains q));
      }
    where
      less : (o : Option Pending) → count_of (one_less o) ≡ count_of o - 1
      less None = refl
      less (Some k) = refl

      earlier_less : (o : Option Pending) → earlier_of (one_less o) ≡ earlier_of o
      earlier_less None = refl
      earlier_less (Some k) = refl

      less_at : (p : Place) (b : Bool) → same_place a p ≡ b → count_of (cond b (one_less (kept_at old.pending (change_of txn a))) (kept_at old.pending (change_of txn p))) ≡ cond (same_place a p) (count_at p (changes txn) - 1) (count_at p (changes txn))
      less_at p true e =
          less (kept_at old.pending (change_of txn a)) ∙ ap (λ (n : ℕ). n - 1) (h.counts txn a ∙ ap (λ (x : Place). count_at x (changes txn)) (same_place_true a p e))
          ∙ sym (cond-true (same_place a p) (count_at p (changes txn) - 1) (count_at p (changes txn)) e)
      less_at p false e = h.counts txn p ∙ sym (cond-false (same_place a p) (count_at p (changes txn) - 1) (count_at p (changes txn)) e)

      as_it_was : (p : Place) (b : Bool) → same_place a p ≡ b → earlier_of (cond b (one_less (kept_at old.pending (change_of txn a))) (kept_at old.pending (change_of txn p))) ≡ earlier_at old.pending txn p
      as_it_was p true e = earlier_less (kept_at old.pending (change_of txn a)) ∙ ap (λ (x : Place). earlier_at old.pending txn x) (same_place_true a p e)
      as_it_was p false e = refl

  -- a running transaction ends
  pub Tracks_end : (old new : Held) → ((q : ℕ) → is_ended new q ≡ cond (nat_eq txn q) true (is_ended old q))
      → ((q : ℕ) → running_at new q ≡ cond (nat_eq txn q) None (running_at old q))
      → ((c : Change) → kept_at new.pending c ≡ cond (nat_eq txn c.txn) None (kept_at old.pending c))
      → Tracks old was_begun has_ended was_noted changes → was_begun txn ≡ true
      → Tracks new was_begun (set_at txn true has_ended) was_noted (set_at txn [] changes)
  Tracks_end old new ended running kept h was =
      let here : running_at new txn ≡ None = running txn ∙ sets_here txn None (running_at old txn) in
      let apart : (q : ℕ) → nat_eq txn q ≡ false → running_at new q ≡ running_at old q = λ q e. running q ∙ cond-false (nat_eq txn q) None (running_at old q) e in
      let none : (p : Place) → kept_at new.pending (change_of txn p) ≡ None = λ p. kept (change_of txn p) ∙ sets_here txn None (kept_at old.pending (change_of txn p)) in
      let others : (q : ℕ) → nat_eq txn q ≡ false → (p : Place) → kept_at new.pending (change_of q p) ≡ kept_at old.pending (change_of q p) =
      λ q e p. kept (change_of q p) ∙ cond-false (nat_eq txn q) None (kept_at old.pending (change_of q p)) e in
      record {
        begun = by_name (λ q. was_begun q ≡ (is_some (running_at new q) || is_ended new q)) txn
            (was ∙ sym (ap₂ (λ (o : Option Running) (b : Bool). is_some o || b) here (ended txn ∙ sets_here txn true (is_ended old txn))))
            (λ q e. h.begun q ∙ ap₂ (λ (o : Option Running) (b : Bool). is_some o || b) (sym (apart q e)) (sym (ended q ∙ cond-false (nat_eq txn q) true (is_ended old q) e)));
        running = by_name (λ q. is_some (running_at new q) ≡ (was_begun q && not (set_at txn true has_ended q))) txn
            (ap is_some here ∙ sym (ap₂ (λ (b : Bool) (e : Bool). b && not e) was (set_at_here txn true has_ended)))
            (λ q e. ap is_some (apart q e) ∙ h.running q ∙ ap (λ (b : Bool). was_begun q && not b) (sym (set_at_apart txn true has_ended q e)));
        noted = by_name (λ q. IsNoted (running_at new q) (was_noted q)) txn
            (subst (λ (o : Option Running). IsNoted o (was_noted txn)) (sym here) tt)
            (λ q e. subst (λ (o : Option Running). IsNoted o (was_noted q)) (sym (apart q e)) (h.noted q));
        fresh = by_name (λ q. was_begun q ≡ false → (set_at txn true has_ended q ≡ false) × (was_noted q ≡ false)) txn
            (λ f. absurd (true≢false (sym was ∙ f)))
            (λ q e f. (set_at_apart txn true has_ended q e ∙ (h.fresh q f).0, (h.fresh q f).1));
        counts = by_name (λ q. (p : Place) → count_of (kept_at new.pending (change_of q p)) ≡ count_at p (set_at txn [] changes q)) txn
            (λ p. ap count_of (none p) ∙ sym (ap (count_at p) (set_at_here txn [] changes)))
            (λ q e p. ap count_of (others q e p) ∙ h.counts q p ∙ sym (ap (count_at p) (set_at_apart txn [] changes q e)));
        chains = by_name (λ q. HasChain (earlier_at new.pending q) (latest_of (running_at new q))) txn
            (subst (λ (o : Option Running). HasChain (earlier_at new.pending txn) (latest_of o)) (sym here) (HasChain_none (earlier_at new.pending txn) (λ p. ap earlier_of (none p))))
            (λ q e. chain_moved old.pending new.pending (running_at old q) (running_at new q) q (others q e) (ap latest_of (apart q e)) (h.chains q));
      }
