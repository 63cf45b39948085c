-- BeginFlush: the worklinks of what is cut, and why it can't happen.
use Rattle.std.proofs.Common.{◌≡◌, ℕ, zero, suc, ◌+◌, ◌*◌, ◌<◌, ◌≤◌, Bool, true, false, ◌&&◌, List, [], ◌∷◌, ◌++◌, map, filter, length, Some, None, Vec, Global, inr, refl, sym, ap, ap₂, ◌∙◌, subst, arith, true≢false, IsPermutation}
use Rattle.std.specs.Prelude.{count_by, nat_le, nat_lt}
use Rattle.std.specs.List.{AllByRecursion, list_all, flat_map}
use Rattle.std.proofs.lemmas.Bool.{le-leb, leb-true, lt-ltb, ltb-true, and_parts}
use Rattle.std.specs.Vec.{with_items}
use Rattle.std.proofs.lemmas.List.{length-map, with_items_is}
use Rattle.adg_base.specs.declared.node.Node.{Node}
use Rattle.adg_base.specs.declared.node.DdlNode.{DdlNode}
use Rattle.adg_base.specs.declared.node.Item.{Item}
use Rattle.worklinks.specs.declared.worklink.Worklink.{Worklink}
use Rattle.worklinks.specs.Chopped as own
use Rattle.core_rules.specs.declared.event.Event.TheVariants as event
use Rattle.core_rules.specs.declared.event.CoreAnswer.TheVariants.{Moved}
use Rattle.core_rules.specs.State.{CoreState, Worker, Quiesce, Link, At}
use Rattle.core_rules.specs.State as rules
use Rattle.core_rules.specs.Parts.{QuiesceIs}
use Rattle.core_rules.specs.Flush.{CanBeginFlush, BeginsFlush, AreFull, cut_worker, nodes_upto, unclaimed}
use Rattle.core_rules.proofs.Lists.{at_same, at_within, at_map_back, each_at, each_from, not_both, contains_at}
use Rattle.standby_core.specs.declared.link.Stage.TheVariants.{Unclaimed, Claimed}
use Rattle.standby_core.specs.declared.link.Link.{Link as OwnLink}
use Rattle.standby_core.specs.declared.flush.Flush.{Flush}
use Rattle.standby_core.specs.declared.flush.Quiesce.{Quiesce as OwnQuiesce}
use Rattle.standby_core.specs.declared.flush.Quiesce.TheVariants as keeper
use Rattle.standby_core.specs.declared.worker.Worker.{Worker as OwnWorker}
use Rattle.standby_core.specs.declared.standby.Core.{Core}
use Rattle.standby_core.specs.Each.{EachAt}
use Rattle.standby_core.specs.Links.{quiesce_shown, is_unclaimed, is_finished, IsReadyList, ShowsLink, AreNumbers, ShowsFlush}
use Rattle.standby_core.specs.Parts.{ShowsWorker}
use Rattle.standby_core.specs.Begin.{is_idle, has_come, ends_upto, without_ends, opened, AreLinksUpto}
use Rattle.standby_core.specs.Shows.{Shows, IsState, HasStepped}
use Rattle.standby_core.proofs.Each.{each_left, each_right}
use Rattle.standby_core.proofs.Claiming.{bit, count_cons}
use Rattle.standby_core.proofs.Kept.{with_workers, with_ddl, with_flush}

-- lists that are related place by place, mapped
each_map : {X Y X' Y' : Type 0} (R : ℕ → X → Y → Type 0) (S : ℕ → X' → Y' → Type 0) (f : X → X') (g : Y → Y') (xs : List X) (ys : List Y)
    → EachAt R xs ys → ((n : ℕ) (x : X) (y : Y) → R n x y → S n (f x) (g y)) → EachAt S (map f xs) (map g ys)
each_map R S f g xs ys h step = record {
  same_length = length-map xs f ∙ h.same_length ∙ sym (length-map ys g);
  each = λ n x y at_x at_y.
      let a = at_map_back f xs n x at_x in
      let b = at_map_back g ys n y at_y in
      rw (sym a.2, sym b.2) (step n a.0 b.0 (h.each n a.0 b.0 a.1 b.1));
}

each_flat : {X Y Z : Type 0} (f : X → List Z) (g : Y → List Z) (xs : List X) (ys : List Y) → length xs ≡ length ys
    → ((n : ℕ) (x : X) (y : Y) → At xs n x → At ys n y → f x ≡ g y) → flat_map f xs ≡ flat_map g ys
each_flat f g [] [] same each = refl
each_flat f g [] (y ∷ ys) same each = absurd (omega arith)
each_flat f g (x ∷ xs) [] same each = absurd (omega arith)
each_flat f g (x ∷ xs) (y ∷ ys) same each = ap₂ (λ (a b : List _). a ++ b) (each zero x y refl refl) (each_flat f g xs ys (omega arith) (λ n u v h k. each (suc n) u v h k))

flat_map_map : {X Z : Type 0} (f : X → List Z) (xs : List X) → flat_map (λ (part : List Z). part) (map f xs) ≡ flat_map f xs
flat_map_map f [] = refl
flat_map_map f (x ∷ xs) = ap (λ (rest : List _). f x ++ rest) (flat_map_map f xs)

count_none : {X : Type 0} (p : X → Bool) (xs : List X) → ((n : ℕ) (x : X) → At xs n x → p x ≡ false) → count_by p xs ≡ 0
count_none p [] each = refl
count_none p (x ∷ xs) each =
    let rest : count_by p xs ≡ 0 = count_none p xs (λ n y at. each (suc n) y at) in
    let count : count_by p (x ∷ xs) ≡ bit (p x) + count_by p xs = count_cons p x xs in
    let here : bit (p x) ≡ 0 = ap bit (each zero x refl) in
    omega arith

all_of : {X : Type 0} (p : X → Bool) (xs : List X) → ((n : ℕ) (x : X) → At xs n x → p x ≡ true) → list_all p xs ≡ true
all_of p [] each = refl
all_of p (x ∷ xs) each = ap₂ (λ (a b : Bool). a && b) (each zero x refl) (all_of p xs (λ n y at. each (suc n) y at))

all_at : {X : Type 0} (p : X → Bool) (xs : List X) → list_all p xs ≡ true → (n : ℕ) (x : X) → At xs n x → p x ≡ true
all_at p [] e n x at = let f : None ≡ Some x = at in absurd cc
all_at p (y ∷ ys) e zero x at = let f : Some y ≡ Some x = at in let k : y ≡ x = cc in ap p (sym k) ∙ (and_parts (p y) (list_all p ys) e).0
all_at p (y ∷ ys) e (suc n) x at = all_at p ys (and_parts (p y) (list_all p ys) e).1 n x at

-- what a slice that was written leaves of the workers
pub workers_left : (v : Vec OwnWorker Global) (through : ℕ) (from to : List OwnWorker) → from ≡ v.items → to ≡ map (without_ends through) from → (with_items v to).items ≡ map (without_ends through) v.items
workers_left v through from to f t =
    with_items_is v to (ap length t ∙ length-map from (without_ends through) ∙ ap length f ∙ sym v.ok.0) ∙ t ∙ ap (map (without_ends through)) f

-- the same of both crates
full_same : (parts : List (List Item)) → own.AreFull parts → AreFull parts
full_same [] h = tt
full_same (p ∷ []) h = h
full_same (p ∷ q ∷ more) h = (h.0, full_same (q ∷ more) h.1)

idle_shown : (x : OwnQuiesce) → is_idle x ≡ true → quiesce_shown x ≡ rules.Idle
idle_shown keeper.Idle e = refl
idle_shown (keeper.Shared n) e = absurd (true≢false (sym e))
idle_shown (keeper.Flushing t) e = absurd (true≢false (sym e))

idle_own : (x : OwnQuiesce) → quiesce_shown x ≡ rules.Idle → is_idle x ≡ true
idle_own keeper.Idle e = refl
idle_own (keeper.Shared n) e = absurd cc
idle_own (keeper.Flushing t) e = absurd cc

abbrev can_begin : Core → ℕ → Bool
can_begin core through = is_idle core.flush.quiesce && (nat_lt core.query through && list_all (has_come through) core.workers.items)

module _ (core : Core) (c : CoreState) (h : IsState core c) (through : ℕ) where
  shown : ShowsFlush core.worker_count core.flush c.quiesce c.links
  shown = h.shows.flush

  pub begin_barred : can_begin core through ≡ false → CanBeginFlush c through → ⊥
  begin_barred barred can = not_both (can_begin core through) holds barred
    where
      come : (n : ℕ) (x : OwnWorker) → At core.workers.items n x → has_come through x ≡ true
      come n x at =
          let right = each_right (ShowsWorker core.worker_count c.log) core.workers.items c.workers h.shows.workers n x at in
          let reached : through ≤ right.0.progress = each_at (λ (w : Worker). through ≤ w.progress) c.workers n right.0 can.reached right.1 in
          le-leb through x.progress (subst (λ p. through ≤ p) (sym right.2.progress) reached)

      holds : can_begin core through ≡ true
      holds =
          let above : nat_lt core.query through ≡ true = lt-ltb core.query through (subst (λ q. q < through) (sym h.shows.query) can.above) in
          ap₂ (λ (a b : Bool). a && b) (idle_own core.flush.quiesce (sym shown.quiesce ∙ can.idle)) (ap₂ (λ (a b : Bool). a && b) above (all_of (has_come through) core.workers.items come))

  module _ (holds : can_begin core through ≡ true) where
    idle : c.quiesce ≡ rules.Idle
    idle = shown.quiesce ∙ idle_shown core.flush.quiesce (and_parts (is_idle core.flush.quiesce) _ holds).0

    rest : (nat_lt core.query through && list_all (has_come through) core.workers.items) ≡ true
    rest = (and_parts (is_idle core.flush.quiesce) (nat_lt core.query through && list_all (has_come through) core.workers.items) holds).1

    can : CanBeginFlush c through
    can = record {
      idle = idle;
      above = subst (λ q. q < through) h.shows.query (ltb-true core.query through (and_parts (nat_lt core.query through) (list_all (has_come through) core.workers.items) rest).0);
      reached = each_from (λ (w : Worker). through ≤ w.progress) c.workers (λ w k.
          let at = contains_at c.workers w k in
          let own = each_left (ShowsWorker core.worker_count c.log) core.workers.items c.workers h.shows.workers at.0 w at.1 in
          let come : through ≤ own.0.progress = leb-true through own.0.progress (all_at (has_come through) core.workers.items (and_parts (nat_lt core.query through) (list_all (has_come through) core.workers.items) rest).1 at.0 own.0 own.1) in
          subst (λ p. through ≤ p) own.2.progress come);
    }

    no_links : c.links ≡ []
    no_links = (subst (λ q. QuiesceIs q c.query (rules.holders c.sessions) c.links) idle h.invariant.quiesce).1

    nodes_same : flat_map (ends_upto through) core.workers.items ≡ nodes_upto through c.workers
    nodes_same = each_flat (ends_upto through) (λ (w : Worker). filter (λ n. nat_le n.scn through) w.ends) core.workers.items c.workers h.shows.workers.same_length (λ n x w at_x at_w.
        ap (λ (ends : List Node). filter (λ n. nat_le n.scn through) ends) (h.shows.workers.each n x w at_x at_w).ends)

    module _ (ends : List Node) (ends_are : ends ≡ flat_map (ends_upto through) core.workers.items) (links : List OwnLink)
        (are : AreLinksUpto ends (filter (λ (n : DdlNode). nat_le n.scn through) core.ddl) core.worker_count links)
        (ws : Vec OwnWorker Global) (workers : ws.items ≡ map (without_ends through) core.workers.items)
        (ddl : List DdlNode) (ddl_is : ddl ≡ filter (λ (n : DdlNode). nat_lt through n.scn) core.ddl)
        (f : Flush) (quiesce : f.quiesce ≡ keeper.Flushing through) (links_are : f.links.items ≡ links) (claimed : f.claimed ≡ 0) (done : f.done ≡ 0) (held : f.held.items ≡ core.flush.held.items) where
      abbrev parts : List (List Item)
      parts = map (λ (w : Worklink). w.items) are.worklinks

      ddl_upto : List DdlNode
      ddl_upto = filter (λ (n : DdlNode). nat_le n.scn through) c.ddl

      own_links : f.links.items ≡ map opened are.worklinks
      own_links = links_are ∙ are.taken

      -- a worklink of both sides is the same
      shows_new : (n : ℕ) (x : OwnLink) (l : Link) → At (map opened are.worklinks) n x → At (map unclaimed parts) n l → ShowsLink core.worker_count x l
      shows_new n x l at_x at_l =
          let a = at_map_back opened are.worklinks n x at_x in
          let b = at_map_back unclaimed parts n l at_l in
          let d = at_map_back (λ (w : Worklink). w.items) are.worklinks n b.0 b.1 in
          let same : a.0 ≡ d.0 = at_same are.worklinks n a.0 d.0 a.1 d.1 in
          let items : b.0 ≡ a.0.items = sym d.2 ∙ ap (λ (w : Worklink). w.items) (sym same) in
          let ready : a.0.collected ≡ record { lists = []; room = length a.0.items * core.worker_count } = each_at (own.IsReady core.worker_count) are.worklinks n a.0 are.chopped.ready a.1 in
          rw (sym a.2, sym b.2) (shows_opened a.0 b.0 items ready)
        where
          shows_opened : (w : Worklink) (part : List Item) → part ≡ w.items → w.collected ≡ record { lists = []; room = length w.items * core.worker_count } → ShowsLink core.worker_count (opened w) (unclaimed part)
          shows_opened w part items ready = record {
            items = sym items;
            collected = [];
            stage = refl;
            gathered = λ t a change k. let below : k.within.0 < 0 = k.within.1 in absurd (omega arith);
            only = λ t a k. let below : k.within.0 < length w.collected.lists = k.within.1 in let none : length w.collected.lists ≡ 0 = ap (λ g. length g.lists) ready in absurd (omega arith);
            lists = subst (λ ls. AllByRecursion (IsReadyList w.items) ls) (sym (ap (λ g. g.lists) ready)) tt;
            room = ap (λ g. g.room) ready;
            few = ap (λ g. length g.lists) ready;
          }

      -- all are unclaimed
      fresh : (n : ℕ) (x : OwnLink) → At f.links.items n x → x.stage ≡ Unclaimed
      fresh n x at = let a = at_map_back opened are.worklinks n x (subst (λ ls. At ls n x) own_links at) in ap (λ (y : OwnLink). y.stage) (sym a.2)

      none_held : (a n : ℕ) → At core.flush.held.items a (Some n) → ⊥
      none_held a n at =
          let old = shown.numbers.holds a n at in
          let within : n < length core.flush.links.items = at_within core.flush.links.items n old.0 old.2 in
          let as_many : length core.flush.links.items ≡ length c.links = shown.links.same_length in
          let none : length c.links ≡ 0 = ap length no_links in
          absurd (omega arith)

      numbers : AreNumbers core.worker_count f
      numbers = record {
        claimed = λ n x at. ap is_unclaimed (fresh n x at) ∙ sym (le-leb 0 n (omega arith)) ∙ ap (λ k. nat_le k n) (sym claimed);
        within = omega (arith, claimed);
        done = done ∙ sym (count_none (λ (x : OwnLink). is_finished x.stage) f.links.items (λ n x at. ap is_finished (fresh n x at)));
        actors = ap length held ∙ shown.numbers.actors;
        held = λ a n cursor x at stage. let e : Unclaimed ≡ Claimed a cursor = sym (fresh n x at) ∙ stage in absurd cc;
        holds = λ a n at. absurd (none_held a n (subst (λ xs. At xs a (Some n)) held at));
      }

      links_shown : EachAt (λ n. ShowsLink core.worker_count) f.links.items (map unclaimed parts)
      links_shown = subst (λ ls. EachAt (λ n. ShowsLink core.worker_count) ls (map unclaimed parts)) (sym own_links) (record {
        same_length = length-map are.worklinks opened ∙ sym (length-map are.worklinks (λ (w : Worklink). w.items)) ∙ sym (length-map parts unclaimed);
        each = shows_new;
      })

      workers_shown : EachAt (ShowsWorker core.worker_count c.log) ws.items (map (cut_worker through) c.workers)
      workers_shown = subst (λ xs. EachAt (ShowsWorker core.worker_count c.log) xs (map (cut_worker through) c.workers)) (sym workers)
          (each_map (ShowsWorker core.worker_count c.log) (ShowsWorker core.worker_count c.log) (without_ends through) (cut_worker through) core.workers.items c.workers h.shows.workers (λ n x w s. record {
            share = s.share;
            applied = s.applied;
            mined = s.mined;
            progress = s.progress;
            area = s.area;
            is_area = s.is_area;
            ends = ap (λ (ends : List Node). filter (λ n. nat_lt through n.scn) ends) s.ends;
          }))

      begins : BeginsFlush c through (record c { workers = map (cut_worker through) c.workers; ddl = filter (λ (n : DdlNode). nat_lt through n.scn) c.ddl; quiesce = rules.Flushing through; links = map unclaimed parts })
      begins = record {
        can = can;
        nodes = are.nodes;
        order = are.order;
        same = subst (λ (ns : List Node). IsPermutation ns are.nodes) (ends_are ∙ nodes_same) are.same;
        parts = parts;
        chopped = record {
          whole = flat_map_map (λ (w : Worklink). w.items) are.worklinks ∙ are.chopped.items ∙ ap (λ (d : List DdlNode). own.flush_items are.nodes (filter (λ (n : DdlNode). nat_le n.scn through) d)) h.shows.ddl;
          full = full_same parts are.chopped.full;
        };
        effect = refl;
      }

      ddl_same : ddl ≡ filter (λ (n : DdlNode). nat_lt through n.scn) c.ddl
      ddl_same = ddl_is ∙ ap (λ (d : List DdlNode). filter (λ (n : DdlNode). nat_lt through n.scn) d) h.shows.ddl

      pub begin_moves : HasStepped (record core { workers = ws; ddl = ddl; flush = f }) c (event.BeginFlush through) Moved
      begin_moves = record {
        next = record c { workers = map (cut_worker through) c.workers; ddl = filter (λ (n : DdlNode). nat_lt through n.scn) c.ddl; quiesce = rules.Flushing through; links = map unclaimed parts };
        steps = inr (refl, begins);
        shows = subst (λ (d : List DdlNode). Shows (record core { workers = ws; ddl = ddl; flush = f }) (record c { workers = map (cut_worker through) c.workers; ddl = d; quiesce = rules.Flushing through; links = map unclaimed parts })) ddl_same
            (with_flush (record core { workers = ws; ddl = ddl }) (record c { workers = map (cut_worker through) c.workers; ddl = ddl }) f (rules.Flushing through) (map unclaimed parts)
            (with_ddl (record core { workers = ws }) (record c { workers = map (cut_worker through) c.workers }) ddl
            (with_workers core c ws (map (cut_worker through) c.workers) h.shows workers_shown (length-map c.workers (cut_worker through))))
            (record { quiesce = ap quiesce_shown (sym quiesce); links = links_shown; numbers = numbers }));
      }
