-- A worker mines the next entry that it has applied, and raises its progress.
use Rattle.std.proofs.Common.{◌≡◌, ℕ, suc, ◌+◌, ◌-◌, ◌<◌, ◌≤◌, get_or, is_lt, nat_cmp, Bool, true, false, cond, List, [], ◌∷◌, ◌++◌, length, take, drop, drop-cons, filter, Option, Some, None, inl, inr, refl, sym, ap, ◌∙◌, subst, arith, Vec, Global}
use Rattle.std.specs.Prelude.{slice_set, nat_le, nat_lt, option_to_list, MatchBool}
use Rattle.std.specs.List.{Contains, AllByRecursion}
use Rattle.std.specs.List.Sorted.{IsNonDecreasingBy}
use Rattle.std.proofs.lemmas.Grind.{common_steps}
use Rattle.std.proofs.lemmas.List.{length-drop, get_or-drop}
use Rattle.std.proofs.lemmas.Option.{get_or_from_slice_get}
use Rattle.std.proofs.lemmas.Bool.{leb-true, leb-false, le-ltb, lt-ltb, lt-leb}
use Rattle.std.proofs.lemmas.List.{length-set}
use Rattle.adg_base.specs.Area.{Held}
use Rattle.adg_base.specs.Shard.{shard_of_vector}
use Rattle.adg_base.specs.declared.log.LogEntry.{LogEntry}
use Rattle.adg_base.specs.declared.node.Node.{Node}
use Rattle.adg_base.specs.declared.node.DdlNode.{DdlNode}
use Rattle.adg_model.specs.declared.mined.Mined.{Mined}
use Rattle.adg_model.specs.declared.mined.Mined.TheVariants as mined
use Rattle.adg_model.specs.Mined.{mined_of}
use Rattle.adg_journal.specs.Area.{IsArea}
use Rattle.scn_queue.specs.Queue as queue
use Rattle.core_rules.specs.declared.event.Event.TheVariants as event
use Rattle.core_rules.specs.declared.event.CoreAnswer.TheVariants.{NotReady, Moved}
use Rattle.core_rules.specs.Share.{begun_above, nodes_of, node_of, is_shared_by}
use Rattle.core_rules.specs.State.{CoreState, Worker, At, share_of, limit}
use Rattle.core_rules.specs.Applying.{CanMine, CanRaise, mined_node, mined_ddl, entered, entered_if, end_kind}
use Rattle.core_rules.specs.Parts.{AreByScn}
use Rattle.core_rules.proofs.Lists.{at_same, at_within, at_contains, contains_at, at_take_back, each_from, has, has_filter_back, has_filter_map_back, contains, filter_order}
use Rattle.core_rules.proofs.Shares.{node_is, share_log}
use Rattle.core_rules.proofs.FactsOrder.{positions, rises}
use Rattle.core_rules.proofs.ExactWorkers.{area_with, area_takes}
use Rattle.standby_core.specs.declared.standby.Core.{Core}
use Rattle.standby_core.specs.declared.worker.Worker.{Worker as OwnWorker}
use Rattle.standby_core.specs.Each.{EachAt}
use Rattle.standby_core.specs.Held.{SameHeld}
use Rattle.standby_core.specs.Looks.{below_first, IsMinedThrough}
use Rattle.standby_core.specs.Mining.{node_noted, ddl_noted, IsBehind, TakesMined, StaysSame}
use Rattle.standby_core.specs.Parts.{ShowsWorker}
use Rattle.standby_core.specs.Shows.{Shows, IsState, HasStepped}
use Rattle.standby_core.proofs.Areas.{holds_same, same_held_trans, takes_same, begun_same}
use Rattle.standby_core.proofs.Applied.{worker_there, share_is}
use Rattle.standby_core.proofs.Each.{each_set, set_same}
use Rattle.standby_core.proofs.Kept.{with_workers, with_ddl}

-- a list none of which has an SCN up to one, and one all of which have SCNs above it
none_upto : (scn : ℕ) (ns : List DdlNode) → AllByRecursion (λ (m : DdlNode). scn < m.scn) ns → queue.upto (λ (n : DdlNode). n.scn) scn ns ≡ []
none_upto scn [] h = refl
none_upto scn (n ∷ ns) h = ap (λ (b : Bool). cond b (n ∷ queue.upto (λ (m : DdlNode). m.scn) scn ns) (queue.upto (λ (m : DdlNode). m.scn) scn ns)) (lt-leb n.scn scn h.0) ∙ none_upto scn ns h.1

all_above : (scn : ℕ) (ns : List DdlNode) → AllByRecursion (λ (m : DdlNode). scn < m.scn) ns → queue.above (λ (n : DdlNode). n.scn) scn ns ≡ ns
all_above scn [] h = refl
all_above scn (n ∷ ns) h =
    ap (λ (b : Bool). cond b (n ∷ queue.above (λ (m : DdlNode). m.scn) scn ns) (queue.above (λ (m : DdlNode). m.scn) scn ns)) (lt-ltb scn n.scn h.0) ∙ ap (λ l. n ∷ l) (all_above scn ns h.1)

from_first : (scn : ℕ) (n : DdlNode) (ns : List DdlNode) → scn < n.scn → AllByRecursion (λ (m : DdlNode). n.scn ≤ m.scn) ns → AllByRecursion (λ (m : DdlNode). scn < m.scn) ns
from_first scn n [] l h = tt
from_first scn n (m ∷ ms) l h = let k : n.scn ≤ m.scn = h.0 in (omega arith, from_first scn n ms l h.1)

-- in a list in the order of SCNs both ways to enter a node are one
pub entered_is : (n : DdlNode) (ns : List DdlNode) → AreByScn ns → queue.entered (λ (m : DdlNode). m.scn) n ns ≡ entered n ns
entered_is n [] h = refl
entered_is n (m ∷ ms) h = by (nat_le m.scn n.scn) refl (entered_is n ms h.1)
  where
    by : (b : Bool) → nat_le m.scn n.scn ≡ b → queue.entered (λ (k : DdlNode). k.scn) n ms ≡ entered n ms → queue.entered (λ (k : DdlNode). k.scn) n (m ∷ ms) ≡ cond b (m ∷ entered n ms) (n ∷ m ∷ ms)
    by true e ih =
        let l : m.scn ≤ n.scn = leb-true m.scn n.scn e in
        let low : queue.upto (λ (k : DdlNode). k.scn) n.scn (m ∷ ms) ≡ m ∷ queue.upto (λ (k : DdlNode). k.scn) n.scn ms =
        ap (λ (b : Bool). cond b (m ∷ queue.upto (λ (k : DdlNode). k.scn) n.scn ms) (queue.upto (λ (k : DdlNode). k.scn) n.scn ms)) e in
        let high : queue.above (λ (k : DdlNode). k.scn) n.scn (m ∷ ms) ≡ queue.above (λ (k : DdlNode). k.scn) n.scn ms =
        ap (λ (b : Bool). cond b (m ∷ queue.above (λ (k : DdlNode). k.scn) n.scn ms) (queue.above (λ (k : DdlNode). k.scn) n.scn ms)) (le-ltb n.scn m.scn l) in
        ap (λ l'. l' ++ n ∷ queue.above (λ (k : DdlNode). k.scn) n.scn (m ∷ ms)) low
        ∙ ap (λ l'. (m ∷ queue.upto (λ (k : DdlNode). k.scn) n.scn ms) ++ n ∷ l') high
        ∙ ap (λ l'. m ∷ l') ih
    by false e ih =
        let l : n.scn < m.scn = leb-false m.scn n.scn e in
        let rest = from_first n.scn m ms l h.0 in
        ap (λ l'. l' ++ n ∷ queue.above (λ (k : DdlNode). k.scn) n.scn (m ∷ ms)) (none_upto n.scn (m ∷ ms) (l, rest))
        ∙ ap (λ l'. n ∷ l') (all_above n.scn (m ∷ ms) (l, rest))

-- what was noted, on both sides
node_is_noted : (e : LogEntry) (xs ws : List Held) (what : Option Mined) → IsArea xs → SameHeld xs ws → node_noted e.scn e.pos xs what ≡ mined_node e ws what
node_is_noted e xs ws None is s = refl
node_is_noted e xs ws (Some (mined.Begin t)) is s = refl
node_is_noted e xs ws (Some (mined.Note t a)) is s = refl
node_is_noted e xs ws (Some (mined.Ddl o)) is s = refl
node_is_noted e xs ws (Some (mined.End t flag committed)) is s =
    ap (λ (b : Bool). Some (record { scn = e.scn; pos = e.pos; txn = t; complete = b; kind = end_kind flag committed })) (begun_same xs ws is s t)

ddl_is_noted : (e : LogEntry) (what : Option Mined) (ddl : List DdlNode) → AreByScn ddl → ddl_noted e.scn what ddl ≡ entered_if (mined_ddl e what) ddl
ddl_is_noted e None ddl h = refl
ddl_is_noted e (Some (mined.Begin t)) ddl h = refl
ddl_is_noted e (Some (mined.Note t a)) ddl h = refl
ddl_is_noted e (Some (mined.End t flag committed)) ddl h = refl
ddl_is_noted e (Some (mined.Ddl o)) ddl h = entered_is (record { scn = e.scn; obj = o }) ddl h

-- what is left of a list from a place on
drop_at : (xs : List LogEntry) (n : ℕ) (x : LogEntry) → At xs n x → drop n xs ≡ x ∷ drop (suc n) xs
drop_at xs n x h = drop-cons xs n x (at_within xs n x h) ∙ ap (λ z. z ∷ drop (suc n) xs) (get_or_from_slice_get xs n x x h)

drop_all : (xs : List LogEntry) (n : ℕ) → length xs ≤ n → drop n xs ≡ []
drop_all xs n l = none (drop n xs) (let d : length (drop n xs) ≡ length xs - n = length-drop n xs in omega arith)
  where
    none : (ys : List LogEntry) → length ys ≡ 0 → ys ≡ []
    none [] e = refl
    none (y ∷ ys) e = let k : suc (length ys) ≡ 0 = e in absurd (omega arith)

-- where SCNs do not fall the first of the rest tells whether all of it is above an SCN
rest_above : (through n : ℕ) (xs : List LogEntry) (x : LogEntry) → IsNonDecreasingBy (λ (e : LogEntry). e.scn) xs → At xs n x → through < x.scn → AllByRecursion (λ (e : LogEntry). through < e.scn) (drop n xs)
rest_above through n xs x rises at l = each_from (λ (e : LogEntry). through < e.scn) (drop n xs) each
  where
    each : (e : LogEntry) → Contains (drop n xs) e → through < e.scn
    each e k =
        let later : n + k.0 < length xs = let d : length (drop n xs) ≡ length xs - n = length-drop n xs in let w : k.0 < length (drop n xs) = k.1 in omega arith in
        let is : get_or xs (n + k.0) e ≡ e = sym (get_or-drop n xs k.0 e) ∙ k.2 in
        let first : get_or xs n e ≡ x = get_or_from_slice_get xs n x e at in
        let up : (get_or xs n e).scn ≤ (get_or xs (n + k.0) e).scn = rises n (n + k.0) e (omega arith) later in
        let a : (get_or xs n e).scn ≡ x.scn = ap (λ (z : LogEntry). z.scn) first in
        let b : (get_or xs (n + k.0) e).scn ≡ e.scn = ap (λ (z : LogEntry). z.scn) is in
        omega arith

pub first_tells : (through n : ℕ) (xs : List LogEntry) (x : LogEntry) → IsNonDecreasingBy (λ (e : LogEntry). e.scn) xs → At xs n x → (b : Bool) → b ≡ is_lt (nat_cmp through x.scn)
    → MatchBool b (AllByRecursion (λ (e : LogEntry). through < e.scn) (drop n xs)) (AllByRecursion (λ (e : LogEntry). through < e.scn) (drop n xs) → ⊥)
first_tells through n xs x rises at b is = by b is
  where
    by : (t : Bool) → t ≡ is_lt (nat_cmp through x.scn) → MatchBool t (AllByRecursion (λ (e : LogEntry). through < e.scn) (drop n xs)) (AllByRecursion (λ (e : LogEntry). through < e.scn) (drop n xs) → ⊥)
    by true e = rest_above through n xs x rises at (let l : through < x.scn = grind (arith, common_steps) in l)
    by false e = λ all.
        let first : AllByRecursion (λ (e : LogEntry). through < e.scn) (x ∷ drop (suc n) xs) = subst (AllByRecursion (λ (e : LogEntry). through < e.scn)) (drop_at xs n x at) all in
        let above : through < x.scn = first.0 in
        let below : x.scn ≤ through = grind (arith, common_steps) in
        absurd (omega arith)

module _ (core : Core) (c : CoreState) (h : IsState core c) where
  pub not_ready_mine : (worker : ℕ) → (CanMine c worker → ⊥) → HasStepped core c (event.Mine worker) NotReady
  not_ready_mine worker never = record { next = c; steps = inl (refl, never, refl); shows = h.shows }

  pub not_ready_raise : (worker through : ℕ) → (CanRaise c worker through → ⊥) → HasStepped core c (event.Raise worker through) NotReady
  not_ready_raise worker through never = record { next = c; steps = inl (refl, never, refl); shows = h.shows }

  module _ (worker : ℕ) (x : OwnWorker) (at : At core.workers.items worker x) where
    r : (w : Worker) × At c.workers worker w × ShowsWorker core.worker_count c.log worker x w
    r = worker_there core c h worker x at

    pub not_behind : x.applied ≤ x.mined → CanMine c worker → ⊥
    not_behind l can =
        let same : r.0 ≡ can.was = at_same c.workers worker r.0 can.was r.1 can.found in
        let a : x.applied ≡ can.was.applied = r.2.applied ∙ ap (λ (w : Worker). w.applied) same in
        let m : x.mined ≡ can.was.mined = r.2.mined ∙ ap (λ (w : Worker). w.mined) same in
        let b : can.was.mined < can.was.applied = can.behind in
        absurd (omega arith)

    -- what a call asks of the worker
    pub mined_left : x.mined < x.applied → x.mined < length x.share
    mined_left l =
        let a : x.applied ≡ r.0.applied = r.2.applied in
        let s : length x.share ≡ length (share_of c worker) = ap length (share_is core c h worker x r.0 r.2) in
        let w : r.0.applied ≤ length (share_of c worker) = (h.invariant.workers worker r.0 r.1).counts.within in
        omega arith

    pub mined_within : (e : LogEntry) → At x.share x.mined e → Contains c.log e
    mined_within e next = share_log (length c.workers) worker c.log e (at_contains (share_of c worker) x.mined e (subst (λ es. At es x.mined e) (share_is core c h worker x r.0 r.2) next))

    pub own_area : IsArea x.area
    own_area = r.2.is_area

    pub behind : (e : LogEntry) → At x.share x.mined e → IsBehind e.scn e.pos x.ends
    behind e next = each_from (λ (n : Node). (n.scn ≤ e.scn) × (n.pos < e.pos)) x.ends each
      where
        there : At (share_of c worker) r.0.mined e
        there = subst (λ n. At (share_of c worker) n e) r.2.mined (subst (λ es. At es x.mined e) (share_is core c h worker x r.0 r.2) next)

        ends : x.ends ≡ filter (λ (n : Node). nat_lt (limit c) n.scn) (nodes_of c.log c.born (take r.0.mined (share_of c worker)))
        ends = r.2.ends ∙ (h.invariant.workers worker r.0 r.1).partition

        each : (n : Node) → Contains x.ends n → (n.scn ≤ e.scn) × (n.pos < e.pos)
        each n k =
            let f = has_filter_back (λ (m : Node). nat_lt (limit c) m.scn) (nodes_of c.log c.born (take r.0.mined (share_of c worker))) n (has (filter (λ (m : Node). nat_lt (limit c) m.scn) (nodes_of c.log c.born (take r.0.mined (share_of c worker)))) n (subst (λ l. Contains l n) ends k)) in
            let g = has_filter_map_back (node_of (begun_above c.log c.born)) (take r.0.mined (share_of c worker)) n f.0 in
            let i = contains_at (take r.0.mined (share_of c worker)) g.0 (contains (take r.0.mined (share_of c worker)) g.0 g.1) in
            let j = at_take_back (share_of c worker) r.0.mined i.0 g.0 i.1 in
            let is = node_is (begun_above c.log c.born) g.0 n g.2 in
            let o = filter_order (λ (z : LogEntry). is_shared_by (length c.workers) worker (shard_of_vector z.vector)) c.log i.0 r.0.mined g.0 e j.1 j.0 there in
            let less : o.0 < o.1 = o.4 in
            let p : g.0.pos ≡ o.0 = positions c.log c.frontier h.invariant.log o.0 g.0 o.2 in
            let q : e.pos ≡ o.1 = positions c.log c.frontier h.invariant.log o.1 e o.3 in
            let s : g.0.scn ≤ e.scn = rises c.log c.frontier h.invariant.log o.0 o.1 g.0 e (omega arith) o.2 o.3 in
            let ns : n.scn ≡ g.0.scn = is.scn in
            let np : n.pos ≡ g.0.pos = is.pos in
            (omega arith, omega arith)

    -- where the entry is mined the core shows the state that the event makes
    module _ (e : LogEntry) (next : At x.share x.mined e) where
      pub mine_moves : (y : OwnWorker) (ddl : List DdlNode) (ws : Vec OwnWorker Global) → x.mined < x.applied
          → TakesMined e.scn e.pos (mined_of c.log e) (record x { mined = x.mined + 1 }) y core.ddl ddl
          → ws.items ≡ slice_set core.workers.items worker y → HasStepped (record core { workers = ws; ddl = ddl }) c (event.Mine worker) Moved
      mine_moves y ddl ws l takes ws_is = record {
        next = record c { workers = slice_set c.workers worker new_w; ddl = entered_if (mined_ddl e what) c.ddl };
        steps = inr (
          refl,
          record {
            was = r.0;
            found = r.1;
            behind = let a : x.applied ≡ r.0.applied = r.2.applied in let m : x.mined ≡ r.0.mined = r.2.mined in omega arith;
            entry = e;
            next = subst (λ n. At (share_of c worker) n e) r.2.mined (subst (λ es. At es x.mined e) (share_is core c h worker x r.0 r.2) next);
            area = area_with what r.0.area;
            noted = area_takes what r.0.area;
            effect = refl;
          },
        );
        shows = subst (λ d. Shows (record core { workers = ws; ddl = d }) (record c { workers = slice_set c.workers worker new_w; ddl = entered_if (mined_ddl e what) c.ddl })) (sym ddl_same)
            (with_ddl (record core { workers = ws }) (record c { workers = slice_set c.workers worker new_w }) (entered_if (mined_ddl e what) c.ddl)
            (with_workers core c ws (slice_set c.workers worker new_w) h.shows workers (length-set c.workers worker new_w)));
      }
        where
          what : Option Mined
          what = mined_of c.log e

          new_w : Worker
          new_w = record r.0 { mined = r.0.mined + 1; area = area_with what r.0.area; ends = r.0.ends ++ option_to_list (mined_node e r.0.area what) }

          ddl_same : ddl ≡ entered_if (mined_ddl e what) c.ddl
          ddl_same = takes.ddl ∙ ap (ddl_noted e.scn what) h.shows.ddl ∙ ddl_is_noted e what c.ddl h.invariant.ddl.order

          shows : ShowsWorker core.worker_count c.log worker y new_w
          shows = record {
            share = takes.share ∙ r.2.share;
            applied = takes.applied ∙ r.2.applied;
            mined = takes.mined ∙ ap (λ n. n + 1) r.2.mined;
            progress = takes.progress ∙ r.2.progress;
            area = takes_same what x.area y.area r.0.area (area_with what r.0.area) r.2.area takes.area (area_takes what r.0.area);
            is_area = takes.is_area;
            ends = takes.ends ∙ ap (λ ns. ns ++ option_to_list (node_noted e.scn e.pos x.area what)) r.2.ends
                ∙ ap (λ n. r.0.ends ++ option_to_list n) (node_is_noted e x.area r.0.area what r.2.is_area r.2.area);
          }

          workers : EachAt (ShowsWorker core.worker_count c.log) ws.items (slice_set c.workers worker new_w)
          workers = subst (λ k. EachAt (ShowsWorker core.worker_count c.log) k (slice_set c.workers worker new_w)) (sym ws_is)
              (each_set (ShowsWorker core.worker_count c.log) core.workers.items c.workers h.shows.workers worker y new_w shows)

    -- where memory is wanting the worker holds the same, and the core shows the same
    pub mine_stays : (y : OwnWorker) (ws : Vec OwnWorker Global) → StaysSame x y → ws.items ≡ slice_set core.workers.items worker y → Shows (record core { workers = ws }) c
    mine_stays y ws stays ws_is =
        subst (Shows (record core { workers = ws })) (ap (λ k. record c { workers = k }) (set_same c.workers worker r.0 r.1))
        (with_workers core c ws (slice_set c.workers worker r.0) h.shows workers (length-set c.workers worker r.0))
      where
        shows : ShowsWorker core.worker_count c.log worker y r.0
        shows = record {
          share = stays.share ∙ r.2.share;
          applied = stays.applied ∙ r.2.applied;
          mined = stays.mined ∙ r.2.mined;
          progress = stays.progress ∙ r.2.progress;
          area = same_held_trans y.area x.area r.0.area (holds_same x.area y.area r.2.is_area stays.is_area stays.area) r.2.area;
          is_area = stays.is_area;
          ends = stays.ends ∙ r.2.ends;
        }

        workers : EachAt (ShowsWorker core.worker_count c.log) ws.items (slice_set c.workers worker r.0)
        workers = subst (λ k. EachAt (ShowsWorker core.worker_count c.log) k (slice_set c.workers worker r.0)) (sym ws_is)
            (each_set (ShowsWorker core.worker_count c.log) core.workers.items c.workers h.shows.workers worker y r.0 shows)

    -- a worker whose progress can't be raised
    pub not_above : (through : ℕ) → through ≤ x.progress → CanRaise c worker through → ⊥
    not_above through l can =
        let same : r.0 ≡ can.was = at_same c.workers worker r.0 can.was r.1 can.found in
        let p : x.progress ≡ can.was.progress = r.2.progress ∙ ap (λ (w : Worker). w.progress) same in
        let a : can.was.progress < through = can.above in
        absurd (omega arith)

    pub not_received : (through : ℕ) → core.frontier < through → CanRaise c worker through → ⊥
    not_received through l can =
        let f : core.frontier ≡ c.frontier = h.shows.frontier in
        let a : through ≤ c.frontier = can.received in
        absurd (omega arith)

    own_rest : drop x.mined x.share ≡ drop r.0.mined (share_of c worker)
    own_rest = ap (λ n. drop n x.share) r.2.mined ∙ ap (drop r.0.mined) (share_is core c h worker x r.0 r.2)

    pub not_mined : (through : ℕ) → (AllByRecursion (λ (e : LogEntry). through < e.scn) (drop x.mined x.share) → ⊥) → CanRaise c worker through → ⊥
    not_mined through never can =
        let same : can.was ≡ r.0 = sym (at_same c.workers worker r.0 can.was r.1 can.found) in
        let all : AllByRecursion (λ (e : LogEntry). through < e.scn) (drop r.0.mined (share_of c worker)) =
        subst (λ (w : Worker). AllByRecursion (λ (e : LogEntry). through < e.scn) (drop w.mined (share_of c worker))) same can.mined in
        never (subst (AllByRecursion (λ (e : LogEntry). through < e.scn)) (sym own_rest) all)

    -- the SCNs of its share do not fall
    pub raise_moves : (through : ℕ) (ws : Vec OwnWorker Global) → x.progress < through → through ≤ core.frontier → AllByRecursion (λ (e : LogEntry). through < e.scn) (drop x.mined x.share)
        → ws.items ≡ slice_set core.workers.items worker (record x { progress = through }) → HasStepped (record core { workers = ws }) c (event.Raise worker through) Moved
    raise_moves through ws above received mined ws_is = record {
      next = record c { workers = slice_set c.workers worker new_w };
      steps = inr (
        refl,
        record {
          was = r.0;
          found = r.1;
          above = let p : x.progress ≡ r.0.progress = r.2.progress in omega arith;
          received = let f : core.frontier ≡ c.frontier = h.shows.frontier in omega arith;
          mined = subst (AllByRecursion (λ (e : LogEntry). through < e.scn)) own_rest mined;
          effect = refl;
        },
      );
      shows = with_workers core c ws (slice_set c.workers worker new_w) h.shows workers (length-set c.workers worker new_w);
    }
      where
        new_w : Worker
        new_w = record r.0 { progress = through }

        workers : EachAt (ShowsWorker core.worker_count c.log) ws.items (slice_set c.workers worker new_w)
        workers = subst (λ k. EachAt (ShowsWorker core.worker_count c.log) k (slice_set c.workers worker new_w)) (sym ws_is)
            (each_set (ShowsWorker core.worker_count c.log) core.workers.items c.workers h.shows.workers worker (record x { progress = through }) new_w
            (record { share = r.2.share; applied = r.2.applied; mined = r.2.mined; progress = refl; area = r.2.area; is_area = r.2.is_area; ends = r.2.ends }))

    -- how far its progress may be raised
    pub through_next : (e : LogEntry) → At x.share x.mined e → (scn : ℕ) → scn ≡ e.scn - 1 → IsMinedThrough c worker scn
    through_next e next scn is = record {
      was = r.0;
      found = r.1;
      is = is ∙ sym (ap (below_first c.frontier) (sym own_rest ∙ drop_at x.share x.mined e next));
    }

    pub through_all : length x.share ≤ x.mined → IsMinedThrough c worker core.frontier
    through_all l = record {
      was = r.0;
      found = r.1;
      is = h.shows.frontier ∙ sym (ap (below_first c.frontier) (sym own_rest ∙ drop_all x.share x.mined l));
    }
