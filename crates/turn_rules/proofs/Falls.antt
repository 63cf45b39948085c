-- Each act makes the measure fall.
use Rattle.std.proofs.Common.{◌≡◌, ℕ, ◌+◌, ◌-◌, ◌*◌, ◌<◌, ◌≤◌, Bool, true, false, cond, List, [], ◌∷◌, ◌++◌, length, map, filter, Option, Some, None, ◌⊎◌, inl, inr, refl, sym, ap, ◌∙◌, subst, arith, length-set}
use Rattle.std.specs.Prelude.{slice_set, nat_lt, nat_le, option_to_list}
use Rattle.std.specs.List.{flat_map}
use Rattle.std.proofs.lemmas.List.{length-append, length-map}
use Rattle.std.proofs.lemmas.List.Sorted.{length_permutation}
use Rattle.adg_base.specs.declared.node.Node.{Node}
use Rattle.adg_base.specs.declared.node.DdlNode.{DdlNode}
use Rattle.adg_base.specs.declared.node.Item.{Item}
use Rattle.adg_base.specs.declared.answer.Reply.{Reply}
use Rattle.adg_base.specs.declared.answer.Reply.TheVariants as reply
use Rattle.adg_model.specs.Mined.{mined_of, node_item, ddl_item}
use Rattle.core_rules.specs.declared.event.Event.{Event}
use Rattle.core_rules.specs.declared.event.Event.TheVariants as event
use Rattle.core_rules.specs.declared.event.CoreAnswer.TheVariants.{Moved}
use Rattle.core_rules.specs.State.{CoreState, Worker, Flushing, Stage, Claimed, Finished, Link, Session, Free, Populating, Scanning, At, share_of, limit, cut_through, holders}
use Rattle.core_rules.specs.Applying.{mined_node, mined_ddl, entered_if}
use Rattle.core_rules.specs.Flush.{BeginsFlush, Claims, Collects, Touches, Finishes, Publishes, cut_worker, nodes_upto, unclaimed}
use Rattle.core_rules.specs.Applying.{Applies, Mines, Raises}
use Rattle.core_rules.specs.Populations.{new_population, next_block, installed_then}
use Rattle.core_rules.specs.Scans.{new_scan, scan_then, scan_reply}
use Rattle.core_rules.specs.Step.{Happens}
use Rattle.core_rules.specs.LogFacts.{LogFacts}
use Rattle.core_rules.specs.Parts.{QuiesceIs}
use Rattle.core_rules.specs.Invariant.{Invariant}
use Rattle.core_rules.proofs.Whole.{log_has_facts}
use Rattle.core_rules.proofs.Lists.{at_within, at_set_same}
use Rattle.turn_rules.specs.Round.{Request, Seat, at_hand, Round}
use Rattle.turn_rules.specs.Picks.{Rests, act_at}
use Rattle.turn_rules.specs.Turns.{with_reply}
use Rattle.turn_rules.specs.Measure.{link_cost, links_cost, worker_cost, workers_cost, calm_cost, core_cost, most_acts, acts_done, seat_cost, seats_cost, measure}
use Rattle.turn_rules.specs.Standing.{RoundIs}
use Rattle.turn_rules.specs.Laws.{ActsLowerMeasure}
use Rattle.turn_rules.proofs.View.{IsOfCrew, SessionIs, Replied, Aborts, Refused, Populates, Registers, Releases, ReadsOn, EndsExtent, EndsPopulation, BeginsScan, Gathers, EndsScan, SeatsAre, AtSeat}
use Rattle.turn_rules.proofs.Viewed.{MoveIs, CrewMoves, SessionMoves, turns_move, rest_is, turns_are_these}
use Rattle.turn_rules.proofs.Kept.{crew_sessions}
use Rattle.turn_rules.proofs.Costs.{cost_at, cost_with, workers_set, links_set, mined_lengths, times_sum, times_less, cut_lengths, workers_cut, links_unclaimed, parts_within, calm_more, calm_less, session_set, seat_set}

-- numbers: one part of a sum falls
lower_worker : (ws new was now d l q s : ℕ) → new + was ≡ ws + now → now < was → new + d + l + q + s < ws + d + l + q + s
lower_worker ws new was now d l q s e h = omega arith

lower_link : (w d ls new was now q s : ℕ) → new + was ≡ ls + now → now < was → w + d + new + q + s < w + d + ls + q + s
lower_link w d ls new was now q s e h = omega arith

applied_less : (len a x y z : ℕ) → a < len → (len - (a + 1)) + x + y + z < (len - a) + x + y + z
applied_less len a x y z h = omega arith

raised_less : (x y f p t z : ℕ) → p < t → t ≤ f → x + y + (f - t) + z < x + y + (f - p) + z
raised_less x y f p t z h k = omega arith

mined_less : (a b b' p k kends kboth knode kddl kddl' n1 n34 : ℕ) → b' + n1 ≡ b → n1 ≡ n34 + 1 → kends + knode ≡ kboth → knode + kddl' ≤ kddl + n34
    → (ws new l q s : ℕ) → new + (a + b + p + kends) ≡ ws + (a + b' + p + kboth) → new + kddl' + l + q + s < ws + kddl + l + q + s
mined_less a b b' p k kends kboth knode kddl kddl' n1 n34 e f g h ws new l q s i = omega arith

begun_less : (old new cut ddl kept kcut links parts q : ℕ) → new + cut ≡ old → kept + kcut ≡ ddl → parts ≤ cut + kcut → new + kept + parts + q + 0 < old + ddl + links + q + 1
begun_less old new cut ddl kept kcut links parts q e f h = omega arith

published_less : (w d l f q t : ℕ) → q < t → t ≤ f → w + d + 0 + 2 * (f - t) + 1 < w + d + l + 2 * (f - q) + 0
published_less w d l f q t h k = omega arith

times_one : (k : ℕ) → k * 1 ≡ k
times_one k = omega arith

-- the cost of the new state, by what an event makes of the parts
cost_then : (c new x : CoreState) → new ≡ x → length x.workers ≡ length c.workers
    → core_cost new ≡ cost_at (length c.workers) x.workers x.log x.frontier x.ddl x.links x.query x.quiesce
cost_then c new x e l = ap core_cost e ∙ cost_with x (length c.workers) l

-- of the core, event by event
apply_falls : (c : CoreState) (worker : ℕ) (new : CoreState) → Applies c worker new → core_cost new < core_cost c
apply_falls c worker new r =
    let now : Worker = record r.was { applied = r.was.applied + 1 } in
    let left : r.was.applied < length (share_of c worker) = at_within (share_of c worker) r.was.applied r.entry r.next in
    subst (λ k. k < core_cost c) (sym (cost_then c new _ r.effect (length-set c.workers worker now)))
    (lower_worker (workers_cost (length c.workers) 0 c.log c.frontier c.workers) (workers_cost (length c.workers) 0 c.log c.frontier (slice_set c.workers worker now))
    (worker_cost (length c.workers) (length (share_of c worker)) c.frontier r.was) (worker_cost (length c.workers) (length (share_of c worker)) c.frontier now)
    ((length c.workers + 34) * length c.ddl) (links_cost (length c.workers) c.links) (2 * (c.frontier - c.query)) (calm_cost c.quiesce)
    (workers_set (length c.workers) c.log c.frontier c.workers worker r.was now r.found)
    (applied_less (length (share_of c worker)) r.was.applied ((length c.workers + 35) * (length (share_of c worker) - r.was.mined)) (c.frontier - r.was.progress) ((length c.workers + 34) * length r.was.ends) left))

raise_falls : (c : CoreState) (worker through : ℕ) (new : CoreState) → Raises c worker through new → core_cost new < core_cost c
raise_falls c worker through new r =
    let now : Worker = record r.was { progress = through } in
    subst (λ k. k < core_cost c) (sym (cost_then c new _ r.effect (length-set c.workers worker now)))
    (lower_worker (workers_cost (length c.workers) 0 c.log c.frontier c.workers) (workers_cost (length c.workers) 0 c.log c.frontier (slice_set c.workers worker now))
    (worker_cost (length c.workers) (length (share_of c worker)) c.frontier r.was) (worker_cost (length c.workers) (length (share_of c worker)) c.frontier now)
    ((length c.workers + 34) * length c.ddl) (links_cost (length c.workers) c.links) (2 * (c.frontier - c.query)) (calm_cost c.quiesce)
    (workers_set (length c.workers) c.log c.frontier c.workers worker r.was now r.found)
    (raised_less (length (share_of c worker) - r.was.applied) ((length c.workers + 35) * (length (share_of c worker) - r.was.mined)) c.frontier r.was.progress through ((length c.workers + 34) * length r.was.ends) r.above r.received))

mine_falls : (c : CoreState) (worker : ℕ) (new : CoreState) → Mines c worker new → core_cost new < core_cost c
mine_falls c worker new r =
    let n : ℕ = length c.workers in
    let len : ℕ = length (share_of c worker) in
    let node : List Node = option_to_list (mined_node r.entry r.was.area (mined_of c.log r.entry)) in
    let ddl : List DdlNode = entered_if (mined_ddl r.entry (mined_of c.log r.entry)) c.ddl in
    let now : Worker = record r.was { mined = r.was.mined + 1; area = r.area; ends = r.was.ends ++ node } in
    let left : r.was.mined < len = at_within (share_of c worker) r.was.mined r.entry r.next in
    let step : (len - (r.was.mined + 1)) + 1 ≡ len - r.was.mined = omega arith in
    let counts : (n + 34) * length node + (n + 34) * length ddl ≤ (n + 34) * length c.ddl + (n + 34) * 1 =
    times_less (n + 34) (length node) (length ddl) (length c.ddl) 1 (mined_lengths r.entry r.was.area (mined_of c.log r.entry) c.ddl) in
    let counts' : (n + 34) * length node + (n + 34) * length ddl ≤ (n + 34) * length c.ddl + (n + 34) =
    subst (λ k. (n + 34) * length node + (n + 34) * length ddl ≤ (n + 34) * length c.ddl + k) (times_one (n + 34)) counts in
    let mines : (n + 35) * (len - (r.was.mined + 1)) + (n + 35) ≡ (n + 35) * (len - r.was.mined) =
    ap (λ k. (n + 35) * (len - (r.was.mined + 1)) + k) (sym (times_one (n + 35))) ∙ times_sum (n + 35) (len - (r.was.mined + 1)) 1 (len - r.was.mined) step in
    let ends : (n + 34) * length r.was.ends + (n + 34) * length node ≡ (n + 34) * length (r.was.ends ++ node) =
    times_sum (n + 34) (length r.was.ends) (length node) (length (r.was.ends ++ node)) (sym (length-append r.was.ends node)) in
    subst (λ k. k < core_cost c) (sym (cost_then c new _ r.effect (length-set c.workers worker now)))
    (mined_less (len - r.was.applied) ((n + 35) * (len - r.was.mined)) ((n + 35) * (len - (r.was.mined + 1))) (c.frontier - r.was.progress) n
    ((n + 34) * length r.was.ends) ((n + 34) * length (r.was.ends ++ node)) ((n + 34) * length node) ((n + 34) * length c.ddl) ((n + 34) * length ddl) (n + 35) (n + 34)
    mines (omega arith) ends counts'
    (workers_cost n 0 c.log c.frontier c.workers) (workers_cost n 0 c.log c.frontier (slice_set c.workers worker now)) (links_cost n c.links) (2 * (c.frontier - c.query)) (calm_cost c.quiesce)
    (workers_set n c.log c.frontier c.workers worker r.was now r.found))

begin_flush_falls : (c : CoreState) (through : ℕ) (new : CoreState) → BeginsFlush c through new → core_cost new < core_cost c
begin_flush_falls c through new r =
    let n : ℕ = length c.workers in
    let kept : List DdlNode = filter (λ (d : DdlNode). nat_lt through d.scn) c.ddl in
    let cut : List DdlNode = filter (λ (d : DdlNode). nat_le d.scn through) c.ddl in
    let items : List Item = map node_item r.nodes ++ map ddl_item cut in
    let as_many : length r.parts ≤ length (flat_map (λ (p : List Item). p) r.parts) = parts_within r.parts r.chopped.full in
    let whole : length (flat_map (λ (p : List Item). p) r.parts) ≡ length items = ap length r.chopped.whole in
    let split : length items ≡ length (map node_item r.nodes) + length (map ddl_item cut) = length-append (map node_item r.nodes) (map ddl_item cut) in
    let nodes : length (map node_item r.nodes) ≡ length r.nodes = length-map r.nodes node_item in
    let same : length r.nodes ≡ length (nodes_upto through c.workers) = length_permutation (nodes_upto through c.workers) r.nodes r.same in
    let ddls : length (map ddl_item cut) ≡ length cut = length-map cut ddl_item in
    let few : length r.parts + 0 ≤ length (nodes_upto through c.workers) + length cut = omega arith in
    let cost : (n + 34) * length r.parts + (n + 34) * 0 ≤ (n + 34) * length (nodes_upto through c.workers) + (n + 34) * length cut = times_less (n + 34) (length r.parts) 0 (length (nodes_upto through c.workers)) (length cut) few in
    let links : links_cost n (map unclaimed r.parts) ≡ (n + 34) * length r.parts = links_unclaimed n r.parts in
    let calm : calm_cost c.quiesce ≡ 1 = ap calm_cost r.can.idle in
    let less : core_cost new < workers_cost n 0 c.log c.frontier c.workers + (n + 34) * length c.ddl + links_cost n c.links + 2 * (c.frontier - c.query) + 1 =
    subst (λ k. k < workers_cost n 0 c.log c.frontier c.workers + (n + 34) * length c.ddl + links_cost n c.links + 2 * (c.frontier - c.query) + 1)
    (sym (cost_then c new _ r.effect (length-map c.workers (cut_worker through))))
    (begun_less (workers_cost n 0 c.log c.frontier c.workers) (workers_cost n 0 c.log c.frontier (map (cut_worker through) c.workers)) ((n + 34) * length (nodes_upto through c.workers))
    ((n + 34) * length c.ddl) ((n + 34) * length kept) ((n + 34) * length cut) (links_cost n c.links) (links_cost n (map unclaimed r.parts)) (2 * (c.frontier - c.query))
    (workers_cut n 0 c.log c.frontier through c.workers)
    (times_sum (n + 34) (length kept) (length cut) (length c.ddl) (cut_lengths (λ (d : DdlNode). d.scn) through c.ddl))
    (omega arith)) in
    subst (λ k. core_cost new < workers_cost n 0 c.log c.frontier c.workers + (n + 34) * length c.ddl + links_cost n c.links + 2 * (c.frontier - c.query) + k) (sym calm) less

-- a worklink goes on to a stage that costs less
stage_falls : (c new : CoreState) (workers : List Worker) (number : ℕ) (link : Link) (stage : Stage) → length workers ≡ length c.workers
    → workers_cost (length c.workers) 0 c.log c.frontier workers ≡ workers_cost (length c.workers) 0 c.log c.frontier c.workers → At c.links number link
    → link_cost (length c.workers) stage < link_cost (length c.workers) link.stage
    → core_cost new ≡ cost_at (length c.workers) workers c.log c.frontier c.ddl (slice_set c.links number (record link { stage = stage })) c.query c.quiesce
    → core_cost new < core_cost c
stage_falls c new workers number link stage l same found less e =
    subst (λ k. k < core_cost c) (sym (e ∙ ap (λ w. w + (length c.workers + 34) * length c.ddl + links_cost (length c.workers) (slice_set c.links number (record link { stage = stage })) + 2 * (c.frontier - c.query) + calm_cost c.quiesce) same))
    (lower_link (workers_cost (length c.workers) 0 c.log c.frontier c.workers) ((length c.workers + 34) * length c.ddl) (links_cost (length c.workers) c.links)
    (links_cost (length c.workers) (slice_set c.links number (record link { stage = stage }))) (link_cost (length c.workers) link.stage) (link_cost (length c.workers) stage)
    (2 * (c.frontier - c.query)) (calm_cost c.quiesce)
    (links_set (length c.workers) c.links number link (record link { stage = stage }) found) less)

claim_falls : (c : CoreState) (actor : ℕ) (new : CoreState) → Claims c actor new → core_cost new < core_cost c
claim_falls c actor new r = stage_falls c new c.workers r.number r.link (Claimed actor 0 []) refl refl r.first.found
    (subst (λ s. length c.workers + 33 - 0 < link_cost (length c.workers) s) (sym r.first.is) (omega arith)) (cost_then c new _ r.effect refl)

collect_falls : (c : CoreState) (actor : ℕ) (new : CoreState) → Collects c actor new → core_cost new < core_cost c
collect_falls c actor new r =
    let now : Worker = record r.was { area = r.area } in
    let within : r.cursor < length c.workers = at_within c.workers r.cursor r.was r.at in
    stage_falls c new (slice_set c.workers r.cursor now) r.number r.link (Claimed actor (r.cursor + 1) r.more) (length-set c.workers r.cursor now)
    (same_cost (workers_cost (length c.workers) 0 c.log c.frontier (slice_set c.workers r.cursor now)) (workers_cost (length c.workers) 0 c.log c.frontier c.workers)
    (worker_cost (length c.workers) (length (share_of c r.cursor)) c.frontier r.was) (workers_set (length c.workers) c.log c.frontier c.workers r.cursor r.was now r.at))
    r.has.found
    (subst (λ s. length c.workers + 33 - (r.cursor + 1) < link_cost (length c.workers) s) (sym r.has.stage) (omega arith))
    (cost_then c new _ r.effect (length-set c.workers r.cursor now))
  where
    same_cost : (new old k : ℕ) → new + k ≡ old + k → new ≡ old
    same_cost new old k e = omega arith

touch_falls : (c : CoreState) (actor : ℕ) (new : CoreState) → Touches c actor new → core_cost new < core_cost c
touch_falls c actor new r =
    let at : r.cursor ≡ length c.workers + r.shard = r.at in
    let within : r.shard < 32 = r.is_shard in
    stage_falls c new c.workers r.number r.link (Claimed actor (r.cursor + 1) r.collected) refl refl r.has.found
    (subst (λ s. length c.workers + 33 - (r.cursor + 1) < link_cost (length c.workers) s) (sym r.has.stage) (omega arith)) (cost_then c new _ r.effect refl)

finish_falls : (c : CoreState) (actor : ℕ) (new : CoreState) → Finishes c actor new → core_cost new < core_cost c
finish_falls c actor new r =
    let end : r.cursor ≡ length c.workers + 32 = r.end in
    stage_falls c new c.workers r.number r.link Finished refl refl r.has.found
    (subst (λ s. 0 < link_cost (length c.workers) s) (sym r.has.stage) (omega arith)) (cost_then c new _ r.effect refl)

publish_falls : (c : CoreState) → Invariant c → (new : CoreState) → Publishes c new → core_cost new < core_cost c
publish_falls c v new r =
    let q : QuiesceIs (Flushing r.through) c.query (holders c.sessions) c.links = subst (λ x. QuiesceIs x c.query (holders c.sessions) c.links) r.flushing v.quiesce in
    let above : c.query < r.through = q.1 in
    let cut : limit c ≡ r.through = ap (cut_through c.query) r.flushing in
    let upto : limit c ≤ c.frontier = v.numbers.cut in
    let calm : calm_cost c.quiesce ≡ 0 = ap calm_cost r.flushing in
    let less : core_cost new < workers_cost (length c.workers) 0 c.log c.frontier c.workers + (length c.workers + 34) * length c.ddl + links_cost (length c.workers) c.links + 2 * (c.frontier - c.query) + 0 =
    subst (λ k. k < workers_cost (length c.workers) 0 c.log c.frontier c.workers + (length c.workers + 34) * length c.ddl + links_cost (length c.workers) c.links + 2 * (c.frontier - c.query) + 0)
    (sym (cost_then c new _ r.effect refl))
    (published_less (workers_cost (length c.workers) 0 c.log c.frontier c.workers) ((length c.workers + 34) * length c.ddl) (links_cost (length c.workers) c.links) c.frontier c.query r.through above (omega arith)) in
    subst (λ k. core_cost new < workers_cost (length c.workers) 0 c.log c.frontier c.workers + (length c.workers + 34) * length c.ddl + links_cost (length c.workers) c.links + 2 * (c.frontier - c.query) + k) (sym calm) less

crew_falls : (c : CoreState) → Invariant c → (e : Event) (new : CoreState) → IsOfCrew e → Happens c e Moved new → core_cost new < core_cost c
crew_falls c v (event.Apply worker) new i h = apply_falls c worker new h.1
crew_falls c v (event.Mine worker) new i h = mine_falls c worker new h.1
crew_falls c v (event.Raise worker through) new i h = raise_falls c worker through new h.1
crew_falls c v (event.BeginFlush through) new i h = begin_flush_falls c through new h.1
crew_falls c v (event.Claim actor) new i h = claim_falls c actor new h.1
crew_falls c v (event.Collect actor) new i h = collect_falls c actor new h.1
crew_falls c v (event.Touch actor) new i h = touch_falls c actor new h.1
crew_falls c v (event.Done actor) new i h = finish_falls c actor new h.1
crew_falls c v event.Publish new i h = publish_falls c v new h.1
crew_falls c v (event.PopBegin session obj) new i h = absurd i
crew_falls c v (event.PopRegister session) new i h = absurd i
crew_falls c v (event.PopRelease session) new i h = absurd i
crew_falls c v (event.PopRead session) new i h = absurd i
crew_falls c v (event.PopEnd session) new i h = absurd i
crew_falls c v (event.ScanBegin session select) new i h = absurd i
crew_falls c v (event.ScanExtent session) new i h = absurd i
crew_falls c v (event.ScanEnd session) new i h = absurd i
crew_falls c v event.Restart new i h = absurd i

-- No session has done more for a command than the bound says.
pub few_acts : (c : CoreState) → Invariant c → (place : ℕ) (s : Session) → At c.sessions place s → acts_done s < most_acts
few_acts c v place Free h = omega arith
few_acts c v place (Populating p) h =
    let is = v.populations place p h in
    let facts : LogFacts c.log c.frontier = log_has_facts c.log c.frontier v.log in
    let most : p.table.extents ≤ 256 = (facts.extents p.obj p.snapshot p.table is.defined).1 in
    by_holds p.holds (p.registered) (p.extent) (p.blocks) (p.table.extents) most is.registered is.extent is.blocks
  where
    by_holds : (b : Bool) (registered extent blocks extents : ℕ) → extents ≤ 256 → registered ≤ extents → extent < extents → blocks ≤ 16 → 1 + registered + cond b 0 1 + 17 * extent + blocks < 4610
    by_holds true registered extent blocks extents a b c d = omega arith
    by_holds false registered extent blocks extents a b c d = omega arith
few_acts c v place (Scanning s) h =
    let is = v.scans place s h in
    let facts : LogFacts c.log c.frontier = log_has_facts c.log c.frontier v.log in
    let most : s.table.extents ≤ 256 = (facts.extents s.select.obj s.scn s.table is.defined).1 in
    let within : s.extents ≤ s.table.extents = is.extents in
    omega arith

-- Sessions and seats: the session goes on, or is told a reply and is free.
goes_less : (seats : List Seat) (sessions : List Session) (place : ℕ) (seat : Seat) (was what : Session) → At seats place seat → At sessions place was → acts_done was < most_acts
    → acts_done was < acts_done what → seats_cost seats (slice_set sessions place what) < seats_cost seats sessions
goes_less seats sessions place seat was what h k few more =
    let set = session_set seats sessions place seat was what h k in
    sums (seats_cost seats (slice_set sessions place what)) (seats_cost seats sessions) (most_acts * (length seat.requests - length seat.replies)) (acts_done was) (acts_done what) set few more
  where
    sums : (new old l a b : ℕ) → new + (l + (4610 - a)) ≡ old + (l + (4610 - b)) → a < 4610 → a < b → new < old
    sums new old l a b e f g = omega arith

asked_within : (seat : Seat) (request : Request) → at_hand seat ≡ Some request → length seat.replies < length seat.requests
asked_within seat request h = at_within seat.requests (length seat.replies) request h

told_seat : (seat : Seat) (said : Reply) (request : Request) (was what : Session) → at_hand seat ≡ Some request → acts_done was < most_acts → seat_cost (with_reply said seat) what < seat_cost seat was
told_seat seat said request was what h few =
    let within : length seat.replies < length seat.requests = asked_within seat request h in
    let more : length (seat.replies ++ said ∷ []) ≡ length seat.replies + 1 = length-append seat.replies (said ∷ []) in
    sums (length seat.requests) (length seat.replies) (length (seat.replies ++ said ∷ [])) (acts_done was) (acts_done what) within more few
  where
    sums : (q r r' a b : ℕ) → r < q → r' ≡ r + 1 → a < 4610 → 4610 * (q - r') + (4610 - b) < 4610 * (q - r) + (4610 - a)
    sums q r r' a b e f g = omega arith

stays_less : (seats : List Seat) (sessions : List Session) (place : ℕ) (seat : Seat) (was : Session) (said : Reply) (request : Request) → At seats place seat → At sessions place was
    → at_hand seat ≡ Some request → acts_done was < most_acts → seats_cost (slice_set seats place (with_reply said seat)) sessions < seats_cost seats sessions
stays_less seats sessions place seat was said request h k asks few =
    let set = seat_set seats sessions place seat (with_reply said seat) was h k in
    let less = told_seat seat said request was was asks few in
    sums (seats_cost (slice_set seats place (with_reply said seat)) sessions) (seats_cost seats sessions) (seat_cost seat was) (seat_cost (with_reply said seat) was) set less
  where
    sums : (new old a b : ℕ) → new + a ≡ old + b → b < a → new < old
    sums new old a b e f = omega arith

frees_less : (seats : List Seat) (sessions : List Session) (place : ℕ) (seat : Seat) (was : Session) (said : Reply) (request : Request) → At seats place seat → At sessions place was
    → at_hand seat ≡ Some request → acts_done was < most_acts → seats_cost (slice_set seats place (with_reply said seat)) (slice_set sessions place Free) < seats_cost seats sessions
frees_less seats sessions place seat was said request h k asks few =
    let set = session_set seats sessions place seat was Free h k in
    let set' = seat_set seats (slice_set sessions place Free) place seat (with_reply said seat) Free h (at_set_same sessions place Free (at_within sessions place was k)) in
    let less = told_seat seat said request was Free asks few in
    sums (seats_cost (slice_set seats place (with_reply said seat)) (slice_set sessions place Free)) (seats_cost seats (slice_set sessions place Free)) (seats_cost seats sessions) (seat_cost seat was) (seat_cost seat Free) (seat_cost (with_reply said seat) Free) set set' less
  where
    sums : (new mid old a b d : ℕ) → mid + a ≡ old + b → new + b ≡ mid + d → d < a → new < old
    sums new mid old a b d e f g = omega arith

-- what is left of a round before and after
total_of : (r : Round) → r.aborted ≡ false → measure r ≡ 1 + core_cost r.core + seats_cost r.seats r.core.sessions
total_of r h = ap (λ b. cond b 0 (1 + core_cost r.core + seats_cost r.seats r.core.sessions)) h

falls_to : (r next : Round) (cost seats : ℕ) → r.aborted ≡ false → next.aborted ≡ false → core_cost next.core ≡ cost → seats_cost next.seats next.core.sessions ≡ seats
    → cost + seats < core_cost r.core + seats_cost r.seats r.core.sessions → measure next < measure r
falls_to r next cost seats a b e f less =
    let was : measure r ≡ 1 + core_cost r.core + seats_cost r.seats r.core.sessions = total_of r a in
    let now : measure next ≡ 1 + core_cost next.core + seats_cost next.seats next.core.sessions = total_of next b in
    omega arith

crew_total : (r next : Round) → RoundIs r → r.aborted ≡ false → (e : Event) → IsOfCrew e → Happens r.core e Moved next.core → next.seats ≡ r.seats → next.aborted ≡ false → measure next < measure r
crew_total r next is a e i h seats b =
    let less = crew_falls r.core is.core e next.core i h in
    falls_to r next (core_cost next.core) (seats_cost r.seats r.core.sessions) a b refl (ap (λ x. seats_cost x next.core.sessions) seats ∙ ap (seats_cost r.seats) (crew_sessions r.core e next.core i h)) (omega arith)

session_total : (r next : Round) (place : ℕ) (seat : Seat) (session : Session) (request : Request) (told : Option Reply) → RoundIs r → r.aborted ≡ false
    → AtSeat r next place seat session request told → SessionIs r.core place session request told next.aborted next.core → measure next < measure r
session_total r next place seat session request told is a at does = by_case does
  where
    few : acts_done session < most_acts
    few = few_acts r.core is.core place session at.does

    seats_none : told ≡ None → next.seats ≡ r.seats
    seats_none t = subst (λ o. SeatsAre place seat o r.seats next.seats) t at.seats

    seats_said : (said : Reply) → told ≡ Some said → next.seats ≡ slice_set r.seats place (with_reply said seat)
    seats_said said t = subst (λ o. SeatsAre place seat o r.seats next.seats) t at.seats

    goes_on : (what : Session) → told ≡ None → next.aborted ≡ false → core_cost next.core ≡ core_cost r.core → next.core.sessions ≡ slice_set r.core.sessions place what
        → acts_done session < acts_done what → measure next < measure r
    goes_on what t b cost sessions more =
        let less = goes_less r.seats r.core.sessions place seat session what at.seated at.does few more in
        falls_to r next (core_cost r.core) (seats_cost r.seats (slice_set r.core.sessions place what)) a b cost
        (ap (λ x. seats_cost x next.core.sessions) (seats_none t) ∙ ap (seats_cost r.seats) sessions) (omega arith)

    becomes_free : (said : Reply) → told ≡ Some said → next.aborted ≡ false → core_cost next.core ≡ core_cost r.core → next.core.sessions ≡ slice_set r.core.sessions place Free → measure next < measure r
    becomes_free said t b cost sessions =
        let less = frees_less r.seats r.core.sessions place seat session said request at.seated at.does at.asks few in
        falls_to r next (core_cost r.core) (seats_cost (slice_set r.seats place (with_reply said seat)) (slice_set r.core.sessions place Free)) a b cost
        (ap (λ x. seats_cost x next.core.sessions) (seats_said said t) ∙ ap (seats_cost (slice_set r.seats place (with_reply said seat))) sessions) (omega arith)

    stays : (said : Reply) → told ≡ Some said → next.aborted ≡ false → next.core ≡ r.core → measure next < measure r
    stays said t b same =
        let less = stays_less r.seats r.core.sessions place seat session said request at.seated at.does at.asks few in
        falls_to r next (core_cost r.core) (seats_cost (slice_set r.seats place (with_reply said seat)) r.core.sessions) a b (ap core_cost same)
        (ap (λ x. seats_cost x next.core.sessions) (seats_said said t) ∙ ap (λ (x : CoreState). seats_cost (slice_set r.seats place (with_reply said seat)) x.sessions) same) (omega arith)

    sessions_of : (x : CoreState) → next.core ≡ x → next.core.sessions ≡ x.sessions
    sessions_of x e = ap (λ (y : CoreState). y.sessions) e

    by_case : SessionIs r.core place session request told next.aborted next.core → measure next < measure r
    by_case (Replied said free alone t b same) = stays said t b same
    by_case (Refused said free refuses speaks t b same) = stays said t b same
    by_case (Aborts free asks t b same) =
        let was : measure r ≡ 1 + core_cost r.core + seats_cost r.seats r.core.sessions = total_of r a in
        let now : measure next ≡ 0 = ap (λ x. cond x 0 (1 + core_cost next.core + seats_cost next.seats next.core.sessions)) b in
        omega arith
    by_case (Populates obj free asks t b begins) =
        let none : acts_done session ≡ 0 = ap acts_done free in
        goes_on (Populating (new_population obj r.core.query begins.ticket begins.table)) t b
        (cost_then r.core next.core _ begins.effect refl ∙ ap (λ k. workers_cost (length r.core.workers) 0 r.core.log r.core.frontier r.core.workers + (length r.core.workers + 34) * length r.core.ddl + links_cost (length r.core.workers) r.core.links + 2 * (r.core.frontier - r.core.query) + k) (calm_more r.core.quiesce))
        (sessions_of _ begins.effect) (omega arith)
    by_case (Registers p is_p asks t b holds left effect) =
        let was : acts_done session ≡ acts_done (Populating p) = ap acts_done is_p in
        goes_on (Populating (record p { registered = p.registered + 1 })) t b (cost_then r.core next.core _ effect refl) (sessions_of _ effect) (omega arith)
    by_case (Releases p is_p asks t b holds all effect) =
        let was : acts_done session ≡ 1 + p.registered + cond p.holds 0 1 + 17 * p.extent + p.blocks = ap acts_done is_p in
        let none : cond {A = ℕ} p.holds 0 1 ≡ 0 = ap (λ x. cond {A = ℕ} x 0 1) holds in
        goes_on (Populating (record p { holds = false })) t b
        (cost_then r.core next.core _ effect refl ∙ ap (λ k. workers_cost (length r.core.workers) 0 r.core.log r.core.frontier r.core.workers + (length r.core.workers + 34) * length r.core.ddl + links_cost (length r.core.workers) r.core.links + 2 * (r.core.frontier - r.core.query) + k) (calm_less r.core.quiesce))
        (sessions_of _ effect) (omega arith)
    by_case (ReadsOn p is_p asks t b released left effect) =
        let was : acts_done session ≡ acts_done (Populating p) = ap acts_done is_p in
        goes_on (Populating (record p { blocks = p.blocks + 1; read = p.read ++ next_block r.core p })) t b (cost_then r.core next.core _ effect refl) (sessions_of _ effect) (omega arith)
    by_case (EndsExtent p is_p asks t b released whole more effect) =
        let was : acts_done session ≡ acts_done (Populating p) = ap acts_done is_p in
        let most : p.blocks ≤ 16 = (is.core.populations place p (subst (At r.core.sessions place) is_p at.does)).blocks in
        goes_on (Populating (record p { extent = p.extent + 1; blocks = 0; read = []; installed = installed_then p r.core.units })) t b (cost_then r.core next.core _ effect refl) (sessions_of _ effect) (omega arith)
    by_case (EndsPopulation p is_p asks t b released whole more speaks effect) =
        becomes_free (reply.Populated p.snapshot (installed_then p r.core.units)) t b (cost_then r.core next.core _ effect refl) (sessions_of _ effect)
    by_case (BeginsScan select table free asks t b defined columns types effect) =
        let none : acts_done session ≡ 0 = ap acts_done free in
        goes_on (Scanning (new_scan select r.core.query table)) t b (cost_then r.core next.core _ effect refl) (sessions_of _ effect) (omega arith)
    by_case (Gathers s is_s asks t b left effect) =
        let was : acts_done session ≡ acts_done (Scanning s) = ap acts_done is_s in
        goes_on (Scanning (scan_then r.core s)) t b (cost_then r.core next.core _ effect refl) (sessions_of _ effect) (omega arith)
    by_case (EndsScan s is_s asks t b whole speaks effect) = becomes_free (scan_reply s) t b (cost_then r.core next.core _ effect refl) (sessions_of _ effect)

pub acts_lower_measure : ActsLowerMeasure
acts_lower_measure schedule r move next is t = record {
  acts = λ d. by_move d (turns_move schedule r move next is t);
  rests = λ h. ap measure (rest_is schedule r move next t h).0;
}
  where
    unaborted : r.aborted ≡ false
    unaborted = (turns_are_these schedule r move next is t).0

    by_move : (act_at schedule r r.turns ≡ Rests → ⊥) → (act_at schedule r r.turns ≡ Rests) ⊎ MoveIs r next → measure next < measure r
    by_move d (inl h) = absurd (d h)
    by_move d (inr (CrewMoves e i h seats b)) = crew_total r next is unaborted e i h seats b
    by_move d (inr (SessionMoves place seat session request told at does)) = session_total r next place seat session request told is unaborted at does
