-- Units keep what holds of them where no more worklinks pass their places: at the begin of a flush, at Claim, at
-- Collect and at Done.
use Rattle.std.proofs.Common.{◌≡◌, ℕ, ◌+◌, ◌<◌, true, List, [], map, length, ◌⊎◌, inl, inr, sym, ap, ◌∙◌, subst, arith, true≢false}
use Rattle.std.specs.Prelude.{nat_lt, slice_set}
use Rattle.std.proofs.lemmas.Bool.{ltb-true, lt-ltb}
use Rattle.std.proofs.lemmas.List.{length-set}
use Rattle.adg_base.specs.Shard.{shard_of_unit}
use Rattle.adg_base.specs.declared.log.LogEntry.{LogEntry}
use Rattle.adg_base.specs.declared.node.Item.{Item}
use Rattle.core_rules.specs.State.{CoreState, Stage, Claimed, Finished, Link, ColumnUnit, At, is_past, has_txn, has_drop, PassesTxn, PassesDrop}
use Rattle.core_rules.specs.Flush.{BeginsFlush, Claims, Collects, Finishes, unclaimed}
use Rattle.core_rules.specs.UnitParts.{Counts, UnitIs}
use Rattle.core_rules.specs.Invariant.{unit_place, AllUnits}
use Rattle.core_rules.proofs.Keeps.{KeepsPart}
use Rattle.core_rules.proofs.Lists.{at_within, at_set_cases, at_map_back}

-- the worklinks with one at another stage
abbrev pub staged : List Link → ℕ → Link → Stage → List Link
staged links number link stage = slice_set links number (record link { stage = stage })

-- A worklink with an item of a transaction that passes a place where one has another stage passed it before, or is
-- this one.
pub txn_passes : (links : List Link) (number : ℕ) (link : Link) (stage : Stage) (place t : ℕ)
    → PassesTxn (staged links number link stage) place t
    → PassesTxn links place t ⊎ ((is_past place stage ≡ true) × (has_txn t link.items ≡ true))
txn_passes links number link stage place t p = by_place (at_set_cases links number p.number p.link (record link { stage = stage }) p.found)
  where
    by_place : ((p.number ≡ number) × (p.link ≡ record link { stage = stage })) ⊎ ((p.number ≡ number → ⊥) × At links p.number p.link)
        → PassesTxn links place t ⊎ ((is_past place stage ≡ true) × (has_txn t link.items ≡ true))
    by_place (inl e) = inr (subst (λ (l : Link). is_past place l.stage ≡ true) e.1 p.past, subst (λ (l : Link). has_txn t l.items ≡ true) e.1 p.of)
    by_place (inr e) = inl (record { number = p.number; link = p.link; found = e.1; past = p.past; of = p.of })

pub drop_passes : (links : List Link) (number : ℕ) (link : Link) (stage : Stage) (place obj : ℕ)
    → PassesDrop (staged links number link stage) place obj
    → PassesDrop links place obj ⊎ ((is_past place stage ≡ true) × (has_drop obj link.items ≡ true))
drop_passes links number link stage place obj p = by_place (at_set_cases links number p.number p.link (record link { stage = stage }) p.found)
  where
    by_place : ((p.number ≡ number) × (p.link ≡ record link { stage = stage })) ⊎ ((p.number ≡ number → ⊥) × At links p.number p.link)
        → PassesDrop links place obj ⊎ ((is_past place stage ≡ true) × (has_drop obj link.items ≡ true))
    by_place (inl e) = inr (subst (λ (l : Link). is_past place l.stage ≡ true) e.1 p.past, subst (λ (l : Link). has_drop obj l.items ≡ true) e.1 p.of)
    by_place (inr e) = inl (record { number = p.number; link = p.link; found = e.1; past = p.past; of = p.of })

-- Where a worklink passes no place more than before, the worklinks with it so pass none more.
pub txn_passed : (links : List Link) (number : ℕ) (link : Link) (stage : Stage) (place t : ℕ) → At links number link
    → (is_past place stage ≡ true → is_past place link.stage ≡ true)
    → PassesTxn (staged links number link stage) place t → PassesTxn links place t
txn_passed links number link stage place t found back p = either (txn_passes links number link stage place t p)
  where
    either : PassesTxn links place t ⊎ ((is_past place stage ≡ true) × (has_txn t link.items ≡ true)) → PassesTxn links place t
    either (inl q) = q
    either (inr q) = record { number = number; link = link; found = found; past = back q.0; of = q.1 }

pub drop_passed : (links : List Link) (number : ℕ) (link : Link) (stage : Stage) (place obj : ℕ) → At links number link
    → (is_past place stage ≡ true → is_past place link.stage ≡ true)
    → PassesDrop (staged links number link stage) place obj → PassesDrop links place obj
drop_passed links number link stage place obj found back p = either (drop_passes links number link stage place obj p)
  where
    either : PassesDrop links place obj ⊎ ((is_past place stage ≡ true) × (has_drop obj link.items ≡ true)) → PassesDrop links place obj
    either (inl q) = q
    either (inr q) = record { number = number; link = link; found = found; past = back q.0; of = q.1 }

-- A unit keeps what holds of it, at the same or another place, where no more worklinks pass it.
pub unit_kept : (log : List LogEntry) (query next : ℕ) (links more : List Link) (place moved obj extent : ℕ) (u : ColumnUnit)
    → ((t : ℕ) → PassesTxn more moved t → PassesTxn links place t) → (PassesDrop more moved obj → PassesDrop links place obj)
    → UnitIs log query next links place obj extent u → UnitIs log query next more moved obj extent u
unit_kept log query next links more place moved obj extent u txns drops is = record {
  snapshot = is.snapshot;
  ticket = is.ticket;
  built = is.built;
  covered = λ t scn commit above counts same. is.covered t scn commit above (before t scn counts) same;
  stands = record { same = is.stands.same; kept = λ p. is.stands.kept (drops p) };
}
  where
    before : (t scn : ℕ) → Counts query more moved t scn → Counts query links place t scn
    before t scn (inl l) = inl l
    before t scn (inr p) = inr (txns t p)

-- the same where a worklink has another stage, with which it passes the place only where it did before
pub unit_staged : (c : CoreState) (number : ℕ) (link : Link) (stage : Stage) (obj extent place : ℕ) (u : ColumnUnit) → At c.links number link
    → (is_past place stage ≡ true → is_past place link.stage ≡ true)
    → UnitIs c.log c.query c.ticket c.links place obj extent u
    → UnitIs c.log c.query c.ticket (staged c.links number link stage) place obj extent u
unit_staged c number link stage obj extent place u found back =
    unit_kept c.log c.query c.ticket c.links (staged c.links number link stage) place place obj extent u
    (λ t. txn_passed c.links number link stage place t found back) (drop_passed c.links number link stage place obj found back)

-- An unclaimed worklink passes no place.
none_pass : (parts : List (List Item)) (n place : ℕ) (l : Link) → At (map unclaimed parts) n l → is_past place l.stage ≡ true → ⊥
none_pass parts n place l found past =
    let p = at_map_back unclaimed parts n l found in
    true≢false (sym past ∙ ap (λ (k : Link). is_past place k.stage) (sym p.2))

pub begin_flush_units : (through : ℕ) → KeepsPart AllUnits (λ c new. BeginsFlush c through new)
begin_flush_units through facts c new r i = subst AllUnits (sym r.effect) (λ obj extent u h.
    unit_kept c.log c.query c.ticket c.links (map unclaimed r.parts) (unit_place c obj extent) _ obj extent u
    (λ t p. absurd (none_pass r.parts p.number _ p.link p.found p.past))
    (λ p. absurd (none_pass r.parts p.number _ p.link p.found p.past))
    (i.units obj extent u h))

pub claim_units : (actor : ℕ) → KeepsPart AllUnits (λ c new. Claims c actor new)
claim_units actor facts c new r i = subst AllUnits (sym r.effect) (λ obj extent u h.
    unit_staged c r.number r.link (Claimed actor 0 []) obj extent (unit_place c obj extent) u r.first.found
    (λ past. absurd (at_start (unit_place c obj extent) past))
    (i.units obj extent u h))
  where
    at_start : (place : ℕ) → nat_lt place 0 ≡ true → ⊥
    at_start place past = let l : place < 0 = ltb-true place 0 past in absurd (omega arith)

-- A cursor at an area is at no place of a unit shard.
pub collect_units : (actor : ℕ) → KeepsPart AllUnits (λ c new. Collects c actor new)
collect_units actor facts c new r i = subst AllUnits (sym r.effect) (λ obj extent u h.
    subst (λ (n : ℕ). UnitIs c.log c.query c.ticket (staged c.links r.number r.link (Claimed actor (r.cursor + 1) r.more)) (n + shard_of_unit obj extent) obj extent u)
    (sym (length-set c.workers r.cursor (record r.was { area = r.area })))
    (unit_staged c r.number r.link (Claimed actor (r.cursor + 1) r.more) obj extent (unit_place c obj extent) u r.has.found
    (λ past. absurd (behind (shard_of_unit obj extent) past))
    (i.units obj extent u h)))
  where
    behind : (shard : ℕ) → nat_lt (length c.workers + shard) (r.cursor + 1) ≡ true → ⊥
    behind shard past =
        let k : r.cursor < length c.workers = at_within c.workers r.cursor r.was r.at in
        let l : length c.workers + shard < r.cursor + 1 = ltb-true (length c.workers + shard) (r.cursor + 1) past in
        absurd (omega arith)

-- The shard of a unit is one of 32.
unit_shard_below : (obj extent : ℕ) → shard_of_unit obj extent < 32
unit_shard_below obj extent = omega arith

-- A cursor behind all places has passed them.
pub finish_units : (actor : ℕ) → KeepsPart AllUnits (λ c new. Finishes c actor new)
finish_units actor facts c new r i = subst AllUnits (sym r.effect) (λ obj extent u h.
    unit_staged c r.number r.link Finished obj extent (unit_place c obj extent) u r.has.found
    (λ past. passed (shard_of_unit obj extent) (unit_shard_below obj extent))
    (i.units obj extent u h))
  where
    passed : (shard : ℕ) → shard < 32 → is_past (length c.workers + shard) r.link.stage ≡ true
    passed shard low =
        let e : r.cursor ≡ length c.workers + 32 = r.end in
        let l : length c.workers + shard < r.cursor = omega arith in
        subst (λ (s : Stage). is_past (length c.workers + shard) s ≡ true) (sym r.has.stage) (lt-ltb (length c.workers + shard) r.cursor l)
