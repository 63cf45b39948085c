-- A core whose shards know more of settled versions shows the same state.
use Rattle.std.specs.Vec.{with_items}
use Rattle.std.proofs.Common.{◌≡◌, ℕ, ◌<◌, List, length, sym, ap, ◌∙◌, subst, arith, Vec, Global}
use Rattle.std.proofs.lemmas.List.{with_items_is}
use Rattle.adg_base.specs.declared.log.LogEntry.{LogEntry}
use Rattle.row_blocks.specs.declared.shard.Shard.{Shard as OwnShard}
use Rattle.row_blocks.specs.Stands.{SameKept, StandsFor}
use Rattle.row_blocks.specs.Shard.{shown}
use Rattle.row_blocks.specs.Shards.{shards_in, kept_or, KeepSame}
use Rattle.row_blocks.specs.Settled.{AreEndsOf, AreEachSettled}
use Rattle.row_blocks.proofs.Settling.{ends_of_log}
use Rattle.core_rules.specs.State.{CoreState, Shard, At}
use Rattle.core_rules.proofs.Lists.{at_exists, at_within}
use Rattle.standby_core.specs.declared.standby.Core.{Core}
use Rattle.standby_core.specs.Parts.{ShowsShard}
use Rattle.standby_core.specs.Shows.{Shows, IsState}
use Rattle.standby_core.proofs.Each.{each_left, each_right}
use Rattle.standby_core.proofs.Kept.{with_shards}
use Rattle.standby_core.proofs.Shards.{same_stands}
use Rattle.standby_core.proofs.Applied.{shards_count}

pub settle_shows : (core : Core) (c : CoreState) (ss : Vec OwnShard Global) → IsState core c → length ss.items ≡ 64 → KeepSame (shards_in ss.items) (shards_in core.shards.items)
    → ((log : List LogEntry) → AreEndsOf log (shards_in core.shards.items) → AreEachSettled log core.shards.items → AreEachSettled log ss.items)
    → Shows (record core { shards = ss }) c
settle_shows core c ss h count keep settles = with_shards core c ss c.shards h.shows (record { same_length = long; each = each })
  where
    many : length core.shards.items ≡ 64
    many = shards_count core c h

    long : length ss.items ≡ length c.shards
    long = count ∙ sym many ∙ h.shows.shards.same_length

    stand : (n : ℕ) → n < 64 → (floor : ℕ) × ((shards_in core.shards.items n).number ≡ n) × StandsFor (shards_in core.shards.items n) c.log floor
    stand n below =
        let x = at_exists core.shards.items n (omega (arith, many)) in
        let s = each_right (ShowsShard c.log) core.shards.items c.shards h.shows.shards n x.0 x.1 in
        subst (λ o. (floor : ℕ) × ((kept_or n o).number ≡ n) × StandsFor (kept_or n o) c.log floor) (sym x.1) (s.0.floor, s.2.number, s.2.stands)

    settled : AreEachSettled c.log ss.items
    settled =
        settles c.log (ends_of_log c.log c.frontier h.invariant.log (shards_in core.shards.items) stand)
        (λ n x at. (each_right (ShowsShard c.log) core.shards.items c.shards h.shows.shards n x at).2.settled)

    each : (n : ℕ) (y : OwnShard) (s : Shard) → At ss.items n y → At c.shards n s → ShowsShard c.log n y s
    each n y s at_y at_s =
        let x = each_left (ShowsShard c.log) core.shards.items c.shards h.shows.shards n s at_s in
        let within : n < length ss.items = at_within ss.items n y at_y in
        let kept : SameKept (shards_in ss.items n) (shards_in core.shards.items n) = keep n (omega (arith, count)) in
        let same : SameKept (shown y) (shown x.0) =
        subst (λ o. SameKept (kept_or n o) (shown x.0)) at_y (subst (λ o. SameKept (shards_in ss.items n) (kept_or n o)) x.1 kept) in
        record {
          number = same.number ∙ x.2.number;
          applied = same.applied ∙ x.2.applied;
          stands = same_stands (shown x.0) (shown y) c.log s.floor same x.2.stands;
          settled = settled n y at_y;
        }

-- the same of shards that were lent
pub settle_left : (core : Core) (c : CoreState) (from to : List OwnShard) → IsState core c → from ≡ core.shards.items → length to ≡ 64 → KeepSame (shards_in to) (shards_in from)
    → ((log : List LogEntry) → AreEndsOf log (shards_in from) → AreEachSettled log from → AreEachSettled log to)
    → Shows (record core { shards = with_items core.shards to }) c
settle_left core c from to h lent count keep settles =
    settle_shows core c (with_items core.shards to) h (ap length items ∙ count)
    (subst (λ xs. KeepSame (shards_in xs) (shards_in core.shards.items)) (sym items) (subst (λ xs. KeepSame (shards_in to) (shards_in xs)) lent keep))
    (subst (λ xs. (log : List LogEntry) → AreEndsOf log (shards_in core.shards.items) → AreEachSettled log core.shards.items → AreEachSettled log xs) (sym items)
    (subst (λ xs. (log : List LogEntry) → AreEndsOf log (shards_in xs) → AreEachSettled log xs → AreEachSettled log to) lent settles))
  where
    items : (with_items core.shards to).items ≡ to
    items = with_items_is core.shards to (count ∙ sym (shards_count core c h) ∙ sym core.shards.ok.0)
