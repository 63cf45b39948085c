-- The shards of a core as a store of rows: it covers every SCN up to what is cut.
use Rattle.std.proofs.Common.{◌≡◌, ℕ, ◌<◌, ◌≤◌, true, length, Some, sym, subst, arith}
use Rattle.adg_base.specs.Address.{Place}
use Rattle.adg_base.specs.Shard.{shard_of_vector}
use Rattle.adg_base.specs.declared.log.LogEntry.{LogEntry}
use Rattle.adg_model.specs.Database.{rows_at}
use Rattle.row_blocks.specs.Stands.{IsSlot, is_own, StandsFor}
use Rattle.row_blocks.specs.Shard.{shown}
use Rattle.row_blocks.specs.Shards.{shards_in, kept_or, row_in, Serves}
use Rattle.row_blocks.proofs.Together.{shards_give_rows}
use Rattle.hybrid_scan.specs.Reader.{AreServing}
use Rattle.core_rules.specs.State.{CoreState, limit}
use Rattle.core_rules.proofs.Lists.{at_exists, each_from}
use Rattle.core_rules.proofs.CodeLaws.{cut_is_applied}
use Rattle.standby_core.specs.declared.standby.Core.{Core}
use Rattle.standby_core.specs.Parts.{ShowsShard}
use Rattle.standby_core.specs.Shows.{IsState}
use Rattle.standby_core.proofs.Each.{each_right}
use Rattle.standby_core.proofs.Shards.{own_shard}

module _ (core : Core) (c : CoreState) (q : ℕ) (h : IsState core c) (l : q ≤ limit c) where
  -- there are 64 of them
  pub store_count : length core.shards.items ≡ 64
  store_count =
      let count : length c.shards ≡ 64 = h.invariant.shards.count in
      let same : length core.shards.items ≡ length c.shards = h.shows.shards.same_length in
      omega arith

  -- and each serves the SCN
  pub store_serves : (n : ℕ) → n < 64 → Serves (shards_in core.shards.items n) n c.log 0 q
  store_serves n below =
      let count : length core.shards.items ≡ 64 = store_count in
      let x = at_exists core.shards.items n (omega arith) in
      let s = each_right (ShowsShard c.log) core.shards.items c.shards h.shows.shards n x.0 x.1 in
      let floor : s.0.floor ≡ 0 = h.invariant.shards.floor n s.0 s.1 in
      let applied : x.0.applied ≡ s.0.applied = s.2.applied in
      let is : Serves (shown x.0) n c.log 0 q = record {
        number = s.2.number;
        stands = subst (λ f. StandsFor (shown x.0) c.log f) floor s.2.stands;
        applied = each_from (λ (e : LogEntry). e.scn ≤ q → is_own x.0.number e ≡ true → e.pos < x.0.applied) c.log
            (λ e within upto own.
            let at : shard_of_vector e.vector ≡ Some n = subst (λ k. shard_of_vector e.vector ≡ Some k) s.2.number (own_shard x.0.number (shard_of_vector e.vector) own) in
            let cut : e.scn ≤ limit c = omega arith in
            let done : e.pos < s.0.applied = cut_is_applied c e n s.0 h.invariant within cut at s.1 in
            omega arith);
      } in
      subst (λ o. Serves (kept_or n o) n c.log 0 q) (sym x.1) is

  -- so their rows are the committed ones, and they are a store that covers the SCN
  pub store_rows : (a : Place) → IsSlot a → row_in (shards_in core.shards.items) q a ≡ rows_at c.log q a
  store_rows a slot = shards_give_rows c.log c.frontier 0 q h.invariant.log (omega arith) (shards_in core.shards.items) store_serves a slot

  pub store_covers : AreServing core.shards.items q
  store_covers = record {
    count = store_count;
    log = c.log;
    frontier = c.frontier;
    floor = 0;
    is_log = h.invariant.log;
    from_floor = omega arith;
    serve = store_serves;
    settled = λ n shard at. (each_right (ShowsShard c.log) core.shards.items c.shards h.shows.shards n shard at).2.settled;
  }
