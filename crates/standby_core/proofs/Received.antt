-- Redo that continues the log goes into the shares, and the core shows the longer log.
use Rattle.std.proofs.Common.{◌≡◌, ℕ, ◌+◌, ◌<◌, ◌^◌, List, ◌++◌, length, length-append, refl, sym, ap, ◌∙◌, subst, arith, Vec, Global}
use Rattle.std.proofs.lemmas.List.Elements.{filter-append}
use Rattle.adg_base.specs.Shard.{shard_of_vector}
use Rattle.adg_base.specs.declared.log.LogEntry.{LogEntry}
use Rattle.adg_model.specs.Sound.{IsContinuation}
use Rattle.row_blocks.specs.declared.shard.Shard.{Shard as OwnShard}
use Rattle.row_blocks.specs.Shard.{shown}
use Rattle.row_blocks.proofs.Together.{stands_continued}
use Rattle.row_blocks.proofs.Settling.{settled_longer}
use Rattle.core_rules.specs.Share.{share, is_shared_by}
use Rattle.core_rules.specs.State.{CoreState, Worker, Shard, At}
use Rattle.core_rules.specs.Applying.{Receives}
use Rattle.core_rules.proofs.Whole.{receiving_keeps_invariant, receiving_keeps_precision}
use Rattle.standby_core.specs.declared.standby.Core.{Core}
use Rattle.standby_core.specs.declared.worker.Worker.{Worker as OwnWorker}
use Rattle.standby_core.specs.Parts.{ShowsWorker, ShowsShard}
use Rattle.standby_core.specs.Shows.{Shows, IsState}
use Rattle.standby_core.specs.Received.{HasReceived, GetsShare, AreDealt}
use Rattle.standby_core.proofs.Each.{each_left}

-- the share of a longer log
pub share_more : (workers worker : ℕ) (log entries : List LogEntry) → share workers worker (log ++ entries) ≡ share workers worker log ++ share workers worker entries
share_more workers worker log entries = filter-append (λ (e : LogEntry). is_shared_by workers worker (shard_of_vector e.vector)) log entries

pub receive_shows : (core : Core) (c : CoreState) (entries : List LogEntry) (frontier received : ℕ) (ws : Vec OwnWorker Global) → received < 2 ^ 64 → IsState core c
    → IsContinuation c.log c.frontier entries frontier → received ≡ core.received + length entries → AreDealt entries core.workers.items ws.items
    → HasReceived (record core { workers = ws; received = received; frontier = frontier }) c entries frontier
receive_shows core c entries frontier received ws few h continues count dealt = record {
  next = next;
  receives = receives;
  is = record { shows = shows; invariant = receiving_keeps_invariant c entries frontier next receives h.invariant };
  precise = receiving_keeps_precision c entries frontier next receives h.invariant;
}
  where
    next : CoreState
    next = record c { log = c.log ++ entries; frontier = frontier }

    receives : Receives c entries frontier next
    receives = record { continues = continues; effect = refl }

    workers : (n : ℕ) (y : OwnWorker) (w : Worker) → At ws.items n y → At c.workers n w → ShowsWorker core.worker_count (c.log ++ entries) n y w
    workers n y w at_y at_w =
        let x = each_left (GetsShare (length core.workers.items) entries) core.workers.items ws.items dealt n y at_y in
        let s : ShowsWorker core.worker_count c.log n x.0 w = h.shows.workers.each n x.0 w x.1 at_w in
        let many : length core.workers.items ≡ core.worker_count = h.shows.workers.same_length ∙ sym h.shows.worker_count in
        let got : y ≡ record x.0 { share = x.0.share ++ share (length core.workers.items) n entries } = x.2 in
        let own : x.0.share ++ share (length core.workers.items) n entries ≡ share core.worker_count n (c.log ++ entries) =
        ap (λ l. l ++ share (length core.workers.items) n entries) s.share ∙ ap (λ k. share core.worker_count n c.log ++ share k n entries) many ∙ sym (share_more core.worker_count n c.log entries) in
        subst (λ (z : OwnWorker). ShowsWorker core.worker_count (c.log ++ entries) n z w) (sym got)
        (record { share = own; applied = s.applied; mined = s.mined; progress = s.progress; area = s.area; is_area = s.is_area; ends = s.ends })

    shards : (n : ℕ) (x : OwnShard) (s : Shard) → At core.shards.items n x → At c.shards n s → ShowsShard (c.log ++ entries) n x s
    shards n x s at_x at_s =
        let k : ShowsShard c.log n x s = h.shows.shards.each n x s at_x at_s in
        let floor : s.floor ≡ 0 = h.invariant.shards.floor n s at_s in
        record { number = k.number; applied = k.applied; stands = stands_continued (shown x) c.log entries s.floor c.frontier frontier h.invariant.log continues (omega arith) k.stands; settled = settled_longer c.log entries x k.settled }

    shows : Shows (record core { workers = ws; received = received; frontier = frontier }) next
    shows = record {
      worker_count = h.shows.worker_count;
      session_count = h.shows.session_count;
      received = let r : core.received ≡ length c.log = h.shows.received in let l = length-append c.log entries in count ∙ ap (λ n. n + length entries) r ∙ sym l;
      fits = let r : core.received ≡ length c.log = h.shows.received in let l = length-append c.log entries in omega arith;
      frontier = refl;
      query = h.shows.query;
      born = h.shows.born;
      workers = record { same_length = sym dealt.same_length ∙ h.shows.workers.same_length; each = workers };
      shards = record { same_length = h.shows.shards.same_length; each = shards };
      ddl = h.shows.ddl;
      flush = h.shows.flush;
      units = h.shows.units;
      sessions = h.shows.sessions;
      ticket = h.shows.ticket;
    }
