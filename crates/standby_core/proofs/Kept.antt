-- A core that shows a state still shows one where a part of both is another one.
use Rattle.std.proofs.Common.{◌≡◌, ℕ, List, Vec, Global, length, refl, sym, ◌∙◌}
use Rattle.adg_base.specs.declared.node.DdlNode.{DdlNode}
use Rattle.row_blocks.specs.declared.shard.Shard.{Shard as OwnShard}
use Rattle.column_units.specs.Shard as own
use Rattle.core_rules.specs.State.{CoreState, Worker, Shard, Quiesce, Link, Units, Session}
use Rattle.standby_core.specs.declared.standby.Core.{Core}
use Rattle.standby_core.specs.declared.worker.Worker.{Worker as OwnWorker}
use Rattle.standby_core.specs.declared.session.Session.{Session as OwnSession}
use Rattle.standby_core.specs.declared.flush.Flush.{Flush}
use Rattle.standby_core.specs.Each.{EachAt}
use Rattle.standby_core.specs.Links.{ShowsFlush}
use Rattle.standby_core.specs.Parts.{ShowsWorker, ShowsShard, ShowsUnits, ShowsSession}
use Rattle.standby_core.specs.Shows.{Shows}

-- other workers, as many
pub with_workers : (core : Core) (c : CoreState) (ws : Vec OwnWorker Global) (ws' : List Worker) → Shows core c → EachAt (ShowsWorker core.worker_count c.log) ws.items ws' → length ws' ≡ length c.workers → Shows (record core { workers = ws }) (record c { workers = ws' })
with_workers core c ws ws' h p0 p1 = record {
  worker_count = h.worker_count ∙ sym p1;
  session_count = h.session_count;
  received = h.received;
  fits = h.fits;
  frontier = h.frontier;
  query = h.query;
  born = h.born;
  workers = p0;
  shards = h.shards;
  ddl = h.ddl;
  flush = h.flush;
  units = h.units;
  sessions = h.sessions;
  ticket = h.ticket;
}

-- other shards of the row store
pub with_shards : (core : Core) (c : CoreState) (ss : Vec OwnShard Global) (ss' : List Shard) → Shows core c → EachAt (ShowsShard c.log) ss.items ss' → Shows (record core { shards = ss }) (record c { shards = ss' })
with_shards core c ss ss' h p0 = record {
  worker_count = h.worker_count;
  session_count = h.session_count;
  received = h.received;
  fits = h.fits;
  frontier = h.frontier;
  query = h.query;
  born = h.born;
  workers = h.workers;
  shards = p0;
  ddl = h.ddl;
  flush = h.flush;
  units = h.units;
  sessions = h.sessions;
  ticket = h.ticket;
}

-- another table of changes of definitions
pub with_ddl : (core : Core) (c : CoreState) (ddl : List DdlNode) → Shows core c → Shows (record core { ddl = ddl }) (record c { ddl = ddl })
with_ddl core c ddl h = record {
  worker_count = h.worker_count;
  session_count = h.session_count;
  received = h.received;
  fits = h.fits;
  frontier = h.frontier;
  query = h.query;
  born = h.born;
  workers = h.workers;
  shards = h.shards;
  ddl = refl;
  flush = h.flush;
  units = h.units;
  sessions = h.sessions;
  ticket = h.ticket;
}

-- another flush
pub with_flush : (core : Core) (c : CoreState) (f : Flush) (quiesce : Quiesce) (links : List Link) → Shows core c → ShowsFlush core.worker_count f quiesce links → Shows (record core { flush = f }) (record c { quiesce = quiesce; links = links })
with_flush core c f quiesce links h p0 = record {
  worker_count = h.worker_count;
  session_count = h.session_count;
  received = h.received;
  fits = h.fits;
  frontier = h.frontier;
  query = h.query;
  born = h.born;
  workers = h.workers;
  shards = h.shards;
  ddl = h.ddl;
  flush = p0;
  units = h.units;
  sessions = h.sessions;
  ticket = h.ticket;
}

-- other units
pub with_units : (core : Core) (c : CoreState) (us : Vec own.Units Global) (units : Units) → Shows core c → ShowsUnits us.items units → Shows (record core { units = us }) (record c { units = units })
with_units core c us units h p0 = record {
  worker_count = h.worker_count;
  session_count = h.session_count;
  received = h.received;
  fits = h.fits;
  frontier = h.frontier;
  query = h.query;
  born = h.born;
  workers = h.workers;
  shards = h.shards;
  ddl = h.ddl;
  flush = h.flush;
  units = p0;
  sessions = h.sessions;
  ticket = h.ticket;
}

-- other sessions, as many
pub with_sessions : (core : Core) (c : CoreState) (ss : Vec OwnSession Global) (ss' : List Session) → Shows core c → EachAt (λ n. ShowsSession) ss.items ss' → length ss' ≡ length c.sessions → Shows (record core { sessions = ss }) (record c { sessions = ss' })
with_sessions core c ss ss' h p0 p1 = record {
  worker_count = h.worker_count;
  session_count = h.session_count ∙ sym p1;
  received = h.received;
  fits = h.fits;
  frontier = h.frontier;
  query = h.query;
  born = h.born;
  workers = h.workers;
  shards = h.shards;
  ddl = h.ddl;
  flush = h.flush;
  units = h.units;
  sessions = p0;
  ticket = h.ticket;
}

-- another next ticket
pub with_ticket : (core : Core) (c : CoreState) (ticket : ℕ) → Shows core c → Shows (record core { ticket = ticket }) (record c { ticket = ticket })
with_ticket core c ticket h = record {
  worker_count = h.worker_count;
  session_count = h.session_count;
  received = h.received;
  fits = h.fits;
  frontier = h.frontier;
  query = h.query;
  born = h.born;
  workers = h.workers;
  shards = h.shards;
  ddl = h.ddl;
  flush = h.flush;
  units = h.units;
  sessions = h.sessions;
  ticket = refl;
}

-- another QuerySCN
pub with_query : (core : Core) (c : CoreState) (query : ℕ) → Shows core c → Shows (record core { query = query }) (record c { query = query })
with_query core c query h = record {
  worker_count = h.worker_count;
  session_count = h.session_count;
  received = h.received;
  fits = h.fits;
  frontier = h.frontier;
  query = refl;
  born = h.born;
  workers = h.workers;
  shards = h.shards;
  ddl = h.ddl;
  flush = h.flush;
  units = h.units;
  sessions = h.sessions;
  ticket = h.ticket;
}

-- another SCN of the last restart
pub with_born : (core : Core) (c : CoreState) (born : ℕ) → Shows core c → Shows (record core { born = born }) (record c { born = born })
with_born core c born h = record {
  worker_count = h.worker_count;
  session_count = h.session_count;
  received = h.received;
  fits = h.fits;
  frontier = h.frontier;
  query = h.query;
  born = refl;
  workers = h.workers;
  shards = h.shards;
  ddl = h.ddl;
  flush = h.flush;
  units = h.units;
  sessions = h.sessions;
  ticket = h.ticket;
}
