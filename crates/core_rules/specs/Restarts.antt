-- The event Restart.
use Rattle.std.specs.Prelude.{ℕ, List, [], length, map, replicate}
use Rattle.std.specs.List.{range_with_len}
use Rattle.adg_base.specs.declared.log.LogEntry.{LogEntry}
use Rattle.core_rules.specs.Share.{share, first_above}
use Rattle.core_rules.specs.State.{CoreState, Worker, Idle, Free, no_units}

-- a worker goes back to the first entry of its share with an SCN above the QuerySCN
abbrev pub rewound : (query : ℕ) → List LogEntry → Worker
rewound query entries = record {
  applied = first_above query entries;
  mined = first_above query entries;
  progress = query;
  area = [];
  ends = [];
}

abbrev pub rewound_workers : ℕ → List LogEntry → ℕ → List Worker
rewound_workers query log workers = map (λ w. rewound query (share workers w log)) (range_with_len 0 workers)

-- All that is kept beside the log and the row store is gone, and the QuerySCN is that of the last restart.
abbrev pub restarted : CoreState → CoreState
restarted c = record c {
  born = c.query;
  workers = rewound_workers c.query c.log (length c.workers);
  ddl = [];
  quiesce = Idle;
  links = [];
  units = no_units;
  sessions = replicate (length c.sessions) Free;
}
