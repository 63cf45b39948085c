-- What a restart leaves of a worker, and of a shard of units.
use Rattle.std.specs.Prelude.{◌≡◌, ℕ, [], None}
use Rattle.std.specs.List.Sorted.{IsNonDecreasingBy}
use Rattle.adg_base.specs.declared.log.LogEntry.{LogEntry}
use Rattle.column_units.specs.Shard as own
use Rattle.restart_rules.specs.Rewind.{first_above}
use Rattle.standby_core.specs.declared.worker.Worker.{Worker}

-- the SCNs of a worker's share do not fall
abbrev pub DoNotFall : Worker → Type 0
DoNotFall w = IsNonDecreasingBy (λ (e : LogEntry). e.scn) w.share

-- a worker back at the first entry above an SCN, with nothing noted
abbrev pub rewound : ℕ → Worker → Worker
rewound query w = record w {
  applied = first_above query w.share;
  mined = first_above query w.share;
  progress = query;
  area = [];
  ends = [];
}

-- a worker goes back
abbrev pub GoesBack : ℕ → Worker → Worker → Type 0
GoesBack query old new = DoNotFall old → new ≡ rewound query old

-- a shard of the same number has no unit
pub record IsEmptied (old new : own.Units) : Type 0 where
  pub number : new.number ≡ old.number
  pub empty : (obj extent : ℕ) → own.unit_at new obj extent ≡ None
