-- Where a worker goes on after a restart.
use Rattle.std.specs.Prelude.{ℕ, ◌+◌, nat_lt, if◌then◌else◌, List, [], ◌∷◌}
use Rattle.adg_base.specs.declared.log.LogEntry.{LogEntry}

-- the place of the first entry with an SCN above this one; the length where there is none
abbrev pub first_above : ℕ → List LogEntry → ℕ
first_above scn [] = 0
first_above scn (e ∷ es) = if nat_lt scn e.scn then 0 else first_above scn es + 1
