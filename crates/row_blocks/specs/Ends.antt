-- The end that is kept for a transaction.
use Rattle.std.specs.Prelude.{ℕ, ◌==◌, ◌/◌, if◌then◌else◌, nat_eq, true, false, slice_index_or, Option, Some, None}
use Rattle.std.specs.HashMap as hash
use Rattle.row_blocks.specs.declared.version.End.{End}
use Rattle.row_blocks.specs.declared.ends.Near.{Near}
use Rattle.row_blocks.specs.declared.ends.Near.TheVariants.{Free, Committed, Aborted}
use Rattle.row_blocks.specs.declared.ends.Ends.{Ends}
use Rattle.row_blocks.specs.Versions.{earlier}

-- the end at a place of the list, if it is of the transaction
abbrev pub near_end : Near → ℕ → Option End
near_end Free t = None
near_end (Committed txn pos scn) t = if txn == t then Some (record { pos = pos; scn = scn; committed = true }) else None
near_end (Aborted txn pos scn) t = if txn == t then Some (record { pos = pos; scn = scn; committed = false }) else None

-- that of the list, else that of the map
abbrev pub end_at : Ends → ℕ → Option End
end_at ends t = earlier (near_end (slice_index_or ends.near.items (t / 64) Free) t) (hash.get nat_eq ends.far t)
