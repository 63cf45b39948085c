-- What the best version so far shows without its reference.
use Rattle.std.specs.Prelude.{ℕ, Bool, false, nat_lt, Option, Some, None}
use Rattle.row_blocks.specs.declared.pick.Best.{Best}
use Rattle.row_blocks.specs.Pick.{Candidate}

abbrev pub shown : Option Best → Option Candidate
shown None = None
shown (Some best) = Some (record { commit = best.commit; pos = best.pos; row = best.row.now })

-- there is one, and its transaction committed behind a position
abbrev pub commits_behind : ℕ → Option Candidate → Bool
commits_behind pos None = false
commits_behind pos (Some c) = nat_lt pos c.commit
