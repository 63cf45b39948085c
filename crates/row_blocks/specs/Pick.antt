-- The row that is picked among versions: that of the one whose transaction committed last.
use Rattle.std.specs.Prelude.{ℕ, Bool, ◌==◌, nat_lt, nat_le, ◌&&◌, ◌||◌, if◌then◌else◌, List, [], ◌∷◌, map, Option, Some, None}
use Rattle.adg_base.specs.declared.value.Value.{Value}
use Rattle.row_blocks.specs.declared.version.Version.{Version}
use Rattle.row_blocks.specs.declared.version.End.{End}

-- of each transaction, by its number: the position of its commit, or None where it does not count
abbrev pub Commits : Type 0
Commits = ℕ → Option ℕ

-- an end counts at an SCN where it is a commit with an SCN up to it
abbrev pub counted : ℕ → Option End → Option ℕ
counted q None = None
counted q (Some e) = if e.committed && nat_le e.scn q then Some e.pos else None

-- a version that counts: where its transaction committed, its own position, and what it makes of the row
pub record Candidate : Type 0 where
  pub commit : ℕ
  pub pos : ℕ
  pub row : Option (List Value)

-- a version counts where its transaction does, unless it is struck
abbrev pub candidate : Version → Option ℕ → Option Candidate
candidate v None = None
candidate v (Some commit) = if v.struck then None else Some (record { commit = commit; pos = v.pos; row = v.row })

-- by the position of the commit, then by the own position
abbrev pub is_upto : Candidate → Candidate → Bool
is_upto x y = nat_lt x.commit y.commit || ((x.commit == y.commit) && nat_le x.pos y.pos)

-- the later of two, and the latest of some
abbrev pub later : Option Candidate → Option Candidate → Option Candidate
later None y = y
later (Some x) None = Some x
later (Some x) (Some y) = if is_upto x y then Some y else Some x

abbrev pub latest : List (Option Candidate) → Option Candidate
latest [] = None
latest (c ∷ cs) = later c (latest cs)

-- the row that it makes: none of none, and none where it removes the row
abbrev pub row_of : Option Candidate → Option (List Value)
row_of None = None
row_of (Some c) = c.row

-- the latest of some versions, and its row
abbrev pub latest_by : Commits → List Version → Option Candidate
latest_by commits versions = latest (map (λ v. candidate v (commits v.txn)) versions)

abbrev pub picked_by : Commits → List Version → Option (List Value)
picked_by commits versions = row_of (latest_by commits versions)

-- each version with the end of its transaction beside it
abbrev pub candidates : ℕ → List Version → List (Option End) → List (Option Candidate)
candidates q [] ends = []
candidates q (v ∷ vs) [] = []
candidates q (v ∷ vs) (e ∷ es) = candidate v (counted q e) ∷ candidates q vs es

abbrev pub picked : ℕ → List Version → List (Option End) → Option (List Value)
picked q versions ends = row_of (latest (candidates q versions ends))
