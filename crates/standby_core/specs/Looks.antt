-- What the looks at a core tell of the state that it shows.
use Rattle.std.specs.Prelude.{◌≡◌, ℕ, ◌-◌, List, [], ◌∷◌, drop}
use Rattle.adg_base.specs.declared.log.LogEntry.{LogEntry}
use Rattle.core_rules.specs.State.{CoreState, Worker, At, share_of}

-- the progress of a worker
pub record IsProgress (c : CoreState) (worker scn : ℕ) : Type 0 where
  pub was : Worker
  pub found : At c.workers worker was
  pub is : scn ≡ was.progress

-- the SCN below that of the first of some entries; another one where there is none
abbrev pub below_first : ℕ → List LogEntry → ℕ
below_first frontier [] = frontier
below_first frontier (e ∷ es) = e.scn - 1

-- how far a worker may raise its progress: below the next entry of its share that is not mined, to the frontier where
-- there is none
pub record IsMinedThrough (c : CoreState) (worker scn : ℕ) : Type 0 where
  pub was : Worker
  pub found : At c.workers worker was
  pub is : scn ≡ below_first c.frontier (drop was.mined (share_of c worker))
