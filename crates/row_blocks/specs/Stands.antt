-- What a shard stands for.
use Rattle.std.specs.Prelude.{◌≡◌, ℕ, ◌+◌, ◌<◌, ◌≤◌, Bool, true, false, not, ◌==◌, nat_lt, ◌&&◌, List, [], ◌∷◌, ◌++◌, length, filter, Option, Some, None}
use Rattle.std.specs.List.{AllByRecursion}
use Rattle.adg_base.specs.Address.{Place}
use Rattle.adg_base.specs.Shard.{shard_of_block, shard_of_vector}
use Rattle.adg_base.specs.declared.log.LogEntry.{LogEntry}
use Rattle.adg_model.specs.Database.{rows_at}
use Rattle.row_blocks.specs.declared.version.Version.{Version}
use Rattle.row_blocks.specs.declared.version.End.{End}
use Rattle.row_blocks.specs.Pick.{picked_by}
use Rattle.row_blocks.specs.Versions.{deed_at, after_deed, versions_of, end_by, earlier, end_of, is_late}
use Rattle.row_blocks.specs.Law.{commits_at}
use Rattle.adg_model.specs.Sound.{IsLog}

-- what a shard keeps: the position that it has come to, the versions at each address, and the end of
-- each transaction
pub record Kept : Type 0 where
  pub number : ℕ
  pub applied : ℕ
  pub versions : Place → List Version
  pub ends : ℕ → Option End

-- whether an entry is one of a shard's own
abbrev pub same_shard : ℕ → Option ℕ → Bool
same_shard n None = false
same_shard n (Some shard) = shard == n

abbrev pub is_own : ℕ → LogEntry → Bool
is_own n e = same_shard n (shard_of_vector e.vector)

-- a shard's own entries below a position
abbrev pub own_below : ℕ → ℕ → List LogEntry → List LogEntry
own_below n pos log = filter (λ e. is_own n e && nat_lt e.pos pos) log

-- all its own entries up to an SCN are applied
abbrev pub HasApplied : Kept → List LogEntry → ℕ → Type 0
HasApplied kept log q = AllByRecursion (λ e. e.scn ≤ q → is_own kept.number e ≡ true → e.pos < kept.applied) log

-- a place that an address can name
abbrev pub IsSlot : Place → Type 0
IsSlot a = a.slot < 64

-- a version that is not struck and whose transaction has no end up to the floor
abbrev pub is_open : ℕ → List LogEntry → Version → Bool
is_open floor log v = not v.struck && is_late floor (end_of log v.txn)

-- A shard stands for the entries of a log and a floor. The entries up to the floor are applied. Its ends are
-- those that its own applied entries make. Its versions that are open at the floor are those that they make, in
-- their order. Of the others it need keep no more than what makes the committed row at the floor.
pub record StandsFor (kept : Kept) (log : List LogEntry) (floor : ℕ) : Type 0 where
  pub within : kept.applied ≤ length log
  pub reached : HasApplied kept log floor
  pub ends : (t : ℕ) → kept.ends t ≡ end_of (own_below kept.number kept.applied log) t
  pub open_versions : (a : Place) → IsSlot a
      → filter (is_open floor log) (kept.versions a) ≡ filter (is_open floor log) (versions_of (own_below kept.number kept.applied log) a)
  pub at_floor : (a : Place) → IsSlot a → shard_of_block a.obj a.block ≡ kept.number
      → picked_by (commits_at log floor) (kept.versions a) ≡ rows_at log floor a

-- Beside it, while nothing was dropped: its versions are exactly those that its own applied entries make.
pub record HoldsAll (kept : Kept) (log : List LogEntry) : Type 0 where
  pub within : kept.applied ≤ length log
  pub ends : (t : ℕ) → kept.ends t ≡ end_of (own_below kept.number kept.applied log) t
  pub versions : (a : Place) → IsSlot a → kept.versions a ≡ versions_of (own_below kept.number kept.applied log) a

-- the next of a shard's own entries: those before it are applied, and it is not
pub record IsNext (kept : Kept) (log : List LogEntry) (e : LogEntry) : Type 0 where
  pub before : List LogEntry
  pub rest : List LogEntry
  pub place : log ≡ before ++ e ∷ rest
  pub own : is_own kept.number e ≡ true
  pub done : AllByRecursion (λ x. is_own kept.number x ≡ true → x.pos < kept.applied) before
  pub new : kept.applied ≤ e.pos

-- what a shard keeps after one of its entries: what the entry makes of its versions and its ends,
abbrev pub with_entry : Kept → LogEntry → Kept
with_entry kept e = record {
  number = kept.number;
  applied = kept.applied;
  versions = λ a. after_deed (kept.versions a) e.pos (deed_at a e.vector);
  ends = λ t. earlier (kept.ends t) (end_by t e.pos e.scn e.vector);
}

-- and a position behind it
abbrev pub after_entry : Kept → LogEntry → Kept
after_entry kept e = record (with_entry kept e) { applied = e.pos + 1 }

-- the same in each part
pub record SameKept (x y : Kept) : Type 0 where
  pub number : x.number ≡ y.number
  pub applied : x.applied ≡ y.applied
  pub versions : (a : Place) → IsSlot a → x.versions a ≡ y.versions a
  pub ends : (t : ℕ) → x.ends t ≡ y.ends t

-- a shard that has applied nothing
abbrev pub none_kept : ℕ → Kept
none_kept n = record { number = n; applied = 0; versions = λ a. []; ends = λ t. None }

-- one entry of a shard more: if it stood for a log and the entry is its next one there, it stands for the log
-- still, and if it held all it still does
abbrev pub StandsForMore : Kept → LogEntry → Kept → Type 0
StandsForMore old e new =
    (log : List LogEntry) (frontier floor : ℕ) → IsLog log frontier → IsNext old log e
    → (StandsFor old log floor → StandsFor new log floor) × (HoldsAll old log → HoldsAll new log)

-- a shard has passed the first entries of a log: its own among them are applied, and no later ones
pub record HasPassed (kept : Kept) (first : List LogEntry) : Type 0 where
  pub applied : AllByRecursion (λ e. is_own kept.number e ≡ true → e.pos < kept.applied) first
  pub upto : kept.applied ≤ length first

-- a shard that has applied nothing stands for each log at the floor 0, and holds all
abbrev pub StandsFromStart : Kept → Type 0
StandsFromStart kept = (log : List LogEntry) (frontier : ℕ) → IsLog log frontier → StandsFor kept log 0 × HoldsAll kept log
