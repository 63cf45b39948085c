-- What the beginning of a flush takes out, and the worklinks that it makes of it.
use Rattle.std.specs.Prelude.{◌≡◌, ℕ, Bool, true, false, nat_le, nat_lt, List, filter, map}
use Rattle.std.specs.List.Sorted.{IsPermutation, IsNonDecreasingBy}
use Rattle.adg_base.specs.declared.node.Node.{Node}
use Rattle.adg_base.specs.declared.node.DdlNode.{DdlNode}
use Rattle.worklinks.specs.declared.worklink.Worklink.{Worklink}
use Rattle.worklinks.specs.Chopped.{AreChopped}
use Rattle.standby_core.specs.declared.flush.Quiesce.{Quiesce}
use Rattle.standby_core.specs.declared.flush.Quiesce.TheVariants.{Idle, Shared, Flushing}
use Rattle.standby_core.specs.declared.link.Stage.TheVariants.{Unclaimed}
use Rattle.standby_core.specs.declared.link.Link.{Link}
use Rattle.standby_core.specs.declared.worker.Worker.{Worker}

-- nobody keeps publication back
abbrev pub is_idle : Quiesce → Bool
is_idle Idle = true
is_idle (Shared n) = false
is_idle (Flushing through) = false

-- a worker has come to an SCN
abbrev pub has_come : ℕ → Worker → Bool
has_come through w = nat_le through w.progress

-- the ends of a worker with SCNs up to one, and the worker without them
abbrev pub ends_upto : ℕ → Worker → List Node
ends_upto through w = filter (λ n. nat_le n.scn through) w.ends

abbrev pub without_ends : ℕ → Worker → Worker
without_ends through w = record w { ends = filter (λ n. nat_lt through n.scn) w.ends }

-- a worklink that nobody has
abbrev pub opened : Worklink → Link
opened w = record { items = w.items; collected = w.collected; stage = Unclaimed }

-- the worklinks of some ends, put in the order of their positions, and of some changes of definitions
pub record AreLinksUpto (ends : List Node) (ddl : List DdlNode) (workers : ℕ) (links : List Link) : Type 0 where
  pub nodes : List Node
  pub order : IsNonDecreasingBy (λ n. n.pos) nodes
  pub same : IsPermutation ends nodes
  pub worklinks : List Worklink
  pub chopped : AreChopped nodes ddl workers worklinks
  pub taken : links ≡ map opened worklinks
