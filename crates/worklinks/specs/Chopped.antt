-- The items of a flush, chopped into worklinks.
use Rattle.std.specs.Prelude.{◌≡◌, ℕ, ◌*◌, ◌≤◌, List, [], ◌∷◌, ◌++◌, length, map}
use Rattle.std.specs.List.{AllByRecursion, flat_map}
use Rattle.adg_base.specs.declared.node.Node.{Node}
use Rattle.adg_base.specs.declared.node.DdlNode.{DdlNode}
use Rattle.adg_base.specs.declared.node.Item.{Item}
use Rattle.adg_model.specs.Mined.{node_item, ddl_item}
use Rattle.worklinks.specs.declared.worklink.Worklink.{Worklink}

-- the items of a flush: one for each end of a transaction, and then one for each change of a definition
abbrev pub flush_items : List Node → List DdlNode → List Item
flush_items nodes ddl = map node_item nodes ++ map ddl_item ddl

-- all parts but the last have 64 items, and the last has 1 to 64
abbrev pub AreFull : List (List Item) → Type 0
AreFull [] = Unit {0}
AreFull (part ∷ []) = (1 ≤ length part) × (length part ≤ 64)
AreFull (part ∷ next ∷ later) = (length part ≡ 64) × AreFull (next ∷ later)

-- nothing is collected, and there is room for one list from each worker's area for each item
abbrev pub IsReady : ℕ → Worklink → Type 0
IsReady workers link = link.collected ≡ record { lists = []; room = length link.items * workers }

-- the worklinks of a flush: together they have its items in order, and each is ready
pub record AreChopped (nodes : List Node) (ddl : List DdlNode) (workers : ℕ) (links : List Worklink) : Type 0 where
  pub items : flat_map (λ link. link.items) links ≡ flush_items nodes ddl
  pub full : AreFull (map (λ link. link.items) links)
  pub ready : AllByRecursion (IsReady workers) links
