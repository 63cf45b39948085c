-- The order of the ends of transactions in a commit table.
use Rattle.std.specs.Prelude.{◌≡◌, ◌<◌, ◌⊎◌, ⊤, List, [], ◌∷◌}
use Rattle.std.specs.List.{AllByRecursion}
use Rattle.adg_base.specs.declared.node.Node.{Node}

-- one end stands before another: by SCN, and in one SCN by position
abbrev pub IsBefore : Node → Node → Type 0
IsBefore earlier later = (earlier.scn < later.scn) ⊎ ((earlier.scn ≡ later.scn) × (earlier.pos < later.pos))

-- each end stands before those behind it
abbrev pub IsInOrder : List Node → Type 0
IsInOrder [] = ⊤
IsInOrder (node ∷ nodes) = AllByRecursion (IsBefore node) nodes × IsInOrder nodes

-- the end stands in the log behind all of these
abbrev pub IsBehindAll : Node → List Node → Type 0
IsBehindAll node nodes = AllByRecursion (λ earlier. earlier.pos < node.pos) nodes
