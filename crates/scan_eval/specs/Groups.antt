-- What groups hold of the rows that they have seen.
use Rattle.std.specs.Prelude.{◌≡◌, ℕ, ◌+◌, List, [], ◌∷◌, ◌++◌, if◌then◌else◌}
use Rattle.std.specs.List.{flat_map, list_any, position, IsDistinct}
use Rattle.std.specs.List.Sorted.{IsPermutation, IsSortedByKey}
use Rattle.adg_base.specs.declared.value.Value.{Value}
use Rattle.adg_base.specs.declared.command.Aggregate.{Aggregate}
use Rattle.adg_model.specs.Query.{value_in, rows_with}
use Rattle.adg_base.specs.Values.{value_cmp, same}
use Rattle.scan_eval.specs.Tally.{tallies_of}
use Rattle.scan_eval.specs.KeyIndex.{place_at}
use Rattle.scan_eval.specs.declared.group.Groups.{Groups}
use Rattle.scan_eval.specs.declared.group.KeyPlace.{KeyPlace}

-- The keys are distinct, the index has the place of each, and for each key there are the tallies of its
-- rows, in order.
pub record AreTallied (aggregates : List Aggregate) (g : Groups) : Type 0 where
  pub distinct : IsDistinct same g.keys.items
  pub indexed : (k : Value) → place_at g.index k ≡ position (same k) g.keys.items
  pub tallied : g.tallies.items ≡ flat_map (λ key. tallies_of aggregates (rows_with g.column key g.seen.rows)) g.keys.items

-- So it is, and the keys are those of the rows seen.
pub record AreGroups (aggregates : List Aggregate) (g : Groups) : Type 0 where
  pub parts : AreTallied aggregates g
  pub covered : (k : Value) → list_any (same k) g.keys.items ≡ list_any (λ row. same k (value_in g.column row)) g.seen.rows

-- keys with one more at the end, where it is not there yet
abbrev pub keys_with : Value → List Value → List Value
keys_with k keys = if list_any (same k) keys then keys else keys ++ k ∷ []

-- each key with its place
abbrev pub places_from : ℕ → List Value → List KeyPlace
places_from n [] = []
places_from n (k ∷ keys) = record { key = k; place = n } ∷ places_from (n + 1) keys

-- the keys with their places, in the order of the keys
pub record AreInOrder (keys : List Value) (places : List KeyPlace) : Type 0 where
  pub all : IsPermutation (places_from 0 keys) places
  pub sorted : IsSortedByKey (λ p. p.key) value_cmp places
