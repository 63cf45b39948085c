-- The versions that the slots of a block hold.
use Rattle.std.specs.Prelude.{◌≡◌, ℕ, ◌+◌, ◌<◌, ◌==◌, if◌then◌else◌, List, [], ◌∷◌, slice_get, slice_index_or, Option, Some, None}
use Rattle.row_blocks.specs.declared.version.Version.{Version}
use Rattle.row_blocks.specs.declared.block.Slot.{Slot}
use Rattle.row_blocks.specs.declared.block.Slot.TheVariants as held

-- the one, or those of the list
abbrev pub list_of : Slot → List Version
list_of (held.One number version) = version ∷ []
list_of (held.Many number versions) = versions

abbrev pub number_of : Slot → ℕ
number_of (held.One number version) = number
number_of (held.Many number versions) = number

-- the versions at a slot, by what lies at the place that is kept for it: none where that is another slot
abbrev pub seen_of : ℕ → Option Slot → List Version
seen_of number None = []
seen_of number (Some slot) = if number_of slot == number then list_of slot else []

-- the versions at each slot from one on
abbrev pub slots_from : ℕ → List Slot → List ℕ → List (List Version)
slots_from number used [] = []
slots_from number used (place ∷ places) = seen_of number (slice_get used place) ∷ slots_from (number + 1) used places

-- each slot in use is one of the 64, and its place is kept
abbrev pub AreKept : List ℕ → List Slot → Type 0
AreKept places used = (i : ℕ) (slot : Slot) → slice_get used i ≡ Some slot → (number_of slot < 64) × (slice_index_or places (number_of slot) 0 ≡ i)

-- the place of a slot among those in use, or it is none of them
abbrev pub IsPlaceOf : ℕ → List ℕ → List Slot → Option ℕ → Type 0
IsPlaceOf number places used None = (i : ℕ) (slot : Slot) → slice_get used i ≡ Some slot → number_of slot ≡ number → ⊥
IsPlaceOf number places used (Some place) =
    (slot : Slot) × (slice_get used place ≡ Some slot) × (number_of slot ≡ number) × (slice_index_or places number 0 ≡ place)
