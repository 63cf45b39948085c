-- How many terms were summed, and their sum.
use Rattle.std.specs.Prelude.{ℕ, ◌+◌, ◌*◌, ◌^◌, ℤ, pos, neg_ℤ, ◌+ℤ◌, ◌≤ℤ◌, List, length}
use Rattle.adg_base.specs.declared.value.Value.{Value}
use Rattle.adg_base.specs.declared.value.Value.TheVariants.{Null, Int, Text}
use Rattle.adg_model.specs.Query.{total}

pub record Summed : Type 0 where
  pub terms : ℕ
  pub amount : ℤ

abbrev pub summed : List Value → Summed
summed values = record { terms = length values; amount = total values }

-- with the terms of another
abbrev pub joined : Summed → Summed → Summed
joined s t = record { terms = s.terms + t.terms; amount = s.amount +ℤ t.amount }

-- with one term more, where there is a value
abbrev pub with_term : Summed → Value → Summed
with_term s Null = s
with_term s (Int n) = record { terms = s.terms + 1; amount = s.amount +ℤ n }
with_term s (Text t) = record { terms = s.terms + 1; amount = s.amount +ℤ pos 0 }

-- each term lies within 64 bits
abbrev pub IsBounded : ℕ → ℤ → Type 0
IsBounded terms amount = (neg_ℤ (pos (2 ^ 63 * terms)) ≤ℤ amount) × (amount ≤ℤ pos (2 ^ 63 * terms))
