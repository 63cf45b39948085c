-- What is kept of the changes of transactions: how many are pending at an address, and the chain of
-- the addresses that a transaction changed.
use Rattle.std.specs.Prelude.{◌≡◌, ℕ, ◌+◌, ◌-◌, Bool, true, false, cond, ◌==◌, ◌&&◌, List, [], ◌∷◌, Option, Some, None, is_some}
use Rattle.std.specs.List.{list_any}
use Rattle.std.specs.Map.{lookup}
use Rattle.std.specs.Option.{option_map}
use Rattle.adg_base.specs.Address.{Place, same_place}
use Rattle.dictionary.specs.declared.change.Change.{Change}
use Rattle.dictionary.specs.declared.change.Pending.{Pending}

abbrev pub change_of : ℕ → Place → Change
change_of txn place = record { txn = txn; addr = place }

abbrev pub same_change : Change → Change → Bool
same_change a b =
    (a.txn == b.txn) && ((a.addr.obj == b.addr.obj) && ((a.addr.block == b.addr.block) && (a.addr.slot == b.addr.slot)))

-- what is kept of one change
abbrev pub kept_at : List (Change × Pending) → Change → Option Pending
kept_at entries change = lookup (same_change change) entries

-- how many changes are pending there
abbrev pub count_of : Option Pending → ℕ
count_of None = 0
count_of (Some pending) = pending.count

-- the address before it in the chain of its transaction
abbrev pub earlier_at : List (Change × Pending) → ℕ → Place → Option (Option Place)
earlier_at entries txn place = option_map (λ p. p.earlier) (kept_at entries (change_of txn place))

abbrev pub one_more : Option Place → Option Pending → Pending
one_more earlier None = record { count = 1; earlier = earlier }
one_more earlier (Some pending) = record pending { count = pending.count + 1 }

abbrev pub one_less : Option Pending → Option Pending
one_less None = None
one_less (Some pending) = Some (record pending { count = pending.count - 1 })

-- the same is kept of all changes but one, and something else of that one
abbrev pub SetsAt : List (Change × Pending) → List (Change × Pending) → Change → Option Pending → Type 0
SetsAt old new change kept = (q : Change) → kept_at new q ≡ cond (same_change change q) kept (kept_at old q)

-- from a last address back through the earlier ones: each has its earlier one, and the first has none
abbrev pub Links : (Place → Option (Option Place)) → Option Place → List Place → Type 0
Links earlier latest [] = latest ≡ None
Links earlier latest (place ∷ places) =
    (latest ≡ Some place) × ((e : Option Place) × (earlier place ≡ Some e) × Links earlier e places)

-- no place stands there twice
abbrev pub AreApart : List Place → Type 0
AreApart [] = Unit {0}
AreApart (place ∷ places) = (list_any (same_place place) places ≡ false) × AreApart places

-- a chain from a last address back, with all places that have an earlier one
pub record IsChain (earlier : Place → Option (Option Place)) (latest : Option Place) (chain : List Place) : Type 0 where
  pub links : Links earlier latest chain
  pub apart : AreApart chain
  pub all : (place : Place) → is_some (earlier place) ≡ true → list_any (same_place place) chain ≡ true

abbrev pub HasChain : (Place → Option (Option Place)) → Option Place → Type 0
HasChain earlier latest = (chain : List Place) × IsChain earlier latest chain
