-- What a standby answers: as it begins, and to a delivery that comes next.
use Rattle.std.specs.Prelude.{◌≡◌, ℕ, List, [], ◌∷◌, ◌++◌, map, Result, Ok, Err, ◌⊎◌}
use Rattle.adg_model.specs.declared.delivery.RawDelivery.{RawDelivery}
use Rattle.adg_model.specs.Feed.{Item, IsFeed, delivery_of}
use Rattle.adg_model.specs.Sound.{IsRedoFault}
use Rattle.feed_run.specs.declared.standby.Unanswered.{Unanswered}
use Rattle.feed_run.specs.declared.standby.Unanswered.TheVariants as unanswered

-- a claim on bytes: what they mean as the answer to some deliveries, with so many threads and sessions
abbrev pub Meaning : Type 1
Meaning = (threads sessions : ℕ) → List RawDelivery → List ℕ → Type 0

-- the deliveries that some lists of items make
abbrev pub deliveries_of : List (List Item) → List RawDelivery
deliveries_of deliveries = map delivery_of deliveries

-- Begun with some setup, the deliveries of a feed before one were answered, with these bytes, and that one comes next.
pub record IsNext {T : Type 0} (answered : T → Meaning) (delivery : RawDelivery) : Type 0 where
  pub setup : T
  pub threads : ℕ
  pub sessions : ℕ
  pub before : List (List Item)
  pub items : List Item
  pub written : List ℕ
  pub has : answered setup threads sessions (deliveries_of before) written
  pub feed : IsFeed threads sessions (before ++ items ∷ [])
  pub brings : delivery ≡ delivery_of items

-- With one delivery more all are answered, by what was written before and what is printed now; or its redo has
-- this fault, or memory is wanting.
abbrev pub Responds : Meaning → (threads sessions : ℕ) → List RawDelivery → List ℕ → Result (List ℕ) Unanswered → Type 0
Responds answered threads sessions deliveries written (Ok printed) = answered threads sessions deliveries (written ++ printed)
Responds answered threads sessions deliveries written (Err (unanswered.Redo fault)) = IsRedoFault threads deliveries fault
Responds answered threads sessions deliveries written (Err unanswered.Memory) = Unit {0}

-- Some standby that began with this setup has answered these deliveries with these bytes; before the first delivery
-- nothing is written.
abbrev pub SomeAnswered : {S T : Type 0} → (S → T → Meaning) → T → Meaning
SomeAnswered {S} {T} answered setup threads sessions deliveries written =
    ((deliveries ≡ []) × (written ≡ [])) ⊎ ((standby : S) × answered standby setup threads sessions deliveries written)
