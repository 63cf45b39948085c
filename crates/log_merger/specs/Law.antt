-- That the merged log has one order, and that what is refused is not good.
use Rattle.std.specs.Prelude.{◌≡◌, ℕ, true, List, ◌↔◌}
use Rattle.std.specs.List.{AllPairs, Contains}
use Rattle.adg_base.specs.declared.log.LogEntry.{LogEntry}
use Rattle.adg_base.specs.declared.vector.RedoRecord.{RedoRecord}
use Rattle.adg_model.specs.declared.fault.RedoKind.{RedoKind}
use Rattle.adg_model.specs.Records.{HasRecords, HasBadRecord}
use Rattle.adg_model.specs.Log.{comes_before}

-- each entry comes before all that follow it
abbrev pub RisesStrictly : List LogEntry → Type 0
RisesStrictly entries = AllPairs (λ a b. comes_before a b ≡ true) entries

-- Two lists that rise strictly and have the same entries are equal.
abbrev pub OrderIsOne : Type 0
OrderIsOne = (a b : List LogEntry) → RisesStrictly a → RisesStrictly b → ((e : LogEntry) → Contains a e ↔ Contains b e) → a ≡ b

-- No text has both its records, all of them whole and good, and a first bad record.
abbrev pub GoodIsNotBad : Type 0
GoodIsNotBad =
    (text : List ℕ) (records before : List RedoRecord) (kind : RedoKind) → HasRecords text records → HasBadRecord text before kind → ⊥
