use Rattle.std.proofs.Common.{take}
use Rattle.std.specs.List.{list_any}
use Rattle.adg_journal.specs.Area.{IsArea}
use Rattle.standby_core.specs.Collecting.{is_let_go_by, GivesOut}
use Rattle.standby_core.proofs.collect.forget.Given as goal

abbrev pub invariant-loop-item : goal.invariant-loop-item
invariant-loop-item l = IsArea l.area × GivesOut (λ t. list_any (is_let_go_by t) (take l.item-index l.items)) l.initial.area l.area
