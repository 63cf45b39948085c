use Rattle.std.proofs.Common.{◌≡◌, Some, refl, ap, is_some, sym}
use Rattle.dictionary.specs.declared.change.Pending.{Pending}
use Rattle.dictionary.specs.Pending.{kept_at}
use Rattle.dictionary.proofs.Counts.{sets_as_it_was, sets_in_its_place, one_less_than}
use Rattle.dictionary.proofs.pending.PendingChanges.strike.Goals as goal
use Rattle.dictionary.proofs.pending.PendingChanges.strike.Goals.{in-Some, in_default}

pub returns : goal.returns
returns c =
    let old = c.args.self.now in
    let inside = c.self.inside.kept.entries in
    let new = c.match-get_mut.self-inside.kept.entries in
    let change = c.args.change in
    elim c.match-get_mut.branch [
      | in-Some w ↦ (
          let was = w.in-Some.pending.now in
          let had : Some was ≡ kept_at inside change = w.in-Some.ensures.value in
          let put : Pending = record was { count = w.saturating_sub-pending.result } in
          let lent = c.get_mut.follows.holds put in
          sets_in_its_place old inside new change (Some put) _ c.self.view_is (rw w.self-inside-is (lent.3 (ap is_some (sym had))).0) (one_less_than old inside change was _ c.self.view_is had w.saturating_sub-pending.ensures))
      | in_default w ↦ (
          let same : new ≡ inside = rw (w.self-inside-is, c.get_mut.follows.holds-at-none) refl in
          sets_as_it_was old inside new change c.self.view_is same (sym w.in_default.ensures.value))
    ]
