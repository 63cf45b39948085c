use Rattle.std.proofs.Common.{◌≡◌, Some, None, sym, ap, ◌∙◌, arith, cond}
use Rattle.std.specs.Map.{lookup}
use Rattle.dictionary.specs.Pending.{kept_at, same_change}
use Rattle.dictionary.specs.declared.change.Change.{Change}
use Rattle.dictionary.specs.declared.change.Pending.{Pending}
use Rattle.dictionary.proofs.Counts.{sets_in_its_place, one_more_than, one_more_than_none}
use Rattle.dictionary.proofs.pending.PendingChanges.add.Goals as goal
use Rattle.dictionary.proofs.pending.PendingChanges.add.Goals.{in-Occupied+in_ok-count-in-Occupied, in-Vacant}

pub returns-clause-ok : goal.returns-clause-ok
returns-clause-ok c =
    let inside = c.self.inside.kept.entries in
    let new = c.match-branch-2.self-inside.kept.entries in
    let change = c.args.change in
    elim c.match-branch-2.branch [
      | in-Occupied+in_ok-count-in-Occupied w ↦ (
          let was = w.get-was.result.now in
          let count = w.in_ok-count-in-Occupied.count in
          let put : Pending = record was { count = count } in
          let had : kept_at inside change ≡ Some was = sym c.in_ok-held.ensures.value ∙ rw w.in-Occupied.is w.get-was.ensures in
          let named = rw w.in-Occupied.is at c.in_ok-held.ensures.same_map in
          let left : c.match-branch-2.self-inside.kept ≡ w.insert.new.self.map.now = rw w.self-inside-is (grind (arith, w.insert.ensures.written.0, named)) in
          let sets : (q : Change) → kept_at new q ≡ cond (same_change change q) (Some put) (kept_at inside q) =
          λ q. ap (λ m. lookup (same_change q) m.entries) (left ∙ w.insert.ensures.written.1) ∙ (rw w.in-Occupied.is at (c.in_ok-held.ensures.update.0 put).0 q) in
          let fits = rw (w.in_ok-count-in-Occupied.ensures.ok_part) at w.checked_add.ensures in
          rw w.result-is (sets_in_its_place c.args.self.now inside new change (Some put) _ c.self.view_is sets
          (one_more_than c.args.self.now inside change c.args.earlier was count c.self.view_is had fits.1)))
      | in-Vacant w ↦ (
          let put : Pending = record { count = 1; earlier = c.args.earlier } in
          let named = rw w.in-Vacant.is at c.in_ok-held.ensures.same_map in
          let left : c.match-branch-2.self-inside.kept ≡ w.insert_entry.result.map.now = rw w.self-inside-is (grind (arith, w.insert_entry.ensures.0, named)) in
          let sets : (q : Change) → kept_at new q ≡ cond (same_change change q) (Some put) (kept_at inside q) =
          λ q. ap (λ m. lookup (same_change q) m.entries) (left ∙ w.insert_entry.ensures.1) ∙ (rw w.in-Vacant.is at (c.in_ok-held.ensures.update.0 put).0 q) in
          let had : kept_at inside change ≡ None = rw w.in-Vacant.is at c.in_ok-held.ensures.found in
          rw w.result-is (sets_in_its_place c.args.self.now inside new change (Some put) _ c.self.view_is sets
          (one_more_than_none c.args.self.now inside change c.args.earlier c.self.view_is had)))
    ]
