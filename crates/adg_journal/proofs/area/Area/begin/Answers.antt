use Rattle.std.proofs.Common.{◌≡◌, cond, nat_eq, Some, None, true, is_some, inl, refl, sym, ap, ◌∙◌, subst}
use Rattle.std.specs.Map.{lookup}
use Rattle.adg_journal.specs.declared.noted.Noted.{Noted}
use Rattle.adg_journal.specs.Places.{EachOnce}
use Rattle.adg_journal.specs.Area.{places_of}
use Rattle.adg_journal.proofs.Once.{none_once}
use Rattle.adg_journal.proofs.Areas.{places_known, sets_noted, area_noted, found_held}
use Rattle.adg_journal.proofs.area.Area.begin.Goals as goal

pub invariant_of-self : goal.invariant_of-self
invariant_of-self c =
    let now : Noted = record { begun = true; places = c.in-Some.noted.now.places } in
    let lent = c.get_mut.follows.holds now in
    let had = sym c.in-Some.ensures.value in
    let es = c.self.inside.transactions.entries in
    let held = found_held es c.args.txn c.in-Some.noted.now c.self.invariant had in
    area_noted es _ c.args.txn now c.self.invariant lent.4 (λ q. (lent.3 (ap is_some had)).0 q) (record { some = inl refl; once = held.once })

pub returns-in-Some-clause-ok : goal.returns-in-Some-clause-ok
returns-in-Some-clause-ok c =
    let now : Noted = record { begun = true; places = c.in-Some.noted.now.places } in
    let lent = c.get_mut.follows.holds now in
    let had = sym c.in-Some.ensures.value in
    let es = c.self.inside.transactions.entries in
    let area = c.args.self.now in
    sets_noted area es _ c.args.txn now true (places_of area c.args.txn) c.self.view_is (λ q. (lent.3 (ap is_some had)).0 q) refl (places_known area es c.args.txn (Some c.in-Some.noted.now) c.self.view_is had)

pub returns-in-Some-clause-area : goal.returns-in-Some-clause-area
returns-in-Some-clause-area c = invariant_of-self c

pub invariant_of-self-2 : goal.invariant_of-self-2
invariant_of-self-2 c =
    let es = c.self.inside.transactions.entries in
    let now : Noted = record { begun = true; places = c.new-places.result } in
    let once = subst EachOnce (sym c.new-places.ensures) none_once in
    let same : c.get_mut.follows.lender-at-none ≡ c.self.inside.transactions = c.get_mut.follows.holds-at-none in
    area_noted es _ c.args.txn now c.self.invariant c.in_ok-insert.ensures.unique
    (λ q. c.in_ok-insert.ensures.updates.0 q ∙ ap (λ m. cond (nat_eq c.args.txn q) (Some now) (lookup (nat_eq q) m.entries)) same) (record { some = inl refl; once = once })

pub returns-clause-ok : goal.returns-clause-ok
returns-clause-ok c =
    let es = c.self.inside.transactions.entries in
    let now : Noted = record { begun = true; places = c.new-places.result } in
    let area = c.args.self.now in
    let none = sym c.in_default.ensures.value in
    let same : c.get_mut.follows.lender-at-none ≡ c.self.inside.transactions = c.get_mut.follows.holds-at-none in
    sets_noted area es _ c.args.txn now true (places_of area c.args.txn) c.self.view_is
    (λ q. c.in_ok-insert.ensures.updates.0 q ∙ ap (λ m. cond (nat_eq c.args.txn q) (Some now) (lookup (nat_eq q) m.entries)) same) refl
    (c.new-places.ensures ∙ places_known area es c.args.txn None c.self.view_is none)

pub returns-clause-area : goal.returns-clause-area
returns-clause-area c = invariant_of-self-2 c
