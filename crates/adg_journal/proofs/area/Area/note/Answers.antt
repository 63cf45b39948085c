use Rattle.std.proofs.Common.{◌≡◌, ◌<◌, false, cond, nat_eq, length, Some, None, is_some, inr, sym, ap, ◌∙◌, subst}
use Rattle.std.specs.Map.{lookup}
use Rattle.adg_journal.specs.declared.noted.Noted.{Noted}
use Rattle.adg_journal.specs.Places.{with_place}
use Rattle.adg_journal.specs.Area.{places_of, is_begun}
use Rattle.adg_journal.proofs.Areas.{places_known, begun_known, sets_noted, same_by_map, area_noted, found_held, noted_held, with_place_some, on_ok, on_err}
use Rattle.adg_journal.proofs.area.Area.note.Goals as goal

pub invariant_of-self : goal.invariant_of-self
invariant_of-self c =
    let was = c.in-Some.noted.now in
    let now : Noted = record { begun = was.begun; places = c.note.new.self } in
    let lent = c.get_mut.follows.holds now in
    let had = sym c.in-Some.ensures.value in
    let es = c.self.inside.transactions.entries in
    let held = noted_held c.note.result c.args.txn was.begun c.args.addr was.places c.note.new.self c.note.ensures.ok c.note.ensures.err c.note.ensures.once (found_held es c.args.txn was c.self.invariant had) in
    area_noted es _ c.args.txn now c.self.invariant lent.4 (λ q. (lent.3 (ap is_some had)).0 q) held

pub returns-in-Some-clause-ok : goal.returns-in-Some-clause-ok
returns-in-Some-clause-ok c =
    let was = c.in-Some.noted.now in
    let now : Noted = record { begun = was.begun; places = c.note.new.self } in
    let lent = c.get_mut.follows.holds now in
    let had = sym c.in-Some.ensures.value in
    let es = c.self.inside.transactions.entries in
    let area = c.args.self.now in
    let txn = c.args.txn in
    on_ok c.note.result (λ added. sets_noted area es _ txn now (is_begun area txn) (with_place c.args.addr (places_of area txn)) c.self.view_is (λ q. (lent.3 (ap is_some had)).0 q)
    (begun_known area es txn (Some was) c.self.view_is had) (added ∙ ap (with_place c.args.addr) (places_known area es txn (Some was) c.self.view_is had))) c.note.ensures.ok

pub returns-in-Some-clause-err : goal.returns-in-Some-clause-err
returns-in-Some-clause-err c =
    let was = c.in-Some.noted.now in
    let now : Noted = record { begun = was.begun; places = c.note.new.self } in
    let lent = c.get_mut.follows.holds now in
    let had = sym c.in-Some.ensures.value in
    let es = c.self.inside.transactions.entries in
    on_err c.note.result (λ same. same_by_map c.args.self.now es _ c.args.txn (Some was) c.self.view_is had
    (λ q. (lent.3 (ap is_some had)).0 q ∙ (λ j. cond (nat_eq c.args.txn q) (Some (record { begun = was.begun; places = same j })) (lookup (nat_eq q) es)))) c.note.ensures.err

pub returns-in-Some-clause-area : goal.returns-in-Some-clause-area
returns-in-Some-clause-area c = invariant_of-self c

pub invariant_of-self-2 : goal.invariant_of-self-2
invariant_of-self-2 c =
    let es = c.self.inside.transactions.entries in
    let now : Noted = record { begun = false; places = c.note-2.new.self } in
    let same : c.get_mut.follows.lender-at-none ≡ c.self.inside.transactions = c.get_mut.follows.holds-at-none in
    let some : 0 < length c.note-2.new.self = subst (λ ps. 0 < length ps) (sym c.in_ok-note.ensures.ok) (with_place_some c.args.addr c.new-places.result) in
    area_noted es _ c.args.txn now c.self.invariant c.in_ok-insert.ensures.unique
    (λ q. c.in_ok-insert.ensures.updates.0 q ∙ ap (λ m. cond (nat_eq c.args.txn q) (Some now) (lookup (nat_eq q) m.entries)) same) (record { some = inr some; once = c.note-2.ensures.once })

pub returns-clause-ok : goal.returns-clause-ok
returns-clause-ok c =
    let es = c.self.inside.transactions.entries in
    let now : Noted = record { begun = false; places = c.note-2.new.self } in
    let area = c.args.self.now in
    let txn = c.args.txn in
    let none = sym c.in_default.ensures.value in
    let same : c.get_mut.follows.lender-at-none ≡ c.self.inside.transactions = c.get_mut.follows.holds-at-none in
    sets_noted area es _ txn now (is_begun area txn) (with_place c.args.addr (places_of area txn)) c.self.view_is
    (λ q. c.in_ok-insert.ensures.updates.0 q ∙ ap (λ m. cond (nat_eq txn q) (Some now) (lookup (nat_eq q) m.entries)) same)
    (begun_known area es txn None c.self.view_is none)
    (c.in_ok-note.ensures.ok ∙ ap (with_place c.args.addr) (c.new-places.ensures ∙ places_known area es txn None c.self.view_is none))

pub returns-clause-area : goal.returns-clause-area
returns-clause-area c = invariant_of-self-2 c
