use Rattle.std.proofs.Common.{◌≡◌, Some, None, refl, sym, ap, ◌∙◌, subst, rules}
use Rattle.std.specs.Option.{option_map}
use Rattle.adg_base.specs.Area.{Held}
use Rattle.adg_journal.specs.Area.{IsArea}
use Rattle.adg_journal.proofs.Areas.{known, shown_once, set_by_map, still_area, none_held}
use Rattle.adg_journal.proofs.area.Area.collect.Goals as goal

pub returns-in_err-noted-clause-places : goal.returns-in_err-noted-clause-places
returns-in_err-noted-clause-places c =
    let none : c.from_residual.result ≡ None = search rules in
    none ∙ sym (ap (option_map (λ (held : Held). held.places)) (known c.args.self.now c.self.inside.transactions.entries c.args.txn None c.self.view_is (sym c.in_err-noted.ensures.value)))

pub returns-in_err-noted-clause-none : goal.returns-in_err-noted-clause-none
returns-in_err-noted-clause-none c =
    none_held c.args.self.now c.args.txn _ (subst IsArea c.self.view_is c.self.invariant) (returns-in_err-noted-clause-places c)

pub returns-in_err-noted-clause-gone : goal.returns-in_err-noted-clause-gone
returns-in_err-noted-clause-gone c =
    set_by_map c.args.self.now c.self.inside.transactions.entries _ c.args.txn None None c.self.view_is (λ q. c.swap_remove.ensures.updates.0 q) refl

pub invariant_of-self-2 : goal.invariant_of-self-2
invariant_of-self-2 c =
    let es = c.self.inside.transactions.entries in
    still_area _ _ c.args.txn None c.self.invariant (shown_once _ c.swap_remove.ensures.unique) (set_by_map _ es _ c.args.txn None None refl (λ q. c.swap_remove.ensures.updates.0 q) refl) tt

pub returns-clause-places : goal.returns-clause-places
returns-clause-places c =
    let had = sym c.in_ok-noted.ensures.value in
    ap Some c.into_list.ensures ∙ sym (ap (option_map (λ (held : Held). held.places)) (known c.args.self.now c.self.inside.transactions.entries c.args.txn (Some c.in_ok-noted.noted) c.self.view_is had))

pub returns-clause-none : goal.returns-clause-none
returns-clause-none c = none_held c.args.self.now c.args.txn (Some c.into_list.result) (subst IsArea c.self.view_is c.self.invariant) (returns-clause-places c)

pub returns-clause-gone : goal.returns-clause-gone
returns-clause-gone c =
    set_by_map c.args.self.now c.self.inside.transactions.entries _ c.args.txn None None c.self.view_is (λ q. c.swap_remove.ensures.updates.0 q) refl

pub returns-clause-area : goal.returns-clause-area
returns-clause-area c = invariant_of-self-2 c
