use Rattle.std.proofs.Common.{◌<◌, List, length, inl, refl, sym, subst, arith}
use Rattle.core_rules.specs.State.{At}
use Rattle.core_rules.proofs.Lists.{at_within}
use Rattle.standby_core.specs.declared.session.Session.{Session}
use Rattle.standby_core.specs.declared.session.Session.TheVariants.{Free}
use Rattle.standby_core.proofs.Scanned.{scan_barred, scan_no_table, scan_no_column, scan_wrong_type, scan_begins}
use Rattle.standby_core.proofs.standby.Core.scan_begin.Goals as goal

-- src/scanning.rt:30:13
pub returns-in_default-clause-ok : goal.returns-in_default-clause-ok
returns-in_default-clause-ok c = λ c' h stands. record {
  next = c';
  steps = inl (refl, scan_barred c.args.self.now c' h c.args.session (λ place number at. c.in_default.ensures place number (subst (λ (xs : List Session). At xs place Free) (sym c.deref.ensures.value) at)), refl);
  shows = h.shows;
}

-- src/scanning.rt:34:13
pub returns-in_default-at-clause-ok : goal.returns-in_default-at-clause-ok
returns-in_default-at-clause-ok c = λ c' h stands.
    scan_no_table c.args.self.now c' h c.args.session c.in-Some.place c.args.select c.in-Some.ensures.0 (subst (λ (xs : List Session). At xs c.in-Some.place Free) c.deref.ensures.value c.in-Some.ensures.1)
    (c.in_default-at.ensures c'.log stands)

-- src/scanning.rt:38:17
pub index_mut-requires : goal.index_mut-requires
index_mut-requires c =
    let within : c.in-Some.place < length c.deref.result.now = at_within c.deref.result.now c.in-Some.place Free c.in-Some.ensures.1 in
    omega (arith, c.deref.ensures.len)

-- src/scanning.rt:28:5
pub returns-in-Ok-clause-ok : goal.returns-in-Ok-clause-ok
returns-in-Ok-clause-ok c = λ c' h stands.
    scan_begins c.args.self.now c' h c.args.session c.in-Some.place c.args.select c.in-Some.ensures.0 (subst (λ (xs : List Session). At xs c.in-Some.place Free) c.deref.ensures.value c.in-Some.ensures.1)
    c.in-Some-at.definition (c.in-Some-at.ensures c'.log stands) c.in-Ok.accumulator c.in-Ok.ensures.empty c.in-Ok.ensures.refused

-- src/scanning.rt:28:5
pub returns-in-Err-NoColumn-clause-ok : goal.returns-in-Err-NoColumn-clause-ok
returns-in-Err-NoColumn-clause-ok c = λ c' h stands.
    scan_no_column c.args.self.now c' h c.args.session c.in-Some.place c.args.select c.in-Some.ensures.0 (subst (λ (xs : List Session). At xs c.in-Some.place Free) c.deref.ensures.value c.in-Some.ensures.1)
    c.in-Some-at.definition (c.in-Some-at.ensures c'.log stands) _ c.in-Err-NoColumn.field-0 c.in-Err-NoColumn.field-0-is c.in-Err-NoColumn.ensures.refused

-- src/scanning.rt:28:5
pub returns-in-Err-WrongType-clause-ok : goal.returns-in-Err-WrongType-clause-ok
returns-in-Err-WrongType-clause-ok c = λ c' h stands.
    scan_wrong_type c.args.self.now c' h c.args.session c.in-Some.place c.args.select c.in-Some.ensures.0 (subst (λ (xs : List Session). At xs c.in-Some.place Free) c.deref.ensures.value c.in-Some.ensures.1)
    c.in-Some-at.definition (c.in-Some-at.ensures c'.log stands) _ c.in-Err-WrongType.field-0 c.in-Err-WrongType.field-0-is c.in-Err-WrongType.ensures.refused
