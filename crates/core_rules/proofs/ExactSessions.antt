-- The events of populations and scans can happen exactly where their guards hold.
use Rattle.std.proofs.Common.{◌≡◌, ℕ, ◌+◌, ◌<◌, Bool, true, false, cond, ◌++◌, Option, Some, None, inl, inr, refl, ap, ◌∙◌, arith}
use Rattle.std.proofs.lemmas.Bool.{ne_eqb}
use Rattle.adg_base.specs.declared.command.Select.{Select}
use Rattle.adg_base.specs.declared.answer.Reply.{Reply}
use Rattle.adg_base.specs.declared.answer.Reply.TheVariants as reply
use Rattle.adg_model.specs.Database.{Table, table_at}
use Rattle.adg_model.specs.Query.{has_columns, has_types}
use Rattle.core_rules.specs.declared.event.Event.{Event}
use Rattle.core_rules.specs.declared.event.Event.TheVariants as event
use Rattle.core_rules.specs.declared.event.CoreAnswer.{CoreAnswer}
use Rattle.core_rules.specs.declared.event.CoreAnswer.TheVariants.{NotReady, Moved, Said}
use Rattle.core_rules.specs.State.{CoreState, Population, Session, Free, Populating, Scanning, At, held_once_more, held_once_less}
use Rattle.core_rules.specs.Populations.{CanPopulate, population_refusal, has_ticket, IsFresh, new_population, with_session, loading, with_unit, next_block, units_installed, installed_then, has_more, session_then, answer_then}
use Rattle.core_rules.specs.Scans.{CanScan, scan_refusal, new_scan, scan_then, scan_reply}
use Rattle.core_rules.specs.Step.{Happens}
use Rattle.core_rules.specs.Invariant.{Invariant}
use Rattle.core_rules.specs.Laws.{IsExact}

-- the answers differ
pub not_moved : NotReady ≡ Moved → ⊥
not_moved h = cc

pub not_said : (said : Reply) → NotReady ≡ Said said → ⊥
not_said said h = cc

-- an outcome of an event
abbrev pub Outcome : CoreState → Event → Type 0
Outcome c e = (answer : CoreAnswer) × (new : CoreState) × Happens c e answer new

-- the next ticket is fresh
pub next_is_fresh : (c : CoreState) → Invariant c → IsFresh c c.ticket
next_is_fresh c i = record {
  units = λ obj extent u h e. let below : u.ticket < c.ticket = (i.units obj extent u h).ticket in absurd (omega (arith, below, e));
  populations = λ place s h. by_session place s h;
}
  where
    by_session : (place : ℕ) (s : Session) → At c.sessions place s → has_ticket c.ticket s ≡ false
    by_session place Free h = refl
    by_session place (Scanning s) h = refl
    by_session place (Populating p) h =
        let below : p.ticket < c.ticket = (i.populations place p h).ticket in
        ne_eqb p.ticket c.ticket (λ e. absurd (omega (arith, below, e)))

-- PopBegin
populates : (c : CoreState) (session obj : ℕ) → Invariant c → CanPopulate c session → Outcome c (event.PopBegin session obj)
populates c session obj i g = by_table (table_at c.log c.query obj) refl
  where
    refused : (said : Reply) → population_refusal c.query (table_at c.log c.query obj) ≡ Some said → Outcome c (event.PopBegin session obj)
    refused said h = (Said said, c, inr (record { reply = said; refused = record { can = g; refusal = h; same = refl }; says = refl }))

    by_flag : (table : Table) → table_at c.log c.query obj ≡ Some table → (b : Bool) → table.flag ≡ b → Outcome c (event.PopBegin session obj)
    by_flag table h true f = (
      Moved,
      record (with_session c g.place (Populating (new_population obj c.query c.ticket table))) { quiesce = held_once_more c.quiesce; ticket = c.ticket + 1 },
      inl (
        refl,
        record {
          can = g;
          table = table;
          defined = h;
          in_memory = f;
          ticket = c.ticket;
          fresh = next_is_fresh c i;
          next = c.ticket + 1;
          above = omega arith;
          forward = omega arith;
          effect = refl;
        },
      ),
    )
    by_flag table h false f =
        refused (reply.NotInMemory c.query) (ap (population_refusal c.query) h ∙ ap (λ (b : Bool). cond b None (Some (reply.NotInMemory c.query))) f)

    by_table : (t : Option Table) → table_at c.log c.query obj ≡ t → Outcome c (event.PopBegin session obj)
    by_table None h = refused (reply.NoTable c.query) (ap (population_refusal c.query) h)
    by_table (Some table) h = by_flag table h table.flag refl

pub populate_exact : (c : CoreState) (session obj : ℕ) → Invariant c → IsExact c (event.PopBegin session obj)
populate_exact c session obj i = record {
  possible = λ g. populates c session obj i g;
  guarded = λ answer new h. guarded answer new h;
  ready = λ new h. ready new h;
}
  where
    guarded : (answer : CoreAnswer) (new : CoreState) → Happens c (event.PopBegin session obj) answer new → CanPopulate c session
    guarded answer new (inl h) = h.1.can
    guarded answer new (inr h) = h.refused.can

    ready : (new : CoreState) → Happens c (event.PopBegin session obj) NotReady new → ⊥
    ready new (inl h) = not_moved h.0
    ready new (inr h) = not_said h.reply h.says

-- PopRegister, PopRelease and PopRead
pub register_exact : (c : CoreState) (session : ℕ) → IsExact c (event.PopRegister session)
register_exact c session = record {
  possible = λ g. (
    Moved,
    record (with_session c g.place (Populating (record g.population { registered = g.population.registered + 1 }))) {
      units = with_unit g.population.obj g.population.registered (Some (loading g.population)) c.units;
    },
    (refl, record { place = g.place; population = g.population; is = g.is; holds = g.holds; left = g.left; effect = refl }),
  );
  guarded = λ answer new h. record { place = h.1.place; population = h.1.population; is = h.1.is; holds = h.1.holds; left = h.1.left };
  ready = λ new h. not_moved h.0;
}

pub release_exact : (c : CoreState) (session : ℕ) → IsExact c (event.PopRelease session)
release_exact c session = record {
  possible = λ g. (
    Moved,
    record (with_session c g.place (Populating (record g.population { holds = false }))) { quiesce = held_once_less c.quiesce },
    (refl, record { place = g.place; population = g.population; is = g.is; holds = g.holds; all = g.all; effect = refl }),
  );
  guarded = λ answer new h. record { place = h.1.place; population = h.1.population; is = h.1.is; holds = h.1.holds; all = h.1.all };
  ready = λ new h. not_moved h.0;
}

pub read_exact : (c : CoreState) (session : ℕ) → IsExact c (event.PopRead session)
read_exact c session = record {
  possible = λ g. (
    Moved,
    with_session c g.place (Populating (record g.population { blocks = g.population.blocks + 1; read = g.population.read ++ next_block c g.population })),
    (refl, record { place = g.place; population = g.population; is = g.is; released = g.released; left = g.left; effect = refl }),
  );
  guarded = λ answer new h. record { place = h.1.place; population = h.1.population; is = h.1.is; released = h.1.released; left = h.1.left };
  ready = λ new h. not_moved h.0;
}

-- PopEnd
pub install_exact : (c : CoreState) (session : ℕ) → IsExact c (event.PopEnd session)
install_exact c session = record {
  possible = λ g. (
    answer_then g.population (installed_then g.population c.units),
    record (with_session c g.place (session_then g.population (installed_then g.population c.units))) { units = units_installed g.population c.units },
    record { place = g.place; population = g.population; is = g.is; released = g.released; whole = g.whole; says = refl; effect = refl },
  );
  guarded = λ answer new h. record { place = h.place; population = h.population; is = h.is; released = h.released; whole = h.whole };
  ready = λ new h. ready h.population (installed_then h.population c.units) h.says;
}
  where
    ready : (p : Population) (n : ℕ) → NotReady ≡ answer_then p n → ⊥
    ready p n h = by_test (has_more p) h
      where
        by_test : (b : Bool) → NotReady ≡ cond b Moved (Said (reply.Populated p.snapshot n)) → ⊥
        by_test true k = not_moved k
        by_test false k = not_said (reply.Populated p.snapshot n) k

-- ScanBegin
scans : (c : CoreState) (session : ℕ) (select : Select) → CanScan c session → Outcome c (event.ScanBegin session select)
scans c session select g = by_table (table_at c.log c.query select.obj) refl
  where
    refused : (said : Reply) → scan_refusal c.query select (table_at c.log c.query select.obj) ≡ Some said → Outcome c (event.ScanBegin session select)
    refused said h = (Said said, c, inr (record { reply = said; refused = record { can = g; refusal = h; same = refl }; says = refl }))

    by_tests : (table : Table) → table_at c.log c.query select.obj ≡ Some table → (x : Bool) → has_columns select table ≡ x → (y : Bool) → has_types select table ≡ y
        → Outcome c (event.ScanBegin session select)
    by_tests table h true e true f =
        (Moved, with_session c g.place (Scanning (new_scan select c.query table)), inl (refl, record { can = g; table = table; defined = h; columns = e; types = f; effect = refl }))
    by_tests table h true e false f =
        refused (reply.WrongType c.query) (ap (scan_refusal c.query select) h
        ∙ ap (λ (b : Bool). cond b (cond (has_types select table) None (Some (reply.WrongType c.query))) (Some (reply.NoColumn c.query))) e
        ∙ ap (λ (b : Bool). cond b None (Some (reply.WrongType c.query))) f)
    by_tests table h false e y f =
        refused (reply.NoColumn c.query) (ap (scan_refusal c.query select) h
        ∙ ap (λ (b : Bool). cond b (cond (has_types select table) None (Some (reply.WrongType c.query))) (Some (reply.NoColumn c.query))) e)

    by_table : (t : Option Table) → table_at c.log c.query select.obj ≡ t → Outcome c (event.ScanBegin session select)
    by_table None h = refused (reply.NoTable c.query) (ap (scan_refusal c.query select) h)
    by_table (Some table) h = by_tests table h (has_columns select table) refl (has_types select table) refl

pub scan_exact : (c : CoreState) (session : ℕ) (select : Select) → IsExact c (event.ScanBegin session select)
scan_exact c session select = record {
  possible = λ g. scans c session select g;
  guarded = λ answer new h. guarded answer new h;
  ready = λ new h. ready new h;
}
  where
    guarded : (answer : CoreAnswer) (new : CoreState) → Happens c (event.ScanBegin session select) answer new → CanScan c session
    guarded answer new (inl h) = h.1.can
    guarded answer new (inr h) = h.refused.can

    ready : (new : CoreState) → Happens c (event.ScanBegin session select) NotReady new → ⊥
    ready new (inl h) = not_moved h.0
    ready new (inr h) = not_said h.reply h.says

-- ScanExtent and ScanEnd
pub gather_exact : (c : CoreState) (session : ℕ) → IsExact c (event.ScanExtent session)
gather_exact c session = record {
  possible = λ g. (Moved, with_session c g.place (Scanning (scan_then c g.scan)), (refl, record { place = g.place; scan = g.scan; is = g.is; left = g.left; effect = refl }));
  guarded = λ answer new h. record { place = h.1.place; scan = h.1.scan; is = h.1.is; left = h.1.left };
  ready = λ new h. not_moved h.0;
}

pub scan_end_exact : (c : CoreState) (session : ℕ) → IsExact c (event.ScanEnd session)
scan_end_exact c session = record {
  possible = λ g. (
    Said (scan_reply g.scan),
    with_session c g.place Free,
    record {
      reply = scan_reply g.scan;
      refused = record { place = g.place; scan = g.scan; is = g.is; whole = g.whole; says = refl; effect = refl };
      says = refl;
    },
  );
  guarded = λ answer new h. record { place = h.refused.place; scan = h.refused.scan; is = h.refused.is; whole = h.refused.whole };
  ready = λ new h. not_said h.reply h.says;
}
