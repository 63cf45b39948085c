-- The events PopBegin, PopRegister, PopRelease and PopRead keep the invariant and the precision of marks.
use Rattle.std.proofs.Common.{◌≡◌, ℕ, zero, suc, ◌+◌, ◌-◌, ◌*◌, ◌<◌, ◌≤◌, Bool, true, false, ◌==◌, ◌&&◌, if◌then◌else◌, List, [], ◌∷◌, ◌++◌, length, Option, Some, None, ◌⊎◌, inl, inr, refl, sym, ap, ◌∙◌, subst, arith, true≢false}
use Rattle.std.specs.Prelude.{slice_set, nat_le}
use Rattle.std.specs.List.{flat_map, range_with_len}
use Rattle.std.proofs.lemmas.Bool.{eqb-true, eq-eqb, leb-true, leb-false, and_parts}
use Rattle.std.proofs.lemmas.List.{append-nil}
use Rattle.std.proofs.lemmas.Grind.{flat_map-append}
use Rattle.adg_base.specs.declared.log.LogEntry.{LogEntry}
use Rattle.adg_base.specs.declared.placed.PlacedRow.{PlacedRow}
use Rattle.adg_model.specs.Database.{rows_at}
use Rattle.core_rules.specs.Extents.{block_rows, rows_of_blocks}
use Rattle.core_rules.specs.State.{CoreState, Quiesce, Idle, Shared, Flushing, Link, ColumnUnit, Units, Population, Free, Populating, At, cut_through, limit, is_flushing, held_once_more, held_once_less, holders}
use Rattle.core_rules.specs.Populations.{BeginsPopulation, Registers, Releases, Reads, loading, new_population, next_block, with_unit}
use Rattle.core_rules.specs.Parts.{QuiesceIs}
use Rattle.core_rules.specs.UnitParts.{Counts, UnitIs, UnitIsPrecise, PopulationIs, HasItsUnits}
use Rattle.core_rules.specs.Invariant.{Invariant, Precise, unit_place}
use Rattle.core_rules.proofs.Keeps.{Keeps, KeepsPrecise}
use Rattle.core_rules.proofs.Holds.{holders_more, holders_less, session_keeps, session_precise, still_held, one_session_keeps, SessionIs, TicketIsOwn}

-- What is cut is the same where publication is held back once more or once less.
cut_more : (query : ℕ) (q : Quiesce) → cut_through query (held_once_more q) ≡ cut_through query q
cut_more query Idle = refl
cut_more query (Shared n) = refl
cut_more query (Flushing through) = refl

cut_less : (query : ℕ) (q : Quiesce) → cut_through query (held_once_less q) ≡ cut_through query q
cut_less query Idle = refl
cut_less query (Shared n) = by_test (nat_le n 1)
  where
    by_test : (b : Bool) → cut_through query (if b then Idle else Shared (n - 1)) ≡ query
    by_test true = refl
    by_test false = refl
cut_less query (Flushing through) = refl

-- One holder more, or less, is what the quiesce says.
held_more : (q : Quiesce) (query old new : ℕ) (links : List Link) → is_flushing q ≡ false → new ≡ old + 1 → QuiesceIs q query old links → QuiesceIs (held_once_more q) query new links
held_more Idle query old new links calm e h = let none : old ≡ 0 = h.0 in (omega arith, omega arith, h.1)
held_more (Shared n) query old new links calm e h = let some : old ≡ n = h.0 in (omega arith, omega arith, h.2)
held_more (Flushing through) query old new links calm e h = absurd (true≢false calm)

held_less : (q : Quiesce) (query old new : ℕ) (links : List Link) → new + 1 ≡ old → QuiesceIs q query old links → QuiesceIs (held_once_less q) query new links
held_less Idle query old new links e h = let none : old ≡ 0 = h.0 in absurd (omega arith)
held_less (Shared n) query old new links e h = by_test (nat_le n 1) refl
  where
    by_test : (b : Bool) → nat_le n 1 ≡ b → QuiesceIs (if b then Idle else Shared (n - 1)) query new links
    by_test true k = let some : old ≡ n = h.0 in let low : n ≤ 1 = leb-true n 1 k in (omega arith, h.2)
    by_test false k = let some : old ≡ n = h.0 in let high : 1 < n = leb-false n 1 k in (omega arith, omega arith, h.2)
held_less (Flushing through) query old new links e h = let none : old ≡ 0 = h.0 in absurd (omega arith)

-- While a session holds publication back there are no worklinks.
held_no_links : (q : Quiesce) (query holders new : ℕ) (links : List Link) → new + 1 ≡ holders → QuiesceIs q query holders links → links ≡ []
held_no_links Idle query holders new links e h = h.1
held_no_links (Shared n) query holders new links e h = h.2
held_no_links (Flushing through) query holders new links e h = let none : holders ≡ 0 = h.0 in absurd (omega arith)

pub populate_keeps : (session obj : ℕ) → Keeps (λ c new. BeginsPopulation c session obj new)
populate_keeps session obj facts c new r i = subst Invariant (sym r.effect)
    (session_keeps c r.can.place (Populating p) (held_once_more c.quiesce) c.units r.next i (cut_more c.query c.quiesce) held r.forward stand (λ n q apart h. i.tied n q h) own is)
  where
    p : Population
    p = new_population obj c.query r.ticket r.table

    held : QuiesceIs (held_once_more c.quiesce) c.query (holders (slice_set c.sessions r.can.place (Populating p))) c.links
    held = held_more c.quiesce c.query (holders c.sessions) (holders (slice_set c.sessions r.can.place (Populating p))) c.links r.can.calm
        (holders_more c.sessions r.can.place Free (Populating p) r.can.free.found refl refl) i.quiesce

    stand : (o e : ℕ) (u : ColumnUnit) → c.units o e ≡ Some u → UnitIs c.log c.query r.next c.links (unit_place c o e) o e u
    stand o e u h =
        let is = i.units o e u h in
        let forward : c.ticket ≤ r.next = r.forward in
        let below : u.ticket < c.ticket = is.ticket in
        record { snapshot = is.snapshot; ticket = omega arith; built = is.built; covered = is.covered; stands = is.stands }

    own : TicketIsOwn c.sessions r.can.place (Populating p)
    own n q apart found same = true≢false (sym (eq-eqb q.ticket r.ticket same) ∙ r.fresh.populations n (Populating q) found)

    is : SessionIs c.log c.query r.next c.units (Populating p)
    is = (
      record {
        snapshot = omega arith;
        held = λ holds. refl;
        ticket = r.above;
        defined = r.defined;
        in_memory = r.in_memory;
        registered = omega arith;
        extent = let one : 1 ≤ r.table.extents = ((facts c.log c.frontier i.log).extents obj c.query r.table r.defined).0 in omega arith;
        blocks = omega arith;
        read = refl;
        installed = omega arith;
      },
      λ o e u h same. absurd (r.fresh.units o e u h same),
    )

pub populate_precise : (session obj : ℕ) → KeepsPrecise (λ c new. BeginsPopulation c session obj new)
populate_precise session obj facts c new r i precise = subst Precise (sym r.effect)
    (session_precise c r.can.place (Populating (new_population obj c.query r.ticket r.table)) (held_once_more c.quiesce) c.units r.next i (cut_more c.query c.quiesce) precise)

-- A unit that stands after one was set is that one, or stood.
pub unit_cases : (units : Units) (obj extent o e : ℕ) (unit : Option ColumnUnit) (u : ColumnUnit) → with_unit obj extent unit units o e ≡ Some u
    → ((o ≡ obj) × (e ≡ extent) × (unit ≡ Some u)) ⊎ (units o e ≡ Some u)
unit_cases units obj extent o e unit u h = by_test ((o == obj) && (e == extent)) refl h
  where
    by_test : (b : Bool) → ((o == obj) && (e == extent)) ≡ b → (if b then unit else units o e) ≡ Some u
        → ((o ≡ obj) × (e ≡ extent) × (unit ≡ Some u)) ⊎ (units o e ≡ Some u)
    by_test true k h = let both = and_parts (o == obj) (e == extent) k in inl (eqb-true o obj both.0, eqb-true e extent both.1, h)
    by_test false k h = inr h

-- A unit of a population that holds publication back is registered: nothing committed since its snapshot.
loading_is : (log : List LogEntry) (query next place : ℕ) (p : Population) → PopulationIs log query next p → p.holds ≡ true → p.registered < p.table.extents
    → UnitIs log query next [] place p.obj p.registered (loading p)
loading_is log query next place p is holds left = record {
  snapshot = is.snapshot;
  ticket = is.ticket;
  built = record { table = p.table; defined = is.defined; in_memory = is.in_memory; within = left; columns = tt };
  covered = λ t scn commit above counts same. absurd (since t scn above counts);
  stands = record { same = λ e within change above upto. nothing_since e.scn above upto; kept = λ passes. nothing_at passes.number passes.link passes.found };
}
  where
    nothing_at : (n : ℕ) (l : Link) → At [] n l → ⊥
    nothing_at n l found = let e : None ≡ Some l = found in absurd cc

    nothing_since : (scn : ℕ) → p.snapshot < scn → scn ≤ query → ⊥
    nothing_since scn above upto = let e : p.snapshot ≡ query = is.held holds in absurd (omega arith)

    since : (t scn : ℕ) → p.snapshot < scn → Counts query [] place t scn → ⊥
    since t scn above (inl upto) = nothing_since scn above upto
    since t scn above (inr passes) = nothing_at passes.number passes.link passes.found

-- the population after it registered a unit
abbrev one_registered : Population → Population
one_registered p = record p { registered = p.registered + 1 }

pub register_keeps : (session : ℕ) → Keeps (λ c new. Registers c session new)
register_keeps session facts c new r i = subst Invariant (sym r.effect)
    (session_keeps c r.place (Populating (one_registered r.population)) c.quiesce units c.ticket i refl
    (still_held c r.place (Populating r.population) (Populating (one_registered r.population)) i r.is.found refl) (omega arith) stand others own (is, tied))
  where
    units : Units
    units = with_unit r.population.obj r.population.registered (Some (loading r.population)) c.units

    was : PopulationIs c.log c.query c.ticket r.population
    was = i.populations r.place r.population r.is.found

    no_links : c.links ≡ []
    no_links = held_no_links c.quiesce c.query (holders c.sessions) (holders (slice_set c.sessions r.place Free)) c.links
        (holders_less c.sessions r.place (Populating r.population) Free r.is.found r.holds refl) i.quiesce

    stand : (o e : ℕ) (u : ColumnUnit) → units o e ≡ Some u → UnitIs c.log c.query c.ticket c.links (unit_place c o e) o e u
    stand o e u h = either (unit_cases c.units r.population.obj r.population.registered o e (Some (loading r.population)) u h)
      where
        either : ((o ≡ r.population.obj) × (e ≡ r.population.registered) × (Some (loading r.population) ≡ Some u)) ⊎ (c.units o e ≡ Some u)
            → UnitIs c.log c.query c.ticket c.links (unit_place c o e) o e u
        either (inr k) = i.units o e u k
        either (inl k) =
            let same : loading r.population ≡ u = let some : Some (loading r.population) ≡ Some u = k.2 in cc in
            subst (λ (ls : List Link). UnitIs c.log c.query c.ticket ls (unit_place c o e) o e u) (sym no_links)
            (subst (λ (m : ℕ). UnitIs c.log c.query c.ticket [] (unit_place c o e) m e u) (sym k.0)
            (subst (λ (m : ℕ). UnitIs c.log c.query c.ticket [] (unit_place c o e) r.population.obj m u) (sym k.1)
            (subst (λ (w : ColumnUnit). UnitIs c.log c.query c.ticket [] (unit_place c o e) r.population.obj r.population.registered w) same
            (loading_is c.log c.query c.ticket (unit_place c o e) r.population was r.holds r.left))))

    others : (n : ℕ) (q : Population) → (n ≡ r.place → ⊥) → At c.sessions n (Populating q) → HasItsUnits units q
    others n q apart found o e u h same = either (unit_cases c.units r.population.obj r.population.registered o e (Some (loading r.population)) u h)
      where
        either : ((o ≡ r.population.obj) × (e ≡ r.population.registered) × (Some (loading r.population) ≡ Some u)) ⊎ (c.units o e ≡ Some u)
            → (o ≡ q.obj) × (u.snapshot ≡ q.snapshot)
        either (inr k) = i.tied n q found o e u k same
        either (inl k) =
            let is : loading r.population ≡ u = let some : Some (loading r.population) ≡ Some u = k.2 in cc in
            let tickets : q.ticket ≡ r.population.ticket = sym same ∙ sym (ap (λ (w : ColumnUnit). w.ticket) is) in
            absurd (apart (i.tickets n r.place q r.population found r.is.found tickets))

    own : TicketIsOwn c.sessions r.place (Populating (one_registered r.population))
    own n q apart found same = apart (i.tickets n r.place q r.population found r.is.found same)

    is : PopulationIs c.log c.query c.ticket (one_registered r.population)
    is = record {
      snapshot = was.snapshot;
      held = was.held;
      ticket = was.ticket;
      defined = was.defined;
      in_memory = was.in_memory;
      registered = let left : r.population.registered < r.population.table.extents = r.left in omega arith;
      extent = was.extent;
      blocks = was.blocks;
      read = was.read;
      installed = was.installed;
    }

    tied : HasItsUnits units (one_registered r.population)
    tied o e u h same = either (unit_cases c.units r.population.obj r.population.registered o e (Some (loading r.population)) u h)
      where
        either : ((o ≡ r.population.obj) × (e ≡ r.population.registered) × (Some (loading r.population) ≡ Some u)) ⊎ (c.units o e ≡ Some u)
            → (o ≡ r.population.obj) × (u.snapshot ≡ r.population.snapshot)
        either (inr k) = i.tied r.place r.population r.is.found o e u k same
        either (inl k) =
            let is : loading r.population ≡ u = let some : Some (loading r.population) ≡ Some u = k.2 in cc in
            (k.0, sym (ap (λ (w : ColumnUnit). w.snapshot) is))

pub register_precise : (session : ℕ) → KeepsPrecise (λ c new. Registers c session new)
register_precise session facts c new r i precise = subst Precise (sym r.effect) each
  where
    each : (o e : ℕ) (u : ColumnUnit) → with_unit r.population.obj r.population.registered (Some (loading r.population)) c.units o e ≡ Some u
        → UnitIsPrecise c.log c.born (limit c) u
    each o e u h = either (unit_cases c.units r.population.obj r.population.registered o e (Some (loading r.population)) u h)
      where
        either : ((o ≡ r.population.obj) × (e ≡ r.population.registered) × (Some (loading r.population) ≡ Some u)) ⊎ (c.units o e ≡ Some u)
            → UnitIsPrecise c.log c.born (limit c) u
        either (inr k) = precise o e u k
        either (inl k) =
            let same : loading r.population ≡ u = let some : Some (loading r.population) ≡ Some u = k.2 in cc in
            subst (λ (w : ColumnUnit). UnitIsPrecise c.log c.born (limit c) w) same
            (record { marked = λ a m. absurd (true≢false (sym m)); all = λ m. absurd (true≢false (sym m)) })

pub release_keeps : (session : ℕ) → Keeps (λ c new. Releases c session new)
release_keeps session facts c new r i = subst Invariant (sym r.effect)
    (session_keeps c r.place (Populating released) (held_once_less c.quiesce) c.units c.ticket i (cut_less c.query c.quiesce) held (omega arith) i.units
    (λ n q apart h. i.tied n q h) own (is, i.tied r.place r.population r.is.found))
  where
    released : Population
    released = record r.population { holds = false }

    was : PopulationIs c.log c.query c.ticket r.population
    was = i.populations r.place r.population r.is.found

    held : QuiesceIs (held_once_less c.quiesce) c.query (holders (slice_set c.sessions r.place (Populating released))) c.links
    held = held_less c.quiesce c.query (holders c.sessions) (holders (slice_set c.sessions r.place (Populating released))) c.links
        (holders_less c.sessions r.place (Populating r.population) (Populating released) r.is.found r.holds refl) i.quiesce

    own : TicketIsOwn c.sessions r.place (Populating released)
    own n q apart found same = apart (i.tickets n r.place q r.population found r.is.found same)

    is : PopulationIs c.log c.query c.ticket released
    is = record {
      snapshot = was.snapshot;
      held = λ h. absurd (true≢false (sym h));
      ticket = was.ticket;
      defined = was.defined;
      in_memory = was.in_memory;
      registered = was.registered;
      extent = was.extent;
      blocks = was.blocks;
      read = was.read;
      installed = was.installed;
    }

pub release_precise : (session : ℕ) → KeepsPrecise (λ c new. Releases c session new)
release_precise session facts c new r i precise = subst Precise (sym r.effect)
    (session_precise c r.place (Populating (record r.population { holds = false })) (held_once_less c.quiesce) c.units c.ticket i (cut_less c.query c.quiesce) precise)

-- a range in two parts
pub range_append : (m n a : ℕ) → range_with_len a (m + n) ≡ range_with_len a m ++ range_with_len (a + m) n
range_append zero n a =
    let none : 0 + n ≡ n = omega arith in
    let e : a ≡ a + 0 = omega arith in
    ap (range_with_len a) none ∙ ap (λ k. range_with_len k n) e
range_append (suc m) n a =
    let one : suc m + n ≡ suc (m + n) = omega arith in
    let e : a + 1 + m ≡ a + suc m = omega arith in
    ap (range_with_len a) one ∙ ap (λ ks. a ∷ ks) (range_append m n (a + 1) ∙ ap (λ k. range_with_len (a + 1) m ++ range_with_len k n) e)

-- the rows of blocks, and of those that follow
pub blocks_append : (rows : _) (obj width first m n : ℕ)
    → rows_of_blocks rows obj width first (m + n) ≡ rows_of_blocks rows obj width first m ++ rows_of_blocks rows obj width (first + m) n
blocks_append rows obj width first m n =
    ap (flat_map (block_rows rows obj width)) (range_append m n first)
    ∙ flat_map-append (block_rows rows obj width) (range_with_len first m) (range_with_len (first + m) n)

-- the population after it read its next block
abbrev one_read : CoreState → Population → Population
one_read c p = record p { blocks = p.blocks + 1; read = p.read ++ next_block c p }

pub read_keeps : (session : ℕ) → Keeps (λ c new. Reads c session new)
read_keeps session facts c new r i = subst Invariant (sym r.effect)
    (one_session_keeps c r.place (Populating r.population) (Populating (one_read c r.population)) i r.is.found refl own (is, i.tied r.place r.population r.is.found))
  where
    was : PopulationIs c.log c.query c.ticket r.population
    was = i.populations r.place r.population r.is.found

    own : TicketIsOwn c.sessions r.place (Populating (one_read c r.population))
    own n q apart found same = apart (i.tickets n r.place q r.population found r.is.found same)

    width : ℕ
    width = length r.population.table.kinds

    first : ℕ
    first = 16 * r.population.extent

    read : r.population.read ++ next_block c r.population ≡ rows_of_blocks (rows_at c.log r.population.snapshot) r.population.obj width first (r.population.blocks + 1)
    read =
        ap (λ (rs : List PlacedRow). rs ++ next_block c r.population) was.read
        ∙ ap (λ (rs : List PlacedRow). rows_of_blocks (rows_at c.log r.population.snapshot) r.population.obj width first r.population.blocks ++ rs)
        (sym (append-nil (next_block c r.population)))
        ∙ sym (blocks_append (rows_at c.log r.population.snapshot) r.population.obj width first r.population.blocks 1)

    is : PopulationIs c.log c.query c.ticket (one_read c r.population)
    is = record {
      snapshot = was.snapshot;
      held = was.held;
      ticket = was.ticket;
      defined = was.defined;
      in_memory = was.in_memory;
      registered = was.registered;
      extent = was.extent;
      blocks = let left : r.population.blocks < 16 = r.left in omega arith;
      read = read;
      installed = was.installed;
    }

pub read_precise : (session : ℕ) → KeepsPrecise (λ c new. Reads c session new)
read_precise session facts c new r i precise = subst Precise (sym r.effect) precise
