-- Each turn is one of the cases of View, and each event that the rule picks can happen.
use Rattle.std.proofs.Common.{◌≡◌, ℕ, ◌+◌, ◌-◌, ◌<◌, ◌≤◌, Bool, true, false, cond, ◌&&◌, ◌||◌, List, [], ◌++◌, length, Option, Some, None, ◌⊎◌, inl, inr, refl, sym, ap, ◌∙◌, subst, arith}
use Rattle.std.specs.Prelude.{slice_get, nat_lt, nat_le, ◌==◌}
use Rattle.std.specs.List.{list_all}
use Rattle.std.proofs.lemmas.Bool.{ltb-true, ltb-false, leb-true, leb-false, eqb-true, eqb-false, or_parts, cond_both}
use Rattle.adg_base.specs.declared.command.Command.{Command}
use Rattle.adg_base.specs.declared.command.Command.TheVariants as command
use Rattle.adg_base.specs.declared.command.Select.{Select}
use Rattle.adg_base.specs.declared.answer.Reply.{Reply}
use Rattle.adg_base.specs.declared.answer.Reply.TheVariants as reply
use Rattle.adg_model.specs.Transcript.{is_aborted}
use Rattle.adg_model.specs.Database.{Table, table_at}
use Rattle.adg_model.specs.Query.{has_columns, has_types}
use Rattle.core_rules.specs.declared.event.Event.{Event}
use Rattle.core_rules.specs.declared.event.Event.TheVariants as event
use Rattle.core_rules.specs.declared.event.CoreAnswer.{CoreAnswer}
use Rattle.core_rules.specs.declared.event.CoreAnswer.TheVariants.{Moved, Said}
use Rattle.core_rules.specs.State.{CoreState, Population, Scan, Session, Free, Populating, Scanning, At, is_flushing, held_once_more, held_once_less}
use Rattle.core_rules.specs.Populations.{IsSession, with_session, new_population, population_refusal, loading, with_unit, next_block, Installs, units_installed, installed_then, has_more, session_then, answer_then}
use Rattle.core_rules.specs.Scans.{scan_refusal, new_scan, scan_then, EndsScan as Ends, scan_reply}
use Rattle.core_rules.specs.Step.{Guard, Happens, Steps}
use Rattle.core_rules.specs.Runs.{Move}
use Rattle.core_rules.specs.Laws.{IsTextOf}
use Rattle.core_rules.proofs.Lists.{at_same, at_exists, at_within}
use Rattle.turn_rules.specs.Round.{Request, Asks, Garbles, Reads, Seat, at_hand, is_through, Round, actors}
use Rattle.turn_rules.specs.Picks.{Act, Rests, Makes, Replies, MakesAndReplies, Actor, Coordinator, WorkerAt, SessionAt, actor_of, number_at, actor_at, population_event, populate_act, scan_event, select_act, request_act, session_act, coordinator_act, worker_act, act_of, act_at}
use Rattle.turn_rules.specs.Turns.{said_by, Acts, TakesTurn, told_at, told_to_session, seats_after, is_abort_told}
use Rattle.turn_rules.specs.Standing.{IsFor, RoundIs}
use Rattle.turn_rules.proofs.View.{IsOfCrew, SessionIs, Replied, Aborts, Refused, Populates, Registers, Releases, ReadsOn, EndsExtent, EndsPopulation, BeginsScan, Gathers, EndsScan, SeatsAre, AtSeat, TurnIs, Rested, Crewed, Seated, TurnsAreThese}
use Rattle.turn_rules.proofs.Guards.{CrewDoes, coordinator_does, worker_does}

-- A step that can happen happens.
pub happens : (c : CoreState) (e : Event) (answer : CoreAnswer) (new : CoreState) → Guard c e → Steps c e answer new → Happens c e answer new
happens c e answer new g (inl h) = absurd (h.1 g)
happens c e answer new g (inr h) = h

-- An event of the coordinator or a worker moves, and says nothing.
crew_moves : (c : CoreState) (e : Event) (answer : CoreAnswer) (new : CoreState) → IsOfCrew e → Happens c e answer new → (answer ≡ Moved) × Happens c e Moved new
crew_moves c (event.Apply worker) answer new i h = (h.0, (refl, h.1))
crew_moves c (event.Mine worker) answer new i h = (h.0, (refl, h.1))
crew_moves c (event.Raise worker through) answer new i h = (h.0, (refl, h.1))
crew_moves c (event.BeginFlush through) answer new i h = (h.0, (refl, h.1))
crew_moves c (event.Claim actor) answer new i h = (h.0, (refl, h.1))
crew_moves c (event.Collect actor) answer new i h = (h.0, (refl, h.1))
crew_moves c (event.Touch actor) answer new i h = (h.0, (refl, h.1))
crew_moves c (event.Done actor) answer new i h = (h.0, (refl, h.1))
crew_moves c event.Publish answer new i h = (h.0, (refl, h.1))
crew_moves c (event.PopBegin session obj) answer new i h = absurd i
crew_moves c (event.PopRegister session) answer new i h = absurd i
crew_moves c (event.PopRelease session) answer new i h = absurd i
crew_moves c (event.PopRead session) answer new i h = absurd i
crew_moves c (event.PopEnd session) answer new i h = absurd i
crew_moves c (event.ScanBegin session select) answer new i h = absurd i
crew_moves c (event.ScanExtent session) answer new i h = absurd i
crew_moves c (event.ScanEnd session) answer new i h = absurd i
crew_moves c event.Restart answer new i h = absurd i

-- what the coordinator or a worker makes of the core
pub data CrewTurn (c : CoreState) (act : Act) (told : Option Reply) (new : CoreState) : Type 0 where
  Idles : act ≡ Rests → CrewTurn c act told new
  Works : (e : Event) → IsOfCrew e → Happens c e Moved new → told ≡ None → CrewTurn c act told new

crew_turn : (c : CoreState) (act : Act) (move : Option Move) (told : Option Reply) (new : CoreState) → CrewDoes c act → Acts c act move told new → CrewTurn c act told new
crew_turn c Rests move told new d a = Idles refl
crew_turn c (Replies said) move told new d a = absurd d
crew_turn c (MakesAndReplies e said) move told new d a = absurd d
crew_turn c (Makes e) move told new d a =
    let h = crew_moves c e a.0 new d.0 (happens c e a.0 new d.1 a.3) in
    Works e d.0 h.1 (a.2 ∙ ap said_by h.0)

-- the place and what a session does there are the ones of an event
own_place : (c : CoreState) (place q : ℕ) (s what : Session) → At c.sessions place s → IsSession c (place + 1) q what → (q ≡ place) × (what ≡ s)
own_place c place q s what h i =
    let n : place + 1 ≡ q + 1 = i.number in
    let e : q ≡ place = omega arith in
    (e, at_same c.sessions place what s (subst (λ m. At c.sessions m what) e i.found) h)

pub here : (c : CoreState) (place : ℕ) (s : Session) → At c.sessions place s → IsSession c (place + 1) place s
here c place s h = record { number = refl; found = h }

same_population : (p q : Population) → Populating q ≡ Populating p → q ≡ p
same_population p q h = cc

pub same_request : (q p : Request) → Some q ≡ Some p → q ≡ p
same_request q p h = cc

same_scan : (s t : Scan) → Scanning t ≡ Scanning s → t ≡ s
same_scan s t h = cc

-- What the session at a place makes of the core: it rests, or one of the cases.
abbrev SessionTurn : CoreState → (place : ℕ) → Session → Request → Option Reply → CoreState → Type 0
SessionTurn c place session request told new = (request_act c place (Some request) ≡ Rests) ⊎ SessionIs c place session request told (is_abort_told told) new

-- a session that does nothing yet
spelled : (text : List ℕ) (request : Request) (command : Command) → request ≡ Asks command → Reads text request → Reads text (Asks command)
spelled text request command e h = subst (Reads text) e h

pub population_said : (c : CoreState) (obj : ℕ) (said : Reply) (t : Option Table) → population_refusal c.query t ≡ Some said → is_aborted said ≡ false
population_said c obj said None h = let e : Some (reply.NoTable c.query) ≡ Some said = h in let f : reply.NoTable c.query ≡ said = cc in subst (λ r. is_aborted r ≡ false) f refl
population_said c obj said (Some table) h = by_flag table.flag h
  where
    by_flag : (b : Bool) → cond b None (Some (reply.NotInMemory c.query)) ≡ Some said → is_aborted said ≡ false
    by_flag true e = let f : None ≡ Some said = e in absurd cc
    by_flag false e = let g : Some (reply.NotInMemory c.query) ≡ Some said = e in let f : reply.NotInMemory c.query ≡ said = cc in subst (λ r. is_aborted r ≡ false) f refl

pub scan_said : (c : CoreState) (select : Select) (said : Reply) (t : Option Table) → scan_refusal c.query select t ≡ Some said → is_aborted said ≡ false
scan_said c select said None h = let e : Some (reply.NoTable c.query) ≡ Some said = h in let f : reply.NoTable c.query ≡ said = cc in subst (λ r. is_aborted r ≡ false) f refl
scan_said c select said (Some table) h = by_columns (has_columns select table) h
  where
    by_types : (b : Bool) → cond b None (Some (reply.WrongType c.query)) ≡ Some said → is_aborted said ≡ false
    by_types true e = let f : None ≡ Some said = e in absurd cc
    by_types false e = let g : Some (reply.WrongType c.query) ≡ Some said = e in let f : reply.WrongType c.query ≡ said = cc in subst (λ r. is_aborted r ≡ false) f refl

    by_columns : (b : Bool) → cond b (cond (has_types select table) None (Some (reply.WrongType c.query))) (Some (reply.NoColumn c.query)) ≡ Some said → is_aborted said ≡ false
    by_columns true e = by_types (has_types select table) e
    by_columns false e = let g : Some (reply.NoColumn c.query) ≡ Some said = e in let f : reply.NoColumn c.query ≡ said = cc in subst (λ r. is_aborted r ≡ false) f refl

begun_turn : (c : CoreState) (place obj : ℕ) (answer : CoreAnswer) (told : Option Reply) (new : CoreState) → At c.sessions place Free
    → told ≡ said_by answer → Happens c (event.PopBegin (place + 1) obj) answer new → SessionTurn c place Free (Asks (command.Populate obj)) told new
begun_turn c place obj answer told new at t (inl h) =
    let b = h.1 in
    let own = own_place c place b.can.place Free Free at b.can.free in
    let none : told ≡ None = t ∙ ap said_by h.0 in
    inr (Populates obj refl refl none (ap is_abort_told none) (record {
      calm = b.can.calm;
      table = b.table;
      defined = b.defined;
      in_memory = b.in_memory;
      ticket = b.ticket;
      fresh = b.fresh;
      next = b.next;
      above = b.above;
      forward = b.forward;
      effect = b.effect ∙ ap (λ n. record (with_session c n (Populating (new_population obj c.query b.ticket b.table))) { quiesce = held_once_more c.quiesce; ticket = b.next }) own.0;
    }))
begun_turn c place obj answer told new at t (inr h) =
    let some : told ≡ Some h.reply = t ∙ ap said_by h.says in
    inr (Refused h.reply refl h.refused.refusal (record {
      event = event.PopBegin (place + 1) obj;
      happens = inr (record { reply = h.reply; refused = h.refused; says = refl });
      text = λ text k. k;
    }) some (ap is_abort_told some ∙ population_said c obj h.reply (table_at c.log c.query obj) h.refused.refusal) h.refused.same)

scanned_turn : (c : CoreState) (place : ℕ) (select : Select) (answer : CoreAnswer) (told : Option Reply) (new : CoreState) → At c.sessions place Free
    → told ≡ said_by answer → Happens c (event.ScanBegin (place + 1) select) answer new → SessionTurn c place Free (Asks (command.Select select)) told new
scanned_turn c place select answer told new at t (inl h) =
    let b = h.1 in
    let own = own_place c place b.can.place Free Free at b.can.free in
    let none : told ≡ None = t ∙ ap said_by h.0 in
    inr (BeginsScan select b.table refl refl none (ap is_abort_told none) b.defined b.columns b.types
    (b.effect ∙ ap (λ n. with_session c n (Scanning (new_scan select c.query b.table))) own.0))
scanned_turn c place select answer told new at t (inr h) =
    let some : told ≡ Some h.reply = t ∙ ap said_by h.says in
    inr (Refused h.reply refl h.refused.refusal (record {
      event = event.ScanBegin (place + 1) select;
      happens = inr (record { reply = h.reply; refused = h.refused; says = refl });
      text = λ text k. k;
    }) some (ap is_abort_told some ∙ scan_said c select h.reply (table_at c.log c.query select.obj) h.refused.refusal) h.refused.same)

free_turn : (c : CoreState) (place : ℕ) (request : Request) (move : Option Move) (told : Option Reply) (new : CoreState) → At c.sessions place Free
    → Acts c (request_act c place (Some request)) move told new → SessionTurn c place Free request told new
free_turn c place (Garbles byte) move told new at a = inr (Replied (reply.BadQuery c.query byte) refl refl a.1 (ap is_abort_told a.1) a.2)
free_turn c place (Asks command.ShowScn) move told new at a = inr (Replied (reply.Shown c.query) refl refl a.1 (ap is_abort_told a.1) a.2)
free_turn c place (Asks command.Sync) move told new at a = by_test (c.query == c.frontier) refl a
  where
    by_test : (b : Bool) → (c.query == c.frontier) ≡ b → Acts c (cond b (Replies (reply.Synced c.query)) Rests) move told new → SessionTurn c place Free (Asks command.Sync) told new
    by_test true u k = inr (Replied (reply.Synced c.query) refl (refl, eqb-true c.query c.frontier u) k.1 (ap is_abort_told k.1) k.2)
    by_test false u k = inl (ap (λ b. cond b (Replies (reply.Synced c.query)) Rests) u)
free_turn c place (Asks command.Abort) move told new at a =
    let h = happens c event.Restart a.0 new tt a.3 in
    inr (Aborts refl refl a.2 (ap is_abort_told a.2) h.1)
free_turn c place (Asks (command.Populate obj)) move told new at a = by_test (is_flushing c.quiesce) refl (subst (λ o. Acts c (populate_act c (place + 1) obj o) move told new) at a)
  where
    by_test : (b : Bool) → is_flushing c.quiesce ≡ b → Acts c (cond b Rests (Makes (event.PopBegin (place + 1) obj))) move told new → SessionTurn c place Free (Asks (command.Populate obj)) told new
    by_test true u k = inl (ap (populate_act c (place + 1) obj) at ∙ ap (λ b. cond b Rests (Makes (event.PopBegin (place + 1) obj))) u)
    by_test false u k = begun_turn c place obj k.0 told new at k.2 (happens c (event.PopBegin (place + 1) obj) k.0 new (record { place = place; free = here c place Free at; calm = u }) k.3)
free_turn c place (Asks (command.Select select)) move told new at a =
    let k : Acts c (Makes (event.ScanBegin (place + 1) select)) move told new = subst (λ o. Acts c (select_act (place + 1) select o) move told new) at a in
    scanned_turn c place select k.0 told new at k.2 (happens c (event.ScanBegin (place + 1) select) k.0 new (record { place = place; free = here c place Free at }) k.3)

-- a population goes on
populating_turn : (c : CoreState) (place : ℕ) (p : Population) (move : Option Move) (told : Option Reply) (new : CoreState) → At c.sessions place (Populating p)
    → Acts c (Makes (population_event (place + 1) p)) move told new → SessionIs c place (Populating p) (Asks (command.Populate p.obj)) told (is_abort_told told) new
populating_turn c place p move told new at a = by_holds p.holds refl a
  where
    is : IsSession c (place + 1) place (Populating p)
    is = here c place (Populating p) at

    text_is : (text : List ℕ) → Reads text (Asks (command.Populate p.obj)) → IsTextOf c (event.PopEnd (place + 1)) text
    text_is text k = (place, p, is, k)

    registers : p.holds ≡ true → p.registered < p.table.extents → Acts c (Makes (event.PopRegister (place + 1))) move told new → SessionIs c place (Populating p) (Asks (command.Populate p.obj)) told (is_abort_told told) new
    registers u l k =
        let h = happens c (event.PopRegister (place + 1)) k.0 new (record { place = place; population = p; is = is; holds = u; left = l }) k.3 in
        let r = h.1 in
        let own = own_place c place r.place (Populating p) (Populating r.population) at r.is in
        let q = same_population p r.population own.1 in
        let none : told ≡ None = k.2 ∙ ap said_by h.0 in
        Registers p refl refl none (ap is_abort_told none) u l (r.effect
        ∙ ap (λ n. record (with_session c n (Populating (record r.population { registered = r.population.registered + 1 }))) { units = with_unit r.population.obj r.population.registered (Some (loading r.population)) c.units }) own.0
        ∙ ap (λ (x : Population). record (with_session c place (Populating (record x { registered = x.registered + 1 }))) { units = with_unit x.obj x.registered (Some (loading x)) c.units }) q)

    releases : p.holds ≡ true → p.table.extents ≤ p.registered → Acts c (Makes (event.PopRelease (place + 1))) move told new → SessionIs c place (Populating p) (Asks (command.Populate p.obj)) told (is_abort_told told) new
    releases u l k =
        let h = happens c (event.PopRelease (place + 1)) k.0 new (record { place = place; population = p; is = is; holds = u; all = l }) k.3 in
        let r = h.1 in
        let own = own_place c place r.place (Populating p) (Populating r.population) at r.is in
        let q = same_population p r.population own.1 in
        let none : told ≡ None = k.2 ∙ ap said_by h.0 in
        Releases p refl refl none (ap is_abort_told none) u l (r.effect
        ∙ ap (λ n. record (with_session c n (Populating (record r.population { holds = false }))) { quiesce = held_once_less c.quiesce }) own.0
        ∙ ap (λ (x : Population). record (with_session c place (Populating (record x { holds = false }))) { quiesce = held_once_less c.quiesce }) q)

    reads : p.holds ≡ false → p.blocks < 16 → Acts c (Makes (event.PopRead (place + 1))) move told new → SessionIs c place (Populating p) (Asks (command.Populate p.obj)) told (is_abort_told told) new
    reads u l k =
        let h = happens c (event.PopRead (place + 1)) k.0 new (record { place = place; population = p; is = is; released = u; left = l }) k.3 in
        let r = h.1 in
        let own = own_place c place r.place (Populating p) (Populating r.population) at r.is in
        let q = same_population p r.population own.1 in
        let none : told ≡ None = k.2 ∙ ap said_by h.0 in
        ReadsOn p refl refl none (ap is_abort_told none) u l (r.effect
        ∙ ap (λ n. with_session c n (Populating (record r.population { blocks = r.population.blocks + 1; read = r.population.read ++ next_block c r.population }))) own.0
        ∙ ap (λ (x : Population). with_session c place (Populating (record x { blocks = x.blocks + 1; read = x.read ++ next_block c x }))) q)

    ends : p.holds ≡ false → 16 ≤ p.blocks → Acts c (Makes (event.PopEnd (place + 1))) move told new → SessionIs c place (Populating p) (Asks (command.Populate p.obj)) told (is_abort_told told) new
    ends u l k = by_more (has_more p) refl
      where
        h : Installs c (place + 1) k.0 new
        h = happens c (event.PopEnd (place + 1)) k.0 new (record { place = place; population = p; is = is; released = u; whole = l }) k.3

        own : (h.place ≡ place) × (Populating h.population ≡ Populating p)
        own = own_place c place h.place (Populating p) (Populating h.population) at h.is

        q : h.population ≡ p
        q = same_population p h.population own.1

        count : ℕ
        count = installed_then p c.units

        says : k.0 ≡ answer_then p count
        says = h.says ∙ ap (λ (x : Population). answer_then x (installed_then x c.units)) q

        effect : new ≡ record (with_session c place (session_then p count)) { units = units_installed p c.units }
        effect = h.effect
            ∙ ap (λ n. record (with_session c n (session_then h.population (installed_then h.population c.units))) { units = units_installed h.population c.units }) own.0
            ∙ ap (λ (x : Population). record (with_session c place (session_then x (installed_then x c.units))) { units = units_installed x c.units }) q

        by_more : (b : Bool) → has_more p ≡ b → SessionIs c place (Populating p) (Asks (command.Populate p.obj)) told (is_abort_told told) new
        by_more true m =
            let moved : k.0 ≡ Moved = says ∙ ap (λ b. cond b Moved (Said (reply.Populated p.snapshot count))) m in
            let none : told ≡ None = k.2 ∙ ap said_by moved in
            EndsExtent p refl refl none (ap is_abort_told none) u l m (effect ∙ ap (λ b. record (with_session c place (cond b (Populating (record p { extent = p.extent + 1; blocks = 0; read = []; installed = count })) Free)) { units = units_installed p c.units }) m)
        by_more false m =
            let said : k.0 ≡ Said (reply.Populated p.snapshot count) = says ∙ ap (λ b. cond b Moved (Said (reply.Populated p.snapshot count))) m in
            let some : told ≡ Some (reply.Populated p.snapshot count) = k.2 ∙ ap said_by said in
            EndsPopulation p refl refl some (ap is_abort_told some) u l m (record { event = event.PopEnd (place + 1); happens = subst (λ x. Installs c (place + 1) x new) said h; text = text_is })
            (effect ∙ ap (λ b. record (with_session c place (cond b (Populating (record p { extent = p.extent + 1; blocks = 0; read = []; installed = count })) Free)) { units = units_installed p c.units }) m)

    by_holds : (b : Bool) → p.holds ≡ b
        → Acts c (Makes (cond b (cond (nat_lt p.registered p.table.extents) (event.PopRegister (place + 1)) (event.PopRelease (place + 1))) (cond (nat_lt p.blocks 16) (event.PopRead (place + 1)) (event.PopEnd (place + 1))))) move told new
        → SessionIs c place (Populating p) (Asks (command.Populate p.obj)) told (is_abort_told told) new
    by_holds true u = cond_both (nat_lt p.registered p.table.extents) (event.PopRegister (place + 1)) (event.PopRelease (place + 1))
        (λ e. Acts c (Makes e) move told new → SessionIs c place (Populating p) (Asks (command.Populate p.obj)) told (is_abort_told told) new)
        (λ w k. registers u (ltb-true p.registered p.table.extents w) k)
        (λ w k. releases u (ltb-false p.registered p.table.extents w) k)
    by_holds false u = cond_both (nat_lt p.blocks 16) (event.PopRead (place + 1)) (event.PopEnd (place + 1))
        (λ e. Acts c (Makes e) move told new → SessionIs c place (Populating p) (Asks (command.Populate p.obj)) told (is_abort_told told) new)
        (λ w k. reads u (ltb-true p.blocks 16 w) k)
        (λ w k. ends u (ltb-false p.blocks 16 w) k)

-- a scan goes on
scanning_turn : (c : CoreState) (place : ℕ) (s : Scan) (move : Option Move) (told : Option Reply) (new : CoreState) → At c.sessions place (Scanning s)
    → Acts c (Makes (scan_event (place + 1) s)) move told new → SessionIs c place (Scanning s) (Asks (command.Select s.select)) told (is_abort_told told) new
scanning_turn c place s move told new at a = cond_both (nat_lt s.extents s.table.extents) (event.ScanExtent (place + 1)) (event.ScanEnd (place + 1))
    (λ e. Acts c (Makes e) move told new → SessionIs c place (Scanning s) (Asks (command.Select s.select)) told (is_abort_told told) new)
    (λ w k. gathers (ltb-true s.extents s.table.extents w) k)
    (λ w k. ends (ltb-false s.extents s.table.extents w) k) a
  where
    is : IsSession c (place + 1) place (Scanning s)
    is = here c place (Scanning s) at

    gathers : s.extents < s.table.extents → Acts c (Makes (event.ScanExtent (place + 1))) move told new → SessionIs c place (Scanning s) (Asks (command.Select s.select)) told (is_abort_told told) new
    gathers l k =
        let h = happens c (event.ScanExtent (place + 1)) k.0 new (record { place = place; scan = s; is = is; left = l }) k.3 in
        let r = h.1 in
        let own = own_place c place r.place (Scanning s) (Scanning r.scan) at r.is in
        let q = same_scan s r.scan own.1 in
        let none : told ≡ None = k.2 ∙ ap said_by h.0 in
        Gathers s refl refl none (ap is_abort_told none) l (r.effect ∙ ap (λ n. with_session c n (Scanning (scan_then c r.scan))) own.0 ∙ ap (λ (x : Scan). with_session c place (Scanning (scan_then c x))) q)

    ends : s.table.extents ≤ s.extents → Acts c (Makes (event.ScanEnd (place + 1))) move told new → SessionIs c place (Scanning s) (Asks (command.Select s.select)) told (is_abort_told told) new
    ends l k =
        let h = happens c (event.ScanEnd (place + 1)) k.0 new (record { place = place; scan = s; is = is; whole = l }) k.3 in
        let r = h.refused in
        let own = own_place c place r.place (Scanning s) (Scanning r.scan) at r.is in
        let q = same_scan s r.scan own.1 in
        let reply_is : h.reply ≡ scan_reply s = r.says ∙ ap scan_reply q in
        let said : k.0 ≡ Said (scan_reply s) = h.says ∙ ap Said reply_is in
        let some : told ≡ Some (scan_reply s) = k.2 ∙ ap said_by said in
        EndsScan s refl refl some (ap is_abort_told some) l
        (record { event = event.ScanEnd (place + 1); happens = record { reply = scan_reply s; refused = subst (λ x. Ends c (place + 1) x new) reply_is r; says = refl }; text = λ text t. (place, s, is, t) })
        (r.effect ∙ ap (λ n. with_session c n Free) own.0)

-- A session does what its request at hand asks for.
session_turn : (c : CoreState) (place : ℕ) (session : Session) (request : Request) (move : Option Move) (told : Option Reply) (new : CoreState) → At c.sessions place session
    → IsFor session (Some request) → Acts c (request_act c place (Some request)) move told new → SessionTurn c place session request told new
session_turn c place Free request move told new at i a = free_turn c place request move told new at a
session_turn c place (Populating p) request move told new at i a =
    let e : Some request ≡ Some (Asks (command.Populate p.obj)) = i in
    let f : request ≡ Asks (command.Populate p.obj) = cc in
    let k : Acts c (populate_act c (place + 1) p.obj (slice_get c.sessions place)) move told new = subst (λ q. Acts c (request_act c place (Some q)) move told new) f a in
    inr (subst (λ q. SessionIs c place (Populating p) q told (is_abort_told told) new) (sym f)
    (populating_turn c place p move told new at (subst (λ o. Acts c (populate_act c (place + 1) p.obj o) move told new) at k)))
session_turn c place (Scanning s) request move told new at i a =
    let e : Some request ≡ Some (Asks (command.Select s.select)) = i in
    let f : request ≡ Asks (command.Select s.select) = cc in
    let k : Acts c (select_act (place + 1) s.select (slice_get c.sessions place)) move told new = subst (λ q. Acts c (request_act c place (Some q)) move told new) f a in
    inr (subst (λ q. SessionIs c place (Scanning s) q told (is_abort_told told) new) (sym f)
    (scanning_turn c place s move told new at (subst (λ o. Acts c (select_act (place + 1) s.select o) move told new) at k)))

-- A turn in which something is done, by its actor.
pub data MoveIs (r next : Round) : Type 0 where
  CrewMoves : (e : Event) → IsOfCrew e → Happens r.core e Moved next.core → next.seats ≡ r.seats → next.aborted ≡ false → MoveIs r next
  SessionMoves : (place : ℕ) (seat : Seat) (session : Session) (request : Request) (told : Option Reply) → AtSeat r next place seat session request told
      → SessionIs r.core place session request told next.aborted next.core → MoveIs r next

crew_is : (r next : Round) (act : Act) (told : Option Reply) → CrewTurn r.core act told next.core → next.seats ≡ r.seats → next.aborted ≡ is_abort_told told → (act ≡ Rests) ⊎ MoveIs r next
crew_is r next act told (Idles t) seats aborted = inl t
crew_is r next act told (Works e i h t) seats aborted = inr (CrewMoves e i h seats (aborted ∙ ap is_abort_told t))

told_seats : (place : ℕ) (seat : Seat) (told : Option Reply) (seats : List Seat) → At seats place seat → SeatsAre place seat told seats (told_to_session place told seats)
told_seats place seat None seats h = refl
told_seats place seat (Some said) seats h = ap (λ o. told_at place said o seats) h

session_is : (r next : Round) (place : ℕ) (move : Option Move) (told : Option Reply) → RoundIs r → Acts r.core (session_act r.core place (slice_get r.seats place)) move told next.core
    → next.seats ≡ told_to_session place told r.seats → next.aborted ≡ is_abort_told told → (session_act r.core place (slice_get r.seats place) ≡ Rests) ⊎ MoveIs r next
session_is r next place move told is a seats aborted = by_seat (slice_get r.seats place) refl a
  where
    by_turn : (seat : Seat) (request : Request) (session : Session) → At r.seats place seat → at_hand seat ≡ Some request → At r.core.sessions place session
        → SessionTurn r.core place session request told next.core → (request_act r.core place (Some request) ≡ Rests) ⊎ MoveIs r next
    by_turn seat request session at asks does (inl t) = inl t
    by_turn seat request session at asks does (inr t) = inr (SessionMoves place seat session request told
        (record { seated = at; does = does; asks = asks; seats = subst (SeatsAre place seat told r.seats) (sym seats) (told_seats place seat told r.seats at) })
        (subst (λ b. SessionIs r.core place session request told b next.core) (sym aborted) t))

    by_request : (seat : Seat) → At r.seats place seat → (o : Option Request) → at_hand seat ≡ o → Acts r.core (request_act r.core place o) move told next.core
        → (request_act r.core place o ≡ Rests) ⊎ MoveIs r next
    by_request seat at None asks k = inl refl
    by_request seat at (Some request) asks k =
        let within : place < length r.seats = at_within r.seats place seat at in
        let as_many : length r.seats ≡ length r.core.sessions = is.seated in
        let s = at_exists r.core.sessions place (omega arith) in
        by_turn seat request s.0 at asks s.1 (session_turn r.core place s.0 request move told next.core s.1 (subst (IsFor s.0) asks (is.busy place seat s.0 at s.1)) k)

    by_seat : (o : Option Seat) → slice_get r.seats place ≡ o → Acts r.core (session_act r.core place o) move told next.core → (session_act r.core place o ≡ Rests) ⊎ MoveIs r next
    by_seat None at k = inl refl
    by_seat (Some seat) at k = by_request seat at (at_hand seat) refl k

-- the actor of a number is the coordinator, a worker of the core, or a session
pub data IsActor (workers number : ℕ) : Type 0 where
  First : actor_of workers number ≡ Coordinator → IsActor workers number
  Middle : (worker : ℕ) → worker < workers → number ≡ worker + 1 → actor_of workers number ≡ WorkerAt worker → IsActor workers number
  Last : (place : ℕ) → number ≡ workers + 1 + place → actor_of workers number ≡ SessionAt place → IsActor workers number

pub actor_is : (workers number : ℕ) → IsActor workers number
actor_is workers number = by_zero (number == 0) refl
  where
    by_worker : (number ≡ 0 → ⊥) → (number == 0) ≡ false → (b : Bool) → nat_le number workers ≡ b → IsActor workers number
    by_worker n z true u = let l : number ≤ workers = leb-true number workers u in
        Middle (number - 1) (omega (arith, n)) (omega (arith, n)) (ap (λ b. cond b Coordinator (cond (nat_le number workers) (WorkerAt (number - 1)) (SessionAt (number - workers - 1)))) z
        ∙ ap (λ b. cond b (WorkerAt (number - 1)) (SessionAt (number - workers - 1))) u)
    by_worker n z false u = let l : workers < number = leb-false number workers u in
        Last (number - workers - 1) (omega arith) (ap (λ b. cond b Coordinator (cond (nat_le number workers) (WorkerAt (number - 1)) (SessionAt (number - workers - 1)))) z
        ∙ ap (λ b. cond b (WorkerAt (number - 1)) (SessionAt (number - workers - 1))) u)

    by_zero : (b : Bool) → (number == 0) ≡ b → IsActor workers number
    by_zero true z = First (ap (λ b. cond b Coordinator (cond (nat_le number workers) (WorkerAt (number - 1)) (SessionAt (number - workers - 1)))) z)
    by_zero false z = by_worker (eqb-false number 0 z) z (nat_le number workers) refl

-- A turn is a rest, or something is done in it.
pub turns_move : (schedule : List ℕ) (r : Round) (move : Option Move) (next : Round) → RoundIs r → TakesTurn schedule r move next → (act_at schedule r r.turns ≡ Rests) ⊎ MoveIs r next
turns_move schedule r move next is t = by_actor (actor_is (length r.core.workers) (number_at schedule (actors r) r.turns))
  where
    unaborted : r.aborted ≡ false
    unaborted = (or_parts r.aborted (list_all is_through r.seats && (r.core.query == r.core.frontier)) t.goes_on).0

    core_is : next.core ≡ t.core
    core_is = ap (λ (x : Round). x.core) t.effect

    seats_are : next.seats ≡ seats_after (actor_at schedule r r.turns) t.told r.seats
    seats_are = ap (λ (x : Round). x.seats) t.effect

    aborted_is : next.aborted ≡ is_abort_told t.told
    aborted_is = ap (λ (x : Round). x.aborted) t.effect ∙ ap (λ b. b || is_abort_told t.told) unaborted

    acts_as : (a : Actor) → actor_at schedule r r.turns ≡ a → Acts r.core (act_of r a) move t.told next.core
    acts_as a e = subst (λ x. Acts r.core (act_of r a) move t.told x) (sym core_is) (subst (λ x. Acts r.core (act_of r x) move t.told t.core) e t.acts)

    back : (a : Actor) → actor_at schedule r r.turns ≡ a → (act_of r a ≡ Rests) ⊎ MoveIs r next → (act_at schedule r r.turns ≡ Rests) ⊎ MoveIs r next
    back a e (inl h) = inl (ap (act_of r) e ∙ h)
    back a e (inr m) = inr m

    by_actor : IsActor (length r.core.workers) (number_at schedule (actors r) r.turns) → (act_at schedule r r.turns ≡ Rests) ⊎ MoveIs r next
    by_actor (First e) = back Coordinator e
        (crew_is r next (coordinator_act r.core) t.told (crew_turn r.core (coordinator_act r.core) move t.told next.core (coordinator_does r.core is.core) (acts_as Coordinator e))
        (seats_are ∙ ap (λ a. seats_after a t.told r.seats) e) aborted_is)
    by_actor (Middle worker known n e) = back (WorkerAt worker) e
        (crew_is r next (worker_act r.core worker) t.told (crew_turn r.core (worker_act r.core worker) move t.told next.core (worker_does r.core is.core worker known) (acts_as (WorkerAt worker) e))
        (seats_are ∙ ap (λ a. seats_after a t.told r.seats) e) aborted_is)
    by_actor (Last place n e) = back (SessionAt place) e
        (session_is r next place move t.told is (acts_as (SessionAt place) e) (seats_are ∙ ap (λ a. seats_after a t.told r.seats) e) aborted_is)

-- In a rest nothing changes but whose turn it is.
pub rest_is : (schedule : List ℕ) (r : Round) (move : Option Move) (next : Round) → TakesTurn schedule r move next → act_at schedule r r.turns ≡ Rests
    → (next ≡ record r { turns = r.turns + 1 }) × (move ≡ None)
rest_is schedule r move next t h = (by_told, a.0)
  where
    a : Acts r.core Rests move t.told t.core
    a = subst (λ x. Acts r.core x move t.told t.core) h t.acts

    unaborted : r.aborted ≡ false
    unaborted = (or_parts r.aborted (list_all is_through r.seats && (r.core.query == r.core.frontier)) t.goes_on).0

    silent : (x : Actor) → seats_after x None r.seats ≡ r.seats
    silent Coordinator = refl
    silent (WorkerAt worker) = refl
    silent (SessionAt place) = refl

    by_told : next ≡ record r { turns = r.turns + 1 }
    by_told = t.effect
        ∙ ap (λ o. record { core = t.core; seats = seats_after (actor_at schedule r r.turns) o r.seats; turns = r.turns + 1; aborted = r.aborted || is_abort_told o }) a.1
        ∙ ap (λ x. record { core = x; seats = seats_after (actor_at schedule r r.turns) None r.seats; turns = r.turns + 1; aborted = r.aborted || false }) a.2
        ∙ ap (λ x. record { core = r.core; seats = x; turns = r.turns + 1; aborted = r.aborted || false }) (silent (actor_at schedule r r.turns))
        ∙ ap (λ b. record { core = r.core; seats = r.seats; turns = r.turns + 1; aborted = b || false }) unaborted
        ∙ ap (λ b. record { core = r.core; seats = r.seats; turns = r.turns + 1; aborted = b }) (sym unaborted)

pub turns_are_these : TurnsAreThese
turns_are_these schedule r move next is t = (unaborted, by_move (turns_move schedule r move next is t))
  where
    unaborted : r.aborted ≡ false
    unaborted = (or_parts r.aborted (list_all is_through r.seats && (r.core.query == r.core.frontier)) t.goes_on).0

    by_move : (act_at schedule r r.turns ≡ Rests) ⊎ MoveIs r next → TurnIs r next
    by_move (inl h) =
        let e = (rest_is schedule r move next t h).0 in
        Rested (ap (λ (x : Round). x.core) e) (ap (λ (x : Round). x.seats) e) (ap (λ (x : Round). x.aborted) e ∙ unaborted)
    by_move (inr (CrewMoves e i h seats aborted)) = Crewed e i h seats aborted
    by_move (inr (SessionMoves place seat session request told at is)) = Seated place seat session request told at is
