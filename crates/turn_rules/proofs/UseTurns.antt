-- Each turn keeps what is carried for column use.
use Rattle.std.proofs.Common.{◌≡◌, ℕ, ◌+◌, ◌<◌, ◌≤◌, Bool, true, false, cond, List, [], ◌∷◌, ◌++◌, drop, ◌^◌, Option, Some, None, ◌⊎◌, inl, inr, refl, sym, ap, ◌∙◌, subst, arith, true≢false}
use Rattle.std.specs.Prelude.{slice_set}
use Rattle.std.specs.List.{Contains}
use Rattle.std.proofs.lemmas.Bool.{cases_eq}
use Rattle.std.proofs.lemmas.Slice.Eq.{bytes_eq-Decides}
use Rattle.adg_base.specs.declared.placed.PlacedRow.{PlacedRow}
use Rattle.adg_base.specs.declared.command.Command.TheVariants as command
use Rattle.adg_base.specs.declared.command.CommandText.{CommandText}
use Rattle.adg_base.specs.declared.command.Select.{Select}
use Rattle.adg_base.specs.declared.answer.Reply.{Reply}
use Rattle.adg_base.specs.declared.answer.Reply.TheVariants as reply
use Rattle.adg_model.specs.Command.{Spells, command_bytes}
use Rattle.adg_model.specs.Database.{Table, rows_at, table_at}
use Rattle.adg_model.specs.Query.{has_columns, has_types}
use Rattle.adg_model.proofs.CommandLaws.{one_command}
use Rattle.core_rules.specs.Share.{NotRedefined}
use Rattle.core_rules.specs.State.{CoreState, Units, Population, Scan, Session, Free, Populating, Scanning, At}
use Rattle.core_rules.specs.Populations.{with_session, new_population, loading, with_unit, next_block, units_installed, installed_then, has_more, population_refusal}
use Rattle.core_rules.specs.Scans.{new_scan, scan_then, scan_reply, scan_refusal, next_look, next_places, count_from_blocks}
use Rattle.core_rules.specs.Restarts.{restarted}
use Rattle.core_rules.specs.Invariant.{Invariant}
use Rattle.core_rules.specs.ColumnUse.{Told, WasPopulated, populates, populated_scn, populated_by, last_populated, or_earlier, has_abort, others_populate, anyone_populates, touched_rows, RowsAreTouched, HasReadyUnits}
use Rattle.core_rules.specs.UnitParts.{CoarseWithin}
use Rattle.core_rules.proofs.Lists.{at_same, at_within, at_set_same, at_set_kept, at_set_cases}
use Rattle.turn_rules.specs.Round.{Request, Asks, Garbles, Reads, Seat, Round}
use Rattle.turn_rules.specs.Turns.{with_reply}
use Rattle.turn_rules.specs.Standing.{RoundIs}
use Rattle.turn_rules.proofs.View.{RepliesAlone, Refuses, SessionIs, Replied, Aborts, Refused, Populates, Registers, Releases, ReadsOn, EndsExtent, EndsPopulation, BeginsScan, Gathers, EndsScan, SeatsAre, AtSeat, TurnIs, Rested, Crewed, Seated, TurnsAreThese}
use Rattle.turn_rules.proofs.CrewKept.{session_keeps, SessionKeeps}
use Rattle.turn_rules.proofs.Decimals.{same_object}
use Rattle.turn_rules.proofs.WasTold.{was_some, last_more, was_same}
use Rattle.turn_rules.proofs.UseSessions.{told_other, told_own, answers_more, AtHand, text_at_hand, anyone_does, others_do, aborts_do, spelled_populates, ready_stay, ready_published, building_stay, unit_of_other, installed_other, stay_by}
use Rattle.turn_rules.proofs.Use.{told_so_far, CrewLeaves, CrewLeavesUnits, IsBuilding, BuildingGoesOn, BuildingEnds, GathersTouched, ScansGather, Scene, ScanUse, RowsUse, ReplyUse, AnswersUse, PopulatesNow, UseIs, UseEnded, UseByAbort, SeatsAreOf, TurnsKeepUse}

-- An event of the coordinator or a worker.
crew_use : (x : Scene) (c new : CoreState) (seats : List Seat) → Invariant c → CrewLeaves c new → UseIs x c seats → UseIs x new seats
crew_use x c new seats v k u = record {
  log = k.log ∙ u.log;
  frontier = k.frontier ∙ u.frontier;
  born = k.born ∙ u.born;
  floor = let a : x.floor ≤ c.query = u.floor in let b : c.query ≤ new.query = k.query in omega arith;
  none = λ obj a b. k.none obj (u.none obj a b);
  filled = λ session obj scn a b w n d.
      let ready = u.filled session obj scn a b w n (λ p. d (subst (λ ss. PopulatesNow ss session obj) (sym k.sessions) p)) in
      let low : scn ≤ c.query = ready_published c v obj scn (subst (λ l. HasReadyUnits l c.units obj scn) (sym u.log) ready) in
      ready_stay x.log c.units new.units obj scn (k.units obj scn low (redefined_on obj scn n)) ready;
  building = λ place p h.
      let at = subst (λ ss. At ss place (Populating p)) k.sessions h in
      let b = u.building place p at in
      (b.0, λ a o n. building_stay c.units new.units p (k.units p.obj p.snapshot (v.populations place p at).snapshot (redefined_on p.obj p.snapshot n)) (b.1 a o n));
  scans = λ place s h. u.scans place s (subst (λ ss. At ss place (Scanning s)) k.sessions h);
  answers = u.answers;
}
  where
    redefined_on : (obj scn : ℕ) → NotRedefined x.log obj scn x.frontier → NotRedefined c.log obj scn c.frontier
    redefined_on obj scn n = subst (λ f. NotRedefined c.log obj scn f) (sym u.frontier) (subst (λ l. NotRedefined l obj scn x.frontier) (sym u.log) n)

-- replies that say nothing of units
abbrev IsPlainReply : Scene → Reply → Type 0
IsPlainReply x said = (populated_scn said ≡ None) × ((session : ℕ) (told : List Told) (t : List ℕ) → ReplyUse x session told t said)

plain_by : (x : Scene) (a b : Reply) → a ≡ b → IsPlainReply x a → IsPlainReply x b
plain_by x a b e h = subst (IsPlainReply x) e h

alone_plain : (x : Scene) (c : CoreState) (request : Request) (said : Reply) → RepliesAlone c request said → IsPlainReply x said
alone_plain x c (Garbles byte) said h = plain_by x (reply.BadQuery c.query byte) said (sym h) (refl, λ session told t. tt)
alone_plain x c (Asks command.ShowScn) said h = plain_by x (reply.Shown c.query) said (sym h) (refl, λ session told t. tt)
alone_plain x c (Asks command.Sync) said h = plain_by x (reply.Synced c.query) said (sym h.0) (refl, λ session told t. tt)
alone_plain x c (Asks command.Abort) said h = absurd h
alone_plain x c (Asks (command.Populate obj)) said h = absurd h
alone_plain x c (Asks (command.Select select)) said h = absurd h

some_reply : (a b : Reply) → Some a ≡ Some b → a ≡ b
some_reply a b h = cc

refused_plain : (x : Scene) (c : CoreState) (request : Request) (said : Reply) → Refuses c request said → IsPlainReply x said
refused_plain x c (Garbles byte) said h = absurd h
refused_plain x c (Asks command.ShowScn) said h = absurd h
refused_plain x c (Asks command.Sync) said h = absurd h
refused_plain x c (Asks command.Abort) said h = absurd h
refused_plain x c (Asks (command.Populate obj)) said h = by_table (table_at c.log c.query obj) h
  where
    by_flag : (b : Bool) → cond b None (Some (reply.NotInMemory c.query)) ≡ Some said → IsPlainReply x said
    by_flag true e = let f : None ≡ Some said = e in absurd cc
    by_flag false e = plain_by x (reply.NotInMemory c.query) said (some_reply (reply.NotInMemory c.query) said e) (refl, λ session told t. tt)

    by_table : (o : Option Table) → population_refusal c.query o ≡ Some said → IsPlainReply x said
    by_table None e = plain_by x (reply.NoTable c.query) said (some_reply (reply.NoTable c.query) said e) (refl, λ session told t. tt)
    by_table (Some table) e = by_flag table.flag e
refused_plain x c (Asks (command.Select select)) said h = by_table (table_at c.log c.query select.obj) h
  where
    by_types : (b : Bool) → cond b None (Some (reply.WrongType c.query)) ≡ Some said → IsPlainReply x said
    by_types true e = let f : None ≡ Some said = e in absurd cc
    by_types false e = plain_by x (reply.WrongType c.query) said (some_reply (reply.WrongType c.query) said e) (refl, λ session told t. tt)

    by_columns : (table : Table) (b : Bool) → cond b (cond (has_types select table) None (Some (reply.WrongType c.query))) (Some (reply.NoColumn c.query)) ≡ Some said → IsPlainReply x said
    by_columns table true e = by_types (has_types select table) e
    by_columns table false e = plain_by x (reply.NoColumn c.query) said (some_reply (reply.NoColumn c.query) said e) (refl, λ session told t. tt)

    by_table : (o : Option Table) → scan_refusal c.query select o ≡ Some said → IsPlainReply x said
    by_table None e = plain_by x (reply.NoTable c.query) said (some_reply (reply.NoTable c.query) said e) (refl, λ session told t. tt)
    by_table (Some table) e = by_columns table (has_columns select table) e

-- a text that populates one object populates no other
one_object : (t : List ℕ) (p o : ℕ) → Spells t (command.Populate p) → populates o t ≡ true → o ≡ p
one_object t p o h k =
    let e : t ≡ command_bytes (command.Populate o) = (bytes_eq-Decides t (command_bytes (command.Populate o))).0 k in
    let below : p < 2 ^ 16 = h.0.1 in
    same_object o p below (ap (drop 10) (sym e ∙ h.1))

populated_other : (t : List ℕ) (p o scn units : ℕ) → Spells t (command.Populate p) → (o ≡ p → ⊥) → populated_by o (t, reply.Populated scn units) ≡ None
populated_other t p o scn units h d = by_test (populates o t) refl
  where
    by_test : (b : Bool) → populates o t ≡ b → cond b (Some scn) None ≡ None
    by_test true k = absurd (d (one_object t p o h k))
    by_test false k = refl

-- blocks read do not matter
building_read : (units : Units) (p : Population) (blocks : ℕ) (read : List PlacedRow) → IsBuilding units p → IsBuilding units (record p { blocks = blocks; read = read })
building_read units p blocks read b = record {
  ended = λ extent l. let h = b.ended extent l in (h.0, h.1, record { snapshot = h.2.snapshot; ticket = h.2.ticket; columns = h.2.columns });
  waiting = λ extent l m. let h = b.waiting extent l m in (h.0, h.1, record { snapshot = h.2.snapshot; ticket = h.2.ticket; columns = h.2.columns });
  installed = b.installed;
  holding = b.holding;
  released = b.released;
}

-- What a session does.
module _ (x : Scene) (r next : Round) (place : ℕ) (seat : Seat) (session : Session) (request : Request) (told : Option Reply) (goes_on : BuildingGoesOn) (ends : BuildingEnds) (gathers : ScansGather)
    (is : RoundIs r) (so : SeatsAreOf x.commands r.seats) (at : AtSeat r next place seat session request told) (u : UseIs x r.core r.seats) (keeps : SessionKeeps r.core next.core) where
  hand : AtHand x.commands place seat request
  hand = text_at_hand x.commands r.seats place seat request so at.seated at.asks

  asked : (c : CommandText) → Contains x.commands c → 1 ≤ c.session
  asked c h = (so.asked c h).0

  hand_for : (q : Request) → request ≡ q → AtHand x.commands place seat q
  hand_for q e = subst (AtHand x.commands place seat) e (text_at_hand x.commands r.seats place seat request so at.seated at.asks)

  seats_none : told ≡ None → next.seats ≡ r.seats
  seats_none t = subst (λ o. SeatsAre place seat o r.seats next.seats) t at.seats

  seats_said : (said : Reply) → told ≡ Some said → next.seats ≡ slice_set r.seats place (with_reply said seat)
  seats_said said t = subst (λ o. SeatsAre place seat o r.seats next.seats) t at.seats

  -- what is told afterwards
  told_elsewhere : (said : Reply) → told ≡ Some said → (n : ℕ) → (n ≡ place + 1 → ⊥) → told_so_far x.commands next.seats n ≡ told_so_far x.commands r.seats n
  told_elsewhere said t n d = ap (λ ss. told_so_far x.commands ss n) (seats_said said t) ∙ told_other x.commands r.seats place n (with_reply said seat) asked d

  told_here : (said : Reply) → told ≡ Some said → told_so_far x.commands next.seats (place + 1) ≡ told_so_far x.commands r.seats (place + 1) ++ (hand.text, said) ∷ []
  told_here said t = ap (λ ss. told_so_far x.commands ss (place + 1)) (seats_said said t) ∙ told_own x.commands r.seats place seat said hand.text at.seated hand.at

  answers_then : (said : Reply) → told ≡ Some said → ReplyUse x (place + 1) (told_so_far x.commands r.seats (place + 1)) hand.text said → (n : ℕ) → AnswersUse x n (told_so_far x.commands next.seats n)
  answers_then said t met n = by_session (cases_eq n (place + 1))
    where
      by_session : (n ≡ place + 1) ⊎ (n ≡ place + 1 → ⊥) → AnswersUse x n (told_so_far x.commands next.seats n)
      by_session (inr d) = subst (AnswersUse x n) (sym (told_elsewhere said t n d)) (u.answers n)
      by_session (inl e) = subst (λ m. AnswersUse x m (told_so_far x.commands next.seats m)) (sym e)
          (subst (AnswersUse x (place + 1)) (sym (told_here said t)) (answers_more x (place + 1) (told_so_far x.commands r.seats (place + 1)) hand.text said (u.answers (place + 1)) met))

  -- where a reply says nothing of an object, what was populated last is as before
  was_before : (said : Reply) → told ≡ Some said → (n obj scn : ℕ) → populated_by obj (hand.text, said) ≡ None → WasPopulated x.before obj scn (told_so_far x.commands next.seats n)
      → WasPopulated x.before obj scn (told_so_far x.commands r.seats n)
  was_before said t n obj scn silent w = by_session (cases_eq n (place + 1))
    where
      by_session : (n ≡ place + 1) ⊎ (n ≡ place + 1 → ⊥) → WasPopulated x.before obj scn (told_so_far x.commands r.seats n)
      by_session (inr d) = subst (WasPopulated x.before obj scn) (told_elsewhere said t n d) w
      by_session (inl e) = was_same x.before obj scn (told_so_far x.commands r.seats n) (told_so_far x.commands next.seats n)
          (ap (λ m. last_populated obj (told_so_far x.commands next.seats m)) e ∙ ap (last_populated obj) (told_here said t)
          ∙ last_more obj (told_so_far x.commands r.seats (place + 1)) (hand.text, said) ∙ ap (λ o. or_earlier o (last_populated obj (told_so_far x.commands r.seats (place + 1)))) silent
          ∙ ap (λ m. last_populated obj (told_so_far x.commands r.seats m)) (sym e)) w

  plain_silent : (said : Reply) → populated_scn said ≡ None → (obj : ℕ) → populated_by obj (hand.text, said) ≡ None
  plain_silent said h obj = by_test (populates obj hand.text)
    where
      by_test : (b : Bool) → cond b (populated_scn said) None ≡ None
      by_test true = h
      by_test false = refl

  floor_on : x.floor ≤ next.core.query
  floor_on = let a : x.floor ≤ r.core.query = u.floor in let e : next.core.query ≡ r.core.query = keeps.query in omega arith

  -- the session at the place is another afterwards, and the others are as before
  session_now : (what : Session) → next.core.sessions ≡ slice_set r.core.sessions place what → (n : ℕ) (s : Session) → At next.core.sessions n s → ((n ≡ place) × (s ≡ what)) ⊎ ((n ≡ place → ⊥) × At r.core.sessions n s)
  session_now what e n s h = at_set_cases r.core.sessions place n s what (subst (λ ss. At ss n s) e h)

  still_populates : (what : Session) → next.core.sessions ≡ slice_set r.core.sessions place what → (n obj : ℕ) → (n ≡ place + 1 → ⊥) → PopulatesNow r.core.sessions n obj → PopulatesNow next.core.sessions n obj
  still_populates what e n obj d p = record {
    place = p.place;
    population = p.population;
    number = p.number;
    at = subst (λ ss. At ss p.place (Populating p.population)) (sym e) (at_set_kept r.core.sessions place p.place (Populating p.population) what (λ f. d (p.number ∙ ap (λ k. k + 1) f)) p.at);
    of = p.of;
  }

  -- of one's own session
  own_population : (p : Population) (obj : ℕ) → session ≡ Populating p → PopulatesNow r.core.sessions (place + 1) obj → p.obj ≡ obj
  own_population p obj e q =
      let n : place + 1 ≡ q.place + 1 = q.number in
      let same : q.place ≡ place = omega arith in
      let one : Populating q.population ≡ Populating p = at_same r.core.sessions place (Populating q.population) (Populating p) (subst (λ m. At r.core.sessions m (Populating q.population)) same q.at) (subst (At r.core.sessions place) e at.does) in
      let pops : q.population ≡ p = cc in
      sym (ap (λ (z : Population). z.obj) pops) ∙ q.of

  not_populating : (what : Session) → session ≡ what → ((p : Population) → Populating p ≡ what → ⊥) → (obj : ℕ) → PopulatesNow r.core.sessions (place + 1) obj → ⊥
  not_populating what e d obj q =
      let n : place + 1 ≡ q.place + 1 = q.number in
      let same : q.place ≡ place = omega arith in
      d q.population (at_same r.core.sessions place (Populating q.population) what (subst (λ m. At r.core.sessions m (Populating q.population)) same q.at) (subst (At r.core.sessions place) e at.does))

  -- Nothing is told, and units of other objects than one are as they were; that one is the object of the request.
  goes : (what : Session) (units : Units) → told ≡ None → next.core.sessions ≡ slice_set r.core.sessions place what → next.core.units ≡ units → next.core.born ≡ r.core.born
      → ((obj : ℕ) → (anyone_populates obj x.commands ≡ false) → (e : ℕ) → units obj e ≡ r.core.units obj e)
      → ((n obj : ℕ) → others_populate n obj x.commands ≡ false → (PopulatesNow next.core.sessions n obj → ⊥) → (PopulatesNow r.core.sessions n obj → ⊥) × ((e : ℕ) → units obj e ≡ r.core.units obj e))
      → ((n : ℕ) (p : Population) → (n ≡ place → ⊥) → others_populate (n + 1) p.obj x.commands ≡ false → (e : ℕ) → units p.obj e ≡ r.core.units p.obj e)
      → ((p : Population) → Populating p ≡ what → (x.floor ≤ p.snapshot) × (has_abort x.commands ≡ false → others_populate (place + 1) p.obj x.commands ≡ false → NotRedefined x.log p.obj p.snapshot x.frontier → IsBuilding units p))
      → ((s : Scan) → Scanning s ≡ what → ScanUse x (place + 1) (told_so_far x.commands r.seats (place + 1)) s)
      → UseIs x next.core next.seats
  goes what units t sessions units_are born unpopulated ready others building scan = subst (UseIs x next.core) (sym (seats_none t)) (record {
    log = keeps.log ∙ u.log;
    frontier = keeps.frontier ∙ u.frontier;
    born = born ∙ u.born;
    floor = floor_on;
    none = λ obj a b e. ap (λ (us : Units). us obj e) units_are ∙ unpopulated obj b e ∙ u.none obj a b e;
    filled = λ n obj scn a o w m d.
        let k = ready n obj o d in
        ready_stay x.log r.core.units next.core.units obj scn (stay_by r.core.units next.core.units obj (λ e. ap (λ (us : Units). us obj e) units_are ∙ k.1 e)) (u.filled n obj scn a o w m k.0);
    building = λ n p h. building_now n p (session_now what sessions n (Populating p) h);
    scans = λ n s h. scans_now n s (session_now what sessions n (Scanning s) h);
    answers = u.answers;
  })
    where
      building_now : (n : ℕ) (p : Population) → ((n ≡ place) × (Populating p ≡ what)) ⊎ ((n ≡ place → ⊥) × At r.core.sessions n (Populating p))
          → (x.floor ≤ p.snapshot) × (has_abort x.commands ≡ false → others_populate (n + 1) p.obj x.commands ≡ false → NotRedefined x.log p.obj p.snapshot x.frontier → IsBuilding next.core.units p)
      building_now n p (inl h) =
          let b = building p h.1 in
          (b.0, λ a o m. subst (λ us. IsBuilding us p) (sym units_are) (b.1 a (subst (λ k. others_populate (k + 1) p.obj x.commands ≡ false) h.0 o) m))
      building_now n p (inr h) =
          let b = u.building n p h.1 in
          (b.0, λ a o m. building_stay r.core.units next.core.units p (stay_by r.core.units next.core.units p.obj (λ e. ap (λ (us : Units). us p.obj e) units_are ∙ others n p h.0 o e)) (b.1 a o m))

      scans_now : (n : ℕ) (s : Scan) → ((n ≡ place) × (Scanning s ≡ what)) ⊎ ((n ≡ place → ⊥) × At r.core.sessions n (Scanning s)) → ScanUse x (n + 1) (told_so_far x.commands r.seats (n + 1)) s
      scans_now n s (inl h) = subst (λ k. ScanUse x (k + 1) (told_so_far x.commands r.seats (k + 1)) s) (sym h.0) (scan s h.1)
      scans_now n s (inr h) = u.scans n s h.1

  -- where the units stay as they are
  same_units : (what : Session) → told ≡ None → next.core.sessions ≡ slice_set r.core.sessions place what → next.core.units ≡ r.core.units → next.core.born ≡ r.core.born
      → ((n obj : ℕ) → others_populate n obj x.commands ≡ false → (PopulatesNow next.core.sessions n obj → ⊥) → PopulatesNow r.core.sessions n obj → ⊥)
      → ((p : Population) → Populating p ≡ what → (x.floor ≤ p.snapshot) × (has_abort x.commands ≡ false → others_populate (place + 1) p.obj x.commands ≡ false → NotRedefined x.log p.obj p.snapshot x.frontier → IsBuilding r.core.units p))
      → ((s : Scan) → Scanning s ≡ what → ScanUse x (place + 1) (told_so_far x.commands r.seats (place + 1)) s)
      → UseIs x next.core next.seats
  same_units what t sessions units born pops building scan =
      goes what r.core.units t sessions units born (λ obj b e. refl) (λ n obj o d. (pops n obj o d, λ e. refl)) (λ n p d o e. refl) building scan

  -- a session that did not populate, and does not afterwards or does so for the first time
  none_before : (what : Session) → next.core.sessions ≡ slice_set r.core.sessions place what → ((obj : ℕ) → PopulatesNow r.core.sessions (place + 1) obj → ⊥)
      → (n obj : ℕ) → (PopulatesNow next.core.sessions n obj → ⊥) → PopulatesNow r.core.sessions n obj → ⊥
  none_before what sessions none n obj d p = by_session (cases_eq n (place + 1))
    where
      by_session : (n ≡ place + 1) ⊎ (n ≡ place + 1 → ⊥) → ⊥
      by_session (inl e) = none obj (subst (λ m. PopulatesNow r.core.sessions m obj) e p)
      by_session (inr e) = d (still_populates what sessions n obj e p)

  -- a session that goes on populating an object
  on_before : (p q : Population) → session ≡ Populating p → q.obj ≡ p.obj → next.core.sessions ≡ slice_set r.core.sessions place (Populating q)
      → (n obj : ℕ) → (PopulatesNow next.core.sessions n obj → ⊥) → PopulatesNow r.core.sessions n obj → ⊥
  on_before p q is_p same sessions n obj d k = by_session (cases_eq n (place + 1))
    where
      by_session : (n ≡ place + 1) ⊎ (n ≡ place + 1 → ⊥) → ⊥
      by_session (inr e) = d (still_populates (Populating q) sessions n obj e k)
      by_session (inl e) = d (record {
        place = place;
        population = q;
        number = e;
        at = subst (λ ss. At ss place (Populating q)) (sym sessions) (at_set_same r.core.sessions place (Populating q) (at_within r.core.sessions place session at.does));
        of = same ∙ own_population p obj is_p (subst (λ m. PopulatesNow r.core.sessions m obj) e k);
      })

  -- the object that the request populates is no object which nobody, or nobody else, populates
  not_this : (obj o : ℕ) → request ≡ Asks (command.Populate obj) → anyone_populates o x.commands ≡ false → o ≡ obj → ⊥
  not_this obj o asks h e = true≢false (sym (anyone_does x.commands place seat obj (hand_for (Asks (command.Populate obj)) asks)) ∙ ap (λ k. anyone_populates k x.commands) (sym e) ∙ h)

  not_others : (obj n : ℕ) → request ≡ Asks (command.Populate obj) → others_populate n obj x.commands ≡ false → (n ≡ place + 1 → ⊥) → ⊥
  not_others obj n asks h d = true≢false (sym (others_do x.commands place n seat obj (hand_for (Asks (command.Populate obj)) asks) d) ∙ h)

  -- a population goes on with its units
  population_on : (p q : Population) (units : Units) → session ≡ Populating p → request ≡ Asks (command.Populate p.obj) → told ≡ None → q.obj ≡ p.obj → q.snapshot ≡ p.snapshot
      → next.core.sessions ≡ slice_set r.core.sessions place (Populating q) → next.core.units ≡ units → next.core.born ≡ r.core.born
      → ((o e : ℕ) → (o ≡ p.obj → ⊥) → units o e ≡ r.core.units o e) → (IsBuilding r.core.units p → IsBuilding units q) → UseIs x next.core next.seats
  population_on p q units is_p asks t same_obj same_snapshot sessions units_are born other on =
      goes (Populating q) units t sessions units_are born
      (λ obj b e. other obj e (not_this p.obj obj asks b))
      (λ n obj o d. (on_before p q is_p same_obj sessions n obj d, λ e. other obj e (λ f. busy n obj o d f)))
      (λ n z d o e. other z.obj e (λ f. not_others p.obj (n + 1) asks (subst (λ k. others_populate (n + 1) k x.commands ≡ false) f o) (λ g. d (omega arith))))
      (λ z e. building z e)
      (λ s e. let k : Scanning s ≡ Populating q = e in absurd cc)
    where
      busy : (n obj : ℕ) → others_populate n obj x.commands ≡ false → (PopulatesNow next.core.sessions n obj → ⊥) → obj ≡ p.obj → ⊥
      busy n obj o d f = by_session (cases_eq n (place + 1))
        where
          by_session : (n ≡ place + 1) ⊎ (n ≡ place + 1 → ⊥) → ⊥
          by_session (inr e) = not_others p.obj n asks (subst (λ k. others_populate n k x.commands ≡ false) f o) e
          by_session (inl e) = d (record {
            place = place;
            population = q;
            number = e;
            at = subst (λ ss. At ss place (Populating q)) (sym sessions) (at_set_same r.core.sessions place (Populating q) (at_within r.core.sessions place session at.does));
            of = same_obj ∙ sym f;
          })

      building : (z : Population) → Populating z ≡ Populating q → (x.floor ≤ z.snapshot)
          × (has_abort x.commands ≡ false → others_populate (place + 1) z.obj x.commands ≡ false → NotRedefined x.log z.obj z.snapshot x.frontier → IsBuilding units z)
      building z e =
          let same : z ≡ q = cc in
          let b = u.building place p (subst (At r.core.sessions place) is_p at.does) in
          subst (λ (y : Population). (x.floor ≤ y.snapshot)
          × (has_abort x.commands ≡ false → others_populate (place + 1) y.obj x.commands ≡ false → NotRedefined x.log y.obj y.snapshot x.frontier → IsBuilding units y)) (sym same) (
            subst (λ k. x.floor ≤ k) (sym same_snapshot) b.0,
            λ a o m. on (b.1 a (subst (λ k. others_populate (place + 1) k x.commands ≡ false) same_obj o)
                (subst (λ k. NotRedefined x.log p.obj k x.frontier) same_snapshot (subst (λ k. NotRedefined x.log k q.snapshot x.frontier) same_obj m))),
          )

  -- A reply is told by a session that is free afterwards, and units of other objects than one are as they were.
  tells : (said : Reply) (units : Units) → told ≡ Some said
      → ((n : ℕ) (s : Session) → At next.core.sessions n s → ((n ≡ place) × (s ≡ Free)) ⊎ ((n ≡ place → ⊥) × At r.core.sessions n s))
      → ((n obj : ℕ) → (n ≡ place + 1 → ⊥) → PopulatesNow r.core.sessions n obj → PopulatesNow next.core.sessions n obj)
      → next.core.units ≡ units → next.core.born ≡ r.core.born
      → ((obj : ℕ) → anyone_populates obj x.commands ≡ false → (e : ℕ) → units obj e ≡ r.core.units obj e)
      → ((n obj scn : ℕ) → has_abort x.commands ≡ false → others_populate n obj x.commands ≡ false → WasPopulated x.before obj scn (told_so_far x.commands next.seats n) → NotRedefined x.log obj scn x.frontier
      → (PopulatesNow next.core.sessions n obj → ⊥) → HasReadyUnits x.log next.core.units obj scn)
      → ((n : ℕ) (p : Population) → (n ≡ place → ⊥) → others_populate (n + 1) p.obj x.commands ≡ false → (e : ℕ) → units p.obj e ≡ r.core.units p.obj e)
      → ReplyUse x (place + 1) (told_so_far x.commands r.seats (place + 1)) hand.text said
      → UseIs x next.core next.seats
  tells said units t sessions pops units_are born unpopulated filled others met = record {
    log = keeps.log ∙ u.log;
    frontier = keeps.frontier ∙ u.frontier;
    born = born ∙ u.born;
    floor = floor_on;
    none = λ obj a b e. ap (λ (us : Units). us obj e) units_are ∙ unpopulated obj b e ∙ u.none obj a b e;
    filled = filled;
    building = λ n p h. building_now n p (sessions n (Populating p) h);
    scans = λ n s h. scans_now n s (sessions n (Scanning s) h);
    answers = answers_then said t met;
  }
    where
      building_now : (n : ℕ) (p : Population) → ((n ≡ place) × (Populating p ≡ Free)) ⊎ ((n ≡ place → ⊥) × At r.core.sessions n (Populating p))
          → (x.floor ≤ p.snapshot) × (has_abort x.commands ≡ false → others_populate (n + 1) p.obj x.commands ≡ false → NotRedefined x.log p.obj p.snapshot x.frontier → IsBuilding next.core.units p)
      building_now n p (inl h) = let e : Populating p ≡ Free = h.1 in absurd cc
      building_now n p (inr h) =
          let b = u.building n p h.1 in
          (b.0, λ a o m. building_stay r.core.units next.core.units p (stay_by r.core.units next.core.units p.obj (λ e. ap (λ (us : Units). us p.obj e) units_are ∙ others n p h.0 o e)) (b.1 a o m))

      scans_now : (n : ℕ) (s : Scan) → ((n ≡ place) × (Scanning s ≡ Free)) ⊎ ((n ≡ place → ⊥) × At r.core.sessions n (Scanning s)) → ScanUse x (n + 1) (told_so_far x.commands next.seats (n + 1)) s
      scans_now n s (inl h) = let e : Scanning s ≡ Free = h.1 in absurd cc
      scans_now n s (inr h) = subst (λ ts. ScanUse x (n + 1) ts s) (sym (told_elsewhere said t (n + 1) (λ e. h.0 (omega arith)))) (u.scans n s h.1)

  -- a reply that says nothing of units, where the session did not populate
  tells_plain : (said : Reply) → told ≡ Some said → populated_scn said ≡ None → next.core.units ≡ r.core.units → next.core.born ≡ r.core.born
      → ((n : ℕ) (s : Session) → At next.core.sessions n s → ((n ≡ place) × (s ≡ Free)) ⊎ ((n ≡ place → ⊥) × At r.core.sessions n s))
      → ((n obj : ℕ) → (n ≡ place + 1 → ⊥) → PopulatesNow r.core.sessions n obj → PopulatesNow next.core.sessions n obj)
      → ((obj : ℕ) → PopulatesNow r.core.sessions (place + 1) obj → ⊥)
      → ReplyUse x (place + 1) (told_so_far x.commands r.seats (place + 1)) hand.text said → UseIs x next.core next.seats
  tells_plain said t plain units born sessions pops none met =
      tells said r.core.units t sessions pops units born (λ obj b e. refl)
      (λ n obj scn a o w m d. subst (λ us. HasReadyUnits x.log us obj scn) (sym units)
      (u.filled n obj scn a o (was_before said t n obj scn (plain_silent said plain obj) w) m (λ k. before n obj d k (cases_eq n (place + 1)))))
      (λ n p d o e. refl) met
    where
      before : (n obj : ℕ) → (PopulatesNow next.core.sessions n obj → ⊥) → PopulatesNow r.core.sessions n obj → (n ≡ place + 1) ⊎ (n ≡ place + 1 → ⊥) → ⊥
      before n obj d k (inl e) = none obj (subst (λ m. PopulatesNow r.core.sessions m obj) e k)
      before n obj d k (inr e) = d (pops n obj e k)

  same_core_sessions : session ≡ Free → next.core ≡ r.core → (n : ℕ) (s : Session) → At next.core.sessions n s → ((n ≡ place) × (s ≡ Free)) ⊎ ((n ≡ place → ⊥) × At r.core.sessions n s)
  same_core_sessions free same n s h = by_place (cases_eq n place)
    where
      h' : At r.core.sessions n s
      h' = subst (λ (y : CoreState). At y.sessions n s) same h

      by_place : (n ≡ place) ⊎ (n ≡ place → ⊥) → ((n ≡ place) × (s ≡ Free)) ⊎ ((n ≡ place → ⊥) × At r.core.sessions n s)
      by_place (inl e) = inl (e, at_same r.core.sessions place s Free (subst (λ m. At r.core.sessions m s) e h') (subst (At r.core.sessions place) free at.does))
      by_place (inr d) = inr (d, h')

  free_before : session ≡ Free → (obj : ℕ) → PopulatesNow r.core.sessions (place + 1) obj → ⊥
  free_before free obj = not_populating Free free (λ p e. let k : Populating p ≡ Free = e in cc) obj

  alone : (said : Reply) → session ≡ Free → told ≡ Some said → next.core ≡ r.core → IsPlainReply x said → UseIs x next.core next.seats
  alone said free t same plain =
      tells_plain said t plain.0 (ap (λ (y : CoreState). y.units) same) (ap (λ (y : CoreState). y.born) same) (same_core_sessions free same)
      (λ n obj d k. subst (λ (y : CoreState). PopulatesNow y.sessions n obj) (sym same) k) (free_before free)
      (plain.1 (place + 1) (told_so_far x.commands r.seats (place + 1)) hand.text)

  -- A scan begins, goes on, and ends.
  scan_begins : (select : Select) (table : Table) → session ≡ Free → told ≡ None → next.aborted ≡ false → next.core ≡ with_session r.core place (Scanning (new_scan select r.core.query table)) → UseIs x next.core next.seats
  scan_begins select table free t b effect = same_units (Scanning (new_scan select r.core.query table)) t sessions (ap (λ (y : CoreState). y.units) effect) (ap (λ (y : CoreState). y.born) effect)
      (λ n obj o d. none_before (Scanning (new_scan select r.core.query table)) sessions (free_before free) n obj d)
      (λ p e. let k : Populating p ≡ Scanning (new_scan select r.core.query table) = e in absurd cc)
      (λ s e. let same : s ≡ new_scan select r.core.query table = cc in subst (ScanUse x (place + 1) (told_so_far x.commands r.seats (place + 1))) (sym same) begun)
    where
      sessions : next.core.sessions ≡ slice_set r.core.sessions place (Scanning (new_scan select r.core.query table))
      sessions = ap (λ (y : CoreState). y.sessions) effect

      begun : ScanUse x (place + 1) (told_so_far x.commands r.seats (place + 1)) (new_scan select r.core.query table)
      begun = record {
        plain = λ flag. refl;
        unpopulated = λ a o. refl;
        rows = λ since w k.
            let ready = u.filled (place + 1) select.obj since k.no_abort k.alone w k.same (λ q. free_before free select.obj q) in
            (ready_published r.core is.core select.obj since (subst (λ l. HasReadyUnits l r.core.units select.obj since) (sym u.log) ready), record { least = omega arith; most = omega arith });
      }

  scan_goes : (s : Scan) → session ≡ Scanning s → told ≡ None → s.extents < s.table.extents → next.core ≡ with_session r.core place (Scanning (scan_then r.core s)) → UseIs x next.core next.seats
  scan_goes s is_s t left effect = same_units (Scanning (scan_then r.core s)) t sessions (ap (λ (y : CoreState). y.units) effect) (ap (λ (y : CoreState). y.born) effect)
      (λ n obj o d. none_before (Scanning (scan_then r.core s)) sessions not_now n obj d)
      (λ p e. let k : Populating p ≡ Scanning (scan_then r.core s) = e in absurd cc)
      (λ z e. let same : z ≡ scan_then r.core s = cc in subst (ScanUse x (place + 1) (told_so_far x.commands r.seats (place + 1))) (sym same) more)
    where
      sessions : next.core.sessions ≡ slice_set r.core.sessions place (Scanning (scan_then r.core s))
      sessions = ap (λ (y : CoreState). y.sessions) effect

      not_now : (obj : ℕ) → PopulatesNow r.core.sessions (place + 1) obj → ⊥
      not_now obj = not_populating (Scanning s) is_s (λ p e. let k : Populating p ≡ Scanning s = e in cc) obj

      at_s : At r.core.sessions place (Scanning s)
      at_s = subst (At r.core.sessions place) is_s at.does

      was : ScanUse x (place + 1) (told_so_far x.commands r.seats (place + 1)) s
      was = u.scans place s at_s

      more : ScanUse x (place + 1) (told_so_far x.commands r.seats (place + 1)) (scan_then r.core s)
      more = record {
        plain = λ flag. let a : s.col ≡ 0 = was.plain flag in let b = (gathers r.core place s is.core is.precise at_s left).0 flag in omega arith;
        unpopulated = λ a o. let b : s.col ≡ 0 = was.unpopulated a o in let d = (gathers r.core place s is.core is.precise at_s left).1 (u.none s.select.obj a o) in omega arith;
        rows = λ since w k.
            let old = was.rows since w k in
            let ready = u.filled (place + 1) s.select.obj since k.no_abort k.alone w k.same (λ q. not_now s.select.obj q) in
            let g = (gathers r.core place s is.core is.precise at_s left).2 since old.0 (subst (λ l. HasReadyUnits l r.core.units s.select.obj since) (sym u.log) ready)
            (subst (λ f. NotRedefined r.core.log s.select.obj since f) (sym u.frontier) (subst (λ l. NotRedefined l s.select.obj since x.frontier) (sym u.log) k.same))
            (λ co. k.no_coarse (subst (λ l. CoarseWithin l x.born since x.frontier) u.log (subst (λ n. CoarseWithin r.core.log n since x.frontier) u.born (subst (λ f. CoarseWithin r.core.log r.core.born since f) u.frontier co)))) in
            (old.0, added since g old.1);
      }
        where
          added : (since : ℕ) → GathersTouched r.core s since → RowsAreTouched x.log x.frontier s.select.obj s.extents s.scn since s.row
              → RowsAreTouched x.log x.frontier s.select.obj (s.extents + 1) s.scn since (scan_then r.core s).row
          added since g old =
              let least = subst (λ l. touched_rows l s.select.obj (s.extents + 1) s.scn since s.scn ≤ touched_rows l s.select.obj s.extents s.scn since s.scn + count_from_blocks (next_look r.core s) (rows_at r.core.log s.scn) (next_places s)) u.log g.least in
              let most = subst (λ l. touched_rows l s.select.obj s.extents s.scn since x.frontier + count_from_blocks (next_look r.core s) (rows_at r.core.log s.scn) (next_places s) ≤ touched_rows l s.select.obj (s.extents + 1) s.scn since x.frontier) u.log
              (subst (λ f. touched_rows r.core.log s.select.obj s.extents s.scn since f + count_from_blocks (next_look r.core s) (rows_at r.core.log s.scn) (next_places s) ≤ touched_rows r.core.log s.select.obj (s.extents + 1) s.scn since f) u.frontier g.most) in
              record { least = omega (arith, least, old.least); most = omega (arith, most, old.most) }

  scan_ends : (s : Scan) → session ≡ Scanning s → request ≡ Asks (command.Select s.select) → told ≡ Some (scan_reply s) → s.table.extents ≤ s.extents → next.core ≡ with_session r.core place Free → UseIs x next.core next.seats
  scan_ends s is_s asks t whole effect =
      tells_plain (scan_reply s) t refl (ap (λ (y : CoreState). y.units) effect) (ap (λ (y : CoreState). y.born) effect) (session_now Free sessions)
      (λ n obj d k. still_populates Free sessions n obj d k) (not_populating (Scanning s) is_s (λ p e. let k : Populating p ≡ Scanning s = e in cc)) met
    where
      sessions : next.core.sessions ≡ slice_set r.core.sessions place Free
      sessions = ap (λ (y : CoreState). y.sessions) effect

      at_s : At r.core.sessions place (Scanning s)
      at_s = subst (At r.core.sessions place) is_s at.does

      met : ReplyUse x (place + 1) (told_so_far x.commands r.seats (place + 1)) hand.text (scan_reply s)
      met select table spells defined =
          let text = subst (Reads hand.text) asks hand.reads in
          let one : command.Select select ≡ command.Select s.select = one_command (command.Select select) (command.Select s.select) spells.0 text.0 (sym spells.1 ∙ text.1) in
          let same : select ≡ s.select = cc in
          let scan = is.core.scans place s at_s in
          let own : table_at x.log s.scn s.select.obj ≡ Some s.table = subst (λ l. table_at l s.scn s.select.obj ≡ Some s.table) u.log scan.defined in
          let defined' : table_at x.log s.scn s.select.obj ≡ Some table = subst (λ (z : Select). table_at x.log s.scn z.obj ≡ Some table) same defined in
          let tables : Some table ≡ Some s.table = sym defined' ∙ own in
          let table_is : table ≡ s.table = cc in
          let few : s.extents ≤ s.table.extents = scan.extents in
          let all : s.extents ≡ s.table.extents = omega arith in
          let k = u.scans place s at_s in
          subst (λ (z : Select). RowsUse x (place + 1) (told_so_far x.commands r.seats (place + 1)) z table s.scn s.col s.row) (sym same)
          (subst (λ (y : Table). RowsUse x (place + 1) (told_so_far x.commands r.seats (place + 1)) s.select y s.scn s.col s.row) (sym table_is) (record {
            plain = k.plain;
            unpopulated = k.unpopulated;
            rows = λ since w d. subst (λ n. RowsAreTouched x.log x.frontier s.select.obj n s.scn since s.row) all (k.rows since w d).1;
          }))

  -- A population ends.
  population_ends : (p : Population) → session ≡ Populating p → request ≡ Asks (command.Populate p.obj) → told ≡ Some (reply.Populated p.snapshot (installed_then p r.core.units)) → p.holds ≡ false → has_more p ≡ false
      → next.core ≡ record (with_session r.core place Free) { units = units_installed p r.core.units } → UseIs x next.core next.seats
  population_ends p is_p asks t released last effect =
      tells said (units_installed p r.core.units) t (session_now Free sessions) (λ n obj d k. still_populates Free sessions n obj d k) (ap (λ (y : CoreState). y.units) effect) (ap (λ (y : CoreState). y.born) effect)
      (λ obj b e. installed_other p r.core.units obj e (not_this p.obj obj asks b)) filled
      (λ n z d o e. installed_other p r.core.units z.obj e (λ f. not_others p.obj (n + 1) asks (subst (λ k. others_populate (n + 1) k x.commands ≡ false) f o) (λ g. d (omega arith)))) met
    where
      said : Reply
      said = reply.Populated p.snapshot (installed_then p r.core.units)

      sessions : next.core.sessions ≡ slice_set r.core.sessions place Free
      sessions = ap (λ (y : CoreState). y.sessions) effect

      at_p : At r.core.sessions place (Populating p)
      at_p = subst (At r.core.sessions place) is_p at.does

      text : Spells hand.text (command.Populate p.obj)
      text = subst (Reads hand.text) asks hand.reads

      defined : table_at x.log p.snapshot p.obj ≡ Some p.table
      defined = subst (λ l. table_at l p.snapshot p.obj ≡ Some p.table) u.log (is.core.populations place p at_p).defined

      ended : has_abort x.commands ≡ false → others_populate (place + 1) p.obj x.commands ≡ false → NotRedefined x.log p.obj p.snapshot x.frontier
          → (installed_then p r.core.units ≡ p.table.extents) × HasReadyUnits x.log (units_installed p r.core.units) p.obj p.snapshot
      ended a o m = ends x.log r.core.units p ((u.building place p at_p).1 a o m) released (is.core.populations place p at_p).extent last defined

      filled : (n obj scn : ℕ) → has_abort x.commands ≡ false → others_populate n obj x.commands ≡ false → WasPopulated x.before obj scn (told_so_far x.commands next.seats n) → NotRedefined x.log obj scn x.frontier
          → (PopulatesNow next.core.sessions n obj → ⊥) → HasReadyUnits x.log next.core.units obj scn
      filled n obj scn a o w m d = subst (λ us. HasReadyUnits x.log us obj scn) (sym (ap (λ (y : CoreState). y.units) effect)) (by_object (cases_eq obj p.obj))
        where
          own : n ≡ place + 1 → obj ≡ p.obj → HasReadyUnits x.log (units_installed p r.core.units) obj scn
          own e f =
              let last_is : last_populated obj (told_so_far x.commands next.seats n) ≡ Some p.snapshot =
              ap (λ k. last_populated k (told_so_far x.commands next.seats n)) f ∙ ap (λ k. last_populated p.obj (told_so_far x.commands next.seats k)) e
              ∙ ap (last_populated p.obj) (told_here said t) ∙ last_more p.obj (told_so_far x.commands r.seats (place + 1)) (hand.text, said)
              ∙ ap (λ b. or_earlier (cond b (Some p.snapshot) None) (last_populated p.obj (told_so_far x.commands r.seats (place + 1)))) (spelled_populates hand.text p.obj text) in
              let scn_is : p.snapshot ≡ scn = was_some x.before obj scn p.snapshot (told_so_far x.commands next.seats n) last_is w in
              subst (λ k. HasReadyUnits x.log (units_installed p r.core.units) k scn) (sym f) (subst (λ k. HasReadyUnits x.log (units_installed p r.core.units) p.obj k) scn_is
              (ended a (subst (λ k. others_populate k p.obj x.commands ≡ false) e (subst (λ k. others_populate n k x.commands ≡ false) f o))
              (subst (λ k. NotRedefined x.log p.obj k x.frontier) (sym scn_is) (subst (λ k. NotRedefined x.log k scn x.frontier) f m))).1)

          other : (obj ≡ p.obj → ⊥) → HasReadyUnits x.log (units_installed p r.core.units) obj scn
          other f = ready_stay x.log r.core.units (units_installed p r.core.units) obj scn (stay_by r.core.units (units_installed p r.core.units) obj (λ e. installed_other p r.core.units obj e f))
              (u.filled n obj scn a o (was_before said t n obj scn (populated_other hand.text p.obj obj p.snapshot (installed_then p r.core.units) text f) w) m (λ k. before k (cases_eq n (place + 1))))
            where
              before : PopulatesNow r.core.sessions n obj → (n ≡ place + 1) ⊎ (n ≡ place + 1 → ⊥) → ⊥
              before k (inl e) = f (sym (own_population p obj is_p (subst (λ z. PopulatesNow r.core.sessions z obj) e k)))
              before k (inr e) = d (still_populates Free sessions n obj e k)

          by_object : (obj ≡ p.obj) ⊎ (obj ≡ p.obj → ⊥) → HasReadyUnits x.log (units_installed p r.core.units) obj scn
          by_object (inr f) = other f
          by_object (inl f) = by_session (cases_eq n (place + 1))
            where
              by_session : (n ≡ place + 1) ⊎ (n ≡ place + 1 → ⊥) → HasReadyUnits x.log (units_installed p r.core.units) obj scn
              by_session (inl e) = own e f
              by_session (inr e) = absurd (not_others p.obj n asks (subst (λ k. others_populate n k x.commands ≡ false) f o) e)

      met : ReplyUse x (place + 1) (told_so_far x.commands r.seats (place + 1)) hand.text (reply.Populated p.snapshot (installed_then p r.core.units))
      met obj table spells at_scn a o m =
          let one : command.Populate obj ≡ command.Populate p.obj = one_command (command.Populate obj) (command.Populate p.obj) spells.0 text.0 (sym spells.1 ∙ text.1) in
          let same : obj ≡ p.obj = cc in
          let tables : Some table ≡ Some p.table = sym (subst (λ k. table_at x.log p.snapshot k ≡ Some table) same at_scn) ∙ defined in
          let table_is : table ≡ p.table = cc in
          let low : x.floor ≤ p.snapshot = (u.building place p at_p).0 in
          let none : NotRedefined x.log p.obj p.snapshot x.frontier = λ e i c l h. subst (λ k. NotRedefined x.log k x.floor x.frontier) same m e i c (omega arith) h in
          (ended a (subst (λ k. others_populate (place + 1) k x.commands ≡ false) same o) none).0 ∙ ap (λ (z : Table). z.extents) (sym table_is)

  -- ABORT
  aborts_use : request ≡ Asks command.Abort → told ≡ Some (reply.Aborted r.core.query) → next.core ≡ restarted r.core → UseEnded x next.core next.seats
  aborts_use asks t effect = record {
    none = λ obj extent. ap (λ (y : CoreState). y.units obj extent) effect;
    born = ap (λ (y : CoreState). y.born) effect ∙ sym (ap (λ (y : CoreState). y.query) effect);
    abort = aborts_do x.commands place seat (hand_for (Asks command.Abort) asks);
    answers = answers_then (reply.Aborted r.core.query) t tt;
  }

  session_use : SessionIs r.core place session request told next.aborted next.core → UseByAbort x next.core next.seats next.aborted
  session_use (Replied said free alone_ t b same) = subst (UseByAbort x next.core next.seats) (sym b) (alone said free t same (alone_plain x r.core request said alone_))
  session_use (Refused said free refuses speaks t b same) = subst (UseByAbort x next.core next.seats) (sym b) (alone said free t same (refused_plain x r.core request said refuses))
  session_use (Aborts free asks t b same) = subst (UseByAbort x next.core next.seats) (sym b) (aborts_use asks t same)
  session_use (Populates obj free asks t b begins) = subst (UseByAbort x next.core next.seats) (sym b)
      (same_units (Populating (new_population obj r.core.query begins.ticket begins.table)) t (ap (λ (y : CoreState). y.sessions) begins.effect) (ap (λ (y : CoreState). y.units) begins.effect) (ap (λ (y : CoreState). y.born) begins.effect)
      (λ n o k d. none_before (Populating (new_population obj r.core.query begins.ticket begins.table)) (ap (λ (y : CoreState). y.sessions) begins.effect) (free_before free) n o d)
      (λ p e. let same : p ≡ new_population obj r.core.query begins.ticket begins.table = cc in
      subst (λ (z : Population). (x.floor ≤ z.snapshot)
      × (has_abort x.commands ≡ false → others_populate (place + 1) z.obj x.commands ≡ false → NotRedefined x.log z.obj z.snapshot x.frontier → IsBuilding r.core.units z)) (sym same) (
        u.floor,
        λ a o m. record {
          ended = λ extent l. absurd (omega arith);
          waiting = λ extent l k. absurd (omega arith);
          installed = refl;
          holding = λ h. refl;
          released = λ h. absurd (true≢false h);
        },
      ))
      (λ s e. let k : Scanning s ≡ Populating (new_population obj r.core.query begins.ticket begins.table) = e in absurd cc))
  session_use (Registers p is_p asks t b holds left effect) = subst (UseByAbort x next.core next.seats) (sym b)
      (population_on p (record p { registered = p.registered + 1 }) (with_unit p.obj p.registered (Some (loading p)) r.core.units) is_p asks t refl refl
      (ap (λ (y : CoreState). y.sessions) effect) (ap (λ (y : CoreState). y.units) effect) (ap (λ (y : CoreState). y.born) effect)
      (λ o e d. unit_of_other p.obj p.registered (Some (loading p)) r.core.units o e d) (λ k. (goes_on r.core.units p k).0 holds left))
  session_use (Releases p is_p asks t b holds all effect) = subst (UseByAbort x next.core next.seats) (sym b)
      (population_on p (record p { holds = false }) r.core.units is_p asks t refl refl
      (ap (λ (y : CoreState). y.sessions) effect) (ap (λ (y : CoreState). y.units) effect) (ap (λ (y : CoreState). y.born) effect)
      (λ o e d. refl) (λ k. (goes_on r.core.units p k).1 all))
  session_use (ReadsOn p is_p asks t b released left effect) = subst (UseByAbort x next.core next.seats) (sym b)
      (population_on p (record p { blocks = p.blocks + 1; read = p.read ++ next_block r.core p }) r.core.units is_p asks t refl refl
      (ap (λ (y : CoreState). y.sessions) effect) (ap (λ (y : CoreState). y.units) effect) (ap (λ (y : CoreState). y.born) effect)
      (λ o e d. refl) (λ k. building_read r.core.units p (p.blocks + 1) (p.read ++ next_block r.core p) k))
  session_use (EndsExtent p is_p asks t b released whole more effect) = subst (UseByAbort x next.core next.seats) (sym b)
      (population_on p (record p { extent = p.extent + 1; blocks = 0; read = []; installed = installed_then p r.core.units }) (units_installed p r.core.units) is_p asks t refl refl
      (ap (λ (y : CoreState). y.sessions) effect) (ap (λ (y : CoreState). y.units) effect) (ap (λ (y : CoreState). y.born) effect)
      (λ o e d. installed_other p r.core.units o e d)
      (λ k. (goes_on r.core.units p k).2 released (is.core.populations place p (subst (At r.core.sessions place) is_p at.does)).extent more))
  session_use (EndsPopulation p is_p asks t b released whole last speaks effect) = subst (UseByAbort x next.core next.seats) (sym b) (population_ends p is_p asks t released last effect)
  session_use (BeginsScan select table free asks t b defined columns types effect) = subst (UseByAbort x next.core next.seats) (sym b) (scan_begins select table free t b effect)
  session_use (Gathers s is_s asks t b left effect) = subst (UseByAbort x next.core next.seats) (sym b) (scan_goes s is_s t left effect)
  session_use (EndsScan s is_s asks t b whole speaks effect) = subst (UseByAbort x next.core next.seats) (sym b) (scan_ends s is_s asks t whole effect)

pub turns_keep_use : TurnsAreThese → CrewLeavesUnits → BuildingGoesOn → BuildingEnds → ScansGather → TurnsKeepUse
turns_keep_use these crew goes_on ends gathers x schedule r move next t is so met = by_turn (these schedule r move next is t).1 (subst (UseByAbort x r.core r.seats) (these schedule r move next is t).0 met)
  where
    by_turn : TurnIs r next → UseIs x r.core r.seats → UseByAbort x next.core next.seats next.aborted
    by_turn (Rested core seats b) u = subst (UseByAbort x next.core next.seats) (sym b) (subst (λ ss. UseIs x next.core ss) (sym seats) (subst (λ c. UseIs x c r.seats) (sym core) u))
    by_turn (Crewed e i h seats b) u = subst (UseByAbort x next.core next.seats) (sym b) (subst (λ ss. UseIs x next.core ss) (sym seats)
        (crew_use x r.core next.core r.seats is.core (crew r.core e next.core is.core i h) u))
    by_turn (Seated place seat session request told at does) u =
        session_use x r next place seat session request told goes_on ends gathers is so at u (session_keeps r.core place session request told next.aborted next.core does) does
