-- ScanBegin and ScanEnd: when they can happen, and what they make.
use Rattle.std.proofs.Common.{◌≡◌, ℕ, ◌+◌, ◌<◌, ◌≤◌, Bool, true, false, cond, List, [], take, length, Option, Some, None, Result, Ok, Err, inl, inr, refl, sym, ap, ◌∙◌, subst, arith}
use Rattle.std.specs.Prelude.{slice_set, slice_index_or}
use Rattle.std.specs.Vec.{with_item}
use Rattle.std.proofs.lemmas.List.{length-set}
use Rattle.std.proofs.lemmas.Option.{get_or_from_slice_get}
use Rattle.adg_base.specs.declared.value.ColKind.{ColKind}
use Rattle.adg_base.specs.declared.value.Value.{Value}
use Rattle.adg_base.specs.declared.definition.Definition.{Definition}
use Rattle.adg_base.specs.declared.command.Select.{Select}
use Rattle.adg_base.specs.declared.answer.Reply.{Reply}
use Rattle.adg_base.specs.declared.answer.Reply.TheVariants as reply
use Rattle.adg_model.specs.Database.{Table, table_at}
use Rattle.adg_model.specs.Defined.{table_of, IsDefinition, AreDefined}
use Rattle.adg_model.specs.Query.{has_columns, has_types, select_lines}
use Rattle.scan_eval.specs.Added.{Added}
use Rattle.scan_eval.specs.Admission.{admission, Follows}
use Rattle.scan_eval.specs.declared.admission.QueryRefused.{QueryRefused}
use Rattle.scan_eval.specs.declared.admission.QueryRefused.TheVariants as refused
use Rattle.core_rules.specs.State.{CoreState, Session, At}
use Rattle.core_rules.specs.State as rules
use Rattle.core_rules.specs.Scans.{CanScan, CanEndScan, scan_refusal, new_scan, scan_reply}
use Rattle.core_rules.specs.Populations.{with_session}
use Rattle.core_rules.specs.declared.event.Event.TheVariants as event
use Rattle.core_rules.specs.declared.event.CoreAnswer.TheVariants.{Moved, Said}
use Rattle.standby_core.specs.declared.standby.Core.{Core}
use Rattle.standby_core.specs.declared.session.Session.{Session as OwnSession}
use Rattle.standby_core.specs.declared.session.Session.TheVariants as seat
use Rattle.standby_core.specs.declared.session.Scan.{Scan as OwnScan}
use Rattle.standby_core.specs.Parts.{ShowsSession, ShowsScan}
use Rattle.standby_core.specs.Shows.{Shows, IsState, HasStepped}
use Rattle.standby_core.specs.Scans.{EndsWith}
use Rattle.core_rules.proofs.Lists.{at_same, at_exists}
use Rattle.standby_core.proofs.Each.{each_right, each_set, set_same}
use Rattle.standby_core.proofs.Kept.{with_sessions}
use Rattle.standby_core.proofs.Seats.{free_shown, free_back, scanning_shown, scanning_back}

-- one session is another
pub seat_set : (core : Core) (c : CoreState) → Shows core c → (place : ℕ) (x : OwnSession) (s : Session) → ShowsSession x s
    → Shows (record core { sessions = with_item core.sessions place x }) (with_session c place s)
seat_set core c h place x s shown =
    with_sessions core c (with_item core.sessions place x) (slice_set c.sessions place s) h (each_set (λ n. ShowsSession) core.sessions.items c.sessions h.sessions place x s shown) (length-set c.sessions place s)

-- a query asks for a free session
pub scan_barred : (core : Core) (c : CoreState) → IsState core c → (session : ℕ) → ((place : ℕ) → session ≡ place + 1 → At core.sessions.items place seat.Free → ⊥) → CanScan c session → ⊥
scan_barred core c h session barred can = barred can.place can.free.number (free_back core.sessions.items c.sessions can.place h.shows.sessions can.free.found)

-- the table of a definition
table_with : ℕ → Bool → List ColKind → Table
table_with extents flag kinds = record { extents = extents; flag = flag; kinds = kinds }

same_table : (obj : ℕ) (table : Table) (d : Definition) → IsDefinition obj table d → table_of d ≡ table
unfolding table_with
same_table obj table d h =
    let first : table_with d.extents d.flag (take d.width d.kinds) ≡ table_with table.extents d.flag (take d.width d.kinds) = ap (λ n. table_with n d.flag (take d.width d.kinds)) h.extents in
    let second : table_with table.extents d.flag (take d.width d.kinds) ≡ table_with table.extents table.flag (take d.width d.kinds) = ap (λ f. table_with table.extents f (take d.width d.kinds)) h.flag in
    let third : table_with table.extents table.flag (take d.width d.kinds) ≡ table_with table.extents table.flag table.kinds = ap (table_with table.extents table.flag) h.kinds in
    first ∙ second ∙ third

not_defined : (obj : ℕ) (t : Option Table) → AreDefined obj t None → t ≡ None
not_defined obj None h = refl
not_defined obj (Some table) h = absurd h

defined : (obj : ℕ) (t : Option Table) (d : Definition) → AreDefined obj t (Some d) → (table : Table) × (t ≡ Some table) × IsDefinition obj table d
defined obj None d h = absurd h
defined obj (Some table) d h = (table, refl, h)

-- what the admission says
abbrev outcome : Bool → Bool → Result (Unit {0}) QueryRefused
outcome columns types = cond columns (cond types (Ok tt) (Err refused.WrongType)) (Err refused.NoColumn)

abbrev refusal_if : ℕ → Bool → Bool → Option Reply
refusal_if scn columns types = cond columns (cond types None (Some (reply.WrongType scn))) (Some (reply.NoColumn scn))

abbrev err : (X : Type 0) → QueryRefused → Result X QueryRefused
err X r = Err r

says_no_column : (X : Type 0) (scn : ℕ) (columns types : Bool) → Follows {X = X} (outcome columns types) (err X refused.NoColumn) → refusal_if scn columns types ≡ Some (reply.NoColumn scn)
says_no_column X scn true true h = let e : refused.NoColumn ≡ refused.Memory = h in absurd cc
says_no_column X scn true false h = let e : err X refused.NoColumn ≡ err X refused.WrongType = h in absurd cc
says_no_column X scn false types h = refl

says_wrong_type : (X : Type 0) (scn : ℕ) (columns types : Bool) → Follows {X = X} (outcome columns types) (err X refused.WrongType) → refusal_if scn columns types ≡ Some (reply.WrongType scn)
says_wrong_type X scn true true h = let e : refused.WrongType ≡ refused.Memory = h in absurd cc
says_wrong_type X scn true false h = refl
says_wrong_type X scn false types h = let e : err X refused.WrongType ≡ err X refused.NoColumn = h in absurd cc

admits : (columns types : Bool) (x : Added) → Follows (outcome columns types) (Ok x) → (columns ≡ true) × (types ≡ true)
admits true true x h = (refl, refl)
admits true false x h = let e : Ok x ≡ Err refused.WrongType = h in absurd cc
admits false types x h = let e : Ok x ≡ Err refused.NoColumn = h in absurd cc

module _ (core : Core) (c : CoreState) (h : IsState core c) (session place : ℕ) (select : Select) (number : session ≡ place + 1) (free : At core.sessions.items place seat.Free) where
  can_scan : CanScan c session
  can_scan = record { place = place; free = record { number = number; found = free_shown core.sessions.items c.sessions place h.shows.sessions free } }

  -- it is refused
  says : (said : Reply) → scan_refusal c.query select (table_at c.log c.query select.obj) ≡ Some said → HasStepped core c (event.ScanBegin session select) (Said said)
  says said refusal = record { next = c; steps = inr (inr (record { reply = said; refused = record { can = can_scan; refusal = refusal; same = refl }; says = refl })); shows = h.shows }

  -- the table is that at the QuerySCN of the rules
  at_query : (d : Option Definition) → AreDefined select.obj (table_at c.log core.query select.obj) d → AreDefined select.obj (table_at c.log c.query select.obj) d
  at_query d is = subst (λ q. AreDefined select.obj (table_at c.log q select.obj) d) h.shows.query is

  pub scan_no_table : AreDefined select.obj (table_at c.log core.query select.obj) None → HasStepped core c (event.ScanBegin session select) (Said (reply.NoTable core.query))
  scan_no_table is = says (reply.NoTable core.query)
      (ap (scan_refusal c.query select) (not_defined select.obj (table_at c.log c.query select.obj) (at_query None is)) ∙ ap (λ q. Some (reply.NoTable q)) (sym h.shows.query))

  module _ (d : Definition) (is : AreDefined select.obj (table_at c.log core.query select.obj) (Some d)) where
    table_is : (table : Table) × (table_at c.log c.query select.obj ≡ Some table) × IsDefinition select.obj table d
    table_is = defined select.obj (table_at c.log c.query select.obj) d (at_query (Some d) is)

    same : table_of d ≡ table_is.0
    same = same_table select.obj table_is.0 d table_is.2

    pub scan_no_column : (X : Type 0) (r : QueryRefused) → r ≡ refused.NoColumn → Follows {X = X} (admission select (table_of d)) (err X r) → HasStepped core c (event.ScanBegin session select) (Said (reply.NoColumn core.query))
    scan_no_column X r is_so follows = says (reply.NoColumn core.query)
        (ap (scan_refusal c.query select) table_is.1
        ∙ says_no_column X c.query (has_columns select table_is.0) (has_types select table_is.0)
        (subst (λ q. Follows {X = X} (admission select table_is.0) (err X q)) is_so (subst (λ t. Follows {X = X} (admission select t) (err X r)) same follows))
        ∙ ap (λ q. Some (reply.NoColumn q)) (sym h.shows.query))

    pub scan_wrong_type : (X : Type 0) (r : QueryRefused) → r ≡ refused.WrongType → Follows {X = X} (admission select (table_of d)) (err X r) → HasStepped core c (event.ScanBegin session select) (Said (reply.WrongType core.query))
    scan_wrong_type X r is_so follows = says (reply.WrongType core.query)
        (ap (scan_refusal c.query select) table_is.1
        ∙ says_wrong_type X c.query (has_columns select table_is.0) (has_types select table_is.0)
        (subst (λ q. Follows {X = X} (admission select table_is.0) (err X q)) is_so (subst (λ t. Follows {X = X} (admission select t) (err X r)) same follows))
        ∙ ap (λ q. Some (reply.WrongType q)) (sym h.shows.query))

    pub scan_begins : (a : Added) → a ≡ record { select = select; rows = [] } → Follows (admission select (table_of d)) (Ok a)
        → HasStepped (record core { sessions = with_item core.sessions place (seat.Scanning (record { select = select; scn = core.query; definition = d; extents = 0; accumulator = a; col = 0; row = 0 })) }) c (event.ScanBegin session select) Moved
    unfolding can_scan
    scan_begins a empty follows =
        let passes = admits (has_columns select table_is.0) (has_types select table_is.0) a (subst (λ t. Follows (admission select t) (Ok a)) same follows) in
        let began : ShowsScan (record { select = select; scn = core.query; definition = d; extents = 0; accumulator = a; col = 0; row = 0 }) (new_scan select c.query table_is.0) = record {
          select = refl;
          scn = h.shows.query;
          defined = table_is.2;
          extents = refl;
          asked = ap (λ (x : Added). x.select) empty;
          rows = ap (λ (x : Added). x.rows) empty;
          col = refl;
          row = refl;
        } in
        record {
          next = with_session c place (rules.Scanning (new_scan select c.query table_is.0));
          steps = inr (inl (refl, record { can = can_scan; table = table_is.0; defined = table_is.1; columns = passes.0; types = passes.1; effect = refl }));
          shows = seat_set core c h.shows place (seat.Scanning (record { select = select; scn = core.query; definition = d; extents = 0; accumulator = a; col = 0; row = 0 })) (rules.Scanning (new_scan select c.query table_is.0)) began;
        }

-- a session put where it stands
pub seat_kept : (core : Core) (c : CoreState) → Shows core c → (place : ℕ) (x : OwnSession) → At core.sessions.items place x → Shows (record core { sessions = with_item core.sessions place x }) c
seat_kept core c h place x at =
    let own = each_right (λ n. ShowsSession) core.sessions.items c.sessions h.sessions place x at in
    subst (Shows (record core { sessions = with_item core.sessions place x })) (ap (λ (l : List Session). record c { sessions = l }) (set_same c.sessions place own.0 own.1)) (seat_set core c h place x own.0 own.2)

-- an end needs a scan whose extents are all gathered
pub end_barred : (core : Core) (c : CoreState) → IsState core c → (session : ℕ)
    → ((place : ℕ) (x : OwnScan) → session ≡ place + 1 → At core.sessions.items place (seat.Scanning x) → x.definition.extents ≤ x.extents → ⊥) → CanEndScan c session → ⊥
end_barred core c h session barred can =
    let own = scanning_back core.sessions.items c.sessions can.place can.scan h.shows.sessions can.is.found in
    let all : own.0.definition.extents ≤ own.0.extents =
    (let e : own.0.definition.extents ≡ can.scan.table.extents = own.2.defined.extents in
    let f : own.0.extents ≡ can.scan.extents = own.2.extents in
    let w : can.scan.table.extents ≤ can.scan.extents = can.whole in
    omega arith) in
    barred can.place own.0 can.is.number own.1 all

-- it ends with its answer, and the session is free
pub scan_ends : (core : Core) (c : CoreState) → IsState core c → (session place : ℕ) (x : OwnSession) (y : OwnSession) (said : Reply) → session ≡ place + 1 → At core.sessions.items place x → y ≡ x → EndsWith x said
    → HasStepped (record core { sessions = with_item (with_item core.sessions place y) place seat.Free }) c (event.ScanEnd session) (Said said)
scan_ends core c h session place x y said number at same ends =
    let own = scanning_shown core.sessions.items c.sessions place ends.scan h.shows.sessions (subst (At core.sessions.items place) ends.is at) in
    let whole : own.0.table.extents ≤ own.0.extents =
    (let e : ends.scan.definition.extents ≡ own.0.table.extents = own.2.defined.extents in
    let f : ends.scan.extents ≡ own.0.extents = own.2.extents in
    let w : ends.scan.definition.extents ≤ ends.scan.extents = ends.whole in
    omega arith) in
    let reply_is : said ≡ scan_reply own.0 =
    ends.says
    ∙ ap (λ (n : ℕ). reply.Rows n (select_lines ends.scan.accumulator.select ends.scan.accumulator.rows) ends.scan.col ends.scan.row) own.2.scn
    ∙ ap (λ (s : Select). reply.Rows own.0.scn (select_lines s ends.scan.accumulator.rows) ends.scan.col ends.scan.row) own.2.asked
    ∙ ap (λ (l : List (List Value)). reply.Rows own.0.scn (select_lines own.0.select l) ends.scan.col ends.scan.row) own.2.rows
    ∙ ap (λ (n : ℕ). reply.Rows own.0.scn (select_lines own.0.select own.0.rows) n ends.scan.row) own.2.col
    ∙ ap (λ (n : ℕ). reply.Rows own.0.scn (select_lines own.0.select own.0.rows) own.0.col n) own.2.row in
    record {
      next = with_session c place rules.Free;
      steps = inr (record {
        reply = said;
        refused = record { place = place; scan = own.0; is = record { number = number; found = own.1 }; whole = whole; says = reply_is; effect = refl };
        says = refl;
      });
      shows = seat_set (record core { sessions = with_item core.sessions place y }) c (subst (λ z. Shows (record core { sessions = with_item core.sessions place z }) c) (sym same) (seat_kept core c h.shows place x at)) place seat.Free rules.Free tt;
    }

-- what was read at a place stands there
pub seat_at : (xs : List OwnSession) (place : ℕ) (x : OwnSession) → place < length xs → x ≡ slice_index_or xs place x → At xs place x
seat_at xs place x within value = let s = at_exists xs place within in subst (At xs place) (sym (value ∙ get_or_from_slice_get xs place s.0 x s.1)) s.1

pub no_end : (core : Core) (c : CoreState) → IsState core c → (session place : ℕ) (x : OwnSession) → session ≡ place + 1 → At core.sessions.items place x
    → ((s : OwnScan) → x ≡ seat.Scanning s → s.definition.extents ≤ s.extents → ⊥) → CanEndScan c session → ⊥
no_end core c h session place x number at none = end_barred core c h session by
  where
    by : (other : ℕ) (s : OwnScan) → session ≡ other + 1 → At core.sessions.items other (seat.Scanning s) → s.definition.extents ≤ s.extents → ⊥
    by other s counts found whole =
        let same : other ≡ place = omega (arith, number, counts) in
        none s (at_same core.sessions.items place x (seat.Scanning s) at (subst (λ n. At core.sessions.items n (seat.Scanning s)) same found)) whole
