-- Each reply that an event says is the reply to the text of its command.
use Rattle.std.proofs.Common.{◌≡◌, ℕ, ◌+◌, ◌<◌, ◌≤◌, Bool, true, false, if◌then◌else◌, List, Option, Some, None, inl, inr, refl, sym, subst, arith}
use Rattle.adg_base.specs.declared.log.LogEntry.{LogEntry}
use Rattle.adg_base.specs.declared.command.Command.TheVariants as command
use Rattle.adg_base.specs.declared.command.Select.{Select}
use Rattle.adg_base.specs.declared.answer.Reply.{Reply}
use Rattle.adg_base.specs.declared.answer.Reply.TheVariants as reply
use Rattle.adg_model.specs.Database.{Table, table_at}
use Rattle.adg_model.specs.Query.{has_columns, has_types}
use Rattle.adg_model.specs.Command.{Spells}
use Rattle.adg_model.specs.Reply.{IsReply}
use Rattle.core_rules.specs.declared.event.Event.{Event}
use Rattle.core_rules.specs.declared.event.Event.TheVariants as event
use Rattle.core_rules.specs.declared.event.CoreAnswer.TheVariants.{NotReady, Moved, Said}
use Rattle.core_rules.specs.State.{CoreState, Population, Scan, Session, Populating, Scanning, At}
use Rattle.core_rules.specs.Populations.{IsSession, population_refusal, Installs, installed_then, has_more}
use Rattle.core_rules.specs.Scans.{scan_refusal, EndsScan}
use Rattle.core_rules.specs.LogFacts.{LogHasFacts}
use Rattle.core_rules.specs.Step.{Happens}
use Rattle.core_rules.specs.Invariant.{Invariant}
use Rattle.core_rules.specs.Laws.{IsTextOf, RepliesHaveMeaning}
use Rattle.core_rules.proofs.Lists.{at_same}
use Rattle.core_rules.proofs.Installed.{installed_most}
use Rattle.core_rules.proofs.ScanLaws.{finished_scans_have_meaning}

-- a refused POPULATE
population_refused : (log : List LogEntry) (frontier scn obj : ℕ) (text : List ℕ) (said : Reply) (table : Option Table) → table_at log scn obj ≡ table
    → population_refusal scn table ≡ Some said → Spells text (command.Populate obj) → IsReply log frontier text said
population_refused log frontier scn obj text said None undefined refused spells =
    let is : reply.NoTable scn ≡ said = let e : Some (reply.NoTable scn) ≡ Some said = refused in cc in
    subst (IsReply log frontier text) is (record { obj = obj; names = inr spells; undefined = undefined })
population_refused log frontier scn obj text said (Some table) defined refused spells = by_flag table.flag refl refused
  where
    by_flag : (b : Bool) → table.flag ≡ b → (if b then None else Some (reply.NotInMemory scn)) ≡ Some said → IsReply log frontier text said
    by_flag true k e = let none : None ≡ Some said = e in absurd cc
    by_flag false k e =
        let is : reply.NotInMemory scn ≡ said = let some : Some (reply.NotInMemory scn) ≡ Some said = e in cc in
        subst (IsReply log frontier text) is (record { obj = obj; table = table; spells = spells; defined = defined; plain = k })

-- a refused SELECT
scan_refused : (log : List LogEntry) (frontier scn : ℕ) (select : Select) (text : List ℕ) (said : Reply) (table : Option Table) → table_at log scn select.obj ≡ table
    → scan_refusal scn select table ≡ Some said → Spells text (command.Select select) → IsReply log frontier text said
scan_refused log frontier scn select text said None undefined refused spells =
    let is : reply.NoTable scn ≡ said = let e : Some (reply.NoTable scn) ≡ Some said = refused in cc in
    subst (IsReply log frontier text) is (record { obj = select.obj; names = inl (select, spells, refl); undefined = undefined })
scan_refused log frontier scn select text said (Some table) defined refused spells = by_columns (has_columns select table) refl refused
  where
    by_types : (b : Bool) → has_columns select table ≡ true → has_types select table ≡ b → (if b then None else Some (reply.WrongType scn)) ≡ Some said → IsReply log frontier text said
    by_types true columns k e = let none : None ≡ Some said = e in absurd cc
    by_types false columns k e =
        let is : reply.WrongType scn ≡ said = let some : Some (reply.WrongType scn) ≡ Some said = e in cc in
        subst (IsReply log frontier text) is
        (record { select = select; table = table; query = record { spells = spells; defined = defined }; columns = columns; types = k })

    by_columns : (b : Bool) → has_columns select table ≡ b
        → (if b then (if has_types select table then None else Some (reply.WrongType scn)) else Some (reply.NoColumn scn)) ≡ Some said → IsReply log frontier text said
    by_columns true k e = by_types (has_types select table) k refl e
    by_columns false k e =
        let is : reply.NoColumn scn ≡ said = let some : Some (reply.NoColumn scn) ≡ Some said = e in cc in
        subst (IsReply log frontier text) is (record { select = select; table = table; query = record { spells = spells; defined = defined }; columns = k })

-- A session of a number is one.
same_session : (c : CoreState) (session m n : ℕ) (x y : Session) → IsSession c session m x → IsSession c session n y → x ≡ y
same_session c session m n x y h k =
    let a : session ≡ m + 1 = h.number in
    let b : session ≡ n + 1 = k.number in
    let e : n ≡ m = omega arith in
    at_same c.sessions m x y h.found (subst (λ (l : ℕ). At c.sessions l y) e k.found)

-- A population is over and says how many extents it filled.
populated : (c : CoreState) (session : ℕ) (said : Reply) (new : CoreState) (text : List ℕ) → Invariant c → Installs c session (Said said) new
    → IsTextOf c (event.PopEnd session) text → IsReply c.log c.frontier text said
populated c session said new text i r of = by_more (has_more r.population) r.says
  where
    p : Population
    p = r.population

    count : ℕ
    count = installed_then p c.units

    same : of.1 ≡ p
    same = let e : Populating of.1 ≡ Populating p = same_session c session of.0 r.place (Populating of.1) (Populating p) of.2 r.is in cc

    spells : Spells text (command.Populate p.obj)
    spells = subst (λ (q : Population). Spells text (command.Populate q.obj)) same of.3

    by_more : (b : Bool) → Said said ≡ (if b then Moved else Said (reply.Populated p.snapshot count)) → IsReply c.log c.frontier text said
    by_more true e = let moved : Said said ≡ Moved = e in absurd cc
    by_more false e =
        let is : reply.Populated p.snapshot count ≡ said = let both : Said said ≡ Said (reply.Populated p.snapshot count) = e in cc in
        let was = i.populations r.place p r.is.found in
        let one_more : count ≤ p.extent + 1 = installed_most p c.units was.installed in
        let within : p.extent < p.table.extents = was.extent in
        subst (IsReply c.log c.frontier text) is
        (record { obj = p.obj; table = p.table; spells = spells; defined = was.defined; in_memory = was.in_memory; most = omega arith })

-- A scan ends with the answer.
scanned : (c : CoreState) (session : ℕ) (said : Reply) (new : CoreState) (text : List ℕ) → Invariant c → EndsScan c session said new
    → IsTextOf c (event.ScanEnd session) text → IsReply c.log c.frontier text said
scanned c session said new text i r of = subst (IsReply c.log c.frontier text) (sym r.says) (record {
  select = s.select;
  table = s.table;
  query = record { spells = spells; defined = (i.scans r.place s r.is.found).defined };
  columns = (i.scans r.place s r.is.found).columns;
  types = (i.scans r.place s r.is.found).types;
  meaning = (finished_scans_have_meaning c r.place s i r.is.found r.whole).answer;
  split = (finished_scans_have_meaning c r.place s i r.is.found r.whole).split;
})
  where
    s : Scan
    s = r.scan

    same : of.1 ≡ s
    same = let e : Scanning of.1 ≡ Scanning s = same_session c session of.0 r.place (Scanning of.1) (Scanning s) of.2 r.is in cc

    spells : Spells text (command.Select s.select)
    spells = subst (λ (x : Scan). Spells text (command.Select x.select)) same of.3

said_is : (x y : Reply) → Said x ≡ Said y → y ≡ x
said_is x y e = let both : Said x ≡ Said y = e in cc

moved_is_not : (x : Reply) → Said x ≡ Moved → ⊥
moved_is_not x e = let both : Said x ≡ Moved = e in absurd cc

pub replies_have_meaning : LogHasFacts → RepliesHaveMeaning
replies_have_meaning facts c e said new text i (inl r) of = let both : Said said ≡ NotReady = r.0 in absurd cc
replies_have_meaning facts c e said new text i (inr h) of = by_event e h of
  where
    by_event : (x : Event) → Happens c x (Said said) new → IsTextOf c x text → IsReply c.log c.frontier text said
    by_event (event.Apply worker) k is = absurd is
    by_event (event.Mine worker) k is = absurd is
    by_event (event.Raise worker through) k is = absurd is
    by_event (event.BeginFlush through) k is = absurd is
    by_event (event.Claim actor) k is = absurd is
    by_event (event.Collect actor) k is = absurd is
    by_event (event.Touch actor) k is = absurd is
    by_event (event.Done actor) k is = absurd is
    by_event event.Publish k is = absurd is
    by_event (event.PopBegin session obj) (inl k) is = absurd (moved_is_not said k.0)
    by_event (event.PopBegin session obj) (inr k) is = subst (IsReply c.log c.frontier text) (said_is said k.reply k.says)
        (population_refused c.log c.frontier c.query obj text k.reply (table_at c.log c.query obj) refl k.refused.refusal is)
    by_event (event.PopRegister session) k is = absurd is
    by_event (event.PopRelease session) k is = absurd is
    by_event (event.PopRead session) k is = absurd is
    by_event (event.PopEnd session) k is = populated c session said new text i k is
    by_event (event.ScanBegin session select) (inl k) is = absurd (moved_is_not said k.0)
    by_event (event.ScanBegin session select) (inr k) is = subst (IsReply c.log c.frontier text) (said_is said k.reply k.says)
        (scan_refused c.log c.frontier c.query select text k.reply (table_at c.log c.query select.obj) refl k.refused.refusal is)
    by_event (event.ScanExtent session) k is = absurd is
    by_event (event.ScanEnd session) k is = subst (IsReply c.log c.frontier text) (said_is said k.reply k.says) (scanned c session k.reply new text i k.refused is)
    by_event event.Restart k is = absurd is
