-- From delivery to delivery: what earlier lines tell of the units is so again.
use Rattle.std.proofs.Common.{◌≡◌, ℕ, zero, suc, ◌+◌, ◌-◌, ◌<◌, ◌≤◌, true, false, cond, not, ◌&&◌, List, [], ◌∷◌, ◌++◌, length, replicate, Option, Some, None, ◌⊎◌, inl, inr, refl, sym, ap, ◌∙◌, subst, arith, true≢false}
use Rattle.std.specs.Prelude.{nat_lt, ◌==◌}
use Rattle.std.specs.List.{Contains, filter_map, zip}
use Rattle.std.proofs.lemmas.Bool.{ltb-true, ltb-false, and_parts}
use Rattle.std.proofs.lemmas.Slice.Eq.{bytes_eq-Decides}
use Rattle.adg_base.specs.declared.log.LogEntry.{LogEntry}
use Rattle.adg_base.specs.declared.command.Command.{Command}
use Rattle.adg_base.specs.declared.command.Command.TheVariants as command
use Rattle.adg_base.specs.declared.command.CommandText.{CommandText}
use Rattle.adg_base.specs.declared.answer.Reply.{Reply}
use Rattle.adg_base.specs.declared.answer.Reply.TheVariants.{Rows, Populated, Synced, Shown, Aborted, BadQuery, NoTable, NotInMemory, NoColumn, WrongType, Down}
use Rattle.adg_base.specs.declared.answer.Lines.{Lines}
use Rattle.adg_model.specs.declared.delivery.CheckedDelivery.{CheckedDelivery}
use Rattle.adg_model.specs.Command.{Spells, command_bytes}
use Rattle.adg_model.specs.Database.{Table, table_at}
use Rattle.adg_model.specs.Reply.{IsReply, Names}
use Rattle.adg_model.specs.Spelling.{IsObj}
use Rattle.adg_model.specs.Transcript.{texts_of, scn_of, replies_that, is_aborted, Rises}
use Rattle.adg_model.proofs.CommandLaws.{one_command}
use Rattle.core_rules.specs.Share.{NotRedefined}
use Rattle.core_rules.specs.State.{CoreState, Units, At}
use Rattle.core_rules.specs.Applying.{Receives}
use Rattle.core_rules.specs.LogFacts.{LogFacts}
use Rattle.core_rules.specs.Invariant.{Invariant}
use Rattle.core_rules.specs.ColumnUse.{Told, told_to, populates, populated_by, or_earlier, last_populated, WasPopulated, has_abort, others_populate, HasReadyUnits, HasNoUnits, told_by_units, ColumnUse}
use Rattle.core_rules.proofs.Whole.{log_has_facts}
use Rattle.core_rules.proofs.Lists.{Has, has_at, at_has, at_within, at_exists, at_append_left, each_at, each_contains, has_filter_map, any_none, is_true}
use Rattle.core_rules.proofs.Continued.{tables_stay, stays_within}
use Rattle.turn_rules.specs.Round.{Reads, Seat, is_through, Round}
use Rattle.turn_rules.specs.Telling.{all_replies, lines_of}
use Rattle.turn_rules.specs.Delivery.{IsOfSession}
use Rattle.turn_rules.specs.Earlier.{Past, PopulatedIn, NoneTold, PopulatedLast, NeverPopulated, told_by_lines, born_by_lines}
use Rattle.turn_rules.specs.Laws.{RoundsBegin, TurnsKeepRounds, DeliveriesKeepPromises, DeliveriesTellOn}
use Rattle.turn_rules.proofs.View.{TurnsAreThese}
use Rattle.turn_rules.proofs.LinesOf.{replies_to_seat}
use Rattle.turn_rules.proofs.SeatsSo.{meant_at, zip_length}
use Rattle.turn_rules.proofs.SeatTurns.{query_within}
use Rattle.turn_rules.proofs.Over.{IsOver, ByAbort, ByEnd, through_length}
use Rattle.turn_rules.proofs.LegalLines.{IsLast, last_of, received_is, seat_is, told_abort, text_stands}
use Rattle.turn_rules.proofs.UseSessions.{ready_published}
use Rattle.turn_rules.proofs.WasTold.{was_none, was_some, from_none, from_some}

-- Column use asks less where less is told of what was before.
was_told : (log : List LogEntry) (units : Units) (pasts : List Past) (obj since : ℕ) (told : List Told) → (PopulatedLast pasts obj since → HasReadyUnits log units obj since)
    → WasPopulated (told_by_lines pasts) obj since told → WasPopulated (told_by_units log units) obj since told
was_told log units pasts obj since told h w = by_last (last_populated obj told) refl
  where
    by_last : (o : Option ℕ) → last_populated obj told ≡ o → WasPopulated (told_by_units log units) obj since told
    by_last None e = from_none (told_by_units log units) obj since told e (h (was_none (told_by_lines pasts) obj since told e w))
    by_last (Some last) e = from_some (told_by_units log units) obj since last told e (was_some (told_by_lines pasts) obj since last told e w)

use_by_lines : (log : List LogEntry) (frontier floor born : ℕ) (units : Units) (pasts : List Past) (commands : List CommandText) (lines : Lines)
    → ((obj since : ℕ) → NotRedefined log obj since frontier → PopulatedLast pasts obj since → HasReadyUnits log units obj since) → ((obj : ℕ) → NeverPopulated pasts obj → HasNoUnits units obj)
    → ColumnUse log frontier floor born (told_by_units log units) commands lines → ColumnUse log frontier floor born (told_by_lines pasts) commands lines
use_by_lines log frontier floor born units pasts commands lines ready none met = record {
  rows = λ session earlier select table scn col row since a w n. met.rows session earlier select table scn col row since a
      (was_told log units pasts select.obj since earlier (ready select.obj since n.same) w) n;
  plain = met.plain;
  unpopulated = λ session earlier select table scn col row a n o. met.unpopulated session earlier select table scn col row a (none select.obj n) o;
  units = met.units;
}

-- Who was told of an object that it is populated was told so at some SCN last.
or_both : (a b : Option ℕ) → or_earlier a b ≡ None → (a ≡ None) × (b ≡ None)
or_both None b h = (refl, h)
or_both (Some n) b h = let e : Some n ≡ None = h in absurd cc

told_some : (obj n : ℕ) (told : List Told) (t : Told) → Has told t → populated_by obj t ≡ Some n → last_populated obj told ≡ None → ⊥
told_some obj n [] t h e k = h
told_some obj n (s ∷ told) t (inl same) e k =
    let p = or_both (last_populated obj told) (populated_by obj s) k in
    let f : None ≡ Some n = sym p.1 ∙ ap (populated_by obj) same ∙ e in
    absurd cc
told_some obj n (s ∷ told) t (inr h) e k = told_some obj n told t h e (or_both (last_populated obj told) (populated_by obj s) k).0

zip_has : {X Y : Type 0} (xs : List X) (ys : List Y) (n : ℕ) (x : X) (y : Y) → At xs n x → At ys n y → Has (zip xs ys) (x, y)
zip_has [] ys n x y h k = let e : None ≡ Some x = h in absurd cc
zip_has (a ∷ xs) [] n x y h k = let e : None ≡ Some y = k in absurd cc
zip_has (a ∷ xs) (b ∷ ys) zero x y h k =
    let e : Some a ≡ Some x = h in
    let f : Some b ≡ Some y = k in
    inl cc
zip_has (a ∷ xs) (b ∷ ys) (suc n) x y h k = inr (zip_has xs ys n x y h k)

-- SCNs that rise lie between
rises_most : (low high : ℕ) (qs : List ℕ) → Rises low high qs → low ≤ high
rises_most low high [] h = h
rises_most low high (q ∷ qs) h = let a : low ≤ q = h.0 in let b = rises_most q high qs h.1 in omega arith

rises_within : (low high q : ℕ) (qs : List ℕ) → Rises low high qs → Has qs q → (low ≤ q) × (q ≤ high)
rises_within low high q [] h k = absurd k
rises_within low high q (p ∷ qs) h (inl e) = let a : low ≤ p = h.0 in let b = rises_most p high qs h.1 in (omega arith, omega arith)
rises_within low high q (p ∷ qs) h (inr k) = let a : low ≤ p = h.0 in let b = rises_within p high q qs h.1 k in let d : p ≤ q = b.0 in (omega arith, b.1)

-- The reply to a POPULATE of an object that is in-memory through a delivery: it is populated.
module _ (log : List LogEntry) (f low high : ℕ) (obj : ℕ) (text : List ℕ) (spells : Spells text (command.Populate obj)) (table : Table) (flag : table.flag ≡ true)
    (stays : (q : ℕ) → low ≤ q → q ≤ high → table_at log q obj ≡ Some table) where
  one : (other : Command) → Spells text other → command.Populate obj ≡ other
  one other h = one_command (command.Populate obj) other spells.0 h.0 (sym spells.1 ∙ h.1)

  says_populated : (r : Reply) → IsReply log f text r → ((q : ℕ) → scn_of r ≡ Some q → (low ≤ q) × (q ≤ high)) → (scn : ℕ) × (units : ℕ) × (r ≡ Populated scn units)
  says_populated (Populated scn units) m w = (scn, units, refl)
  says_populated (Rows scn answer col row) m w = let e : command.Populate obj ≡ command.Select m.select = one (command.Select m.select) m.query.spells in absurd cc
  says_populated (Synced scn) m w = let e : command.Populate obj ≡ command.Sync = one command.Sync m.0 in absurd cc
  says_populated (Shown scn) m w = let e : command.Populate obj ≡ command.ShowScn = one command.ShowScn m in absurd cc
  says_populated (Aborted scn) m w = let e : command.Populate obj ≡ command.Abort = one command.Abort m in absurd cc
  says_populated (BadQuery scn byte) m w = absurd (m.none (command.Populate obj) spells)
  says_populated (NoColumn scn) m w = let e : command.Populate obj ≡ command.Select m.select = one (command.Select m.select) m.query.spells in absurd cc
  says_populated (WrongType scn) m w = let e : command.Populate obj ≡ command.Select m.select = one (command.Select m.select) m.query.spells in absurd cc
  says_populated Down m w = absurd m
  says_populated (NotInMemory scn) m w =
      let e : command.Populate obj ≡ command.Populate m.obj = one (command.Populate m.obj) m.spells in
      let same : m.obj ≡ obj = cc in
      let within = w scn refl in
      let tables : Some m.table ≡ Some table = sym m.defined ∙ ap (table_at log scn) same ∙ stays scn within.0 within.1 in
      let table_is : m.table ≡ table = cc in
      absurd (true≢false (sym flag ∙ ap (λ (t : Table). t.flag) (sym table_is) ∙ m.plain))
  says_populated (NoTable scn) m w = absurd (undefined m.names)
    where
      undefined : Names text m.obj → ⊥
      undefined (inl n) = let e : command.Populate obj ≡ command.Select n.0 = one (command.Select n.0) n.1 in cc
      undefined (inr n) =
          let e : command.Populate obj ≡ command.Populate m.obj = one (command.Populate m.obj) n in
          let same : m.obj ≡ obj = cc in
          let within = w scn refl in
          let tables : None ≡ Some table = sym m.undefined ∙ ap (table_at log scn) same ∙ stays scn within.0 within.1 in
          cc

-- So where nobody was told that an object is populated which is in-memory through the delivery, nobody asked for it.
module _ (c : CoreState) (d : CheckedDelivery) (r : Round) (last : IsLast c.query (length c.sessions) d.commands r) (calm : has_abort d.commands ≡ false) (obj : ℕ) (object : IsObj obj)
    (none : NoneTold (record { commands = d.commands; lines = lines_of r }) obj) (table : Table) (flag : table.flag ≡ true)
    (stays : (q : ℕ) → c.query ≤ q → q ≤ r.core.query → table_at r.core.log q obj ≡ Some table) where
  nobody_asks : (k : CommandText) → Contains d.commands k → populates obj k.text ≡ true → ⊥
  nobody_asks k h p = by_over last.over
    where
      spells : Spells k.text (command.Populate obj)
      spells = (object, (bytes_eq-Decides k.text (command_bytes (command.Populate obj))).0 p)

      of : IsOfSession (length c.sessions) k
      of = each_contains (IsOfSession (length c.sessions)) d.commands k last.asked h

      by_over : IsOver r → ⊥
      by_over (ByAbort a) = true≢false (sym (told_abort c.query (length c.sessions) d.commands r last a) ∙ calm)
      by_over (ByEnd a through q) =
          let place : ℕ = k.session - 1 in
          let low : 1 ≤ k.session = of.0 in
          let most : k.session ≤ length c.sessions = of.1 in
          let count : length r.seats ≡ length c.sessions = last.count in
          let s = at_exists r.seats place (omega arith) in
          let number : k.session ≡ place + 1 = omega arith in
          let is = seat_is c.query (length c.sessions) d.commands r last place s.0 s.1 in
          let t = at_has (texts_of (place + 1) d.commands) k.text (subst (λ n. Has (texts_of n d.commands) k.text) number (text_stands d.commands k h)) in
          let within : t.0 < length (texts_of (place + 1) d.commands) = at_within (texts_of (place + 1) d.commands) t.0 k.text t.1 in
          let same : length (texts_of (place + 1) d.commands) ≡ length s.0.requests = zip_length Reads (texts_of (place + 1) d.commands) s.0.requests is.reads in
          let ended = through_length s.0 (each_at (λ (y : Seat). is_through y ≡ true) r.seats place s.0 through s.1) in
          let reply = at_exists s.0.replies t.0 (omega arith) in
          let meant = meant_at r.core.log r.core.frontier (texts_of (place + 1) d.commands) s.0.replies t.0 k.text reply.0 is.meant t.1 reply.1 in
          let said = says_populated r.core.log r.core.frontier c.query r.core.query obj k.text spells table flag stays reply.0 meant
          (λ n e. rises_within c.query r.core.query n (filter_map scn_of s.0.replies) is.rises (has_filter_map scn_of s.0.replies reply.0 n (has_at s.0.replies t.0 reply.0 reply.1) e)) in
          let told : Has (told_to (place + 1) d.commands (lines_of r)) (k.text, reply.0) =
          subst (λ rs. Has (zip (texts_of (place + 1) d.commands) rs) (k.text, reply.0)) (sym (replies_to_seat r.seats place s.0 s.1))
          (zip_has (texts_of (place + 1) d.commands) (all_replies s.0) t.0 k.text reply.0 t.1 (at_append_left s.0.replies (replicate (length s.0.requests - length s.0.replies) Down) t.0 reply.0 reply.1)) in
          told_some obj said.0 (told_to (place + 1) d.commands (lines_of r)) (k.text, reply.0) told
          (ap (λ x. populated_by obj (k.text, x)) said.2 ∙ ap (λ b. cond b (Some said.0) None) p) (none (place + 1))

  nobody_else : (session : ℕ) → others_populate session obj d.commands ≡ false
  nobody_else session = any_none (λ (k : CommandText). not (k.session == session) && populates obj k.text) d.commands
      (λ k h p. nobody_asks k h (and_parts (not (k.session == session)) (populates obj k.text) p).1)

-- Ready units over a longer log.
module _ (c : CoreState) (d : CheckedDelivery) (received : CoreState) (v : Invariant c) (receives : Receives c d.entries d.frontier received) where
  stays_defined : (scn obj : ℕ) → scn ≤ c.frontier → table_at (c.log ++ d.entries) scn obj ≡ table_at c.log scn obj
  stays_defined scn obj l = ap (λ f. f obj) (tables_stay c.log d.entries c.frontier d.frontier v.log receives.continues scn l)

  redefined_before : (obj scn : ℕ) → NotRedefined (c.log ++ d.entries) obj scn d.frontier → NotRedefined c.log obj scn c.frontier
  redefined_before obj scn n e h r low high =
      let forward : c.frontier ≤ d.frontier = receives.continues.forward in
      n e (stays_within c.log d.entries c.frontier d.frontier v.log receives.continues e h) r low (omega arith)

  ready_longer : (obj scn : ℕ) → HasReadyUnits c.log c.units obj scn → HasReadyUnits (c.log ++ d.entries) c.units obj scn
  ready_longer obj scn h =
      let low : scn ≤ c.query = ready_published c v obj scn h in
      let most : c.query ≤ c.frontier = query_within c v in
      record { table = h.table; defined = stays_defined scn obj (omega arith) ∙ h.defined; each = h.each }

object_of : (pasts : List Past) (obj scn : ℕ) → PopulatedLast pasts obj scn → IsObj obj
object_of [] obj scn h = absurd h
object_of (p ∷ pasts) obj scn h = by_past h.1 (λ k. object_of pasts obj scn k)
  where
    by_past : PopulatedIn p obj scn ⊎ (NoneTold p obj × PopulatedLast pasts obj scn) → (PopulatedLast pasts obj scn → IsObj obj) → IsObj obj
    by_past (inl q) later = q.object
    by_past (inr q) later = later q.1

pub deliveries_tell_on : TurnsAreThese → TurnsKeepRounds → RoundsBegin → DeliveriesKeepPromises → DeliveriesTellOn
deliveries_tell_on these keep begin promised c d turns new lines pasts ready x told born = record {
  units = record {
    populated = populated;
    never = never;
  };
  born = born_now (is_true (nat_lt 0 (replies_that is_aborted lines.list)));
  columns = subst (λ n. ColumnUse new.log d.frontier c.query n (told_by_lines pasts) d.commands lines) born
      (use_by_lines new.log d.frontier c.query c.born c.units pasts d.commands lines
      (λ obj since n k. still_ready obj since k (subst (λ l. NotRedefined l obj since d.frontier) (promised c d turns new lines ready x).log n))
      (λ obj k. told.never obj k) (promised c d turns new lines ready x).columns);
}
  where
    last : IsLast c.query (length c.sessions) d.commands x.last
    last = last_of these keep begin c d turns new lines ready x

    -- what was ready is so still, as the delivery begins
    still_ready : (obj since : ℕ) → PopulatedLast pasts obj since → NotRedefined (c.log ++ d.entries) obj since d.frontier → HasReadyUnits new.log c.units obj since
    still_ready obj since k n = subst (λ l. HasReadyUnits l c.units obj since) (sym (promised c d turns new lines ready x).log)
        (ready_longer c d x.received ready.invariant x.receives obj since (told.populated obj since k (redefined_before c d x.received ready.invariant x.receives obj since n)))

    never : (obj : ℕ) → NeverPopulated (record { commands = d.commands; lines = lines } ∷ pasts) obj → HasNoUnits new.units obj
    never obj (inl k) = (promised c d turns new lines ready x).after.gone k obj
    never obj (inr k) = (promised c d turns new lines ready x).after.none obj (told.never obj k.1) k.0

    born_now : (nat_lt 0 (replies_that is_aborted lines.list) ≡ true) ⊎ (nat_lt 0 (replies_that is_aborted lines.list) ≡ false) → new.born ≡ born_by_lines (record { commands = d.commands; lines = lines } ∷ pasts)
    born_now (inl t) = (promised c d turns new lines ready x).after.restarted (ltb-true 0 (replies_that is_aborted lines.list) t) ∙ sym (ap (λ b. cond b lines.end (born_by_lines pasts)) t)
    born_now (inr f) =
        let none : replies_that is_aborted lines.list ≤ 0 = ltb-false 0 (replies_that is_aborted lines.list) f in
        (promised c d turns new lines ready x).after.not_restarted (omega arith) ∙ born ∙ sym (ap (λ b. cond b lines.end (born_by_lines pasts)) f)

    populated : (obj scn : ℕ) → PopulatedLast (record { commands = d.commands; lines = lines } ∷ pasts) obj scn → NotRedefined new.log obj scn new.frontier → HasReadyUnits new.log new.units obj scn
    populated obj scn k n = by_past k.1
      where
        by_past : PopulatedIn (record { commands = d.commands; lines = lines }) obj scn ⊎ (NoneTold (record { commands = d.commands; lines = lines }) obj × PopulatedLast pasts obj scn) → HasReadyUnits new.log new.units obj scn
        by_past (inl q) = (promised c d turns new lines ready x).after.filled q.session obj scn k.0 q.alone
            (from_some (told_by_units new.log c.units) obj scn scn (told_to q.session d.commands lines) q.told refl) (subst (NotRedefined new.log obj scn) (promised c d turns new lines ready x).frontier n)
        by_past (inr q) = (promised c d turns new lines ready x).after.filled 0 obj scn k.0 alone
            (from_none (told_by_units new.log c.units) obj scn (told_to 0 d.commands lines) (q.0 0) was) (subst (NotRedefined new.log obj scn) (promised c d turns new lines ready x).frontier n)
          where
            was : HasReadyUnits new.log c.units obj scn
            was = still_ready obj scn q.1 (subst (λ l. NotRedefined l obj scn d.frontier) (promised c d turns new lines ready x).log (subst (NotRedefined new.log obj scn) (promised c d turns new lines ready x).frontier n))

            before : HasReadyUnits c.log c.units obj scn
            before = told.populated obj scn q.1 (redefined_before c d x.received ready.invariant x.receives obj scn (subst (λ l. NotRedefined l obj scn d.frontier) (promised c d turns new lines ready x).log (subst (NotRedefined new.log obj scn) (promised c d turns new lines ready x).frontier n)))

            log_is : x.last.core.log ≡ c.log ++ d.entries
            log_is = (received_is these keep begin c d turns new lines ready x).1

            frontier_is : x.last.core.frontier ≡ d.frontier
            frontier_is = (received_is these keep begin c d turns new lines ready x).0

            redefined : NotRedefined (c.log ++ d.entries) obj scn d.frontier
            redefined = subst (λ l. NotRedefined l obj scn d.frontier) (promised c d turns new lines ready x).log (subst (NotRedefined new.log obj scn) (promised c d turns new lines ready x).frontier n)

            flag : before.table.flag ≡ true
            flag =
                let facts : LogFacts c.log c.frontier = log_has_facts c.log c.frontier ready.invariant.log in
                let some : 1 ≤ before.table.extents = (facts.extents obj scn before.table before.defined).0 in
                let unit = before.each 0 (omega arith) in
                let built = (ready.invariant.units obj 0 unit.0 unit.1).built in
                let at : table_at c.log scn obj ≡ Some built.table = subst (λ k. table_at c.log k obj ≡ Some built.table) unit.2.snapshot built.defined in
                let tables : Some before.table ≡ Some built.table = sym before.defined ∙ at in
                let same : before.table ≡ built.table = cc in
                ap (λ (t : Table). t.flag) same ∙ built.in_memory

            stays : (k : ℕ) → c.query ≤ k → k ≤ x.last.core.query → table_at x.last.core.log k obj ≡ Some before.table
            stays m low high =
                let facts : LogFacts x.last.core.log x.last.core.frontier = log_has_facts x.last.core.log x.last.core.frontier last.stands.core.log in
                let published : scn ≤ c.query = ready_published c ready.invariant obj scn before in
                let upto : c.query ≤ c.frontier = query_within c ready.invariant in
                let most : x.last.core.query ≤ x.last.core.frontier = query_within x.last.core last.stands.core in
                facts.same_table obj scn m before.table (omega arith)
                (subst (λ l. table_at l scn obj ≡ Some before.table) (sym log_is) (stays_defined c d x.received ready.invariant x.receives scn obj (omega arith) ∙ before.defined))
                (λ e i b l h. redefined e (subst (λ xs. Contains xs e) log_is i) b l (omega (arith, h, high, most, frontier_is)))

            alone : others_populate 0 obj d.commands ≡ false
            alone = nobody_else c d x.last last k.0 obj (object_of pasts obj scn q.1) (λ session. subst (λ (l : Lines). last_populated obj (told_to session d.commands l) ≡ None) x.says (q.0 session)) before.table flag stays 0
