-- One delivery more is run by the core.
use Rattle.std.proofs.Common.{◌≡◌, ◌++◌, ◌+◌, ◌-◌, ◌≤◌, ◌<◌, ◌^◌, ℕ, zero, suc, List, [], ◌∷◌, length, replicate, length-append, ◌∙◌, ap, sym, subst, refl, arith, Err}
use Rattle.std.specs.List.{AllByRecursion}
use Rattle.std.proofs.lemmas.List.{length-map, length-replicate}
use Rattle.adg_base.specs.declared.command.CommandText.{CommandText}
use Rattle.adg_base.specs.declared.log.LogEntry.{LogEntry}
use Rattle.adg_base.specs.declared.answer.Lines.{Lines}
use Rattle.adg_model.specs.declared.delivery.RedoPiece.{RedoPiece}
use Rattle.adg_model.specs.declared.delivery.RawDelivery.{RawDelivery}
use Rattle.adg_model.specs.declared.delivery.CheckedDelivery.{CheckedDelivery}
use Rattle.adg_model.specs.Feed.{IsIn, delivery_of}
use Rattle.adg_model.specs.Log.{frontier, merged_log}
use Rattle.adg_model.specs.Reply.{lines_bytes}
use Rattle.adg_model.specs.Sound.{IsContinuation}
use Rattle.adg_model.specs.Transcript.{IsLegal, printed}
use Rattle.core_rules.specs.ColumnUse.{ColumnUse}
use Rattle.core_rules.specs.Invariant.{Invariant, Precise}
use Rattle.core_rules.specs.State.{CoreState, Session, Free, opening}
use Rattle.dictionary.specs.Standing.{StandsFor}
use Rattle.feed_run.specs.declared.standby.Unanswered.{Unanswered}
use Rattle.feed_run.specs.declared.standby.Unanswered.TheVariants as unanswered
use Rattle.feed_run.specs.Standby.{IsNext, Responds, deliveries_of}
use Rattle.feed_run.proofs.NextLaws.{next_count, next_threads, next-texts}
use Rattle.log_merger.specs.Merger.{highest_number}
use Rattle.redo_intake.specs.Intake.{Taking, HasTaken, Checks, bytes_of}
use Rattle.redo_intake.proofs.NothingLaws.{nothing-logged, nothing-frontier}
use Rattle.redo_intake.proofs.RoomLaws.{take_room, take_threads}
use Rattle.standby_core.specs.declared.standby.Core.{Core}
use Rattle.standby_core.specs.Shows.{Shows}
use Rattle.step_driver.specs.Delivered.{CanDeliver, HasReady, IsShort, HasDelivered}
use Rattle.turn_rules.specs.Delivery.{IsReady, IsOfSession}
use Rattle.turn_rules.specs.Earlier.{Past, UnitsAreTold, born_by_lines, told_by_lines}
use Rattle.turn_rules.specs.Laws.{TellsOn}
use Rattle.turn_rules.proofs.Whole.{deliveries_tell_on}
use Rattle.core_standby.specs.declared.standby.CoreStandby.{CoreStandby}
use Rattle.core_standby.specs.Ran.{HasRedo, RunsDelivery}
use Rattle.core_standby.specs.Standing.{HasRun, RunsOne, HasAnswered, end_after, pasts_after}
use Rattle.core_standby.proofs.RanLaws.{has_redo, runs_more, legal_more, uses_more, pasts_more, lines_count, end_more, printed_more}

-- ---- before the first delivery

all_free : (n : ℕ) → AllByRecursion (λ (s : Session). s ≡ Free) (replicate n Free)
all_free zero = tt
all_free (suc n) = (refl, all_free n)

pub run_none : (intake : Taking) (core : Core) (workers threads sessions : ℕ) → HasTaken intake threads [] → Shows core (opening workers sessions) → Invariant (opening workers sessions) → Precise (opening workers sessions)
    → HasRun intake core workers threads sessions [] []
run_none intake core workers threads sessions taken shows invariant precise = record {
  taken = taken;
  state = opening workers sessions;
  ran = refl;
  legal = tt;
  columns = tt;
  between = record {
    is = record { shows = shows; invariant = invariant };
    precise = precise;
    free = all_free sessions;
    worker_count = length-replicate workers _;
    session_count = length-replicate sessions Free;
    query = refl;
    told = record { populated = λ obj scn h. absurd h; never = λ obj h extent. refl };
    born = refl;
  };
  log = sym (nothing-logged intake threads taken);
  frontier = sym (nothing-frontier intake threads taken);
}

-- a standby that has begun
pub answered_none : (intake : Taking) (core : Core) (named workers threads sessions : ℕ) → named ≡ workers → 1 ≤ named → HasTaken intake threads [] → Shows core (opening named sessions)
    → (0 < named → Invariant (opening named sessions)) → (0 < named → Precise (opening named sessions))
    → HasAnswered (record { intake = intake; core = core; delivered = 0 }) workers threads sessions [] []
answered_none intake core named workers threads sessions same some taken shows invariant precise =
    let some_is : 0 < named = omega arith in
    subst (λ (n : ℕ). HasAnswered (record { intake = intake; core = core; delivered = 0 }) n threads sessions [] []) same
    (record { lines = []; run = run_none intake core named threads sessions taken shows (invariant some_is) (precise some_is); bytes = refl; delivered = refl })

-- ---- one delivery is taken

module _ (old : Taking) (core : Core) (workers threads sessions : ℕ) (ds : List RawDelivery) (ls : List Lines) (before : HasRun old core workers threads sessions ds ls) (d : RawDelivery)
    (own : AllByRecursion (λ (c : CommandText). IsIn sessions c.session) d.commands) (new : Taking) (checked : CheckedDelivery) (checks : Checks before.taken new d checked) where
  abbrev pub c : CoreState
  c = before.state

  log-now : merged_log checks.taken.records ≡ c.log ++ checked.entries
  log-now = checks.log ∙ ap (λ (l : List LogEntry). l ++ checked.entries) (sym before.log)

  ready : IsReady c checked
  ready = record {
    invariant = before.between.is.invariant;
    precise = before.between.precise;
    free = before.between.free;
    asked = subst (λ (n : ℕ). AllByRecursion (IsOfSession n) checked.commands) (sym before.between.session_count)
        (subst (λ (cs : List CommandText). AllByRecursion (IsOfSession sessions) cs) (sym checks.commands) own);
  }

  continues : IsContinuation c.log c.frontier checked.entries checked.frontier
  continues =
      subst (λ (l : List LogEntry). IsContinuation l c.frontier checked.entries checked.frontier) (sym before.log)
      (subst (λ (f : ℕ). IsContinuation (merged_log before.taken.records) f checked.entries checked.frontier) (sym before.frontier)
      (subst (λ (f : ℕ). IsContinuation (merged_log before.taken.records) (frontier before.taken.records) checked.entries f) (sym checks.frontier_is) checks.continues))

  -- so the core can run it
  pub can_deliver : CanDeliver core checked new.dictionary c
  can_deliver = record {
    is = before.between.is;
    ready = ready;
    continues = continues;
    known = subst (StandsFor new.dictionary) log-now checks.taken.known;
  }

  pub has_ready : HasReady core checked new.dictionary
  has_ready = record { state = c; can = can_deliver }

  -- and it was run
  module _ (core_now : Core) (l : Lines) (done : HasDelivered core_now c checked l) where
    abbrev redo : HasRedo threads (ds ++ d ∷ [])
    redo = has_redo new threads (ds ++ d ∷ []) checks.taken

    one : RunsDelivery threads ds c d done.next l
    one = record {
      checked = checked;
      brings = record { redo = redo; longer = log-now; frontier = checks.frontier_is; commands = checks.commands; schedule = checks.schedule };
      turns = done.turns;
      delivers = done.delivers;
    }

    log-is : done.next.log ≡ merged_log checks.taken.records
    log-is = done.promises.log ∙ sym log-now

    tells : TellsOn c checked done.next l (pasts_after [] ds ls)
    tells = deliveries_tell_on c checked done.turns done.next l (pasts_after [] ds ls) ready done.delivers before.between.told before.between.born

    pasts : record { commands = checked.commands; lines = l } ∷ pasts_after [] ds ls ≡ pasts_after [] (ds ++ d ∷ []) (ls ++ l ∷ [])
    pasts =
        ap (λ (cs : List CommandText). record { commands = cs; lines = l } ∷ pasts_after [] ds ls) checks.commands
        ∙ sym (pasts_more threads [] (opening workers sessions) c [] ds ls d l before.ran)

    legal-now : IsLegal sessions (merged_log checks.taken.records) (end_after 0 ls) (frontier checks.taken.records) d.commands l
    legal-now =
        subst (λ (n : ℕ). IsLegal n (merged_log checks.taken.records) (end_after 0 ls) (frontier checks.taken.records) d.commands l) before.between.session_count
        (subst (λ (g : List LogEntry). IsLegal (length c.sessions) g (end_after 0 ls) (frontier checks.taken.records) d.commands l) log-is
        (subst (λ (e : ℕ). IsLegal (length c.sessions) done.next.log e (frontier checks.taken.records) d.commands l) before.between.query
        (subst (λ (f : ℕ). IsLegal (length c.sessions) done.next.log c.query f d.commands l) checks.frontier_is
        (subst (λ (cs : List CommandText). IsLegal (length c.sessions) done.next.log c.query checked.frontier cs l) checks.commands done.promises.legal))))

    columns-now : ColumnUse (merged_log checks.taken.records) (frontier checks.taken.records) (end_after 0 ls) (born_by_lines (pasts_after [] ds ls)) (told_by_lines (pasts_after [] ds ls)) d.commands l
    columns-now =
        let ps : List Past = pasts_after [] ds ls in
        subst (λ (g : List LogEntry). ColumnUse g (frontier checks.taken.records) (end_after 0 ls) (born_by_lines ps) (told_by_lines ps) d.commands l) log-is
        (subst (λ (e : ℕ). ColumnUse done.next.log (frontier checks.taken.records) e (born_by_lines ps) (told_by_lines ps) d.commands l) before.between.query
        (subst (λ (f : ℕ). ColumnUse done.next.log f c.query (born_by_lines ps) (told_by_lines ps) d.commands l) checks.frontier_is
        (subst (λ (cs : List CommandText). ColumnUse done.next.log checked.frontier c.query (born_by_lines ps) (told_by_lines ps) cs l) checks.commands tells.columns)))

    pub run_more : HasRun new core_now workers threads sessions (ds ++ d ∷ []) (ls ++ l ∷ [])
    run_more = record {
      taken = checks.taken;
      state = done.next;
      ran = runs_more threads [] (opening workers sessions) ds ls c d done.next l before.ran one;
      legal = legal_more threads sessions [] 0 ds ls d l redo before.legal legal-now;
      columns = uses_more threads [] 0 [] ds ls d l redo before.columns columns-now;
      between = record {
        is = done.is;
        precise = done.promises.precise;
        free = done.promises.free;
        worker_count = done.promises.workers ∙ before.between.worker_count;
        session_count = done.promises.sessions ∙ before.between.session_count;
        query = sym done.promises.end ∙ sym (end_more 0 ls l);
        told = subst (UnitsAreTold done.next.log done.next.frontier done.next.units) pasts tells.units;
        born = tells.born ∙ ap (λ (ps : List Past). born_by_lines ps) pasts;
      };
      log = log-is;
      frontier = done.promises.frontier ∙ checks.frontier_is;
    }

-- ---- the next delivery

texts_short : (cs : List CommandText) → AllByRecursion (λ (c : CommandText). length c.text ≤ 1024) cs → AllByRecursion IsShort cs
texts_short [] h = tt
texts_short (c ∷ cs) h = (omega (arith, h.0), texts_short cs h.1)

-- what its answering asks for
pub record MayAnswer (s : CoreStandby) (d : RawDelivery) : Type 0 where
  pub threads : AllByRecursion (λ (p : RedoPiece). IsIn (length s.intake.merger.threads) p.thread) d.pieces
  pub room : highest_number s.intake.merger + length (bytes_of d.pieces) < 2 ^ 64
  pub delivered : s.delivered < 2 ^ 32 - 1
  pub short : AllByRecursion IsShort d.commands

module _ (s : CoreStandby) (d : RawDelivery) (next : IsNext (HasAnswered s) d) where
  pub may_answer : MayAnswer s d
  may_answer =
      let same : length (deliveries_of next.before) ≡ length next.before = length-map next.before delivery_of in
      record {
        threads = take_threads s.intake next.threads (deliveries_of next.before) d.pieces next.has.run.taken (next_threads (HasAnswered s) d next);
        room = subst (λ (k : RawDelivery). highest_number s.intake.merger + length (bytes_of k.pieces) < 2 ^ 64) (sym next.brings)
            (take_room s.intake next.threads next.sessions next.before next.items next.feed next.has.run.taken);
        delivered = omega (arith, next.has.delivered, same, next_count (HasAnswered s) d next);
        short = texts_short d.commands (next-texts (HasAnswered s) d next);
      }

  -- it is answered
  pub answered_more : (b : CoreStandby) (l : Lines) (out : List ℕ) → HasRun b.intake b.core next.setup next.threads next.sessions (deliveries_of next.before ++ d ∷ []) (next.has.lines ++ l ∷ [])
      → b.delivered ≡ s.delivered + 1 → out ≡ lines_bytes b.delivered l → HasAnswered b next.setup next.threads next.sessions (deliveries_of next.before ++ d ∷ []) (next.written ++ out)
  answered_more b l out run delivered print =
      let ds : List RawDelivery = deliveries_of next.before in
      let ls : List Lines = next.has.lines in
      let count = lines_count next.threads [] (opening next.setup next.sessions) next.has.run.state ds ls next.has.run.ran in
      let number : b.delivered ≡ 1 + length ls = omega (arith, delivered, next.has.delivered, count) in
      record {
        lines = ls ++ l ∷ [];
        run = run;
        bytes = ap (λ (t : List ℕ). t ++ out) next.has.bytes ∙ ap (λ (t : List ℕ). printed 1 ls ++ t) (print ∙ ap (λ (n : ℕ). lines_bytes n l) number) ∙ sym (printed_more 1 ls l);
        delivered = omega (arith, delivered, next.has.delivered, length-append ds (d ∷ []));
      }

  -- it is not
  pub unanswered_so : (b : CoreStandby) (why : Unanswered) → RunsOne next.has.run b.intake b.core d (Err why)
      → Responds (HasAnswered b next.setup) next.threads next.sessions (deliveries_of next.before ++ d ∷ []) next.written (Err why)
  unanswered_so b (unanswered.Redo fault) h = h
  unanswered_so b unanswered.Memory h = tt
