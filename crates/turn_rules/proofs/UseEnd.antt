-- Column use at the end of a round, and the units that stand then.
use Rattle.std.proofs.Common.{◌≡◌, ℕ, zero, suc, ◌+◌, ◌-◌, ◌<◌, ◌≤◌, Bool, true, false, cond, List, [], ◌∷◌, ◌++◌, length, replicate, Option, Some, None, ◌⊎◌, inl, inr, refl, sym, ap, ◌∙◌, subst, arith, true≢false, append_assoc}
use Rattle.std.specs.Prelude.{slice_get}
use Rattle.std.specs.List.{Contains, zip}
use Rattle.std.proofs.lemmas.Bool.{cases_lt}
use Rattle.adg_base.specs.declared.command.CommandText.{CommandText}
use Rattle.adg_base.specs.declared.answer.Reply.{Reply}
use Rattle.adg_base.specs.declared.answer.Reply.TheVariants.{Down}
use Rattle.adg_base.specs.declared.answer.Lines.{Lines}
use Rattle.adg_model.specs.declared.delivery.CheckedDelivery.{CheckedDelivery}
use Rattle.adg_model.specs.Transcript.{texts_of, replies_to, replies_that, is_aborted}
use Rattle.core_rules.specs.State.{CoreState, Session, Free, Populating, Scanning, At}
use Rattle.core_rules.specs.Runs.{Move}
use Rattle.core_rules.specs.Applying.{Receives}
use Rattle.core_rules.specs.ColumnUse.{Told, told_to, last_populated, WasPopulated, HasReadyUnits, told_by_units, ColumnUse, UnitsAfter}
use Rattle.core_rules.proofs.Lists.{at_within, at_exists, each_at, each_contains}
use Rattle.turn_rules.specs.Round.{Seat, Round, AreSeats, opening_round}
use Rattle.turn_rules.specs.Telling.{seats_lines, lines_of}
use Rattle.turn_rules.specs.Standing.{RoundIs}
use Rattle.turn_rules.specs.Delivery.{Delivers, IsOfSession, IsReady}
use Rattle.turn_rules.specs.Laws.{RoundsBegin, TurnsKeepRounds, UseIsMet, UnitsAreStated}
use Rattle.turn_rules.proofs.View.{TurnsAreThese}
use Rattle.turn_rules.proofs.LinesOf.{replies_to_seat, replies_to_none}
use Rattle.turn_rules.proofs.SeatTurns.{LegalIs, turn_legal}
use Rattle.turn_rules.proofs.Over.{over_is, over_free, plays_keep}
use Rattle.turn_rules.proofs.Ended.{as_many}
use Rattle.turn_rules.proofs.LegalLines.{last_of, opening_legal, received_is, aborted_once}
use Rattle.turn_rules.proofs.WasTold.{last_left, was_same}
use Rattle.turn_rules.proofs.UseSessions.{zip_more, zip_nothing, zip_empty, no_texts, answers_more}
use Rattle.turn_rules.proofs.Waits.{get_beyond}
use Rattle.turn_rules.proofs.Use.{replies_of, told_so_far, Scene, AnswersUse, UseIs, UseByAbort, SeatsAreOf, TurnsKeepUse}

-- what stays the same in a delivery
abbrev pub scene : CoreState → CheckedDelivery → Scene
scene c d = record {
  log = c.log ++ d.entries;
  frontier = d.frontier;
  floor = c.query;
  born = c.born;
  before = told_by_units (c.log ++ d.entries) c.units;
  commands = d.commands;
}

-- as a round begins nothing was told
told_nothing : (commands : List CommandText) (seats : List Seat) → ((place : ℕ) (seat : Seat) → At seats place seat → seat.replies ≡ []) → (session : ℕ) → told_so_far commands seats session ≡ []
told_nothing commands seats h session = ap (zip (texts_of session commands)) (none (slice_get seats (session - 1)) refl) ∙ zip_nothing (texts_of session commands)
  where
    none : (o : Option Seat) → slice_get seats (session - 1) ≡ o → replies_of (slice_get seats (session - 1)) ≡ []
    none None e = ap replies_of e
    none (Some seat) e = ap replies_of e ∙ h (session - 1) seat e

nothing_answered : (x : Scene) (session : ℕ) → AnswersUse x session []
nothing_answered x session [] later text said e = let k : ◌≡◌ {A = List Told} [] ((text, said) ∷ later) = e in absurd cc
nothing_answered x session (t ∷ earlier) later text said e = let k : ◌≡◌ {A = List Told} [] (t ∷ (earlier ++ (text, said) ∷ later)) = e in absurd cc

begins_use : (c : CoreState) (d : CheckedDelivery) (received : CoreState) (seats : List Seat) → IsReady c d → Receives c d.entries d.frontier received → AreSeats (length c.sessions) d.commands seats
    → UseIs (scene c d) received seats
begins_use c d received seats ready receives read = record {
  log = ap (λ (y : CoreState). y.log) receives.effect;
  frontier = ap (λ (y : CoreState). y.frontier) receives.effect;
  born = ap (λ (y : CoreState). y.born) receives.effect;
  floor = let e : received.query ≡ c.query = ap (λ (y : CoreState). y.query) receives.effect in omega arith;
  none = λ obj a b extent. ap (λ (y : CoreState). y.units obj extent) receives.effect ∙ a extent;
  filled = λ session obj scn a o w n p.
      subst (λ us. HasReadyUnits (c.log ++ d.entries) us obj scn) (sym (ap (λ (y : CoreState). y.units) receives.effect))
      (subst (WasPopulated (told_by_units (c.log ++ d.entries) c.units) obj scn) (told_nothing d.commands seats none_told session) w);
  building = λ place p h. let e : Populating p ≡ Free = free place (Populating p) h in absurd cc;
  scans = λ place s h. let e : Scanning s ≡ Free = free place (Scanning s) h in absurd cc;
  answers = λ session. subst (AnswersUse (scene c d) session) (sym (told_nothing d.commands seats none_told session)) (nothing_answered (scene c d) session);
}
  where
    none_told : (place : ℕ) (seat : Seat) → At seats place seat → seat.replies ≡ []
    none_told place seat h = (read.each place seat h).unanswered

    free : (place : ℕ) (s : Session) → At received.sessions place s → s ≡ Free
    free place s h = each_at (λ (q : Session). q ≡ Free) c.sessions place s ready.free (subst (λ xs. At xs place s) (ap (λ (y : CoreState). y.sessions) receives.effect) h)

-- The seats belong to the commands.
seats_are_of : (c : CoreState) (d : CheckedDelivery) (r : Round) → IsReady c d → RoundIs r → LegalIs c.query d.commands r.core r.seats r.aborted → length r.seats ≡ length c.sessions → SeatsAreOf d.commands r.seats
seats_are_of c d r ready is legal count = record {
  asked = λ k h. let o = each_contains (IsOfSession (length c.sessions)) d.commands k ready.asked h in (o.0, subst (λ n. k.session ≤ n) (sym count) o.1);
  reads = λ place seat h.
      let within : place < length r.seats = at_within r.seats place seat h in
      let as_many : length r.seats ≡ length r.core.sessions = is.seated in
      let s = at_exists r.core.sessions place (omega arith) in
      (legal.each place seat s.0 h s.1).reads;
}

-- What is known of the last round of a delivery.
pub use_of : TurnsAreThese → TurnsKeepRounds → RoundsBegin → TurnsKeepUse → (c : CoreState) (d : CheckedDelivery) (turns : List (Option Move)) (new : CoreState) (lines : Lines) → IsReady c d
    → (x : Delivers c d turns new lines) → UseByAbort (scene c d) x.last.core x.last.seats x.last.aborted
use_of these keep begin keep_use c d turns new lines ready x = kept.2
  where
    begins : RoundIs (opening_round x.received x.seats)
    begins = begin c d x.received x.seats ready x.receives x.read

    kept : LegalIs c.query d.commands x.last.core x.last.seats x.last.aborted × (length x.last.seats ≡ length c.sessions) × UseByAbort (scene c d) x.last.core x.last.seats x.last.aborted
    kept = plays_keep (λ r. LegalIs c.query d.commands r.core r.seats r.aborted × (length r.seats ≡ length c.sessions) × UseByAbort (scene c d) r.core r.seats r.aborted) d.schedule keep
        (λ r move next is is' t h.
        let these_are = these d.schedule r move next is t in
        let many = as_many d.schedule r move next is t in (
          turn_legal c.query d.commands r next is is' these_are.0 these_are.1 h.0,
          many.seats ∙ h.1,
          keep_use (scene c d) d.schedule r move next t is (seats_are_of c d r ready is h.0 h.1) h.2,
        ))
        (opening_round x.received x.seats) turns x.last begins x.plays
        (opening_legal c d x.received x.seats ready x.receives x.read, x.read.count, begins_use c d x.received x.seats ready x.receives x.read)

-- Down behind the replies tells nothing of units.
downs_more : (k : ℕ) (rs : List Reply) → rs ++ replicate (suc k) Down ≡ (rs ++ Down ∷ []) ++ replicate k Down
downs_more k rs = sym (append_assoc rs (Down ∷ []) (replicate k Down))

zip_short : {X Y : Type 0} (xs : List X) (ys : List Y) (y : Y) → slice_get xs (length ys) ≡ None → zip xs (ys ++ y ∷ []) ≡ zip xs ys
zip_short [] ys y h = refl
zip_short (x ∷ xs) [] y h = let e : Some x ≡ None = h in absurd cc
zip_short (x ∷ xs) (z ∷ ys) y h = ap (λ ws. (x, z) ∷ ws) (zip_short xs ys y h)

answers_downs : (x : Scene) (session k : ℕ) (texts : List (List ℕ)) (rs : List Reply) → AnswersUse x session (zip texts rs) → AnswersUse x session (zip texts (rs ++ replicate k Down))
answers_downs x session zero texts rs h = subst (λ us. AnswersUse x session (zip texts us)) (sym (append_none rs)) h
  where
    append_none : (us : List Reply) → us ++ [] ≡ us
    append_none [] = refl
    append_none (u ∷ us) = ap (λ ws. u ∷ ws) (append_none us)
answers_downs x session (suc k) texts rs h = subst (λ us. AnswersUse x session (zip texts us)) (sym (downs_more k rs))
    (answers_downs x session k texts (rs ++ Down ∷ []) (by_text (slice_get texts (length rs)) refl))
  where
    by_text : (o : Option (List ℕ)) → slice_get texts (length rs) ≡ o → AnswersUse x session (zip texts (rs ++ Down ∷ []))
    by_text None e = subst (AnswersUse x session) (sym (zip_short texts rs Down e)) h
    by_text (Some t) e = subst (AnswersUse x session) (sym (zip_more texts rs t Down e)) (answers_more x session (zip texts rs) t Down h tt)

last_downs : (obj k : ℕ) (texts : List (List ℕ)) (rs : List Reply) → last_populated obj (zip texts (rs ++ replicate k Down)) ≡ last_populated obj (zip texts rs)
last_downs obj zero texts rs = ap (λ us. last_populated obj (zip texts us)) (append_none rs)
  where
    append_none : (us : List Reply) → us ++ [] ≡ us
    append_none [] = refl
    append_none (u ∷ us) = ap (λ ws. u ∷ ws) (append_none us)
last_downs obj (suc k) texts rs = ap (λ us. last_populated obj (zip texts us)) (downs_more k rs) ∙ last_downs obj k texts (rs ++ Down ∷ []) ∙ by_text (slice_get texts (length rs)) refl
  where
    by_text : (o : Option (List ℕ)) → slice_get texts (length rs) ≡ o → last_populated obj (zip texts (rs ++ Down ∷ [])) ≡ last_populated obj (zip texts rs)
    by_text None e = ap (last_populated obj) (zip_short texts rs Down e)
    by_text (Some t) e = ap (last_populated obj) (zip_more texts rs t Down e) ∙ last_left obj (zip texts rs) t Down refl

-- what the lines tell a session: what it was told in the round, and Down
pub data IsTold (commands : List CommandText) (r : Round) (session : ℕ) : Type 0 where
  Seated : (k : ℕ) (rs : List Reply) → told_so_far commands r.seats session ≡ zip (texts_of session commands) rs → told_to session commands (lines_of r) ≡ zip (texts_of session commands) (rs ++ replicate k Down)
      → IsTold commands r session
  Nobody : told_so_far commands r.seats session ≡ [] → told_to session commands (lines_of r) ≡ [] → IsTold commands r session

told_is : (commands : List CommandText) (r : Round) → ((c : CommandText) → Contains commands c → 1 ≤ c.session) → (session : ℕ) → IsTold commands r session
told_is commands r asked zero = Nobody (zip_empty (texts_of 0 commands) (replies_of (slice_get r.seats (0 - 1))) (no_texts commands asked)) (ap (zip (texts_of 0 commands)) (replies_to_none r.seats 0 (inl refl)) ∙ zip_nothing (texts_of 0 commands))
told_is commands r asked (suc place) = by_place (cases_lt place (length r.seats))
  where
    by_place : (place < length r.seats) ⊎ (length r.seats ≤ place) → IsTold commands r (suc place)
    by_place (inr l) = Nobody (ap (λ n. zip (texts_of (suc place) commands) (replies_of (slice_get r.seats n))) (let f : suc place - 1 ≡ place = omega arith in f)
        ∙ ap (λ o. zip (texts_of (suc place) commands) (replies_of o)) (get_beyond r.seats place l) ∙ zip_nothing (texts_of (suc place) commands))
        (ap (zip (texts_of (suc place) commands)) (replies_to_none r.seats (suc place) (inr (omega arith))) ∙ zip_nothing (texts_of (suc place) commands))
    by_place (inl l) =
        let s = at_exists r.seats place l in
        let e : place + 1 ≡ suc place = omega arith in
        let f : suc place - 1 ≡ place = omega arith in
        Seated (length s.0.requests - length s.0.replies) s.0.replies
        (ap (λ n. zip (texts_of (suc place) commands) (replies_of (slice_get r.seats n))) f ∙ ap (λ o. zip (texts_of (suc place) commands) (replies_of o)) s.1)
        (ap (zip (texts_of (suc place) commands)) (ap (λ n. replies_to n (seats_lines 1 r.seats)) (sym e) ∙ replies_to_seat r.seats place s.0 s.1))

answers_end : (x : Scene) (r : Round) → ((c : CommandText) → Contains x.commands c → 1 ≤ c.session) → (session : ℕ) → AnswersUse x session (told_so_far x.commands r.seats session) → AnswersUse x session (told_to session x.commands (lines_of r))
answers_end x r asked session h = by_told (told_is x.commands r asked session)
  where
    by_told : IsTold x.commands r session → AnswersUse x session (told_to session x.commands (lines_of r))
    by_told (Nobody n e) = subst (AnswersUse x session) (sym e) (nothing_answered x session)
    by_told (Seated k rs a b) = subst (AnswersUse x session) (sym b) (answers_downs x session k (texts_of session x.commands) rs (subst (AnswersUse x session) a h))

answers_of : (x : Scene) (r : Round) → ((c : CommandText) → Contains x.commands c → 1 ≤ c.session) → (aborted : Bool) → UseByAbort x r.core r.seats aborted → (session : ℕ) → AnswersUse x session (told_to session x.commands (lines_of r))
answers_of x r asked false u session = answers_end x r asked session (u.answers session)
answers_of x r asked true u session = answers_end x r asked session (u.answers session)

used : (x : Scene) (r : Round) → ((session : ℕ) → AnswersUse x session (told_to session x.commands (lines_of r))) → ColumnUse x.log x.frontier x.floor x.born x.before x.commands (lines_of r)
used x r h = record {
  rows = λ session earlier select table scn col row since a w n. (h session earlier a.later a.text _ a.stands select table a.spells a.defined).rows since w n;
  plain = λ session earlier select table scn col row a flag. (h session earlier a.later a.text _ a.stands select table a.spells a.defined).plain flag;
  unpopulated = λ session earlier select table scn col row a n o. (h session earlier a.later a.text _ a.stands select table a.spells a.defined).unpopulated n o;
  units = λ session obj table scn units f a o n. h session f.earlier f.later f.text _ f.stands obj table f.spells f.defined a o n;
}

pub use_is_met : TurnsAreThese → TurnsKeepRounds → RoundsBegin → TurnsKeepUse → UseIsMet
use_is_met these keep begin keep_use c d turns new lines ready x =
    let u = use_of these keep begin keep_use c d turns new lines ready x in
    let met = used (scene c d) x.last (answers_of (scene c d) x.last (λ k h. (each_contains (IsOfSession (length c.sessions)) d.commands k ready.asked h).0) x.last.aborted u) in
    let log : new.log ≡ c.log ++ d.entries = ap (λ (y : CoreState). y.log) x.core ∙ (received_is these keep begin c d turns new lines ready x).1 in
    subst (λ (l : Lines). ColumnUse new.log d.frontier c.query c.born (told_by_units new.log c.units) d.commands l) (sym x.says)
    (subst (λ l. ColumnUse l d.frontier c.query c.born (told_by_units l c.units) d.commands (lines_of x.last)) (sym log) met)

-- the units afterwards
stated : (x : Scene) (r : Round) → ((c : CommandText) → Contains x.commands c → 1 ≤ c.session) → (aborted : Bool) → ((place : ℕ) (s : Session) → At r.core.sessions place s → s ≡ Free) → replies_that is_aborted (lines_of r).list ≡ cond aborted 1 0 → UseByAbort x r.core r.seats aborted
    → UnitsAfter x.log x.frontier x.born x.before x.commands (lines_of r) r.core.units r.core.born
stated x r asked true free count u = record {
  filled = λ session obj scn a o w n. absurd (true≢false (sym u.abort ∙ a));
  none = λ obj a b. u.none obj;
  gone = λ k obj. u.none obj;
  restarted = λ k. u.born;
  not_restarted = λ k. absurd (omega (arith, count, k));
}
stated x r asked false free count u = record {
  filled = λ session obj scn a o w n. u.filled session obj scn a o (was session obj scn w (told_is x.commands r asked session)) n (λ p. let e : Populating p.population ≡ Free = free p.place (Populating p.population) p.at in absurd cc);
  none = λ obj a b. u.none obj a b;
  gone = λ k obj. absurd (omega (arith, count, k));
  restarted = λ k. absurd (omega (arith, count, k));
  not_restarted = λ k. u.born;
}
  where
    was : (session obj scn : ℕ) → WasPopulated x.before obj scn (told_to session x.commands (lines_of r)) → IsTold x.commands r session → WasPopulated x.before obj scn (told_so_far x.commands r.seats session)
    was session obj scn w (Seated k rs a b) = was_same x.before obj scn (told_so_far x.commands r.seats session) (told_to session x.commands (lines_of r))
        (ap (last_populated obj) b ∙ last_downs obj k (texts_of session x.commands) rs ∙ ap (last_populated obj) (sym a)) w
    was session obj scn w (Nobody n e) = was_same x.before obj scn (told_so_far x.commands r.seats session) (told_to session x.commands (lines_of r)) (ap (last_populated obj) (e ∙ sym n)) w

pub units_are_stated : TurnsAreThese → TurnsKeepRounds → RoundsBegin → TurnsKeepUse → UnitsAreStated
units_are_stated these keep begin keep_use c d turns new lines ready x =
    let u = use_of these keep begin keep_use c d turns new lines ready x in
    let stands = (last_of these keep begin c d turns new lines ready x).stands in
    let over = over_is x.last x.over in
    let count = sym (ap (λ (l : Lines). replies_that is_aborted l.list) x.says) ∙ aborted_once these keep begin c d turns new lines ready x in
    let s = stated (scene c d) x.last (λ k h. (each_contains (IsOfSession (length c.sessions)) d.commands k ready.asked h).0) x.last.aborted (over_free x.last stands over) count u in
    let log : new.log ≡ c.log ++ d.entries = ap (λ (y : CoreState). y.log) x.core ∙ (received_is these keep begin c d turns new lines ready x).1 in
    subst (λ (l : Lines). UnitsAfter new.log d.frontier c.born (told_by_units new.log c.units) d.commands l new.units new.born) (sym x.says)
    (subst (λ l. UnitsAfter l d.frontier c.born (told_by_units l c.units) d.commands (lines_of x.last) new.units new.born) (sym log)
    (subst (λ (y : CoreState). UnitsAfter (c.log ++ d.entries) d.frontier c.born (told_by_units (c.log ++ d.entries) c.units) d.commands (lines_of x.last) y.units y.born) (sym x.core) s))
