-- What sessions are told, which commands ask for, and which units stand: the pieces of column use.
use Rattle.std.proofs.Common.{◌≡◌, ℕ, zero, suc, ◌+◌, ◌-◌, ◌≤◌, Bool, true, false, cond, not, ◌&&◌, List, [], ◌∷◌, ◌++◌, length, Option, Some, None, ◌⊎◌, inl, inr, refl, sym, ap, ◌∙◌, subst, arith}
use Rattle.std.specs.Prelude.{slice_get, slice_set, ◌==◌, is_some}
use Rattle.std.specs.List.{Contains, zip}
use Rattle.std.proofs.lemmas.Bool.{ne_eqb, and_from, and_left}
use Rattle.std.proofs.lemmas.Slice.Eq.{bytes_eq-Decides}
use Rattle.adg_base.specs.declared.log.LogEntry.{LogEntry}
use Rattle.adg_base.specs.declared.command.Command.TheVariants as command
use Rattle.adg_base.specs.declared.command.CommandText.{CommandText}
use Rattle.adg_base.specs.declared.answer.Reply.{Reply}
use Rattle.adg_model.specs.Command.{Spells, command_bytes}
use Rattle.adg_model.specs.Transcript.{texts_of, is_abort}
use Rattle.core_rules.specs.State.{CoreState, ColumnUnit, Units, Population, At}
use Rattle.core_rules.specs.Populations.{with_unit, awaits, filled, units_installed}
use Rattle.core_rules.specs.LogFacts.{LogFacts}
use Rattle.core_rules.specs.Invariant.{Invariant}
use Rattle.core_rules.specs.ColumnUse.{Told, populates, has_abort, others_populate, anyone_populates, IsReadyAt, HasReadyUnits}
use Rattle.core_rules.proofs.Whole.{log_has_facts}
use Rattle.core_rules.proofs.Lists.{at_within, at_set_same, at_set_other, any_contains, Has, has_at}
use Rattle.turn_rules.specs.Round.{Request, Asks, Reads, Seat, at_hand}
use Rattle.turn_rules.specs.Turns.{with_reply}
use Rattle.turn_rules.proofs.SeatsSo.{zip_at}
use Rattle.turn_rules.proofs.LegalLines.{text_back, text_abort}
use Rattle.turn_rules.proofs.Use.{replies_of, told_so_far, IsSameUnit, UnitsStay, IsOwnUnit, IsBuilding, Scene, ReplyUse, AnswersUse, SeatsAreOf}

-- what is told, with one reply more
pub zip_nothing : {X Y : Type 0} (xs : List X) → zip {X = Y} xs [] ≡ []
zip_nothing [] = refl
zip_nothing (x ∷ xs) = refl

abbrev with_pair : {X Y : Type 0} → X → Y → List (X × Y) → List (X × Y)
with_pair x y ps = (x, y) ∷ ps

pub zip_more : {X Y : Type 0} (xs : List X) (ys : List Y) (x : X) (y : Y) → At xs (length ys) x → zip xs (ys ++ y ∷ []) ≡ zip xs ys ++ (x, y) ∷ []
zip_more [] ys x y h = let e : None ≡ Some x = h in absurd cc
zip_more (z ∷ xs) [] x y h = let e : Some z ≡ Some x = h in let f : z ≡ x = cc in ap (λ w. with_pair w y (zip xs [])) f ∙ ap (with_pair x y) (zip_nothing xs)
zip_more (z ∷ xs) (w ∷ ys) x y h = ap (with_pair z w) (zip_more xs ys x y h)

pub zip_empty : {X Y : Type 0} (xs : List X) (ys : List Y) → xs ≡ [] → zip xs ys ≡ []
zip_empty xs ys e = ap (λ zs. zip zs ys) e

-- there are no texts of session 0
pub no_texts : (commands : List CommandText) → ((c : CommandText) → Contains commands c → 1 ≤ c.session) → texts_of 0 commands ≡ []
no_texts commands h = by_texts (texts_of 0 commands) refl
  where
    by_texts : (ts : List (List ℕ)) → texts_of 0 commands ≡ ts → texts_of 0 commands ≡ []
    by_texts [] e = e
    by_texts (t ∷ ts) e =
        let b = text_back commands 0 t (subst (λ xs. Has xs t) (sym e) (inl refl)) in
        let one : 1 ≤ b.0.session = h b.0 b.1 in
        let none : b.0.session ≡ 0 = b.2 in
        absurd (omega arith)

pub told_other : (commands : List CommandText) (seats : List Seat) (place session : ℕ) (seat : Seat) → ((c : CommandText) → Contains commands c → 1 ≤ c.session) → (session ≡ place + 1 → ⊥)
    → told_so_far commands (slice_set seats place seat) session ≡ told_so_far commands seats session
told_other commands seats place zero seat asked d =
    zip_empty (texts_of 0 commands) (replies_of (slice_get (slice_set seats place seat) (0 - 1))) (no_texts commands asked)
    ∙ sym (zip_empty (texts_of 0 commands) (replies_of (slice_get seats (0 - 1))) (no_texts commands asked))
told_other commands seats place (suc n) seat asked d =
    let e : suc n - 1 ≡ n = omega arith in
    let other : n ≡ place → ⊥ = λ f. d (omega arith) in
    ap (λ k. zip (texts_of (suc n) commands) (replies_of (slice_get (slice_set seats place seat) k))) e
    ∙ ap (λ o. zip (texts_of (suc n) commands) (replies_of o)) (at_set_other seats place n seat other)
    ∙ ap (λ k. zip (texts_of (suc n) commands) (replies_of (slice_get seats k))) (sym e)

pub told_own : (commands : List CommandText) (seats : List Seat) (place : ℕ) (seat : Seat) (said : Reply) (t : List ℕ) → At seats place seat → At (texts_of (place + 1) commands) (length seat.replies) t
    → told_so_far commands (slice_set seats place (with_reply said seat)) (place + 1) ≡ told_so_far commands seats (place + 1) ++ (t, said) ∷ []
told_own commands seats place seat said t h a =
    let e : place + 1 - 1 ≡ place = omega arith in
    ap (λ k. zip (texts_of (place + 1) commands) (replies_of (slice_get (slice_set seats place (with_reply said seat)) k))) e
    ∙ ap (λ o. zip (texts_of (place + 1) commands) (replies_of o)) (at_set_same seats place (with_reply said seat) (at_within seats place seat h))
    ∙ zip_more (texts_of (place + 1) commands) seat.replies t said a
    ∙ ap (λ o. zip (texts_of (place + 1) commands) (replies_of o) ++ (t, said) ∷ []) (sym h)
    ∙ ap (λ k. zip (texts_of (place + 1) commands) (replies_of (slice_get seats k)) ++ (t, said) ∷ []) (sym e)

-- a list with one element more, cut somewhere
pub snoc_cases : {X : Type 0} (xs ys zs : List X) (y z : X) → xs ++ y ∷ [] ≡ ys ++ z ∷ zs → ((ys ≡ xs) × (z ≡ y)) ⊎ ((ws : List X) × (xs ≡ ys ++ z ∷ ws))
snoc_cases [] [] zs y z h = let e : y ∷ [] ≡ z ∷ zs = h in inl (refl, cc)
snoc_cases [] (w ∷ []) zs y z h = let e : y ∷ [] ≡ w ∷ z ∷ zs = h in absurd cc
snoc_cases [] (w ∷ v ∷ ys) zs y z h = let e : y ∷ [] ≡ w ∷ v ∷ (ys ++ z ∷ zs) = h in absurd cc
snoc_cases (x ∷ xs) [] zs y z h = let e : x ∷ (xs ++ y ∷ []) ≡ z ∷ zs = h in let f : x ≡ z = cc in inr (xs, ap (λ v. v ∷ xs) f)
snoc_cases (x ∷ xs) (w ∷ ys) zs y z h =
    let e : x ∷ (xs ++ y ∷ []) ≡ w ∷ (ys ++ z ∷ zs) = h in
    let f : x ≡ w = cc in
    let g : xs ++ y ∷ [] ≡ ys ++ z ∷ zs = cc in
    by_case f (snoc_cases xs ys zs y z g)
  where
    by_case : x ≡ w → ((ys ≡ xs) × (z ≡ y)) ⊎ ((ws : List _) × (xs ≡ ys ++ z ∷ ws)) → ((w ∷ ys ≡ x ∷ xs) × (z ≡ y)) ⊎ ((ws : List _) × (x ∷ xs ≡ (w ∷ ys) ++ z ∷ ws))
    by_case f (inl p) = inl (ap (λ v. v ∷ ys) (sym f) ∙ ap (λ vs. x ∷ vs) p.0, p.1)
    by_case f (inr p) = inr (p.0, ap (λ v. v ∷ xs) f ∙ ap (λ vs. w ∷ vs) p.1)

pub answers_more : (x : Scene) (session : ℕ) (told : List Told) (t : List ℕ) (said : Reply) → AnswersUse x session told → ReplyUse x session told t said → AnswersUse x session (told ++ (t, said) ∷ [])
answers_more x session told t said old new earlier later text r e = by_case (snoc_cases told earlier later (t, said) (text, r) e)
  where
    by_case : ((earlier ≡ told) × (◌≡◌ {A = Told} (text, r) (t, said))) ⊎ ((ws : List Told) × (told ≡ earlier ++ (text, r) ∷ ws)) → ReplyUse x session earlier text r
    by_case (inr p) = old earlier p.0 text r p.1
    by_case (inl p) =
        subst (λ es. ReplyUse x session es text r) (sym p.0)
        (subst (λ b. ReplyUse x session told b r) (sym (ap (λ (q : Told). q.0) p.1)) (subst (λ b. ReplyUse x session told t b) (sym (ap (λ (q : Told). q.1) p.1)) new))

-- The text at hand stands among the commands.
pub record AtHand (commands : List CommandText) (place : ℕ) (seat : Seat) (request : Request) : Type 0 where
  pub text : List ℕ
  pub at : At (texts_of (place + 1) commands) (length seat.replies) text
  pub reads : Reads text request
  pub given : CommandText
  pub within : Contains commands given
  pub session : given.session ≡ place + 1
  pub is : given.text ≡ text

pub text_at_hand : (commands : List CommandText) (seats : List Seat) (place : ℕ) (seat : Seat) (request : Request) → SeatsAreOf commands seats → At seats place seat → at_hand seat ≡ Some request → AtHand commands place seat request
text_at_hand commands seats place seat request so h asks =
    let t = zip_at Reads (texts_of (place + 1) commands) seat.requests (length seat.replies) request (so.reads place seat h) asks in
    let c = text_back commands (place + 1) t.0 (has_at (texts_of (place + 1) commands) (length seat.replies) t.0 t.1) in
    record { text = t.0; at = t.1; reads = t.2; given = c.0; within = c.1; session = c.2; is = c.3 }

pub spelled_populates : (text : List ℕ) (obj : ℕ) → Spells text (command.Populate obj) → populates obj text ≡ true
spelled_populates text obj h = (bytes_eq-Decides text (command_bytes (command.Populate obj))).1 h.1

command_populates : (commands : List CommandText) (place : ℕ) (seat : Seat) (obj : ℕ) → (k : AtHand commands place seat (Asks (command.Populate obj))) → populates obj k.given.text ≡ true
command_populates commands place seat obj k = subst (λ t. populates obj t ≡ true) (sym k.is) (spelled_populates k.text obj k.reads)

pub anyone_does : (commands : List CommandText) (place : ℕ) (seat : Seat) (obj : ℕ) → AtHand commands place seat (Asks (command.Populate obj)) → anyone_populates obj commands ≡ true
anyone_does commands place seat obj k = any_contains (λ (c : CommandText). populates obj c.text) commands k.given k.within (command_populates commands place seat obj k)

pub others_do : (commands : List CommandText) (place session : ℕ) (seat : Seat) (obj : ℕ) → AtHand commands place seat (Asks (command.Populate obj)) → (session ≡ place + 1 → ⊥) → others_populate session obj commands ≡ true
others_do commands place session seat obj k d = any_contains (λ (c : CommandText). not (c.session == session) && populates obj c.text) commands k.given k.within
    (and_from (not (k.given.session == session)) (populates obj k.given.text)
    (ap not (ne_eqb k.given.session session (λ e. d (sym e ∙ k.session)))) (command_populates commands place seat obj k))

pub aborts_do : (commands : List CommandText) (place : ℕ) (seat : Seat) → AtHand commands place seat (Asks command.Abort) → has_abort commands ≡ true
aborts_do commands place seat k = any_contains is_abort commands k.given k.within (text_abort k.given (subst (λ t. Spells t command.Abort) (sym k.is) k.reads))

-- Ready units stay where units do, and their SCN is published.
pub ready_stay : (log : List LogEntry) (old new : Units) (obj scn : ℕ) → UnitsStay old new obj → HasReadyUnits log old obj scn → HasReadyUnits log new obj scn
ready_stay log old new obj scn stay h = record {
  table = h.table;
  defined = h.defined;
  each = λ extent l. let u = h.each extent l in by_unit extent u.0 u.1 u.2.ready u.2.snapshot (new obj extent) refl (stay extent);
}
  where
    by_unit : (extent : ℕ) (u : ColumnUnit) → old obj extent ≡ Some u → is_some u.columns ≡ true → u.snapshot ≡ scn → (o : Option ColumnUnit) → new obj extent ≡ o → IsSameUnit (old obj extent) (new obj extent)
        → (w : ColumnUnit) × (new obj extent ≡ Some w) × IsReadyAt scn w
    by_unit extent u e r s None f k = absurd (subst (λ o. IsSameUnit (Some u) o) f (subst (λ o. IsSameUnit o (new obj extent)) e k))
    by_unit extent u e r s (Some w) f k =
        let same : IsSameUnit (Some u) (Some w) = subst (λ o. IsSameUnit (Some u) o) f (subst (λ o. IsSameUnit o (new obj extent)) e k) in
        (w, f, record { ready = ap is_some same.2 ∙ r; snapshot = same.0 ∙ s })

pub ready_published : (c : CoreState) → Invariant c → (obj scn : ℕ) → HasReadyUnits c.log c.units obj scn → scn ≤ c.query
ready_published c v obj scn h =
    let facts : LogFacts c.log c.frontier = log_has_facts c.log c.frontier v.log in
    let some : 1 ≤ h.table.extents = (facts.extents obj scn h.table h.defined).0 in
    let u = h.each 0 (omega arith) in
    let at : u.0.snapshot ≡ scn = u.2.snapshot in
    let low : u.0.snapshot ≤ c.query = (v.units obj 0 u.0 u.1).snapshot in
    omega arith

pub building_stay : (old new : Units) (p : Population) → UnitsStay old new p.obj → IsBuilding old p → IsBuilding new p
building_stay old new p stay b = record {
  ended = λ extent l. let u = b.ended extent l in by_unit extent true u.0 u.1 u.2 (new p.obj extent) refl (stay extent);
  waiting = λ extent l m. let u = b.waiting extent l m in by_unit extent false u.0 u.1 u.2 (new p.obj extent) refl (stay extent);
  installed = b.installed;
  holding = b.holding;
  released = b.released;
}
  where
    by_unit : (extent : ℕ) (full : Bool) (u : ColumnUnit) → old p.obj extent ≡ Some u → IsOwnUnit p full u → (o : Option ColumnUnit) → new p.obj extent ≡ o → IsSameUnit (old p.obj extent) (new p.obj extent)
        → (w : ColumnUnit) × (new p.obj extent ≡ Some w) × IsOwnUnit p full w
    by_unit extent full u e own None f k = absurd (subst (λ o. IsSameUnit (Some u) o) f (subst (λ o. IsSameUnit o (new p.obj extent)) e k))
    by_unit extent full u e own (Some w) f k =
        let same : IsSameUnit (Some u) (Some w) = subst (λ o. IsSameUnit (Some u) o) f (subst (λ o. IsSameUnit o (new p.obj extent)) e k) in
        (w, f, record { snapshot = same.0 ∙ own.snapshot; ticket = same.1 ∙ own.ticket; columns = ap is_some same.2 ∙ own.columns })

-- units of other objects
pub unit_of_other : (obj extent : ℕ) (unit : Option ColumnUnit) (units : Units) (o e : ℕ) → (o ≡ obj → ⊥) → with_unit obj extent unit units o e ≡ units o e
unit_of_other obj extent unit units o e d = ap (λ b. cond b unit (units o e)) (and_left (o == obj) (e == extent) (ne_eqb o obj d))

pub installed_other : (p : Population) (units : Units) (o e : ℕ) → (o ≡ p.obj → ⊥) → units_installed p units o e ≡ units o e
installed_other p units o e d = by_test (awaits p.ticket (units p.obj p.extent))
  where
    by_test : (b : Bool) → cond b (with_unit p.obj p.extent (filled p.read (units p.obj p.extent)) units) units o e ≡ units o e
    by_test true = unit_of_other p.obj p.extent (filled p.read (units p.obj p.extent)) units o e d
    by_test false = refl

pub stay_by : (old new : Units) (obj : ℕ) → ((e : ℕ) → new obj e ≡ old obj e) → UnitsStay old new obj
stay_by old new obj h extent = subst (IsSameUnit (old obj extent)) (sym (h extent)) (same (old obj extent))
  where
    same : (o : Option ColumnUnit) → IsSameUnit o o
    same None = tt
    same (Some u) = (refl, refl, refl)
