-- A table of the spellings of a few things is read as they are spelled.
use Rattle.std.proofs.Common.{◌≡◌, ℕ, List, [], ◌∷◌, ◌++◌, Result, Ok, Err, ◌⊎◌, inl, inr, sym, ap, ◌∙◌, subst}
use Rattle.std.specs.List.{AllByRecursion}
use Rattle.std.proofs.lemmas.List.{append-nil}
use Rattle.query_text.specs.Stopping.{Stops, Spelled, Front, Takes, Reads, Anything}
use Rattle.query_text.specs.declared.fault.Fault.{Fault}
use Rattle.query_text.specs.Words.{Finds, IsWord, IsFront, Means, IsMeant}
use Rattle.query_text.proofs.Stopping.{stops_as, refuses}

-- words that are the spellings of what they mean, of everything good, and there is something good
pub record IsTableOf {W T : Type 0} (now : W → List ℕ) (Good : T → Type 0) (spell : T → List ℕ) (words : List (W × T)) : Type 0 where
  pub sound : AllByRecursion (λ e. Good e.1 × (now e.0 ≡ spell e.1)) words
  pub whole : (t : T) → Good t → IsMeant words t
  pub one : T
  pub one_good : Good one

word_spelled : {W T : Type 0} (now : W → List ℕ) (Good : T → Type 0) (spell : T → List ℕ) (words : List (W × T)) (x : List ℕ) → AllByRecursion (λ e. Good e.1 × (now e.0 ≡ spell e.1)) words → IsWord now words x → Spelled Good spell x
word_spelled now Good spell [] x sound h = absurd h
word_spelled now Good spell (e ∷ words) x sound (inl is) = record { value = e.1; good = sound.0.0; is = is ∙ sound.0.1 }
word_spelled now Good spell (e ∷ words) x sound (inr h) = word_spelled now Good spell words x sound.1 h

in_front : {W T : Type 0} (now : W → List ℕ) (Good : T → Type 0) (spell : T → List ℕ) (words : List (W × T)) (t : T) (x k : List ℕ) → AllByRecursion (λ e. Good e.1 × (now e.0 ≡ spell e.1)) words → IsMeant words t → x ≡ spell t ++ k → IsFront now words x
in_front now Good spell [] t x k sound h is = absurd h
in_front now Good spell (e ∷ words) t x k sound (inl same) is = inl (k, is ∙ ap (λ l. l ++ k) (ap spell (sym same) ∙ sym sound.0.1))
in_front now Good spell (e ∷ words) t x k sound (inr h) is = inr (in_front now Good spell words t x k sound.1 h is)

means_takes : {W T : Type 0} (now : W → List ℕ) (Good : T → Type 0) (spell : T → List ℕ) (words : List (W × T)) (t : T) (text rest : List ℕ) → AllByRecursion (λ e. Good e.1 × (now e.0 ≡ spell e.1)) words → Means now words t text rest → Takes Anything Good spell text t rest
means_takes now Good spell [] t text rest sound h = absurd h
means_takes now Good spell (e ∷ words) t text rest sound (inl h) =
    record { good = subst Good (sym h.0) sound.0.0; ends = tt; is = h.1 ∙ ap (λ l. l ++ rest) (sound.0.1 ∙ ap spell (sym h.0)) }
means_takes now Good spell (e ∷ words) t text rest sound (inr h) = means_takes now Good spell words t text rest sound.1 h

begun_spelled : {W T : Type 0} (now : W → List ℕ) (Good : T → Type 0) (spell : T → List ℕ) (words : List (W × T)) (table : IsTableOf now Good spell words) (x : List ℕ) → (x ≡ []) ⊎ IsWord now words x → (k : List ℕ) × Spelled Good spell (x ++ k)
begun_spelled now Good spell words table x (inl e) = (spell table.one, record { value = table.one; good = table.one_good; is = ap (λ l. l ++ spell table.one) e })
begun_spelled now Good spell words table x (inr h) =
    let s = word_spelled now Good spell words x table.sound h in
    ([], record { value = s.value; good = s.good; is = append-nil x ∙ s.is })

table_stops : {W T : Type 0} (now : W → List ℕ) (Good : T → Type 0) (spell : T → List ℕ) (words : List (W × T)) (table : IsTableOf now Good spell words) (text : List ℕ) (left : ℕ) → Stops (λ x. (x ≡ []) ⊎ IsWord now words x) (IsFront now words) text left → Stops (Spelled Good spell) (Front Anything Good spell) text left
table_stops now Good spell words table text left s =
    stops_as (λ x. (x ≡ []) ⊎ IsWord now words x) (IsFront now words) (Spelled Good spell) (Front Anything Good spell) text left
    (λ x h. begun_spelled now Good spell words table x h)
    (λ x same f. in_front now Good spell words f.value x f.rest table.sound (table.whole f.value f.good) f.is)
    s

pub table_reads : {W T Y : Type 0} (now : W → List ℕ) (Good : T → Type 0) (spell : T → List ℕ) (words : List (W × T)) (table : IsTableOf now Good spell words) (meaning : Y → T) (rest : Y → List ℕ) (text : List ℕ) (r : Result Y Fault) → Finds now words meaning rest text r → Reads meaning rest Anything Good spell text r
table_reads now Good spell words table meaning rest text (Ok y) h = means_takes now Good spell words (meaning y) text (rest y) table.sound h
table_reads now Good spell words table meaning rest text (Err fault) h = refuses _ _ _ _ text text fault (λ left s. table_stops now Good spell words table text left s) h
