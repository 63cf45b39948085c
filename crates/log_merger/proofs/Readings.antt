-- Reading threads in turn.
use Rattle.std.proofs.Common.{◌≡◌, ℕ, ◌+◌, ◌<◌, List, [], ◌∷◌, ◌++◌, length, get_or, take, drop, suc, inl, inr, refl, sym, ap, ◌∙◌, subst, arith}
use Rattle.std.proofs.Math.ListN.{set}
use Rattle.std.specs.List.{AllByRecursion, AllZip}
use Rattle.std.proofs.lemmas.List.{take_more, take_more_set, drop_more, drop-set-lt, set_split, take-append-drop}
use Rattle.std.proofs.lemmas.List.Elements.{AllZip-push}
use Rattle.adg_model.specs.declared.fault.RedoFault.{RedoFault}
use Rattle.adg_model.proofs.LogLaws.{each_append}
use Rattle.log_merger.specs.Thread.{Receiving, ReadsOn, IsRead, IsFaultOf}
use Rattle.log_merger.specs.Merger.{RefusesFirst}
use Rattle.log_merger.proofs.ThreadLaws.{reads_none}
use Rattle.log_merger.proofs.Queues.{zip_same}

-- the first threads are read, and the others as they were
pub record Reading (old now : List Receiving) (i : ℕ) : Type 0 where
  pub each : AllZip ReadsOn (take i old) (take i now)
  pub all : AllByRecursion IsRead (take i now)
  pub rest : drop i now ≡ drop i old

pub reading_start : (ts : List Receiving) → Reading ts ts 0
reading_start ts = record { each = tt; all = tt; rest = refl }

head_same : (a b : Receiving) (xs ys : List Receiving) → a ∷ xs ≡ b ∷ ys → (a ≡ b) × (xs ≡ ys)
head_same a b xs ys e = (cc, cc)

-- the next thread is as it was
next_same : (old now : List Receiving) (i : ℕ) (d : Receiving) → drop i now ≡ drop i old → i < length now → i < length old → (get_or now i d ≡ get_or old i d) × (drop (i + 1) now ≡ drop (i + 1) old)
next_same old now i d rest lt lt' = head_same (get_or now i d) (get_or old i d) (drop (i + 1) now) (drop (i + 1) old) (sym (drop_more now i d lt) ∙ rest ∙ drop_more old i d lt')

pub reading_next : (old now : List Receiving) (i : ℕ) (d u : Receiving) → Reading old now i → i < length now → i < length old → ReadsOn (get_or now i d) u → IsRead u → Reading old (set now i u) (i + 1)
reading_next old now i d u r lt lt' reads read =
    let same = next_same old now i d r.rest lt lt' in
    record {
      each = subst (λ (l : List Receiving). AllZip ReadsOn l (take (i + 1) (set now i u))) (sym (take_more old i d lt'))
          (subst (AllZip ReadsOn (take i old ++ get_or old i d ∷ [])) (sym (take_more_set now i u lt))
          (AllZip-push ReadsOn (take i old) (take i now) (get_or old i d) u r.each (subst (λ (t : Receiving). ReadsOn t u) same.0 reads)));
      all = subst (AllByRecursion IsRead) (sym (take_more_set now i u lt)) (each_append IsRead (take i now) (u ∷ []) r.all (read, tt));
      rest = drop-set-lt (i + 1) now i u (omega arith) ∙ same.1;
    }

zip_append : (xs ys zs ws : List Receiving) → AllZip ReadsOn xs ys → AllZip ReadsOn zs ws → AllZip ReadsOn (xs ++ zs) (ys ++ ws)
zip_append [] [] zs ws h k = k
zip_append [] (y ∷ ys) zs ws h k = absurd h
zip_append (x ∷ xs) [] zs ws h k = absurd h
zip_append (x ∷ xs) (y ∷ ys) zs ws h k = (h.0, zip_append xs ys zs ws h.1 k)

refuses_append : (xs ys : List Receiving) (o u : Receiving) (os us : List Receiving) (fault : RedoFault) → AllZip ReadsOn xs ys → AllByRecursion IsRead ys → IsFaultOf o fault → RefusesFirst (xs ++ o ∷ os) (ys ++ u ∷ us) fault
refuses_append [] [] o u os us fault h k bad = inl bad
refuses_append [] (y ∷ ys) o u os us fault h k bad = absurd h
refuses_append (x ∷ xs) [] o u os us fault h k bad = absurd h
refuses_append (x ∷ xs) (y ∷ ys) o u os us fault h k bad = inr (k.0, refuses_append xs ys o u os us fault h.1 k.1 bad)

split_old : (old : List Receiving) (i : ℕ) (d : Receiving) → i < length old → old ≡ take i old ++ get_or old i d ∷ drop (i + 1) old
split_old old i d lt = sym (take-append-drop i old) ∙ ap (λ (l : List Receiving). take i old ++ l) (drop_more old i d lt)

split_now : (old now : List Receiving) (i : ℕ) (u : Receiving) → i < length now → drop (i + 1) now ≡ drop (i + 1) old → set now i u ≡ take i now ++ u ∷ drop (i + 1) old
split_now old now i u lt same = let one : suc i ≡ i + 1 = omega arith in set_split now i u lt ∙ ap (λ (k : ℕ). take i now ++ u ∷ drop k now) one ∙ ap (λ (l : List Receiving). take i now ++ u ∷ l) same

-- the thread at which reading stops was read in part
pub reading_stops : (old now : List Receiving) (i : ℕ) (d u : Receiving) → Reading old now i → i < length now → i < length old → ReadsOn (get_or now i d) u → AllZip ReadsOn old (set now i u)
reading_stops old now i d u r lt lt' reads =
    let same = next_same old now i d r.rest lt lt' in
    subst (λ (l : List Receiving). AllZip ReadsOn l (set now i u)) (sym (split_old old i d lt'))
    (subst (AllZip ReadsOn (take i old ++ get_or old i d ∷ drop (i + 1) old)) (sym (split_now old now i u lt same.1))
    (zip_append (take i old) (take i now) (get_or old i d ∷ drop (i + 1) old) (u ∷ drop (i + 1) old) r.each (subst (λ (t : Receiving). ReadsOn t u) same.0 reads, zip_same ReadsOn reads_none (drop (i + 1) old))))

pub reading_refuses : (old now : List Receiving) (i : ℕ) (d u : Receiving) (fault : RedoFault) → Reading old now i → i < length now → i < length old → IsFaultOf (get_or now i d) fault → RefusesFirst old (set now i u) fault
reading_refuses old now i d u fault r lt lt' bad =
    let same = next_same old now i d r.rest lt lt' in
    subst (λ (l : List Receiving). RefusesFirst l (set now i u) fault) (sym (split_old old i d lt'))
    (subst (λ (l : List Receiving). RefusesFirst (take i old ++ get_or old i d ∷ drop (i + 1) old) l fault) (sym (split_now old now i u lt same.1))
    (refuses_append (take i old) (take i now) (get_or old i d) u (drop (i + 1) old) (drop (i + 1) old) fault r.each r.all (subst (λ (t : Receiving). IsFaultOf t fault) same.0 bad)))
