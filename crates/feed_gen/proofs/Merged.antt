-- The merged log of the three threads: their records one after another, as they were written.
use Rattle.std.proofs.Common.{◌≡◌, ℕ, ◌+◌, ◌<◌, ◌≤◌, Bool, true, false, cond, nat_le, List, [], ◌∷◌, ◌++◌, map, None, refl, sym, ap, ap₂, ◌∙◌, subst, arith, append_assoc, inl, inr, ◌⊎◌}
use Rattle.std.specs.Prelude.{◌==◌}
use Rattle.std.specs.List.{AllByRecursion, flat_map}
use Rattle.std.proofs.lemmas.List.{map-append}
use Rattle.std.proofs.lemmas.Bool.{eqb-true, leb-false, cases_eq}
use Rattle.std.proofs.lemmas.Bool.Decides.{nat_tests}
use Rattle.adg_base.specs.declared.vector.Vector.{Vector}
use Rattle.adg_base.specs.declared.log.LogEntry.{LogEntry}
use Rattle.adg_model.specs.Database.{Database, after, no_database}
use Rattle.adg_model.specs.Sound.{refusal, SoundFrom, IsSound}
use Rattle.adg_model.specs.Spelling.{IsVector}
use Rattle.adg_model.specs.Log.{record_entries, thread_entries, comes_before, put_in, in_order, upto, numbered, frontier, merged_log}
use Rattle.adg_model.proofs.LogLaws.{each_append, each_weaker, Ordered, put_in_first, each_in_order, before_by_scn, IsOf, record_entries_are, record_entries_ordered, upto_in_order, upto_none, ScnsRise, scns_rise_in_order}
use Rattle.feed_gen.specs.declared.writing.Writing.{Writing}
use Rattle.feed_gen.proofs.Small.{IsWriting}
use Rattle.feed_gen.proofs.Threads.{record_at, records_of}

-- ---- what comes first is put first

before_not : (a b : LogEntry) → comes_before a b ≡ true → comes_before b a ≡ false
before_not a b h = grind (arith, nat_tests)

abbrev Before : List LogEntry → List LogEntry → Type 0
Before xs ys = AllByRecursion (λ x. AllByRecursion (λ y. comes_before x y ≡ true) ys) xs

put_behind : (e : LogEntry) (front back : List LogEntry) → AllByRecursion (λ x. comes_before x e ≡ true) front → put_in e (front ++ back) ≡ front ++ put_in e back
put_behind e [] back h = refl
put_behind e (x ∷ front) back h = rw (before_not x e h.0) (ap (λ l. x ∷ l) (put_behind e front back h.1))

each_of_both : (x : LogEntry) (a b : List LogEntry) → AllByRecursion (λ y. comes_before x y ≡ true) a → AllByRecursion (λ y. comes_before x y ≡ true) b → AllByRecursion (λ y. comes_before x y ≡ true) (a ++ b)
each_of_both x a b h k = each_append (λ y. comes_before x y ≡ true) a b h k

order_front : (front back : List LogEntry) → Ordered front → Before front back → in_order (front ++ back) ≡ front ++ in_order back
order_front [] back h k = refl
order_front (x ∷ front) back h k =
    ap (put_in x) (order_front front back h.1 k.1)
    ∙ put_in_first x (front ++ in_order back) (each_of_both x front (in_order back) h.0 (each_in_order (λ y. comes_before x y ≡ true) back k.0))

before_each : (e : LogEntry) (front others : List LogEntry) → Before front (e ∷ others) → AllByRecursion (λ x. comes_before x e ≡ true) front
before_each e [] others h = tt
before_each e (x ∷ front) others h = (h.0.0, before_each e front others h.1)

before_others : (e : LogEntry) (front others : List LogEntry) → Before front (e ∷ others) → Before front others
before_others e [] others h = tt
before_others e (x ∷ front) others h = (h.0.1, before_others e front others h.1)

order_inner : (before front back : List LogEntry) → Ordered front → Before front before → Before front back → in_order (before ++ (front ++ back)) ≡ front ++ in_order (before ++ back)
order_inner [] front back o h k = order_front front back o k
order_inner (e ∷ before) front back o h k =
    ap (put_in e) (order_inner before front back o (before_others e front before h) k)
    ∙ put_behind e front (in_order (before ++ back)) (before_each e front before h)

-- ---- the entries of the threads

abbrev thread_part : ℕ → ℕ → ℕ → List Writing → List LogEntry
thread_part thread number scn ws = thread_entries thread number (records_of thread scn ws)

abbrev above_scn : ℕ → List LogEntry → Type 0
above_scn scn es = AllByRecursion (λ e. scn ≤ e.scn) es

part_above : (thread number scn : ℕ) (ws : List Writing) → above_scn scn (thread_part thread number scn ws)
part_above thread number scn [] = tt
part_above thread number scn (w ∷ ws) = by_thread (w.thread == thread) (later _ (part_above thread (number + 1) (scn + 1) ws)) (later _ (part_above thread number (scn + 1) ws))
  where
    later : (es : List LogEntry) → above_scn (scn + 1) es → above_scn scn es
    later es h = each_weaker (λ e. scn + 1 ≤ e.scn) (λ e. scn ≤ e.scn) (λ e k. omega (arith, k)) es h

    by_thread : (t : Bool) → above_scn scn (thread_part thread (number + 1) (scn + 1) ws) → above_scn scn (thread_part thread number (scn + 1) ws)
        → above_scn scn (thread_entries thread number (cond t (record_at scn w ∷ records_of thread (scn + 1) ws) (records_of thread (scn + 1) ws)))
    by_thread true own rest = each_append (λ e. scn ≤ e.scn) (record_entries thread number scn 1 w.vectors) (thread_part thread (number + 1) (scn + 1) ws)
        (each_weaker (IsOf thread scn 1) (λ e. scn ≤ e.scn) (λ e h. omega (arith, h.same_scn)) _ (record_entries_are thread number scn 1 w.vectors))
        own
    by_thread false own rest = rest

part_own : (thread number scn : ℕ) (w : Writing) (ws : List Writing) → w.thread ≡ thread → thread_part thread number scn (w ∷ ws) ≡ record_entries thread number scn 1 w.vectors ++ thread_part thread (number + 1) (scn + 1) ws
part_own thread number scn w ws e = ap (λ t. thread_entries thread number (cond t (record_at scn w ∷ records_of thread (scn + 1) ws) (records_of thread (scn + 1) ws))) (same (w.thread == thread) refl)
  where
    same : (t : Bool) → (w.thread == thread) ≡ t → t ≡ true
    same true h = refl
    same false h = grind (arith, nat_tests)

part_other : (thread number scn : ℕ) (w : Writing) (ws : List Writing) → (w.thread ≡ thread → ⊥) → thread_part thread number scn (w ∷ ws) ≡ thread_part thread number (scn + 1) ws
part_other thread number scn w ws ne = ap (λ t. thread_entries thread number (cond t (record_at scn w ∷ records_of thread (scn + 1) ws) (records_of thread (scn + 1) ws))) (other (w.thread == thread) refl)
  where
    other : (t : Bool) → (w.thread == thread) ≡ t → t ≡ false
    other true h = absurd (ne (eqb-true w.thread thread h))
    other false h = refl

-- the entries of a record come before all of later ones
front_before : (thread number scn : ℕ) (vs : List Vector) (es : List LogEntry) → above_scn (scn + 1) es → Before (record_entries thread number scn 1 vs) es
front_before thread number scn vs es h =
    each_weaker (IsOf thread scn 1) (λ x. AllByRecursion (λ y. comes_before x y ≡ true) es) (λ x k. each_weaker (λ y. scn + 1 ≤ y.scn) (λ y. comes_before x y ≡ true) (λ y j. before_by_scn x y (omega (arith, k.same_scn, j))) es h) _ (record_entries_are thread number scn 1 vs)

-- the entries of the three threads, numbered from these on
abbrev three_threads : (a b c scn : ℕ) → List Writing → List LogEntry
three_threads a b c scn ws = thread_part 1 a scn ws ++ (thread_part 2 b scn ws ++ (thread_part 3 c scn ws ++ []))

three_above : (a b c scn : ℕ) (ws : List Writing) → above_scn scn (three_threads a b c scn ws)
three_above a b c scn ws =
    let P = λ (e : LogEntry). scn ≤ e.scn in
    each_append P (thread_part 1 a scn ws) (thread_part 2 b scn ws ++ (thread_part 3 c scn ws ++ [])) (part_above 1 a scn ws)
    (each_append P (thread_part 2 b scn ws) (thread_part 3 c scn ws ++ []) (part_above 2 b scn ws) (each_append P (thread_part 3 c scn ws) [] (part_above 3 c scn ws) tt))

-- the first record's entries come first
abbrev FirstFirst : (a b c scn : ℕ) → Writing → List Writing → List LogEntry → ℕ → ℕ → ℕ → Type 0
FirstFirst a b c scn w ws front a' b' c' = in_order (three_threads a b c scn (w ∷ ws)) ≡ front ++ in_order (three_threads a' b' c' (scn + 1) ws)

first_of_one : (a b c scn : ℕ) (w : Writing) (ws : List Writing) → w.thread ≡ 1 → FirstFirst a b c scn w ws (record_entries 1 a scn 1 w.vectors) (a + 1) b c
first_of_one a b c scn w ws e =
    let front = record_entries 1 a scn 1 w.vectors in
    let one = thread_part 1 (a + 1) (scn + 1) ws in
    let two = thread_part 2 b (scn + 1) ws in
    let three = thread_part 3 c (scn + 1) ws in
    let split : three_threads a b c scn (w ∷ ws) ≡ front ++ (one ++ (two ++ (three ++ []))) =
    ap₂ (λ x y. x ++ y) (part_own 1 a scn w ws e) (ap₂ (λ x y. x ++ (y ++ [])) (part_other 2 b scn w ws (λ f. absurd (omega (arith, e, f)))) (part_other 3 c scn w ws (λ f. absurd (omega (arith, e, f)))))
    ∙ append_assoc front one (two ++ (three ++ [])) in
    ap in_order split
    ∙ order_front front (one ++ (two ++ (three ++ []))) (record_entries_ordered 1 a scn 1 w.vectors) (front_before 1 a scn w.vectors _ (three_above (a + 1) b c (scn + 1) ws))

first_of_two : (a b c scn : ℕ) (w : Writing) (ws : List Writing) → w.thread ≡ 2 → FirstFirst a b c scn w ws (record_entries 2 b scn 1 w.vectors) a (b + 1) c
first_of_two a b c scn w ws e =
    let P = λ (e : LogEntry). scn + 1 ≤ e.scn in
    let front = record_entries 2 b scn 1 w.vectors in
    let one = thread_part 1 a (scn + 1) ws in
    let two = thread_part 2 (b + 1) (scn + 1) ws in
    let three = thread_part 3 c (scn + 1) ws in
    let split : three_threads a b c scn (w ∷ ws) ≡ one ++ (front ++ (two ++ (three ++ []))) =
    ap₂ (λ x y. x ++ y) (part_other 1 a scn w ws (λ f. absurd (omega (arith, e, f)))) (ap₂ (λ x y. x ++ (y ++ [])) (part_own 2 b scn w ws e) (part_other 3 c scn w ws (λ f. absurd (omega (arith, e, f)))))
    ∙ ap (λ l. one ++ l) (append_assoc front two (three ++ [])) in
    ap in_order split
    ∙ order_inner one front (two ++ (three ++ [])) (record_entries_ordered 2 b scn 1 w.vectors)
    (front_before 2 b scn w.vectors one (part_above 1 a (scn + 1) ws))
    (front_before 2 b scn w.vectors (two ++ (three ++ [])) (each_append P two (three ++ []) (part_above 2 (b + 1) (scn + 1) ws) (each_append P three [] (part_above 3 c (scn + 1) ws) tt)))

first_of_three : (a b c scn : ℕ) (w : Writing) (ws : List Writing) → w.thread ≡ 3 → FirstFirst a b c scn w ws (record_entries 3 c scn 1 w.vectors) a b (c + 1)
first_of_three a b c scn w ws e =
    let P = λ (e : LogEntry). scn + 1 ≤ e.scn in
    let front = record_entries 3 c scn 1 w.vectors in
    let one = thread_part 1 a (scn + 1) ws in
    let two = thread_part 2 b (scn + 1) ws in
    let three = thread_part 3 (c + 1) (scn + 1) ws in
    let split : three_threads a b c scn (w ∷ ws) ≡ (one ++ two) ++ (front ++ (three ++ [])) =
    ap₂ (λ x y. x ++ y) (part_other 1 a scn w ws (λ f. absurd (omega (arith, e, f)))) (ap₂ (λ x y. x ++ (y ++ [])) (part_other 2 b scn w ws (λ f. absurd (omega (arith, e, f)))) (part_own 3 c scn w ws e))
    ∙ ap (λ l. one ++ (two ++ l)) (append_assoc front three [])
    ∙ sym (append_assoc one two (front ++ (three ++ []))) in
    ap in_order split
    ∙ order_inner (one ++ two) front (three ++ []) (record_entries_ordered 3 c scn 1 w.vectors)
    (front_before 3 c scn w.vectors (one ++ two) (each_append P one two (part_above 1 a (scn + 1) ws) (part_above 2 b (scn + 1) ws)))
    (front_before 3 c scn w.vectors (three ++ []) (each_append P three [] (part_above 3 (c + 1) (scn + 1) ws) tt))
    ∙ ap (λ l. front ++ in_order l) (append_assoc one two (three ++ []))

-- In order they are the vectors as they were written.
abbrev vectors_in : List LogEntry → List Vector
vectors_in es = map (λ (e : LogEntry). e.vector) es

abbrev pub all_vectors : List Writing → List Vector
all_vectors ws = flat_map (λ (w : Writing). w.vectors) ws

record_vectors : (thread number scn index : ℕ) (vs : List Vector) → vectors_in (record_entries thread number scn index vs) ≡ vs
record_vectors thread number scn index [] = refl
record_vectors thread number scn index (v ∷ vs) = ap (λ l. v ∷ l) (record_vectors thread number scn (index + 1) vs)

vectors_first : (thread number scn : ℕ) (vs ws : List Vector) (all rest : List LogEntry) → all ≡ record_entries thread number scn 1 vs ++ rest → vectors_in rest ≡ ws → vectors_in all ≡ vs ++ ws
vectors_first thread number scn vs ws all rest e h =
    ap vectors_in e
    ∙ map-append (λ (e : LogEntry). e.vector) (record_entries thread number scn 1 vs) rest
    ∙ ap₂ (λ x y. x ++ y) (record_vectors thread number scn 1 vs) h

pub in_order_vectors : (a b c scn : ℕ) (ws : List Writing) → AllByRecursion IsWriting ws → vectors_in (in_order (three_threads a b c scn ws)) ≡ all_vectors ws
in_order_vectors a b c scn [] h = refl
in_order_vectors a b c scn (w ∷ ws) h =
    by_thread (cases_eq w.thread 1) (cases_eq w.thread 2) (in_order_vectors (a + 1) b c (scn + 1) ws h.1) (in_order_vectors a (b + 1) c (scn + 1) ws h.1) (in_order_vectors a b (c + 1) (scn + 1) ws h.1)
  where
    last_thread : (t : ℕ) → 1 ≤ t → t ≤ 3 → (t ≡ 1 → ⊥) → (t ≡ 2 → ⊥) → t ≡ 3
    last_thread t from to n m = omega (arith, from, to, n, m)

    by_thread : (w.thread ≡ 1) ⊎ (w.thread ≡ 1 → ⊥) → (w.thread ≡ 2) ⊎ (w.thread ≡ 2 → ⊥)
        → vectors_in (in_order (three_threads (a + 1) b c (scn + 1) ws)) ≡ all_vectors ws
        → vectors_in (in_order (three_threads a (b + 1) c (scn + 1) ws)) ≡ all_vectors ws
        → vectors_in (in_order (three_threads a b (c + 1) (scn + 1) ws)) ≡ all_vectors ws
        → vectors_in (in_order (three_threads a b c scn (w ∷ ws))) ≡ w.vectors ++ all_vectors ws
    by_thread (inl e) t x y z = vectors_first 1 a scn w.vectors (all_vectors ws) _ _ (first_of_one a b c scn w ws e) x
    by_thread (inr n) (inl e) x y z = vectors_first 2 b scn w.vectors (all_vectors ws) _ _ (first_of_two a b c scn w ws e) y
    by_thread (inr n) (inr m) x y z = vectors_first 3 c scn w.vectors (all_vectors ws) _ _ (first_of_three a b c scn w ws (last_thread w.thread h.0.thread.0 h.0.thread.1 n m)) z

-- ---- a sound list of vectors

abbrev pub SoundVectors : Database → List Vector → Type 0
SoundVectors db [] = Unit {0}
SoundVectors db (v ∷ vs) = IsVector 1 v × (refusal db v ≡ None) × SoundVectors (after db v) vs

abbrev pub after_vectors : Database → List Vector → Database
after_vectors db [] = db
after_vectors db (v ∷ vs) = after_vectors (after db v) vs

pub sound_append : (db : Database) (vs ws : List Vector) → SoundVectors db vs → SoundVectors (after_vectors db vs) ws → SoundVectors db (vs ++ ws)
sound_append db [] ws h k = k
sound_append db (v ∷ vs) ws h k = (h.0, h.1, sound_append (after db v) vs ws h.2 k)

pub sound_front : (db : Database) (vs ws : List Vector) → SoundVectors db (vs ++ ws) → SoundVectors db vs
sound_front db [] ws h = tt
sound_front db (v ∷ vs) ws h = (h.0, h.1, sound_front (after db v) vs ws h.2)

pub after_append : (db : Database) (vs ws : List Vector) → after_vectors db (vs ++ ws) ≡ after_vectors (after_vectors db vs) ws
after_append db [] ws = refl
after_append db (v ∷ vs) ws = after_append (after db v) vs ws

-- what stands up to an SCN is sound too
sound_upto : (scn pos : ℕ) (db : Database) (es : List LogEntry) → ScnsRise es → SoundVectors db (vectors_in es) → SoundFrom db (numbered pos (upto scn es))
sound_upto scn pos db [] r h = tt
sound_upto scn pos db (e ∷ es) r h = by_test (nat_le e.scn scn) refl (sound_upto scn (pos + 1) (after db e.vector) es r.1 h.2)
  where
    by_test : (t : Bool) → nat_le e.scn scn ≡ t → SoundFrom (after db e.vector) (numbered (pos + 1) (upto scn es)) → SoundFrom db (numbered pos (cond t (e ∷ upto scn es) (upto scn es)))
    by_test true t rest = (h.0, h.1, rest)
    by_test false t rest =
        let above = leb-false e.scn scn t in
        let none : upto scn es ≡ [] = upto_none scn es (each_weaker (λ x. e.scn ≤ x.scn) (λ x. scn < x.scn) (λ x j. omega (arith, j, above)) es r.0) in
        subst (λ l. SoundFrom db (numbered pos l)) (sym none) tt

-- the log of the three threads
pub merged_sound : (ws : List Writing) → AllByRecursion IsWriting ws → SoundVectors no_database (all_vectors ws) → IsSound (merged_log (records_of 1 1 ws ∷ records_of 2 1 ws ∷ records_of 3 1 ws ∷ []))
unfolding merged_log
merged_sound ws h sound =
    let threads = records_of 1 1 ws ∷ records_of 2 1 ws ∷ records_of 3 1 ws ∷ [] in
    let all = three_threads 1 1 1 1 ws in
    let scn = frontier threads in
    let good : SoundVectors no_database (vectors_in (in_order all)) = subst (SoundVectors no_database) (sym (in_order_vectors 1 1 1 1 ws h)) sound in
    subst (λ l. SoundFrom no_database (numbered 0 l)) (upto_in_order scn all) (sound_upto scn 0 no_database (in_order all) (scns_rise_in_order all) good)
