-- The records of each thread, in its text.
use Rattle.std.proofs.Common.{◌≡◌, ℕ, ◌+◌, ◌<◌, ◌≤◌, ◌^◌, Bool, true, false, cond, List, [], ◌∷◌, ◌++◌, map, length, Some, None, refl, sym, ap, ap₂, ◌∙◌, subst, arith, append-nil, inl, true≢false}
use Rattle.std.specs.Prelude.{◌==◌}
use Rattle.std.specs.List.{AllByRecursion, flat_map, filter_map}
use Rattle.std.proofs.lemmas.Bool.{eqb-true}
use Rattle.std.proofs.lemmas.List.Elements.{filter_map-append}
use Rattle.std.proofs.lemmas.Grind.{flat_map-append}
use Rattle.adg_base.specs.declared.vector.RedoRecord.{RedoRecord}
use Rattle.adg_model.specs.Feed.{Item, piece_of, delivery_of}
use Rattle.adg_model.specs.declared.fault.FrameKind.TheVariants.{AfterEnd}
use Rattle.adg_model.specs.Records.{Mark, first_mark, mark_of, raw_of, raw_bytes, record_bytes, is_end, IsRaw, AreRaws, AreReadable, record_fault, HasRecords, bytes_for, thread_text}
use Rattle.feed_gen.specs.declared.writing.Writing.{Writing}
use Rattle.feed_gen.specs.Commands.{Asking}
use Rattle.feed_gen.specs.Generated.{Draft, redo_items, ask_item, draft_items, drafts_items}
use Rattle.feed_gen.proofs.Small.{IsWriting, small_few, small_spelled}

-- the record that a thread writes at an SCN, and all of a thread's
abbrev pub record_at : ℕ → Writing → RedoRecord
record_at scn w = record { scn = scn; vectors = w.vectors }

abbrev pub records_of : ℕ → ℕ → List Writing → List RedoRecord
records_of thread scn [] = []
records_of thread scn (w ∷ ws) = cond (w.thread == thread) (record_at scn w ∷ records_of thread (scn + 1) ws) (records_of thread (scn + 1) ws)

-- all that some deliveries write
abbrev pub all_written : List Draft → List Writing
all_written [] = []
all_written (d ∷ ds) = d.written ++ all_written ds

pub records_append : (thread scn : ℕ) (a b : List Writing) → records_of thread scn (a ++ b) ≡ records_of thread scn a ++ records_of thread (scn + length a) b
records_append thread scn [] b = let e : scn ≡ scn + 0 = omega arith in ap (λ n. records_of thread n b) e
records_append thread scn (w ∷ a) b =
    let e : scn + 1 + length a ≡ scn + length (w ∷ a) = omega arith in
    by_thread (w.thread == thread) (records_append thread (scn + 1) a b ∙ ap (λ n. records_of thread (scn + 1) a ++ records_of thread n b) e)
  where
    by_thread : (t : Bool) → records_of thread (scn + 1) (a ++ b) ≡ records_of thread (scn + 1) a ++ records_of thread (scn + length (w ∷ a)) b
        → cond t (record_at scn w ∷ records_of thread (scn + 1) (a ++ b)) (records_of thread (scn + 1) (a ++ b)) ≡ cond t (record_at scn w ∷ records_of thread (scn + 1) a) (records_of thread (scn + 1) a) ++ records_of thread (scn + length (w ∷ a)) b
    by_thread true ih = ap (λ l. record_at scn w ∷ l) ih
    by_thread false ih = ih

-- ---- the text

abbrev text_of : ℕ → List Item → List ℕ
text_of thread items = flat_map (bytes_for thread) (filter_map piece_of items)

redo_text : (thread scn : ℕ) (ws : List Writing) → text_of thread (redo_items scn ws) ≡ flat_map record_bytes (records_of thread scn ws)
redo_text thread scn [] = refl
redo_text thread scn (w ∷ ws) = by_thread (w.thread == thread) (redo_text thread (scn + 1) ws)
  where
    by_thread : (t : Bool) → text_of thread (redo_items (scn + 1) ws) ≡ flat_map record_bytes (records_of thread (scn + 1) ws)
        → cond t (record_bytes (record_at scn w)) [] ++ text_of thread (redo_items (scn + 1) ws) ≡ flat_map record_bytes (cond t (record_at scn w ∷ records_of thread (scn + 1) ws) (records_of thread (scn + 1) ws))
    by_thread true ih = ap (λ l. record_bytes (record_at scn w) ++ l) ih
    by_thread false ih = ih

asked_text : (thread : ℕ) (asked : List Asking) → filter_map piece_of (map ask_item asked) ≡ []
asked_text thread [] = refl
asked_text thread (a ∷ asked) = asked_text thread asked

draft_text : (thread scn : ℕ) (d : Draft) → text_of thread (draft_items scn d) ≡ flat_map record_bytes (records_of thread scn d.written)
draft_text thread scn d =
    let redo = redo_items scn d.written in
    let asked = map ask_item d.asked in
    ap (flat_map (bytes_for thread)) (filter_map-append piece_of redo asked ∙ ap (λ l. filter_map piece_of redo ++ l) (asked_text thread d.asked) ∙ append-nil (filter_map piece_of redo))
    ∙ redo_text thread scn d.written

pub drafts_text : (thread scn : ℕ) (ds : List Draft) → thread_text thread (map delivery_of (drafts_items scn ds)) ≡ flat_map record_bytes (records_of thread scn (all_written ds))
drafts_text thread scn [] = refl
drafts_text thread scn (d ∷ ds) =
    ap₂ (λ a b. a ++ b) (draft_text thread scn d) (drafts_text thread (scn + length d.written) ds)
    ∙ sym (flat_map-append record_bytes (records_of thread scn d.written) (records_of thread (scn + length d.written) (all_written ds)))
    ∙ ap (flat_map record_bytes) (sym (records_append thread scn d.written (all_written ds)))

-- ---- the records follow each other

-- whether a record ends its thread does not depend on its SCN
abbrev pub ends_thread : Writing → Bool
ends_thread w = is_end (raw_of (record_at 0 w))

-- no record of the thread
abbrev pub HasNone : ℕ → List Writing → Type 0
HasNone thread ws = AllByRecursion (λ w. w.thread ≡ thread → ⊥) ws

-- no thread writes after its end
abbrev pub EndsLast : List Writing → Type 0
EndsLast [] = Unit {0}
EndsLast (w ∷ ws) = (ends_thread w ≡ true → HasNone w.thread ws) × EndsLast ws

raw_good : (scn : ℕ) (w : Writing) → 1 ≤ scn → scn < 2 ^ 48 → IsWriting w → IsRaw (raw_of (record_at scn w))
raw_good scn w from to h = record { from = from; to = to; count = omega (arith, h.count); len = omega (arith, small_few (length w.vectors) w.vectors h.vectors, h.count) }

pub raws_follow : (thread scn : ℕ) (mark : Mark) (ws : List Writing) → AllByRecursion IsWriting ws → EndsLast ws → mark.scn < scn → scn + length ws < 2 ^ 48 → (mark.ended ≡ true → HasNone thread ws) → AreRaws mark (map raw_of (records_of thread scn ws))
raws_follow thread scn mark [] h e above few none = tt
raws_follow thread scn mark (w ∷ ws) h e above few none =
    by_thread (w.thread == thread) refl
    (λ own. raws_follow thread (scn + 1) (mark_of (raw_of (record_at scn w))) ws h.1 e.1 (omega arith) (omega (arith, few)) (after_end own))
    (raws_follow thread (scn + 1) mark ws h.1 e.1 (omega (arith, above)) (omega (arith, few)) (λ ended. (none ended).1))
  where
    running : w.thread ≡ thread → (b : Bool) → mark.ended ≡ b → mark.ended ≡ false
    running own true t = absurd ((none t).0 own)
    running own false t = t

    after_end : w.thread ≡ thread → is_end (raw_of (record_at scn w)) ≡ true → HasNone thread ws
    after_end own t = subst (λ n. HasNone n ws) own (e.0 t)

    by_thread : (t : Bool) → (w.thread == thread) ≡ t
        → (w.thread ≡ thread → AreRaws (mark_of (raw_of (record_at scn w))) (map raw_of (records_of thread (scn + 1) ws)))
        → AreRaws mark (map raw_of (records_of thread (scn + 1) ws))
        → AreRaws mark (map raw_of (cond t (record_at scn w ∷ records_of thread (scn + 1) ws) (records_of thread (scn + 1) ws)))
    by_thread true t own_rest rest =
        let own = eqb-true w.thread thread t in
        (raw_good scn w (omega (arith, above)) (omega (arith, few)) h.0, running own mark.ended refl, above, own_rest own)
    by_thread false t own_rest rest = rest

pub readable : (thread scn : ℕ) (ws : List Writing) → AllByRecursion IsWriting ws → AreReadable (records_of thread scn ws)
readable thread scn [] h = tt
readable thread scn (w ∷ ws) h = by_thread (w.thread == thread) (readable thread (scn + 1) ws h.1)
  where
    by_thread : (t : Bool) → AreReadable (records_of thread (scn + 1) ws) → AreReadable (cond t (record_at scn w ∷ records_of thread (scn + 1) ws) (records_of thread (scn + 1) ws))
    by_thread true ih = (small_spelled (length w.vectors) w.vectors h.0.vectors, ih)
    by_thread false ih = ih

bytes_of_records : (rs : List RedoRecord) → flat_map record_bytes rs ≡ flat_map raw_bytes (map raw_of rs)
bytes_of_records [] = refl
bytes_of_records (r ∷ rs) = ap (λ l. record_bytes r ++ l) (bytes_of_records rs)

pub nothing_wrong : (mark : Mark) → record_fault mark [] ≡ None
unfolding record_fault
nothing_wrong mark = by_end mark.ended
  where
    by_end : (b : Bool) → cond b (cond (0 == 0) None (Some AfterEnd)) None ≡ None
    by_end true = refl
    by_end false = refl

-- a text is these records and nothing more
pub record IsWhole (text : List ℕ) (rs : List RedoRecord) : Type 0 where
  pub spelled : text ≡ flat_map raw_bytes (map raw_of rs)
  pub follow : AreRaws first_mark (map raw_of rs)
  pub readable : AreReadable rs

pub whole_text : (thread : ℕ) (ds : List Draft) → AllByRecursion IsWriting (all_written ds) → EndsLast (all_written ds) → length (all_written ds) < 2 ^ 40 → IsWhole (thread_text thread (map delivery_of (drafts_items 1 ds))) (records_of thread 1 (all_written ds))
whole_text thread ds h e few =
    let ws = all_written ds in
    record {
      spelled = drafts_text thread 1 ds ∙ bytes_of_records (records_of thread 1 ws);
      follow = raws_follow thread 1 first_mark ws h e (omega arith) (omega (arith, few)) (λ t. absurd (true≢false (sym t)));
      readable = readable thread 1 ws h;
    }

-- so they are its records
pub has_records : (text : List ℕ) (rs : List RedoRecord) → IsWhole text rs → HasRecords text rs
has_records text rs h = record {
  rest = [];
  raws = record { spelled = h.spelled ∙ sym (append-nil (flat_map raw_bytes (map raw_of rs))); follow = h.follow; part = inl (omega arith); good = nothing_wrong _ };
  vectors = h.readable;
}
