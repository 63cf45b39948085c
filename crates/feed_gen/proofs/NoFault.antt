-- Whole texts and a sound log have no redo fault.
use Rattle.std.proofs.Common.{◌≡◌, ℕ, suc, ◌+◌, ◌<◌, ◌≤◌, Bool, true, false, cond, List, [], ◌∷◌, ◌++◌, map, length, Some, None, refl, sym, ap, ◌∙◌, subst, arith, append_assoc, append-nil, inl, eq-eqb}
use Rattle.std.specs.Prelude.{◌==◌}
use Rattle.std.specs.List.{flat_map}
use Rattle.std.proofs.lemmas.Bool.{eqb-true}
use Rattle.std.proofs.lemmas.List.{length-append}
use Rattle.std.proofs.lemmas.Grind.{flat_map-append}
use Rattle.adg_base.specs.declared.vector.RedoRecord.{RedoRecord}
use Rattle.adg_base.specs.declared.log.LogEntry.{LogEntry}
use Rattle.adg_model.specs.declared.delivery.RawDelivery.{RawDelivery}
use Rattle.adg_model.specs.declared.fault.FrameKind.{FrameKind}
use Rattle.adg_model.specs.declared.fault.FrameKind.TheVariants.{BadLength, AfterEnd}
use Rattle.adg_model.specs.declared.fault.CheckKind.{CheckKind}
use Rattle.adg_model.specs.declared.fault.RedoKind.{RedoKind}
use Rattle.adg_model.specs.declared.fault.RedoKind.TheVariants.{Frame, BadVector, Unsound}
use Rattle.adg_model.specs.declared.fault.RedoFault.{RedoFault}
use Rattle.adg_model.specs.Records.{Raw, Mark, raw_bytes, first_mark, mark_after, record_fault, FailsFrom, raw_of, bytes_for, thread_text, HasRecords, HasBadRecord}
use Rattle.adg_model.specs.Log.{merged_log, ReceivedFrom}
use Rattle.adg_model.specs.Database.{Database, no_database, after, walked, database}
use Rattle.adg_model.specs.Sound.{refusal, SoundFrom, IsSound, IsFirstUnsound, IsFirstBadRecord, IsFirstUnsoundEntry, IsRedoFault}
use Rattle.adg_model.proofs.RecordsSplit.{FailsFrom_append}
use Rattle.adg_model.proofs.DeliveryLaws.{raws_go_on, records_are_determined}
use Rattle.adg_model.proofs.RedoFaultLaws.{one_redo_fault}
use Rattle.feed_gen.proofs.Threads.{IsWhole, nothing_wrong}

-- ---- one more delivery, of two bytes that are no length

abbrev extra : ℕ → RawDelivery
extra t = record { pieces = record { thread = t; bytes = 0 ∷ 0 ∷ [] } ∷ []; commands = []; schedule = [] }

abbrev text_in : ℕ → RawDelivery → List ℕ
text_in thread d = flat_map (bytes_for thread) d.pieces

own_text : (t : ℕ) (ds : List RawDelivery) → thread_text t (ds ++ extra t ∷ []) ≡ thread_text t ds ++ 0 ∷ 0 ∷ []
own_text t ds =
    flat_map-append (text_in t) ds (extra t ∷ [])
    ∙ ap (λ b. thread_text t ds ++ ((cond b (0 ∷ 0 ∷ []) [] ++ []) ++ [])) (eq-eqb t t refl)

other_text : (u t : ℕ) (ds : List RawDelivery) → u < t → thread_text u (ds ++ extra t ∷ []) ≡ thread_text u ds
other_text u t ds lt =
    flat_map-append (text_in u) ds (extra t ∷ [])
    ∙ ap (λ b. thread_text u ds ++ ((cond b (0 ∷ 0 ∷ []) [] ++ []) ++ [])) (other (t == u) refl)
    ∙ append-nil (thread_text u ds)
  where
    other : (b : Bool) → (t == u) ≡ b → b ≡ false
    other true h = absurd (omega (arith, eqb-true t u h, lt))
    other false h = refl

received_same : (thread t : ℕ) (ds : List RawDelivery) (below : List (List RedoRecord)) → thread + length below ≤ t → ReceivedFrom thread ds below → ReceivedFrom thread (ds ++ extra t ∷ []) below
received_same thread t ds [] le h = tt
received_same thread t ds (rs ∷ below) le h =
    (subst (λ text. HasRecords text rs) (sym (other_text thread t ds (omega (arith, le)))) h.0, received_same (thread + 1) t ds below (omega (arith, le)) h.1)

-- what is bad stays so
bad_more : (text more : List ℕ) (bs : List RedoRecord) (kind : RedoKind) → HasBadRecord text bs kind → HasBadRecord (text ++ more) bs kind
bad_more text more bs (Frame f) h = (FailsFrom_append first_mark text more (map raw_of bs) f h.0, h.1)
bad_more text more bs (BadVector index) h = record {
  bad = h.bad;
  rest = h.rest ++ more;
  spelled = ap (λ t. t ++ more) h.spelled ∙ append_assoc (flat_map raw_bytes (map raw_of bs ++ h.bad ∷ [])) h.rest more;
  follow = h.follow;
  vectors = h.vectors;
  shown = h.shown;
}
bad_more text more bs (Unsound index check) h = h

fault_more : (threads : ℕ) (ds : List RawDelivery) (f : RedoFault) → IsFirstBadRecord threads ds f → IsFirstBadRecord threads (ds ++ extra f.thread ∷ []) f
fault_more threads ds f h = record {
  below = h.below;
  records = h.records;
  received = received_same 1 f.thread ds h.below (omega (arith, h.thread)) h.received;
  thread = h.thread;
  is_thread = h.is_thread;
  number = h.number;
  bad = subst (λ text. HasBadRecord text h.records f.kind) (sym (own_text f.thread ds)) (bad_more (thread_text f.thread ds) (0 ∷ 0 ∷ []) h.records f.kind h.bad);
}

-- and the two bytes are bad behind whole records
abbrev kind_behind : Mark → FrameKind
kind_behind mark = cond mark.ended AfterEnd BadLength

shown_behind : (mark : Mark) → record_fault mark (0 ∷ 0 ∷ []) ≡ Some (kind_behind mark)
unfolding record_fault
shown_behind mark = by_end mark.ended
  where
    by_end : (b : Bool) → cond b (Some AfterEnd) (Some BadLength) ≡ Some (cond b AfterEnd BadLength)
    by_end true = refl
    by_end false = refl

abbrev fault_at : ℕ → ℕ → RedoKind → RedoFault
fault_at t n k = record { thread = t; number = n; kind = k }

abbrev last_mark : List RedoRecord → Mark
last_mark rs = mark_after first_mark (map raw_of rs)

new_fault : (threads : ℕ) (ds : List RawDelivery) (f : RedoFault) (rs : List RedoRecord) → IsFirstBadRecord threads ds f → IsWhole (thread_text f.thread ds) rs → IsFirstBadRecord threads (ds ++ extra f.thread ∷ []) (fault_at f.thread (length rs + 1) (Frame (kind_behind (last_mark rs))))
new_fault threads ds f rs h whole = record {
  below = h.below;
  records = rs;
  received = received_same 1 f.thread ds h.below (omega (arith, h.thread)) h.received;
  thread = h.thread;
  is_thread = h.is_thread;
  number = refl;
  bad = subst (λ text. HasBadRecord text rs (Frame (kind_behind (last_mark rs)))) (sym (own_text f.thread ds))
      (record { rest = 0 ∷ 0 ∷ []; spelled = ap (λ t. t ++ 0 ∷ 0 ∷ []) whole.spelled; follow = whole.follow; shown = shown_behind (last_mark rs) }, whole.readable);
}

is_fault : (threads : ℕ) (ds : List RawDelivery) (t n : ℕ) (kind : RedoKind) → IsFirstBadRecord threads ds (fault_at t n kind) → IsRedoFault threads ds (fault_at t n kind)
is_fault threads ds t n (Frame f) h = h
is_fault threads ds t n (BadVector index) h = h
is_fault threads ds t n (Unsound index check) h = absurd h.bad

-- no records fail where as many are whole
none_fails : (text : List ℕ) (rs bs : List RedoRecord) (f : FrameKind) → IsWhole text rs → FailsFrom first_mark text (map raw_of bs) f → length bs ≡ length rs → ⊥
none_fails text rs bs f whole fails len =
    let p = raws_go_on first_mark (map raw_of bs) (map raw_of rs) fails.rest [] [] fails.follow whole.follow (inl (omega arith)) (append-nil (flat_map raw_bytes (map raw_of bs) ++ fails.rest) ∙ sym fails.spelled ∙ whole.spelled ∙ sym (append-nil (flat_map raw_bytes (map raw_of rs)))) in
    behind p.0 p.1
  where
    same_len : (xs : List RedoRecord) → length (map raw_of xs) ≡ length xs
    same_len [] = refl
    same_len (x ∷ xs) = ap suc (same_len xs)

    empty : (xs : List ℕ) → length xs ≡ 0 → xs ≡ []
    empty [] e = refl
    empty (x ∷ xs) e = absurd (omega (arith, e))

    behind : (ks : List Raw) → map raw_of rs ≡ map raw_of bs ++ ks → ⊥
    behind [] e =
        let same : flat_map raw_bytes (map raw_of rs) ≡ flat_map raw_bytes (map raw_of bs) = ap (flat_map raw_bytes) (e ∙ append-nil (map raw_of bs)) in
        let lens : length (flat_map raw_bytes (map raw_of rs)) ≡ length (flat_map raw_bytes (map raw_of bs)) + length fails.rest =
        ap length (sym whole.spelled ∙ fails.spelled) ∙ length-append (flat_map raw_bytes (map raw_of bs)) fails.rest in
        let none = empty fails.rest (omega (arith, lens, ap length same)) in
        let clash : Some f ≡ None = sym fails.shown ∙ ap (record_fault (mark_after first_mark (map raw_of bs))) none ∙ nothing_wrong (mark_after first_mark (map raw_of bs)) in
        absurd cc
    behind (k ∷ ks) e = omega (arith, ap length e, length-append (map raw_of bs) (k ∷ ks), same_len rs, same_len bs, len)

no_bad_record : (threads : ℕ) (ds : List RawDelivery) (f : RedoFault) (rs : List RedoRecord) → IsFirstBadRecord threads ds f → IsWhole (thread_text f.thread ds) rs → ⊥
no_bad_record threads ds f rs h whole =
    let more = ds ++ extra f.thread ∷ [] in
    let new = fault_at f.thread (length rs + 1) (Frame (kind_behind (last_mark rs))) in
    let one : fault_at f.thread f.number f.kind ≡ new = one_redo_fault threads more (fault_at f.thread f.number f.kind) new (is_fault threads more f.thread f.number f.kind (fault_more threads ds f h)) (is_fault threads more f.thread (length rs + 1) (Frame (kind_behind (last_mark rs))) (new_fault threads ds f rs h whole)) in
    let number : f.number ≡ length rs + 1 = ap (λ (x : RedoFault). x.number) one in
    let kind : f.kind ≡ Frame (kind_behind (last_mark rs)) = ap (λ (x : RedoFault). x.kind) one in
    let bad : HasBadRecord (thread_text f.thread ds) h.records (Frame (kind_behind (last_mark rs))) = subst (HasBadRecord (thread_text f.thread ds) h.records) kind h.bad in
    none_fails (thread_text f.thread ds) rs h.records (kind_behind (last_mark rs)) whole bad.0 (omega (arith, h.number, number))

-- ---- no entry of a sound log fails

passes_there : (db : Database) (before later : List LogEntry) (e : LogEntry) → SoundFrom db (before ++ e ∷ later) → refusal (walked db before) e.vector ≡ None
passes_there db [] later e h = h.1
passes_there db (x ∷ before) later e h = passes_there (after db x.vector) before later e h.2

none_unsound : (log : List LogEntry) (e : LogEntry) (check : CheckKind) → IsSound log → IsFirstUnsound log e check → ⊥
unfolding database
none_unsound log e check sound h =
    let passes = passes_there no_database h.before h.later e (subst (SoundFrom no_database) h.split sound) in
    let clash : None ≡ Some check = sym passes ∙ h.fails in
    absurd cc

no_unsound : (threads : ℕ) (ds : List RawDelivery) (f : RedoFault) (records : List (List RedoRecord)) → ReceivedFrom 1 ds records → length records ≡ threads → IsSound (merged_log records) → IsFirstUnsoundEntry threads ds f → ⊥
no_unsound threads ds f records received all sound h =
    let same = records_are_determined ds h.records records (h.all ∙ sym all) h.received received in
    none_unsound (merged_log records) h.entry h.check sound (subst (λ rs. IsFirstUnsound (merged_log rs) h.entry h.check) same h.unsound)

-- whole texts of all threads, and a sound log
pub no_fault : (threads : ℕ) (ds : List RawDelivery) (records : List (List RedoRecord)) → ReceivedFrom 1 ds records → length records ≡ threads → IsSound (merged_log records) → (whole : (t : ℕ) → (rs : List RedoRecord) × IsWhole (thread_text t ds) rs) → (t n : ℕ) (kind : RedoKind) → IsRedoFault threads ds (fault_at t n kind) → ⊥
no_fault threads ds records received all sound whole t n (Frame f) h = no_bad_record threads ds (fault_at t n (Frame f)) (whole t).0 h (whole t).1
no_fault threads ds records received all sound whole t n (BadVector index) h = no_bad_record threads ds (fault_at t n (BadVector index)) (whole t).0 h (whole t).1
no_fault threads ds records received all sound whole t n (Unsound index check) h = no_unsound threads ds (fault_at t n (Unsound index check)) records received all sound h
