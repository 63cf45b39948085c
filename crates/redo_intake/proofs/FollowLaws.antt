-- The entries of a merged log may follow one another.
use Rattle.std.proofs.Common.{◌≡◌, ℕ, ◌+◌, ◌≤◌, List, [], ◌∷◌, ◌++◌, length, refl, sym, subst, arith, append_assoc, append-nil, length-append}
use Rattle.std.specs.List.{AllByRecursion}
use Rattle.adg_base.specs.declared.vector.Vector.{Vector}
use Rattle.adg_base.specs.declared.vector.Vector.TheVariants.{Begin, Put, Delete, Undo, Commit, Abort, Create, DropObject, AddColumn, NoInMemory, EndThread}
use Rattle.adg_base.specs.declared.vector.RedoRecord.{RedoRecord}
use Rattle.adg_base.specs.declared.log.LogEntry.{LogEntry}
use Rattle.adg_model.specs.declared.delivery.RawDelivery.{RawDelivery}
use Rattle.adg_model.specs.Spelling.{IsVector, AreVectors}
use Rattle.adg_model.specs.Records.{AreReadable}
use Rattle.adg_model.specs.Log.{frontier, record_entries, thread_entries, entries_from, in_order, numbered, upto, merged_log, ReceivedFrom}
use Rattle.adg_model.proofs.LogLaws.{ScnsRise, each_append, each_upto, each_in_order, scns_rise_in_order}
use Rattle.redo_intake.specs.Intake.{FollowOn}

pub follow_append : (log xs ys : List LogEntry) → FollowOn log (xs ++ ys) → FollowOn (log ++ xs) ys
follow_append log [] ys h = subst (λ (l : List LogEntry). FollowOn l ys) (sym (append-nil log)) h
follow_append log (x ∷ xs) ys h = subst (λ (l : List LogEntry). FollowOn l ys) (append_assoc log (x ∷ []) xs) (follow_append (log ++ x ∷ []) xs ys h.1)

-- ---- their vectors have spellings

abbrev AreSpelled : List LogEntry → Type 0
AreSpelled entries = AllByRecursion (λ e. IsVector 1 e.vector) entries

spelled_alone : (count : ℕ) (v : Vector) → IsVector count v → IsVector 1 v
spelled_alone count (Begin txn) h = h
spelled_alone count (Put txn o b s row) h = h
spelled_alone count (Delete txn o b s) h = h
spelled_alone count (Undo txn o b s) h = h
spelled_alone count (Commit txn flag) h = h
spelled_alone count (Abort txn) h = h
spelled_alone count (Create o e f columns) h = h
spelled_alone count (DropObject o) h = h
spelled_alone count (AddColumn o k) h = h
spelled_alone count (NoInMemory o) h = h
spelled_alone count EndThread h = refl

record_spelled : (thread number scn index count : ℕ) (vs : List Vector) → AreVectors count vs → AreSpelled (record_entries thread number scn index vs)
record_spelled thread number scn index count [] h = tt
record_spelled thread number scn index count (v ∷ vs) h = (spelled_alone count v h.0, record_spelled thread number scn (index + 1) count vs h.1)

thread_spelled : (thread number : ℕ) (rs : List RedoRecord) → AreReadable rs → AreSpelled (thread_entries thread number rs)
thread_spelled thread number [] h = tt
thread_spelled thread number (r ∷ rs) h =
    each_append (λ (e : LogEntry). IsVector 1 e.vector) (record_entries thread number r.scn 1 r.vectors) (thread_entries thread (number + 1) rs)
    (record_spelled thread number r.scn 1 (length r.vectors) r.vectors h.0) (thread_spelled thread (number + 1) rs h.1)

all_spelled : (thread : ℕ) (ds : List RawDelivery) (records : List (List RedoRecord)) → ReceivedFrom thread ds records → AreSpelled (entries_from thread records)
all_spelled thread ds [] h = tt
all_spelled thread ds (rs ∷ more) h =
    each_append (λ (e : LogEntry). IsVector 1 e.vector) (thread_entries thread 1 rs) (entries_from (thread + 1) more) (thread_spelled thread 1 rs h.0.vectors) (all_spelled (thread + 1) ds more h.1)

-- ---- with positions from the end of a log on they follow it

-- no SCN of a log is above those of entries
abbrev IsBelow : List LogEntry → List LogEntry → Type 0
IsBelow log entries = AllByRecursion (λ e. AllByRecursion (λ b. b.scn ≤ e.scn) log) entries

below_none : (es : List LogEntry) → IsBelow [] es
below_none [] = tt
below_none (e ∷ es) = (tt, below_none es)

below_more : (log : List LogEntry) (x : LogEntry) (es : List LogEntry) → IsBelow log es → AllByRecursion (λ e. x.scn ≤ e.scn) es → IsBelow (log ++ x ∷ []) es
below_more log x [] h k = tt
below_more log x (e ∷ es) h k = (each_append (λ (b : LogEntry). b.scn ≤ e.scn) log (x ∷ []) h.0 (k.0, tt), below_more log x es h.1 k.1)

follow_numbered : (log es : List LogEntry) (pos : ℕ) → pos ≡ length log → AreSpelled es → ScnsRise es → IsBelow log es → FollowOn log (numbered pos es)
follow_numbered log [] pos at spelled rise below = tt
follow_numbered log (e ∷ es) pos at spelled rise below =
    let x : LogEntry = record e { pos = pos } in (
      record { spelled = spelled.0; place = at; scn = below.0 },
      follow_numbered (log ++ x ∷ []) es (pos + 1) (omega (arith, at, length-append log (x ∷ []))) spelled.1 rise.1 (below_more log x es below.1 rise.0),
    )

pub log_follows : (ds : List RawDelivery) (records : List (List RedoRecord)) → ReceivedFrom 1 ds records → FollowOn [] (merged_log records)
unfolding merged_log
log_follows ds records h =
    let kept = upto (frontier records) (entries_from 1 records) in
    let spelled = each_in_order (λ (e : LogEntry). IsVector 1 e.vector) kept (each_upto (λ (e : LogEntry). IsVector 1 e.vector) (frontier records) (entries_from 1 records) (all_spelled 1 ds records h)) in
    follow_numbered [] (in_order kept) 0 refl spelled (scns_rise_in_order kept) (below_none (in_order kept))
