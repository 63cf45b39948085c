-- What a merger of the redo of deliveries stands for, in the words of deliveries.
use Rattle.std.proofs.Common.{◌≡◌, ℕ, ◌+◌, Bool, true, false, cond, eqb, List, [], ◌∷◌, ◌++◌, refl, sym, ap, ◌∙◌, append_assoc, append-nil}
use Rattle.std.specs.List.{flat_map}
use Rattle.std.proofs.lemmas.Bool.{eqb-true, eqb-false, eq-eqb, ne_eqb}
use Rattle.std.proofs.lemmas.Grind.{flat_map-append}
use Rattle.adg_base.specs.declared.vector.RedoRecord.{RedoRecord}
use Rattle.adg_base.specs.declared.log.LogEntry.{LogEntry}
use Rattle.adg_model.specs.declared.delivery.RedoPiece.{RedoPiece}
use Rattle.adg_model.specs.declared.delivery.RawDelivery.{RawDelivery}
use Rattle.adg_model.specs.declared.fault.RedoFault.{RedoFault}
use Rattle.adg_model.specs.Records.{bytes_for, thread_text}
use Rattle.adg_model.specs.Log.{frontier, ReceivedFrom}
use Rattle.adg_model.specs.Sound.{IsFirstBadRecord}
use Rattle.log_merger.specs.Merger.{Merging, with_piece, RecordsFrom, IsFirstBad, shown_of, StandsFor, texts_of, texts_with}
use Rattle.log_merger.proofs.Merged.{threads_same}

-- the records of the texts are those that the deliveries give
pub received_from : (thread : ℕ) (deliveries : List RawDelivery) (records : List (List RedoRecord)) → RecordsFrom thread (texts_of deliveries) records → ReceivedFrom thread deliveries records
received_from thread deliveries [] h = tt
received_from thread deliveries (r ∷ rs) h = (h.0, received_from (thread + 1) deliveries rs h.1)

pub records_from : (thread : ℕ) (deliveries : List RawDelivery) (records : List (List RedoRecord)) → ReceivedFrom thread deliveries records → RecordsFrom thread (texts_of deliveries) records
records_from thread deliveries [] h = tt
records_from thread deliveries (r ∷ rs) h = (h.0, records_from (thread + 1) deliveries rs h.1)

-- the first bad record of the texts is that of the deliveries
pub first_bad_record : (threads : ℕ) (deliveries : List RawDelivery) (fault : RedoFault) → IsFirstBad threads (texts_of deliveries) fault → IsFirstBadRecord threads deliveries fault
first_bad_record threads deliveries fault h = record {
  below = h.below;
  records = h.records;
  received = received_from 1 deliveries h.below h.good;
  thread = h.thread;
  is_thread = h.is_thread;
  number = h.number;
  bad = h.bad;
}

-- texts that are the same for each thread
pub stands_same : (m : Merging) (texts other : ℕ → List ℕ) (given : List LogEntry) → ((thread : ℕ) → texts thread ≡ other thread) → StandsFor m texts given → StandsFor m other given
stands_same m texts other given same s = record {
  parts = s.parts;
  threads = threads_same 1 (frontier (shown_of s.parts)) texts other m.threads s.parts (λ k le. same k) s.threads;
  log = s.log;
  count = s.count;
}

-- none of the pieces of a delivery, one more of them, and all
pub texts_none : (deliveries : List RawDelivery) (thread : ℕ) → texts_of deliveries thread ≡ texts_with deliveries [] thread
texts_none deliveries thread = sym (append-nil (thread_text thread deliveries))

pub texts_piece : (deliveries : List RawDelivery) (pieces : List RedoPiece) (piece : RedoPiece) (thread : ℕ) → with_piece piece.thread piece.bytes (texts_with deliveries pieces) thread ≡ texts_with deliveries (pieces ++ piece ∷ []) thread
texts_piece deliveries pieces piece thread = by_test (eqb thread piece.thread) refl
  where
    front : List ℕ
    front = texts_with deliveries pieces thread

    more : texts_with deliveries (pieces ++ piece ∷ []) thread ≡ front ++ bytes_for thread piece
    more = ap (λ (t : List ℕ). thread_text thread deliveries ++ t) (flat_map-append (bytes_for thread) pieces (piece ∷ []) ∙ ap (λ (t : List ℕ). flat_map (bytes_for thread) pieces ++ t) (append-nil (bytes_for thread piece))) ∙ sym (append_assoc (thread_text thread deliveries) (flat_map (bytes_for thread) pieces) (bytes_for thread piece))

    by_test : (b : Bool) → eqb thread piece.thread ≡ b → with_piece piece.thread piece.bytes (texts_with deliveries pieces) thread ≡ texts_with deliveries (pieces ++ piece ∷ []) thread
    by_test true e =
        let same = eqb-true thread piece.thread e in
        rw (e, more) (ap (λ (b : Bool). front ++ cond b piece.bytes []) (sym (eq-eqb piece.thread thread (sym same))))
    by_test false e =
        let other : piece.thread ≡ thread → ⊥ = λ s. eqb-false thread piece.thread e (sym s) in
        rw (e, more) (sym (ap (λ (b : Bool). front ++ cond b piece.bytes []) (ne_eqb piece.thread thread other) ∙ append-nil front))

pub texts_all : (deliveries : List RawDelivery) (delivery : RawDelivery) (thread : ℕ) → texts_with deliveries delivery.pieces thread ≡ texts_of (deliveries ++ delivery ∷ []) thread
texts_all deliveries delivery thread =
    ap (λ (t : List ℕ). thread_text thread deliveries ++ t) (sym (append-nil (flat_map (bytes_for thread) delivery.pieces)))
    ∙ sym (flat_map-append (λ (d : RawDelivery). flat_map (bytes_for thread) d.pieces) deliveries (delivery ∷ []))
