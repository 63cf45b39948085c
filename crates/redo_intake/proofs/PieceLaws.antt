-- The pieces of a delivery, one after another.
use Rattle.std.proofs.Common.{◌≡◌, ℕ, ◌+◌, ◌<◌, ◌≤◌, List, [], ◌∷◌, ◌++◌, length, get_or, take, drop, sym, ap, ◌∙◌, arith, append-nil, length-append}
use Rattle.std.proofs.lemmas.List.{take_more, take-append-drop}
use Rattle.std.proofs.lemmas.Grind.{flat_map-append}
use Rattle.adg_base.specs.declared.log.LogEntry.{LogEntry}
use Rattle.adg_model.specs.declared.delivery.RedoPiece.{RedoPiece}
use Rattle.adg_model.specs.declared.delivery.RawDelivery.{RawDelivery}
use Rattle.log_merger.specs.Merger.{Merging, StandsFor, texts_with, with_piece}
use Rattle.log_merger.proofs.Deliveries.{stands_same, texts_piece}
use Rattle.redo_intake.specs.Intake.{bytes_of}

bytes_step : (ps : List RedoPiece) (i : ℕ) (p : RedoPiece) → i < length ps → bytes_of (take (i + 1) ps) ≡ bytes_of (take i ps) ++ (get_or ps i p).bytes
bytes_step ps i p h =
    ap (λ (l : List RedoPiece). bytes_of l) (take_more ps i p h) ∙ flat_map-append (λ (q : RedoPiece). q.bytes) (take i ps) (get_or ps i p ∷ [])
    ∙ ap (λ (t : List ℕ). bytes_of (take i ps) ++ t) (append-nil (get_or ps i p).bytes)

-- the bytes of the first pieces, with those of one more, and no more than all
pub bytes_more : (ps : List RedoPiece) (i : ℕ) (p : RedoPiece) → i < length ps → length (bytes_of (take (i + 1) ps)) ≡ length (bytes_of (take i ps)) + length (get_or ps i p).bytes
bytes_more ps i p h = ap (λ (l : List ℕ). length l) (bytes_step ps i p h) ∙ length-append (bytes_of (take i ps)) (get_or ps i p).bytes

pub bytes_within : (i : ℕ) (ps : List RedoPiece) → length (bytes_of (take i ps)) ≤ length (bytes_of ps)
bytes_within i ps =
    let parts : bytes_of ps ≡ bytes_of (take i ps) ++ bytes_of (drop i ps) = ap (λ (l : List RedoPiece). bytes_of l) (sym (take-append-drop i ps)) ∙ flat_map-append (λ (q : RedoPiece). q.bytes) (take i ps) (drop i ps) in
    omega (arith, ap (λ (t : List ℕ). length t) parts, length-append (bytes_of (take i ps)) (bytes_of (drop i ps)))

-- the first pieces and one more were accepted
pub accept_one : (m : Merging) (ds : List RawDelivery) (ps : List RedoPiece) (i : ℕ) (p : RedoPiece) (bytes : List ℕ) (given : List LogEntry) → i < length ps → p ≡ get_or ps i p → bytes ≡ p.bytes
    → StandsFor m (with_piece p.thread bytes (texts_with ds (take i ps))) given → StandsFor m (texts_with ds (take (i + 1) ps)) given
accept_one m ds ps i p bytes given lt is same s =
    let front = take i ps in
    let longer : front ++ p ∷ [] ≡ take (i + 1) ps = ap (λ (q : RedoPiece). front ++ q ∷ []) is ∙ sym (take_more ps i p lt) in
    stands_same m (with_piece p.thread bytes (texts_with ds front)) (texts_with ds (take (i + 1) ps)) given
    (λ thread. ap (λ (b : List ℕ). with_piece p.thread b (texts_with ds front) thread) same ∙ texts_piece ds front p thread ∙ ap (λ (l : List RedoPiece). texts_with ds l thread) longer) s
