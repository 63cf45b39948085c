-- A feed that is written part by part.
use Rattle.std.proofs.Common.{◌≡◌, ℕ, ◌+◌, ◌<◌, ◌^◌, List, [], ◌∷◌, ◌++◌, map, length, refl, sym, ap, ap₂, ◌∙◌, append_assoc, append-nil, arith}
use Rattle.std.proofs.lemmas.List.{length-append, map-append}
use Rattle.std.proofs.lemmas.Grind.{flat_map-append}
use Rattle.adg_model.specs.Feed.{item_bytes, items_bytes, end_bytes, stop_bytes, feed_bytes, delivery_bytes, deliveries_bytes}
use Rattle.adg_base.specs.declared.vector.RedoRecord.{RedoRecord}
use Rattle.adg_model.specs.Records.{raw_of, record_bytes, IsRecord}
use Rattle.adg_model.proofs.RecordsSpelled.{length_raw_bytes}
use Rattle.feed_gen.specs.declared.writing.Writing.{Writing}
use Rattle.feed_gen.specs.Commands.{Asking}
use Rattle.feed_gen.specs.Generated.{threads, sessions, Draft, redo_item, redo_items, ask_item, draft_items, drafts_items}
use Rattle.feed_gen.specs.Written.{Written, with_writings, with_asked, with_draft, with_drafts, with_stop, opened_feed}

pub redo_items_append : (scn : ℕ) (a b : List Writing) → redo_items scn (a ++ b) ≡ redo_items scn a ++ redo_items (scn + length a) b
redo_items_append scn [] b = let e : scn ≡ scn + 0 = omega arith in ap (λ n. redo_items n b) e
redo_items_append scn (w ∷ a) b =
    let e : scn + 1 + length a ≡ scn + length (w ∷ a) = omega arith in
    ap (λ is. redo_item scn w ∷ is) (redo_items_append (scn + 1) a b ∙ ap (λ n. redo_items (scn + 1) a ++ redo_items n b) e)

written_same : (a b : List ℕ) (m n : ℕ) → a ≡ b → m ≡ n → ◌≡◌ {A = Written} (record { bytes = a; records = m }) (record { bytes = b; records = n })
written_same a b m n e f = ap₂ (λ bytes records. record { bytes = bytes; records = records }) e f

-- one part after another
pub with_writings_then : (w : Written) (a b : List Writing) → with_writings (with_writings w a) b ≡ with_writings w (a ++ b)
with_writings_then w a b =
    let first = items_bytes (redo_items (w.records + 1) a) in
    let at : w.records + length a + 1 ≡ w.records + 1 + length a = omega arith in
    let whole : items_bytes (redo_items (w.records + 1) (a ++ b)) ≡ first ++ items_bytes (redo_items (w.records + length a + 1) b) =
    ap items_bytes (redo_items_append (w.records + 1) a b)
    ∙ flat_map-append item_bytes (redo_items (w.records + 1) a) (redo_items (w.records + 1 + length a) b)
    ∙ ap (λ n. first ++ items_bytes (redo_items n b)) (sym at) in
    written_same _ _ _ _
    (append_assoc w.bytes first (items_bytes (redo_items (w.records + length a + 1) b)) ∙ ap (λ bs. w.bytes ++ bs) (sym whole))
    (omega (arith, length-append a b))

pub with_asked_then : (w : Written) (a b : List Asking) → with_asked (with_asked w a) b ≡ with_asked w (a ++ b)
with_asked_then w a b =
    let first = items_bytes (map ask_item a) in
    let whole : items_bytes (map ask_item (a ++ b)) ≡ first ++ items_bytes (map ask_item b) =
    ap items_bytes (map-append ask_item a b) ∙ flat_map-append item_bytes (map ask_item a) (map ask_item b) in
    written_same _ _ _ _ (append_assoc w.bytes first (items_bytes (map ask_item b)) ∙ ap (λ bs. w.bytes ++ bs) (sym whole)) refl

-- nothing is added
pub with_no_writings : (w : Written) → with_writings w [] ≡ w
with_no_writings w = written_same _ _ _ _ (append-nil w.bytes) (omega arith)

pub with_nothing_asked : (w : Written) → with_asked w [] ≡ w
with_nothing_asked w = written_same _ _ _ _ (append-nil w.bytes) refl

-- the bytes of deliveries
draft_bytes : (w : Written) (d : Draft) → (with_draft w d).bytes ≡ w.bytes ++ delivery_bytes (draft_items (w.records + 1) d)
draft_bytes w d =
    let redo = redo_items (w.records + 1) d.written in
    let asked = map ask_item d.asked in
    let whole : items_bytes (redo ++ asked) ≡ items_bytes redo ++ items_bytes asked = flat_map-append item_bytes redo asked in
    ap (λ bs. bs ++ end_bytes) (append_assoc w.bytes (items_bytes redo) (items_bytes asked))
    ∙ append_assoc w.bytes (items_bytes redo ++ items_bytes asked) end_bytes
    ∙ ap (λ bs. w.bytes ++ (bs ++ end_bytes)) (sym whole)

pub with_drafts_bytes : (w : Written) (ds : List Draft) → (with_drafts w ds).bytes ≡ w.bytes ++ deliveries_bytes (drafts_items (w.records + 1) ds)
with_drafts_bytes w [] = sym (append-nil w.bytes)
with_drafts_bytes w (d ∷ ds) =
    let at : w.records + length d.written + 1 ≡ w.records + 1 + length d.written = omega arith in
    let first = delivery_bytes (draft_items (w.records + 1) d) in
    with_drafts_bytes (with_draft w d) ds
    ∙ ap (λ bs. bs ++ deliveries_bytes (drafts_items (w.records + length d.written + 1) ds)) (draft_bytes w d)
    ∙ append_assoc w.bytes first (deliveries_bytes (drafts_items (w.records + length d.written + 1) ds))
    ∙ ap (λ n. w.bytes ++ (first ++ deliveries_bytes (drafts_items n ds))) at

-- a record that is written is short
pub record_short : (r : RedoRecord) (bytes : List ℕ) → bytes ≡ record_bytes r → IsRecord r → length bytes < 2 ^ 16
record_short r bytes e good = omega (arith, ap length e, length_raw_bytes (raw_of r), good.raw.len)

-- the bytes of a whole feed
pub all_bytes : (ds : List Draft) → with_stop (with_drafts opened_feed ds) ≡ feed_bytes threads sessions (drafts_items 1 ds)
all_bytes ds = ap (λ bs. bs ++ stop_bytes) (with_drafts_bytes opened_feed ds)
