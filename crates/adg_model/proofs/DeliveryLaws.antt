-- The laws of deliveries: the records that they give are the only ones, and more deliveries only add to them.
use Rattle.std.proofs.Common.{◌≡◌, ℕ, ◌+◌, List, [], ◌∷◌, ◌++◌, map, length, refl, sym, ap, ap₂, ◌∙◌, subst, arith, append_assoc, append-nil}
use Rattle.std.specs.List.{flat_map, AllZip}
use Rattle.std.proofs.lemmas.List.{length-append, nil_from_length}
use Rattle.std.proofs.lemmas.Grind.{flat_map-append}
use Rattle.adg_base.specs.declared.vector.RedoRecord.{RedoRecord}
use Rattle.adg_model.specs.declared.delivery.RawDelivery.{RawDelivery}
use Rattle.adg_model.specs.Spelling.{AreVectors}
use Rattle.adg_model.specs.Records.{Raw, raw_bytes, Mark, first_mark, mark_of, AreRaws, IsPart, raw_of, bytes_for, thread_text, AreReadable, HasRecords, record_bytes}
use Rattle.adg_model.specs.Log.{ReceivedFrom}
use Rattle.adg_model.specs.Laws.{Continues, LogGrowsByDelivery, NoPrefix, RecordsAreDetermined}
use Rattle.adg_model.proofs.VectorsSpelled.{vectors_bytes_same}
use Rattle.adg_model.proofs.RecordsSpelled.{raw_bytes_apart, raw_no_part}
use Rattle.adg_model.proofs.LogLaws.{log_grows}

-- the records of a text, and of more behind it
first_apart : (r : Raw) (rs : List Raw) (x more : List ℕ) → (flat_map raw_bytes (r ∷ rs) ++ x) ++ more ≡ raw_bytes r ++ ((flat_map raw_bytes rs ++ x) ++ more)
first_apart r rs x more =
    ap (λ l. l ++ more) (append_assoc (raw_bytes r) (flat_map raw_bytes rs) x) ∙ append_assoc (raw_bytes r) (flat_map raw_bytes rs ++ x) more

pub raws_go_on : (mark : Mark) (rs ss : List Raw) (x y more : List ℕ) → AreRaws mark rs → AreRaws mark ss → IsPart y → (flat_map raw_bytes rs ++ x) ++ more ≡ flat_map raw_bytes ss ++ y → (ks : List Raw) × (ss ≡ rs ++ ks)
raws_go_on mark [] ss x y more h k part e = (ss, refl)
raws_go_on mark (r ∷ rs) [] x y more h k part e =
    absurd (raw_no_part r ((flat_map raw_bytes rs ++ x) ++ more) h.0 (subst IsPart (sym e ∙ first_apart r rs x more) part))
raws_go_on mark (r ∷ rs) (s ∷ ss) x y more h k part e =
    let p = raw_bytes_apart r s ((flat_map raw_bytes rs ++ x) ++ more) (flat_map raw_bytes ss ++ y) h.0 k.0 (sym (first_apart r rs x more) ∙ e ∙ append_assoc (raw_bytes s) (flat_map raw_bytes ss) y) in
    let later = raws_go_on (mark_of s) rs ss x y more (subst (λ t. AreRaws (mark_of t) rs) p.0 h.3) k.3 part p.1 in
    (later.0, ap₂ (λ t ts. t ∷ ts) (sym p.0) later.1)

cons_parts : (a b : Raw) (x y : List Raw) → a ∷ x ≡ b ∷ y → (a ≡ b) × (x ≡ y)
cons_parts a b x y e = (cc, cc)

-- records with vectors, by their bytes
pub same_record : (a b : RedoRecord) → AreVectors (length a.vectors) a.vectors → AreVectors (length b.vectors) b.vectors → raw_of a ≡ raw_of b → a ≡ b
same_record a b h k e =
    let count : length a.vectors ≡ length b.vectors = ap (λ (r : Raw). r.count) e in
    let vectors = vectors_bytes_same (length b.vectors) a.vectors b.vectors count (subst (λ n. AreVectors n a.vectors) count h) k (ap (λ (r : Raw). r.body) e) in
    ap (λ n. record a { scn = n }) (ap (λ (r : Raw). r.scn) e) ∙ ap (λ vs. record b { vectors = vs }) vectors

records_go_on : (old new : List RedoRecord) (ks : List Raw) → AreReadable old → AreReadable new → map raw_of new ≡ map raw_of old ++ ks → (more : List RedoRecord) × (new ≡ old ++ more)
records_go_on [] new ks h k e = (new, refl)
records_go_on (o ∷ os) [] ks h k e = absurd cc
records_go_on (o ∷ os) (n ∷ ns) ks h k e =
    let parts = cons_parts (raw_of n) (raw_of o) (map raw_of ns) (map raw_of os ++ ks) e in
    let later = records_go_on os ns ks h.1 k.1 parts.1 in
    (later.0, ap₂ (λ t ts. t ∷ ts) (same_record n o k.0 h.0 parts.0) later.1)

text_goes_on : (text more : List ℕ) (old new : List RedoRecord) → HasRecords text old → HasRecords (text ++ more) new → Continues old new
text_goes_on text more old new h k =
    let raws = raws_go_on first_mark (map raw_of old) (map raw_of new) h.rest k.rest more h.raws.follow k.raws.follow k.raws.part (ap (λ l. l ++ more) (sym h.raws.spelled) ∙ k.raws.spelled) in
    let records = records_go_on old new raws.0 h.vectors k.vectors raws.1 in
    record { more = records.0; longer = records.1; follow = k.raws.follow }

thread_text_append : (thread : ℕ) (ds es : List RawDelivery) → thread_text thread (ds ++ es) ≡ thread_text thread ds ++ thread_text thread es
thread_text_append thread ds es = flat_map-append (λ d. flat_map (bytes_for thread) d.pieces) ds es

received_go_on : (thread : ℕ) (ds es : List RawDelivery) (old new : List (List RedoRecord)) → length old ≡ length new → ReceivedFrom thread ds old → ReceivedFrom thread (ds ++ es) new → AllZip Continues old new
received_go_on thread ds es [] [] n h k = tt
received_go_on thread ds es [] (r ∷ rs) n h k = absurd (omega arith)
received_go_on thread ds es (o ∷ os) [] n h k = absurd (omega arith)
received_go_on thread ds es (o ∷ os) (r ∷ rs) n h k =
    (text_goes_on (thread_text thread ds) (thread_text thread es) o r h.0 (subst (λ t. HasRecords t r) (thread_text_append thread ds es) k.0), received_go_on (thread + 1) ds es os rs (omega arith) h.1 k.1)

pub log_grows_by_delivery : LogGrowsByDelivery
log_grows_by_delivery ds more old new n h k = log_grows old new (received_go_on 1 ds more old new n h k)

-- a text has the records of one list alone
pub same_text : (text : List ℕ) (a b : List RedoRecord) → HasRecords text a → HasRecords text b → a ≡ b
same_text text a b h k =
    let whole : text ++ [] ≡ text = append-nil text in
    let p = text_goes_on text [] a b h (subst (λ t. HasRecords t b) (sym whole) k) in
    let q = text_goes_on text [] b a k (subst (λ t. HasRecords t a) (sym whole) h) in
    let none : length p.more ≡ 0 = omega (arith, ap length p.longer, ap length q.longer, length-append a p.more, length-append b q.more) in
    sym (p.longer ∙ ap (λ l. a ++ l) (nil_from_length p.more none) ∙ append-nil a)

same_received : (thread : ℕ) (ds : List RawDelivery) (a b : List (List RedoRecord)) → length a ≡ length b → ReceivedFrom thread ds a → ReceivedFrom thread ds b → a ≡ b
same_received thread ds [] [] n h k = refl
same_received thread ds [] (r ∷ rs) n h k = absurd (omega arith)
same_received thread ds (o ∷ os) [] n h k = absurd (omega arith)
same_received thread ds (o ∷ os) (r ∷ rs) n h k =
    ap₂ (λ t ts. t ∷ ts) (same_text (thread_text thread ds) o r h.0 k.0) (same_received (thread + 1) ds os rs (omega arith) h.1 k.1)

pub records_are_determined : RecordsAreDetermined
records_are_determined ds a b n h k = same_received 1 ds a b n h k

pub no_prefix : NoPrefix
no_prefix a b rest h k e =
    let p = raw_bytes_apart (raw_of a) (raw_of b) rest [] h.raw k.raw (e ∙ sym (append-nil (record_bytes b))) in
    (same_record a b h.vectors k.vectors p.0, p.1)
