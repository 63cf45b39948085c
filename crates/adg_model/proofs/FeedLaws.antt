-- Laws of the feed: what the items of a delivery bring and their limits, and deliveries one after another.
use Rattle.std.proofs.Common.{◌≡◌, ◌+◌, ◌≤◌, ◌==◌, cond, List, [], ◌∷◌, ◌++◌, length, refl, ap, ap₂, ◌∙◌, arith, append-nil}
use Rattle.std.specs.List.{flat_map, filter_map, AllByRecursion}
use Rattle.std.proofs.lemmas.List.{length-append}
use Rattle.std.proofs.lemmas.List.Sums.{sum_by-cons, sum_by_push}
use Rattle.std.proofs.lemmas.Grind.{flat_map-append}
use Rattle.adg_base.specs.declared.command.CommandText.{CommandText}
use Rattle.adg_model.specs.declared.delivery.RedoPiece.{RedoPiece}
use Rattle.adg_model.specs.declared.delivery.RawDelivery.{RawDelivery}
use Rattle.adg_model.specs.Records.{bytes_for, thread_text}
use Rattle.adg_model.specs.Feed.{Item, Redo, Asks, Schedules, delivery_bytes, deliveries_bytes, piece_of, command_of, payload_len, redo_len, payload_total, redo_total, most_payload, most_redo, Standing, after_delivery, after_deliveries, Fits, IsIn, IsItem, AreItems, IsDelivery, AreDeliveries}

-- the bytes of a delivery's redo are no more than its redo counts
pub pieces_room : (items : List Item) → length (flat_map (λ (p : RedoPiece). p.bytes) (filter_map piece_of items)) ≤ redo_total items
pieces_room [] = omega arith
pieces_room (Redo t b ∷ items) =
    let ih = pieces_room items in
    let long = length-append b (flat_map (λ (p : RedoPiece). p.bytes) (filter_map piece_of items)) in
    let sum = sum_by-cons redo_len (Redo t b) items in
    omega (arith, ih, long, sum)
pieces_room (Asks s t ∷ items) =
    let ih = pieces_room items in
    let sum = sum_by-cons redo_len (Asks s t) items in
    omega (arith, ih, sum)
pieces_room (Schedules b ∷ items) =
    let ih = pieces_room items in
    let sum = sum_by-cons redo_len (Schedules b) items in
    omega (arith, ih, sum)

pub item_fits : (st : Standing) (before : List Item) (item : Item) → IsItem st before item → Fits st before item
item_fits st before (Redo t b) h = h.1
item_fits st before (Asks s t) h = h.3
item_fits st before (Schedules b) h = h.1

-- the limits hold for all items once they hold for each in its place
pub redo_goes : (st : Standing) (before items : List Item) → AreItems st before items → st.redo + redo_total before ≤ most_redo → st.redo + redo_total before + redo_total items ≤ most_redo
redo_goes st before [] h le = omega (arith, le)
redo_goes st before (item ∷ items) h le =
    let fits = item_fits st before item h.0 in
    let push = sum_by_push redo_len before item in
    let sum = sum_by-cons redo_len item items in
    let low : st.redo + redo_total (before ++ item ∷ []) ≤ most_redo = omega (arith, fits.redo, push) in
    let ih = redo_goes st (before ++ item ∷ []) items h.1 low in
    omega (arith, ih, push, sum)

pub redo_bound : (st : Standing) (items : List Item) → AreItems st [] items → st.redo ≤ most_redo → st.redo + redo_total items ≤ most_redo
redo_bound st items h le =
    let low : st.redo + redo_total [] ≤ most_redo = omega (arith, le) in
    let all = redo_goes st [] items h low in
    omega (arith, all)

pub payload_goes : (st : Standing) (before items : List Item) → AreItems st before items → payload_total before ≤ most_payload → payload_total before + payload_total items ≤ most_payload
payload_goes st before [] h le = omega (arith, le)
payload_goes st before (item ∷ items) h le =
    let fits = item_fits st before item h.0 in
    let push = sum_by_push payload_len before item in
    let sum = sum_by-cons payload_len item items in
    let low : payload_total (before ++ item ∷ []) ≤ most_payload = omega (arith, fits.payload, push) in
    let ih = payload_goes st (before ++ item ∷ []) items h.1 low in
    omega (arith, ih, push, sum)

pub payload_bound : (st : Standing) (items : List Item) → AreItems st [] items → payload_total items ≤ most_payload
payload_bound st items h =
    let all = payload_goes st [] items h (omega arith) in
    omega (arith, all)

pub commands_counted : (items : List Item) → length (filter_map command_of items) ≤ payload_total items
commands_counted [] = omega arith
commands_counted (Redo t b ∷ items) =
    let ih = commands_counted items in
    let sum = sum_by-cons payload_len (Redo t b) items in
    omega (arith, ih, sum)
commands_counted (Asks s t ∷ items) =
    let ih = commands_counted items in
    let sum = sum_by-cons payload_len (Asks s t) items in
    omega (arith, ih, sum)
commands_counted (Schedules b ∷ items) =
    let ih = commands_counted items in
    let sum = sum_by-cons payload_len (Schedules b) items in
    omega (arith, ih, sum)

pub few_commands : (st : Standing) (items : List Item) → AreItems st [] items → length (filter_map command_of items) ≤ most_payload
few_commands st items h = let all = payload_bound st items h in let few = commands_counted items in omega (arith, all, few)

-- with one thread all redo is the first's
of_first_after : (st : Standing) (before items : List Item) → st.threads ≡ 1 → AreItems st before items → AllByRecursion (λ (p : RedoPiece). p.thread ≡ 1) (filter_map piece_of items)
of_first_after st before [] one h = tt
of_first_after st before (Redo t b ∷ items) one h =
    let from : 1 ≤ t = h.0.0.0 in
    let to : t ≤ st.threads = h.0.0.1 in
    (omega (arith, one, from, to), of_first_after st (before ++ Redo t b ∷ []) items one h.1)
of_first_after st before (Asks s t ∷ items) one h = of_first_after st (before ++ Asks s t ∷ []) items one h.1
of_first_after st before (Schedules b ∷ items) one h = of_first_after st (before ++ Schedules b ∷ []) items one h.1

pub of_first : (st : Standing) (items : List Item) → st.threads ≡ 1 → AreItems st [] items → AllByRecursion (λ (p : RedoPiece). p.thread ≡ 1) (filter_map piece_of items)
of_first st items one h = of_first_after st [] items one h

own_sessions_after : (st : Standing) (before items : List Item) → AreItems st before items → AllByRecursion (λ (c : CommandText). IsIn st.sessions c.session) (filter_map command_of items)
own_sessions_after st before [] h = tt
own_sessions_after st before (Redo t b ∷ items) h = own_sessions_after st (before ++ Redo t b ∷ []) items h.1
own_sessions_after st before (Asks s t ∷ items) h = (h.0.0, own_sessions_after st (before ++ Asks s t ∷ []) items h.1)
own_sessions_after st before (Schedules b ∷ items) h = own_sessions_after st (before ++ Schedules b ∷ []) items h.1

pub own_sessions : (st : Standing) (items : List Item) → AreItems st [] items → AllByRecursion (λ (c : CommandText). IsIn st.sessions c.session) (filter_map command_of items)
own_sessions st items h = own_sessions_after st [] items h

-- the redo of pieces that are all of the first thread
all_first : (pieces : List RedoPiece) → AllByRecursion (λ (p : RedoPiece). p.thread ≡ 1) pieces → flat_map (bytes_for 1) pieces ≡ flat_map (λ (p : RedoPiece). p.bytes) pieces
all_first [] h = refl
all_first (p ∷ ps) h =
    let one : bytes_for 1 p ≡ p.bytes = ap (λ n. cond (n == 1) p.bytes []) h.0 in
    ap₂ (λ x y. x ++ y) one (all_first ps h.1)

pub first_text : (deliveries : List RawDelivery) (d : RawDelivery) → AllByRecursion (λ (p : RedoPiece). p.thread ≡ 1) d.pieces → thread_text 1 (deliveries ++ d ∷ []) ≡ thread_text 1 deliveries ++ flat_map (λ (p : RedoPiece). p.bytes) d.pieces
first_text deliveries d h =
    let last : flat_map (bytes_for 1) d.pieces ++ [] ≡ flat_map (λ (p : RedoPiece). p.bytes) d.pieces = append-nil (flat_map (bytes_for 1) d.pieces) ∙ all_first d.pieces h in
    flat_map-append (λ (r : RawDelivery). flat_map (bytes_for 1) r.pieces) deliveries (d ∷ []) ∙ ap (λ l. thread_text 1 deliveries ++ l) last

-- one delivery more
pub deliveries_more : (ds : List (List Item)) (items : List Item) → deliveries_bytes (ds ++ items ∷ []) ≡ deliveries_bytes ds ++ delivery_bytes items
deliveries_more ds items = flat_map-append delivery_bytes ds (items ∷ []) ∙ ap (λ l. deliveries_bytes ds ++ l) (append-nil (delivery_bytes items))

pub after_more : (st : Standing) (ds : List (List Item)) (items : List Item) → after_deliveries st (ds ++ items ∷ []) ≡ after_delivery (after_deliveries st ds) items
after_more st [] items = refl
after_more st (d ∷ ds) items = after_more (after_delivery st d) ds items

pub feed_more : (st : Standing) (ds : List (List Item)) (items : List Item) → AreDeliveries st ds → IsDelivery (after_deliveries st ds) items → AreDeliveries st (ds ++ items ∷ [])
feed_more st [] items h k = (k, tt)
feed_more st (d ∷ ds) items h k = (h.0, feed_more (after_delivery st d) ds items h.1 k)

pub ends_count : (st : Standing) (ds : List (List Item)) → (after_deliveries st ds).ends ≡ st.ends + length ds
ends_count st [] = omega arith
ends_count st (d ∷ ds) = let ih = ends_count (after_delivery st d) ds in omega (arith, ih)

pub after_threads : (st : Standing) (ds : List (List Item)) → (after_deliveries st ds).threads ≡ st.threads
after_threads st [] = refl
after_threads st (d ∷ ds) = after_threads (after_delivery st d) ds

pub after_sessions : (st : Standing) (ds : List (List Item)) → (after_deliveries st ds).sessions ≡ st.sessions
after_sessions st [] = refl
after_sessions st (d ∷ ds) = after_sessions (after_delivery st d) ds

pub redo_within : (st : Standing) (ds : List (List Item)) → AreDeliveries st ds → st.redo ≤ most_redo → (after_deliveries st ds).redo ≤ most_redo
redo_within st [] h le = le
redo_within st (d ∷ ds) h le = redo_within (after_delivery st d) ds h.1 (redo_bound st d h.0.0 le)
