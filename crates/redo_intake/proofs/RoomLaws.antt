-- What `take` asks for is so where the delivery comes next in a feed.
use Rattle.std.proofs.Common.{◌+◌, ◌≤◌, ◌<◌, ◌==◌, ◌^◌, ℕ, Bool, true, false, List, [], ◌∷◌, ◌++◌, length, map, length-append, ap, sym, subst, arith, if◌then◌else◌}
use Rattle.std.specs.List.{AllByRecursion, flat_map, filter_map}
use Rattle.std.proofs.lemmas.List.Sums.{sum_by-cons}
use Rattle.adg_model.specs.declared.delivery.RawDelivery.{RawDelivery}
use Rattle.adg_model.specs.declared.delivery.RedoPiece.{RedoPiece}
use Rattle.adg_model.specs.Feed.{Item, Redo, Asks, Schedules, Standing, IsFeed, IsIn, piece_of, delivery_of, redo_len, redo_total, start, after_delivery, after_deliveries, most_redo}
use Rattle.adg_model.specs.Records.{bytes_for, thread_text}
use Rattle.adg_model.specs.Log.{merged_log}
use Rattle.adg_model.proofs.FeedLaws.{after_more, redo_within}
use Rattle.log_merger.specs.Merger.{highest_number, texts_of}
use Rattle.log_merger.proofs.Numbers.{number_below}
use Rattle.redo_intake.specs.Intake.{Taking, HasTaken, bytes_of}

-- the redo bytes of a delivery are no more than the redo counts
items_room : (items : List Item) → length (bytes_of (filter_map piece_of items)) ≤ redo_total items
items_room [] = omega arith
items_room (Redo t b ∷ items) =
    let ih = items_room items in
    let long = length-append b (bytes_of (filter_map piece_of items)) in
    let sum = sum_by-cons redo_len (Redo t b) items in
    omega (arith, ih, long, sum)
items_room (Asks s t ∷ items) = let ih = items_room items in let sum = sum_by-cons redo_len (Asks s t) items in omega (arith, ih, sum)
items_room (Schedules b ∷ items) = let ih = items_room items in let sum = sum_by-cons redo_len (Schedules b) items in omega (arith, ih, sum)

-- those of one thread are no more than all
piece_within : (thread t : ℕ) (b : List ℕ) → length (bytes_for thread (record { thread = t; bytes = b })) ≤ length b
piece_within thread t b = go (t == thread)
  where
    go : (same : Bool) → length (if same then b else []) ≤ length b
    go true = omega arith
    go false = omega arith

thread_within : (thread : ℕ) (pieces : List RedoPiece) → length (flat_map (bytes_for thread) pieces) ≤ length (bytes_of pieces)
thread_within thread [] = omega arith
thread_within thread (p ∷ ps) =
    let ih = thread_within thread ps in
    let some = length-append (bytes_for thread p) (flat_map (bytes_for thread) ps) in
    let all = length-append p.bytes (bytes_of ps) in
    omega (arith, ih, some, all, piece_within thread p.thread p.bytes)

text_room : (thread : ℕ) (st : Standing) (ds : List (List Item)) → st.redo + length (thread_text thread (map delivery_of ds)) ≤ (after_deliveries st ds).redo
text_room thread st [] = omega arith
text_room thread st (items ∷ ds) =
    let ih = text_room thread (after_delivery st items) ds in
    let long = length-append (flat_map (bytes_for thread) (filter_map piece_of items)) (thread_text thread (map delivery_of ds)) in
    omega (arith, ih, thread_within thread (filter_map piece_of items), items_room items, long)

-- There is room for the redo of the delivery that comes next in a feed.
pub take_room : (t : Taking) (threads sessions : ℕ) (before : List (List Item)) (items : List Item) → IsFeed threads sessions (before ++ items ∷ [])
    → HasTaken t threads (map delivery_of before) → highest_number t.merger + length (bytes_of (delivery_of items).pieces) < 2 ^ 64
take_room t threads sessions before items feed taken =
    let st : Standing = start threads sessions in
    let within = redo_within st (before ++ items ∷ []) feed.1 (omega arith) in
    let more = ap (λ (s : Standing). s.redo) (after_more st before items) in
    let texts : (thread : ℕ) → length (texts_of (map delivery_of before) thread) ≤ most_redo = λ thread. let room = text_room thread st before in omega (arith, room, within, more) in
    let number = number_below t.merger (texts_of (map delivery_of before)) (merged_log taken.records) most_redo taken.merged texts in
    omega (arith, number, items_room items, within, more)

-- Its pieces are of the threads.
pub take_threads : (t : Taking) (threads : ℕ) (ds : List RawDelivery) (pieces : List RedoPiece) → HasTaken t threads ds
    → AllByRecursion (λ (p : RedoPiece). IsIn threads p.thread) pieces → AllByRecursion (λ (p : RedoPiece). IsIn (length t.merger.threads) p.thread) pieces
take_threads t threads ds pieces taken h = subst (λ (n : ℕ). AllByRecursion (λ (p : RedoPiece). IsIn n p.thread) pieces) (sym taken.many) h
