-- What a standby may count on of the delivery that comes next.
use Rattle.std.proofs.Common.{◌≡◌, ◌+◌, ◌≤◌, ◌<◌, ◌==◌, ℕ, Bool, true, false, List, [], ◌∷◌, ◌++◌, length, length-append, ◌∙◌, ap, sym, subst, arith, if◌then◌else◌}
use Rattle.std.specs.List.{AllByRecursion, flat_map, filter_map}
use Rattle.std.proofs.lemmas.List.Sums.{sum_by-cons}
use Rattle.adg_base.specs.declared.command.CommandText.{CommandText}
use Rattle.adg_model.specs.declared.delivery.RawDelivery.{RawDelivery}
use Rattle.adg_model.specs.declared.delivery.RedoPiece.{RedoPiece}
use Rattle.adg_model.specs.Feed.{Item, Redo, Asks, Schedules, Standing, AreItems, IsDelivery, IsIn, piece_of, command_of, redo_len, redo_total, start, after_delivery, after_deliveries, most_redo, most_payload, most_deliveries, most_text}
use Rattle.adg_model.specs.Records.{bytes_for, thread_text}
use Rattle.adg_model.proofs.FeedLaws.{few_commands, own_sessions, after_threads, after_sessions, ends_count, redo_within}
use Rattle.feed_run.specs.Standby.{Meaning, IsNext, deliveries_of}
use Rattle.feed_run.proofs.ProgressLaws.{last_delivery, of_more}

-- the redo bytes of a thread are no more than the redo counts
piece_room : (thread t : ℕ) (b : List ℕ) → length (bytes_for thread (record { thread = t; bytes = b })) ≤ length b
piece_room thread t b = go (t == thread)
  where
    go : (same : Bool) → length (if same then b else []) ≤ length b
    go true = omega arith
    go false = omega arith

items_room : (thread : ℕ) (items : List Item) → length (flat_map (bytes_for thread) (filter_map piece_of items)) ≤ redo_total items
items_room thread [] = omega arith
items_room thread (Redo t b ∷ items) =
    let ih = items_room thread items in
    let long = length-append (bytes_for thread (record { thread = t; bytes = b })) (flat_map (bytes_for thread) (filter_map piece_of items)) in
    let sum = sum_by-cons redo_len (Redo t b) items in
    omega (arith, ih, long, sum, piece_room thread t b)
items_room thread (Asks s t ∷ items) = let ih = items_room thread items in let sum = sum_by-cons redo_len (Asks s t) items in omega (arith, ih, sum)
items_room thread (Schedules b ∷ items) = let ih = items_room thread items in let sum = sum_by-cons redo_len (Schedules b) items in omega (arith, ih, sum)

text_room : (thread : ℕ) (st : Standing) (ds : List (List Item)) → st.redo + length (thread_text thread (deliveries_of ds)) ≤ (after_deliveries st ds).redo
text_room thread st [] = omega arith
text_room thread st (items ∷ ds) =
    let ih = text_room thread (after_delivery st items) ds in
    let here = items_room thread items in
    let long = length-append (flat_map (bytes_for thread) (filter_map piece_of items)) (thread_text thread (deliveries_of ds)) in
    omega (arith, ih, here, long)

-- each piece is of a thread of the feed
own_threads : (st : Standing) (before items : List Item) → AreItems st before items → AllByRecursion (λ (p : RedoPiece). IsIn st.threads p.thread) (filter_map piece_of items)
own_threads st before [] h = tt
own_threads st before (Redo t b ∷ items) h = (h.0.0, own_threads st (before ++ Redo t b ∷ []) items h.1)
own_threads st before (Asks s t ∷ items) h = own_threads st (before ++ Asks s t ∷ []) items h.1
own_threads st before (Schedules b ∷ items) h = own_threads st (before ++ Schedules b ∷ []) items h.1

-- no text of a command is longer than it may be
short_texts : (st : Standing) (before items : List Item) → AreItems st before items → AllByRecursion (λ (c : CommandText). length c.text ≤ most_text) (filter_map command_of items)
short_texts st before [] h = tt
short_texts st before (Redo t b ∷ items) h = short_texts st (before ++ Redo t b ∷ []) items h.1
short_texts st before (Asks s t ∷ items) h = (h.0.1, short_texts st (before ++ Asks s t ∷ []) items h.1)
short_texts st before (Schedules b ∷ items) h = short_texts st (before ++ Schedules b ∷ []) items h.1

module _ {T : Type 0} (answered : T → Meaning) (d : RawDelivery) (next : IsNext answered d) where
  is_delivery : IsDelivery (after_deliveries (start next.threads next.sessions) next.before) next.items
  is_delivery = last_delivery (start next.threads next.sessions) next.before next.items next.feed.1

  -- there are fewer before it than a feed may have
  pub next_count : length next.before < most_deliveries
  next_count = omega (arith, is_delivery.1, ends_count (start next.threads next.sessions) next.before)

  -- its commands are few, and each is of a session of the feed
  pub next_few : length d.commands ≤ most_payload
  next_few = subst (λ (k : RawDelivery). length k.commands ≤ most_payload) (sym next.brings) (few_commands (after_deliveries (start next.threads next.sessions) next.before) next.items is_delivery.0)

  pub next_sessions : AllByRecursion (λ (c : CommandText). IsIn next.sessions c.session) d.commands
  next_sessions =
      let st : Standing = after_deliveries (start next.threads next.sessions) next.before in
      let own = own_sessions st next.items is_delivery.0 in
      subst (λ (k : RawDelivery). AllByRecursion (λ (c : CommandText). IsIn next.sessions c.session) k.commands) (sym next.brings)
      (subst (λ (s : ℕ). AllByRecursion (λ (c : CommandText). IsIn s c.session) (filter_map command_of next.items)) (after_sessions (start next.threads next.sessions) next.before) own)

  -- each command has a text of at most so many bytes
  pub next-texts : AllByRecursion (λ (c : CommandText). length c.text ≤ most_text) d.commands
  next-texts =
      let st : Standing = after_deliveries (start next.threads next.sessions) next.before in
      subst (λ (k : RawDelivery). AllByRecursion (λ (c : CommandText). length c.text ≤ most_text) k.commands) (sym next.brings)
      (short_texts st [] next.items is_delivery.0)

  -- each of its pieces is of a thread of the feed
  pub next_threads : AllByRecursion (λ (p : RedoPiece). IsIn next.threads p.thread) d.pieces
  next_threads =
      let st : Standing = after_deliveries (start next.threads next.sessions) next.before in
      let own = own_threads st [] next.items is_delivery.0 in
      subst (λ (k : RawDelivery). AllByRecursion (λ (p : RedoPiece). IsIn next.threads p.thread) k.pieces) (sym next.brings)
      (subst (λ (t : ℕ). AllByRecursion (λ (p : RedoPiece). IsIn t p.thread) (filter_map piece_of next.items)) (after_threads (start next.threads next.sessions) next.before) own)

  -- with it the redo of each thread is no longer than that of a feed may be
  pub next_room : (thread : ℕ) → length (thread_text thread (deliveries_of next.before ++ d ∷ [])) ≤ most_redo
  next_room thread =
      let st : Standing = start next.threads next.sessions in
      let all : deliveries_of (next.before ++ next.items ∷ []) ≡ deliveries_of next.before ++ d ∷ [] =
      of_more next.before next.items ∙ ap (λ (k : RawDelivery). deliveries_of next.before ++ k ∷ []) (sym next.brings)
      in
      let within = redo_within st (next.before ++ next.items ∷ []) next.feed.1 (omega arith) in
      let room = text_room thread st (next.before ++ next.items ∷ []) in
      subst (λ (l : List RawDelivery). length (thread_text thread l) ≤ most_redo) all (omega (arith, within, room))
