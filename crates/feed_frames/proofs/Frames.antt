-- A whole frame: its head, and what came after it.
use Rattle.std.proofs.Common.{◌≡◌, ℕ, false, not, ◌==◌, List, [], ◌∷◌, ◌++◌, length, Option, None, refl, sym, ap, ◌∙◌, subst, arith}
use Rattle.std.specs.Int.{w32, to_be_bytes}
use Rattle.std.proofs.lemmas.Grind.{common_steps}
use Rattle.adg_model.specs.Feed.{Item, Standing, IsItem, frame, item_bytes, end_bytes, stop_bytes, tag_of, payload_of, tag_fault, length_fault, end_tag, stop_tag}
use Rattle.adg_model.specs.declared.fault.FeedKind.{FeedKind}
use Rattle.feed_frames.specs.declared.delivery.Incoming.{Incoming}
use Rattle.feed_frames.specs.declared.head.Head.{Head}
use Rattle.feed_frames.specs.Intake.{Took}
use Rattle.feed_frames.specs.Counts.{standing_of, tag_byte}
use Rattle.feed_frames.specs.Frames.{StopsAfter, TookItem, Holds, head_bytes}
use Rattle.feed_frames.proofs.IntakeLaws.{took_both}
use Rattle.feed_frames.proofs.Faults.{first_none, fails_none}

pub stops_later : {a b d : Option (List ℕ)} {m n l : ℕ} {k : FeedKind} (front : List ℕ) (check : List ℕ → Option FeedKind) → Took a b m n front → StopsAfter front check b d n l k → StopsAfter [] check a d m l k
stops_later {a} {b} {d} {m} {n} {l} front check took s = record { bytes = front ++ s.bytes; took = took_both a b d m n l front s.bytes took s.took; stops = s.stops }

item_spelled : (item : Item) (tag len : ℕ) → tag_of item ≡ tag → length (payload_of item) ≡ len → tag ∷ to_be_bytes w32 len ++ payload_of item ≡ item_bytes item
unfolding frame
item_spelled item tag len e w =
    ap (λ (t : ℕ). t ∷ to_be_bytes w32 len ++ payload_of item) (sym e) ∙ ap (λ (n : ℕ). tag_of item ∷ to_be_bytes w32 n ++ payload_of item) (sym w)

pub item_later : {a b d : Option (List ℕ)} {m n l : ℕ} (old new : Incoming) (before : List Item) (head : Head) → Took a b m n (head_bytes head) → TookItem old new before head b d n l
    → (item : Item) × Took a d m l (item_bytes item) × IsItem (standing_of old.counts.standing) before item × Holds new (before ++ item ∷ [])
item_later {a} {b} {d} {m} {n} {l} old new before head took t =
    (t.item, subst (Took a d m l) (item_spelled t.item (tag_byte head.tag) head.len t.tag t.whole) (took_both a b d m n l (head_bytes head) (payload_of t.item) took t.took), t.follows, t.holds)

pub is_zero : (n : ℕ) → not (n == 0) ≡ false → n ≡ 0
is_zero n h = grind (arith, common_steps)

pub end_spelled : (st : Standing) (before : List Item) (len : ℕ) → length_fault st before end_tag len ≡ None → end_tag ∷ to_be_bytes w32 len ≡ end_bytes
unfolding frame
end_spelled st before len h = ap (λ (n : ℕ). end_tag ∷ to_be_bytes w32 n) (is_zero len (fails_none _ _ (first_none _ _ h)))

pub stop_spelled : (st : Standing) (before : List Item) (len : ℕ) → length_fault st before stop_tag len ≡ None → stop_tag ∷ to_be_bytes w32 len ≡ stop_bytes
unfolding frame
stop_spelled st before len h = ap (λ (n : ℕ). stop_tag ∷ to_be_bytes w32 n) (is_zero len (fails_none _ _ (first_none _ _ h)))

pub stop_first : (before : List Item) → tag_fault before stop_tag ≡ None → before ≡ []
stop_first [] h = refl
stop_first (x ∷ xs) h = cc

pub length_end : length end_bytes ≡ 5
unfolding frame
length_end = refl

pub length_stop : length stop_bytes ≡ 5
unfolding frame
length_stop = refl
