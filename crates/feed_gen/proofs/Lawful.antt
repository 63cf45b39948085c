-- The laws of the generated feed.
use Rattle.std.proofs.Common.{◌≡◌, ℕ, ◌+◌, ◌*◌, ◌<◌, ◌≤◌, ◌^◌, List, [], ◌∷◌, ◌++◌, length, map, refl, sym, ap, ap₂, ◌∙◌, subst, arith, append_assoc, append-nil}
use Rattle.std.specs.List.{AllByRecursion, sum_by}
use Rattle.std.proofs.lemmas.List.{length-append}
use Rattle.std.proofs.lemmas.List.Sums.{sum_by-cons}
use Rattle.adg_model.specs.Feed.{Item, start, delivery_of}
use Rattle.adg_model.specs.Database.{Database, after, no_database}
use Rattle.adg_model.specs.declared.fault.RedoFault.{RedoFault}
use Rattle.adg_model.specs.Records.{thread_text}
use Rattle.adg_model.specs.Sound.{IsRedoFault}
use Rattle.adg_model.specs.Spelling.{IsVector}
use Rattle.adg_model.specs.Log.{frontier, ReceivedFrom}
use Rattle.adg_base.specs.declared.vector.Vector.{Vector}
use Rattle.adg_base.specs.declared.vector.Vector.TheVariants.{Begin, Put, Delete, Undo, Commit, Abort, Create, DropObject, AddColumn, NoInMemory, EndThread}
use Rattle.feed_gen.specs.declared.writing.Writing.{Writing}
use Rattle.feed_gen.specs.Generated.{Draft, draft_items, drafts_items, drafts, generated_deliveries, generated}
use Rattle.feed_gen.specs.Laws.{IsWholeFeed, AreRead, EachIsRead, NoRedoFault, LastScn, LastFrontier}
use Rattle.feed_gen.proofs.Small.{IsSmall, IsWriting}
use Rattle.feed_gen.proofs.Whole.{drafts_good}
use Rattle.feed_gen.proofs.Threads.{records_of, all_written, EndsLast, whole_text, has_records}
use Rattle.feed_gen.proofs.Merged.{all_vectors, SoundVectors, merged_sound}
use Rattle.adg_model.proofs.DeliveryLaws.{records_are_determined}
use Rattle.feed_gen.specs.Transfers.{ends}
use Rattle.feed_gen.proofs.Last.{ends_frontier, all_ends}
use Rattle.feed_gen.proofs.NoFault.{no_fault}
use Rattle.feed_gen.proofs.Passing.{Passes}
use Rattle.feed_gen.proofs.History.{vectors_append, history_passes}
use Rattle.feed_gen.proofs.Drafts.{all_drafts_good, all_drafts_len, written_good, all_end, all_count}

pub whole_feed : IsWholeFeed
unfolding generated generated_deliveries
whole_feed seed txns few = record {
  feed = (
    ((omega arith, omega arith), (omega arith, omega arith)),
    drafts_good (start 3 4) 1 (drafts seed txns) refl refl (all_drafts_good seed txns few) (omega (arith, all_drafts_len seed txns few)) (omega (arith, all_drafts_len seed txns few)),
  );
  spelled = sym (append-nil _);
}

-- ---- the deliveries up to one

each_front : {X : Type 0} (P : X → Type 0) (xs ys : List X) → AllByRecursion P (xs ++ ys) → AllByRecursion P xs
each_front P [] ys h = tt
each_front P (x ∷ xs) ys h = (h.0, each_front P xs ys h.1)

ends_front : (ws vs : List Writing) → EndsLast (ws ++ vs) → EndsLast ws
ends_front [] vs h = tt
ends_front (w ∷ ws) vs h = ((λ t. each_front (λ (v : Writing). v.thread ≡ w.thread → ⊥) ws vs (h.0 t)), ends_front ws vs h.1)

passes_front : (db : Database) (vs ws : List Vector) → Passes db (vs ++ ws) → Passes db vs
passes_front db [] ws h = tt
passes_front db (v ∷ vs) ws h = (h.0, passes_front (after db v) vs ws h.1)

-- a vector of a record of many stands alone as well
alone : (count : ℕ) (v : Vector) → IsVector count v → IsVector 1 v
alone count (Begin t) h = h
alone count (Put t o b k row) h = h
alone count (Delete t o b k) h = h
alone count (Undo t o b k) h = h
alone count (Commit t flag) h = h
alone count (Abort t) h = h
alone count (Create o e f columns) h = h
alone count (DropObject o) h = h
alone count (AddColumn o k) h = h
alone count (NoInMemory o) h = h
alone count EndThread h = refl

sound_of : (count : ℕ) (db : Database) (vs ws : List Vector) → AllByRecursion (IsSmall count) vs → Passes db (vs ++ ws) → ((db : Database) → Passes db ws → SoundVectors db ws) → SoundVectors db (vs ++ ws)
sound_of count db [] ws h p go = go db p
sound_of count db (v ∷ vs) ws h p go = (alone count v h.0.spelled, p.0, sound_of count (after db v) vs ws h.1 p.1 go)

all_sound : (ws : List Writing) (db : Database) → AllByRecursion IsWriting ws → Passes db (all_vectors ws) → SoundVectors db (all_vectors ws)
all_sound [] db h p = tt
all_sound (w ∷ ws) db h p = sound_of (length w.vectors) db w.vectors (all_vectors ws) h.0.vectors p (λ d q. all_sound ws d h.1 q)

record Splits (ds : List Draft) (scn : ℕ) (before : List (List Item)) : Type 0 where
  front : List Draft
  back : List Draft
  whole : ds ≡ front ++ back
  items : before ≡ drafts_items scn front

split_drafts : (ds : List Draft) (scn : ℕ) (before more : List (List Item)) → drafts_items scn ds ≡ before ++ more → Splits ds scn before
split_drafts ds scn [] more e = record { front = []; back = ds; whole = refl; items = refl }
split_drafts [] scn (b ∷ before) more e = absurd cc
split_drafts (d ∷ ds) scn (b ∷ before) more e =
    let first : draft_items scn d ≡ b = cc in
    let others : drafts_items (scn + length d.written) ds ≡ before ++ more = cc in
    let later = split_drafts ds (scn + length d.written) before more others in
    record { front = d ∷ later.front; back = later.back; whole = ap (λ l. d ∷ l) later.whole; items = ap₂ (λ x y. x ∷ y) (sym first) later.items }

written_append : (a b : List Draft) → all_written (a ++ b) ≡ all_written a ++ all_written b
written_append [] b = refl
written_append (d ∷ a) b = ap (λ l. d.written ++ l) (written_append a b) ∙ sym (append_assoc d.written (all_written a) (all_written b))

-- what some of the deliveries give
pub record IsFront (ds : List Draft) : Type 0 where
  pub good : AllByRecursion IsWriting (all_written ds)
  pub ends : EndsLast (all_written ds)
  pub few : length (all_written ds) < 2 ^ 40
  pub passes : Passes no_database (all_vectors (all_written ds))

mine_received : (ds : List Draft) → IsFront ds → ReceivedFrom 1 (map delivery_of (drafts_items 1 ds)) (records_of 1 1 (all_written ds) ∷ records_of 2 1 (all_written ds) ∷ records_of 3 1 (all_written ds) ∷ [])
mine_received ds h =
    let text = λ (thread : ℕ). has_records (thread_text thread (map delivery_of (drafts_items 1 ds))) (records_of thread 1 (all_written ds)) (whole_text thread ds h.good h.ends h.few) in
    (text 1, (text 2, (text 3, tt)))

front_read : (ds : List Draft) → IsFront ds → AreRead (map delivery_of (drafts_items 1 ds))
front_read ds h =
    let ws = all_written ds in
    record {
      records = records_of 1 1 ws ∷ records_of 2 1 ws ∷ records_of 3 1 ws ∷ [];
      received = mine_received ds h;
      all = refl;
      sound = merged_sound ws h.good (all_sound ws no_database h.good h.passes);
    }

front_good : (ds : List Draft) → IsFront ds → (fault : RedoFault) → IsRedoFault 3 (map delivery_of (drafts_items 1 ds)) fault → ⊥
front_good ds h fault =
    let read = front_read ds h in
    no_fault 3 (map delivery_of (drafts_items 1 ds)) read.records read.received read.all read.sound (λ t. (records_of t 1 (all_written ds), whole_text t ds h.good h.ends h.few)) fault.thread fault.number fault.kind

is_front : (seed txns : ℕ) (front back : List Draft) → txns ≤ 100000 → drafts seed txns ≡ front ++ back → IsFront front
is_front seed txns front back few whole =
    let split : all_written (drafts seed txns) ≡ all_written front ++ all_written back = ap all_written whole ∙ written_append front back in
    let len : length (all_written front) ≤ 63 + 2 * txns = omega (arith, all_count seed txns, ap length split, length-append (all_written front) (all_written back)) in
    record {
      good = each_front IsWriting (all_written front) (all_written back) (subst (AllByRecursion IsWriting) split (written_good (drafts seed txns) (all_drafts_good seed txns few)));
      ends = ends_front (all_written front) (all_written back) (subst EndsLast split (all_end seed txns));
      few = omega (arith, len, few);
      passes = passes_front no_database (all_vectors (all_written front)) (all_vectors (all_written back)) (subst (Passes no_database) (ap all_vectors split ∙ vectors_append (all_written front) (all_written back)) (history_passes seed txns));
    }

pub each_is_read : EachIsRead
unfolding generated_deliveries
each_is_read seed txns few before more e =
    let s = split_drafts (drafts seed txns) 1 before more e in
    subst (λ items. AreRead (map delivery_of items)) (sym s.items) (front_read s.front (is_front seed txns s.front s.back few s.whole))

pub no_redo_fault : NoRedoFault
unfolding generated_deliveries
no_redo_fault seed txns few before more fault e h =
    let s = split_drafts (drafts seed txns) 1 before more e in
    front_good s.front (is_front seed txns s.front s.back few s.whole) fault (subst (λ items. IsRedoFault 3 (map delivery_of items) fault) s.items h)

sum_len : (ds : List Draft) → sum_by (λ (d : Draft). length d.written) ds ≡ length (all_written ds)
sum_len [] = refl
sum_len (d ∷ ds) = omega (arith, sum_by-cons (λ (d : Draft). length d.written) d ds, sum_len ds, length-append d.written (all_written ds))

pub last_scn : LastScn
last_scn seed txns = sum_len (drafts seed txns) ∙ all_count seed txns

pub last_frontier : LastFrontier
unfolding generated_deliveries
last_frontier seed txns few records three received =
    let ds = drafts seed txns in
    let ws = all_written ds in
    let has = all_ends seed txns in
    let mine = records_of 1 1 ws ∷ records_of 2 1 ws ∷ records_of 3 1 ws ∷ [] in
    let read = front_read ds (is_front seed txns ds [] few (sym (append-nil ds))) in
    let same : records ≡ read.records = records_are_determined (map delivery_of (drafts_items 1 ds)) records read.records (three ∙ sym read.all) received read.received in
    let own : read.records ≡ mine = records_are_determined (map delivery_of (drafts_items 1 ds)) read.records mine read.all read.received (mine_received ds (is_front seed txns ds [] few (sym (append-nil ds)))) in
    ap frontier (same ∙ own)
    ∙ ap (λ all. frontier (records_of 1 1 all ∷ records_of 2 1 all ∷ records_of 3 1 all ∷ [])) has.split
    ∙ ends_frontier has.front
    ∙ omega (arith, all_count seed txns, ap length has.split, length-append has.front ends)
