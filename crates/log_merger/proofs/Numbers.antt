-- The greatest number that the next record of a thread has.
use Rattle.std.proofs.Common.{◌≡◌, ℕ, ◌+◌, ◌<◌, ◌≤◌, List, [], ◌∷◌, ◌++◌, length, get_or, map, max, zero, suc, refl, ap, ap₂, arith, length-append}
use Rattle.std.proofs.Math.ListN.{set}
use Rattle.std.specs.List.{AllZip}
use Rattle.std.proofs.lemmas.List.{get_or-map, length-map, map-set}
use Rattle.std.specs.List.{flat_map}
use Rattle.adg_base.specs.declared.vector.RedoRecord.{RedoRecord}
use Rattle.adg_base.specs.declared.log.LogEntry.{LogEntry}
use Rattle.adg_model.specs.Records.{Raw, raw_bytes, raw_of, first_mark}
use Rattle.adg_model.specs.Log.{greatest, frontier}
use Rattle.redo_frames.specs.Assembly.{next_number}
use Rattle.log_merger.specs.Thread.{Receiving, raws, HasRead, ReadsOn}
use Rattle.log_merger.specs.Merge.{KeepsRest}
use Rattle.log_merger.specs.Merger.{Merging, Part, shown_of, ThreadsFrom, StandsFor, highest_number}
use Rattle.log_merger.proofs.ThreadLaws.{front_of, bytes_many}

abbrev pub numbers : List Receiving → List ℕ
numbers ts = map (λ t. next_number t.assembly) ts

within_greatest : (ns : List ℕ) (i : ℕ) → i < length ns → get_or ns i 0 ≤ greatest ns
within_greatest [] i lt = absurd (omega (arith, lt))
within_greatest (n ∷ ns) zero lt = omega arith
within_greatest (n ∷ ns) (suc i) lt = let ih = within_greatest ns i (omega (arith, lt)) in omega (arith, ih)

greatest_set : (ns : List ℕ) (i n : ℕ) → greatest (set ns i n) ≤ max (greatest ns) n
greatest_set [] i n = omega arith
greatest_set (m ∷ ns) zero n = omega arith
greatest_set (m ∷ ns) (suc i) n = let ih = greatest_set ns i n in omega (arith, ih)

greatest_below : (ns : List ℕ) (n : ℕ) → greatest ns ≤ n → (m : ℕ) → m ≤ n → greatest (ns ++ m ∷ []) ≤ n
greatest_below [] n h m le = omega arith
greatest_below (k ∷ ns) n h m le = let ih = greatest_below ns n (omega (arith, h)) m le in omega (arith, ih, h)

-- the number of a thread
pub number_within : (ts : List Receiving) (i : ℕ) (d : Receiving) → i < length ts → next_number (get_or ts i d).assembly ≤ greatest (numbers ts)
number_within ts i d lt =
    omega (arith, within_greatest (numbers ts) i (omega (arith, lt, length-map ts (λ (t : Receiving). next_number t.assembly))), get_or-map (λ (t : Receiving). next_number t.assembly) ts i d 0 lt)

pub number_set : (ts : List Receiving) (i more : ℕ) (d m : Receiving) → i < length ts → next_number m.assembly ≤ next_number (get_or ts i d).assembly + more → greatest (numbers (set ts i m)) ≤ greatest (numbers ts) + more
number_set ts i more d m lt le =
    let e : numbers (set ts i m) ≡ set (numbers ts) i (next_number m.assembly) = map-set (λ (t : Receiving). next_number t.assembly) ts i m in
    omega (arith, ap greatest e, greatest_set (numbers ts) i (next_number m.assembly), number_within ts i d lt, le)

pub number_push : (ts : List Receiving) (t : Receiving) → greatest (numbers ts) ≤ 1 → next_number t.assembly ≡ 1 → greatest (numbers (ts ++ t ∷ [])) ≤ 1
number_push [] t h e = omega (arith, e)
number_push (u ∷ us) t h e = let ih = number_push us t (omega (arith, h)) e in omega (arith, ih, h)

pub numbers_read : (ts us : List Receiving) → AllZip ReadsOn ts us → numbers us ≡ numbers ts
numbers_read [] [] h = refl
numbers_read [] (u ∷ us) h = absurd h
numbers_read (t ∷ ts) [] h = absurd h
numbers_read (t ∷ ts) (u ∷ us) h = ap₂ (λ (n : ℕ) (ns : List ℕ). n ∷ ns) (ap next_number h.0.assembly) (numbers_read ts us h.1)

pub numbers_kept : (ts us : List Receiving) → AllZip KeepsRest ts us → numbers us ≡ numbers ts
numbers_kept [] [] h = refl
numbers_kept [] (u ∷ us) h = absurd h
numbers_kept (t ∷ ts) [] h = absurd h
numbers_kept (t ∷ ts) (u ∷ us) h = ap₂ (λ (n : ℕ) (ns : List ℕ). n ∷ ns) (ap (λ (r : Receiving). next_number r.assembly) h.0) (numbers_kept ts us h.1)

-- a record has more than one byte, so no number is above that of the bytes
thread_below : (t : Receiving) (text : List ℕ) (records : List RedoRecord) → HasRead t text records → next_number t.assembly ≤ length text + 1
thread_below t text records h =
    let taken = map raw_of records ++ raws t.unread in
    let front = front_of t.assembly.refused first_mark text (taken ++ t.assembly.held) t.assembly.rest h.holds.stands in
    let many = bytes_many first_mark (taken ++ t.assembly.held) front.follow in
    let bytes = ap (λ (l : List ℕ). length l) front.spelled in
    let none = ap (λ (l : List Raw). length l) h.none_held in
    omega (arith, many, bytes, none, h.holds.count, length-append taken t.assembly.held, length-append (flat_map raw_bytes (taken ++ t.assembly.held)) front.tail)

threads_below : (n low most : ℕ) (texts : ℕ → List ℕ) (ts : List Receiving) (ps : List Part) → ((thread : ℕ) → length (texts thread) ≤ most) → ThreadsFrom n low texts ts ps → greatest (numbers ts) ≤ most + 1
threads_below n low most texts [] ps le h = omega arith
threads_below n low most texts (t ∷ ts) [] le h = absurd h
threads_below n low most texts (t ∷ ts) (p ∷ ps) le h = let ih = threads_below (n + 1) low most texts ts ps le h.1 in omega (arith, ih, thread_below t (texts n) (p.shown ++ p.more) h.0.read, le n)

-- the number of a next record is at most one more than the bytes of the longest text
pub number_below : (m : Merging) (texts : ℕ → List ℕ) (given : List LogEntry) (most : ℕ) → StandsFor m texts given → ((thread : ℕ) → length (texts thread) ≤ most) → highest_number m ≤ most + 1
number_below m texts given most s le = threads_below 1 (frontier (shown_of s.parts)) most texts m.threads s.parts le s.threads
