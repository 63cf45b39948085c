-- The entries that wait over all threads, and giving the first of them.
use Rattle.std.specs.Prelude.{◌≡◌, ℕ, ◌+◌, ◌<◌, ◌≤◌, true, nat_le, nat_lt, if◌then◌else◌, List, [], ◌∷◌, length, get_or, map, filter, sum_by, min, Option, None, Some}
use Rattle.std.specs.List.{flat_map, AllByRecursion, AllZip}
use Rattle.adg_base.specs.declared.log.LogEntry.{LogEntry}
use Rattle.adg_model.specs.Records.{Mark}
use Rattle.adg_model.specs.Log.{comes_before, in_order, numbered, upto, is_open, scns_of, or_greatest}
use Rattle.log_merger.specs.Thread.{Receiving}

-- what waits, thread by thread
abbrev pub all_waiting : List Receiving → List LogEntry
all_waiting threads = flat_map (λ t. t.waiting) threads

-- the entries above an SCN
abbrev pub above : ℕ → List LogEntry → List LogEntry
above scn entries = filter (λ e. nat_lt scn e.scn) entries

-- where the threads stand, and the frontier there
abbrev pub marks_of : List Receiving → List Mark
marks_of threads = map (λ t. t.mark) threads

abbrev pub frontier_of : List Mark → ℕ
frontier_of marks = or_greatest (scns_of (filter is_open marks)) (scns_of marks)

-- the lesser of a number and the least so far
abbrev pub least_with : Option ℕ → ℕ → ℕ
least_with None n = n
least_with (Some m) n = min m n

-- each entry comes before all that follow it
abbrev pub Rises : List LogEntry → Type 0
Rises [] = Unit {0}
Rises (e ∷ es) = AllByRecursion (λ x. comes_before e x ≡ true) es × Rises es

-- the entries of each thread from one on are its own, and in order
abbrev pub AreQueues : ℕ → List Receiving → Type 0
AreQueues thread [] = Unit {0}
AreQueues thread (t ∷ ts) = Rises t.waiting × AllByRecursion (λ e. e.thread ≡ thread) t.waiting × AreQueues (thread + 1) ts

-- how many entries at the front are at most an SCN
abbrev pub count_upto : ℕ → List LogEntry → ℕ
count_upto scn [] = 0
count_upto scn (e ∷ es) = if nat_le e.scn scn then count_upto scn es + 1 else 0

abbrev pub count_all : ℕ → List Receiving → ℕ
count_all scn threads = sum_by (λ t. count_upto scn t.waiting) threads

-- the SCN of the first entry, or this number where there is none
abbrev pub first_scn : ℕ → List LogEntry → ℕ
first_scn none [] = none
first_scn none (e ∷ es) = e.scn

abbrev pub first_scns : ℕ → List Receiving → List ℕ
first_scns none threads = map (λ t. first_scn none t.waiting) threads

-- The first of the least of some numbers that are below a limit, where one is.
abbrev pub IsFirstLeast : ℕ → List ℕ → Option ℕ → Type 0
IsFirstLeast limit numbers None = (k : ℕ) → k < length numbers → limit ≤ get_or numbers k 0
IsFirstLeast limit numbers (Some i) =
    (i < length numbers) × (get_or numbers i 0 < limit) × ((k : ℕ) → k < length numbers → get_or numbers i 0 ≤ get_or numbers k 0)
    × ((k : ℕ) → k < i → get_or numbers i 0 < get_or numbers k 0)

-- only what waits has changed
abbrev pub KeepsRest : Receiving → Receiving → Type 0
KeepsRest old new = new ≡ record old { waiting = new.waiting }

-- The first entry that waits up to an SCN was taken from among them.
pub record TakesFirst (scn : ℕ) (old new : List Receiving) (entry : LogEntry) : Type 0 where
  pub first : in_order (upto scn (all_waiting old)) ≡ entry ∷ in_order (upto scn (all_waiting new))
  pub queues : AreQueues 1 new
  pub later : AllZip (λ o n. above scn n.waiting ≡ above scn o.waiting) old new

-- what taking the first entry gives, or that none waits
abbrev pub TakesNext : ℕ → List Receiving → List Receiving → Option LogEntry → Type 0
TakesNext scn old new None = (new ≡ old) × (upto scn (all_waiting old) ≡ [])
TakesNext scn old new (Some entry) = TakesFirst scn old new entry

-- All entries that waited up to an SCN were given, in order and with positions from one on, and the
-- others wait.
pub record TakesAll (scn first : ℕ) (old new : List Receiving) (entries : List LogEntry) : Type 0 where
  pub given : entries ≡ numbered first (in_order (upto scn (all_waiting old)))
  pub later : AllZip (λ o n. n.waiting ≡ above scn o.waiting) old new
