-- The picked version is the committed row, also where some later entries are there already.
use Rattle.std.proofs.Common.{◌≡◌, ℕ, ◌+◌, ◌<◌, ◌≤◌, Bool, true, false, cond, List, [], ◌∷◌, ◌++◌, filter, length, Option, Some, None, refl, sym, ap, ◌∙◌, true≢false, subst}
use Rattle.std.specs.List.{AllByRecursion}
use Rattle.std.specs.Option.{is_some}
use Rattle.std.proofs.lemmas.Option.{none-some}
use Rattle.std.proofs.lemmas.List.Elements.{filter-append}
use Rattle.adg_base.specs.Address.{Place}
use Rattle.adg_base.specs.declared.log.LogEntry.{LogEntry}
use Rattle.adg_model.specs.Database.{Database, no_database, after, walked, database, rows_at}
use Rattle.adg_model.specs.Sound.{SoundFrom, IsLog}
use Rattle.adg_model.proofs.LogLaws.{each_weaker}
use Rattle.row_blocks.specs.declared.version.Version.{Version}
use Rattle.row_blocks.specs.declared.version.End.{End}
use Rattle.row_blocks.specs.Pick.{Commits, counted, row_of, latest_by, picked_by}
use Rattle.row_blocks.specs.Versions.{Deed, Makes, Strikes, deed_at, after_deed, versions_after, versions_of, earlier, end_of, is_late}
use Rattle.row_blocks.specs.Law.{commits_at, PickedIsCommitted}
use Rattle.row_blocks.proofs.Picked.{latest_by_same, latest_by_push, latest_by_strike}
use Rattle.row_blocks.proofs.Walked.{IsTied, tied_walk, ends_after, ends_after_is, end_of_append, placed, Placed, Splits, splits, OfDeed, of_deed, end_of_above, late_counted, IsLateAt, late_walk}

-- the transactions of an entry's deed at an address do not count
abbrev pub Spares : Commits → Place → LogEntry → Type 0
Spares c a e = OfDeed (λ t. c t ≡ None) (deed_at a e.vector)

pub deed_keeps : (c : Commits) (vs : List Version) (pos : ℕ) (d : Option Deed) → OfDeed (λ t. c t ≡ None) d → latest_by c (after_deed vs pos d) ≡ latest_by c vs
deed_keeps c vs pos None h = refl
deed_keeps c vs pos (Some (Makes t row)) h = latest_by_push c vs _ h
deed_keeps c vs pos (Some (Strikes t)) h = latest_by_strike c t vs h

pub entries_keep : (c : Commits) (a : Place) (vs : List Version) (es : List LogEntry) → AllByRecursion (Spares c a) es → latest_by c (versions_after a vs es) ≡ latest_by c vs
entries_keep c a vs [] h = refl
entries_keep c a vs (e ∷ es) h = entries_keep c a (after_deed vs e.pos (deed_at a e.vector)) es h.1 ∙ deed_keeps c vs e.pos (deed_at a e.vector) h.0

pub versions_after_append : (a : Place) (vs : List Version) (xs ys : List LogEntry) → versions_after a vs (xs ++ ys) ≡ versions_after a (versions_after a vs xs) ys
versions_after_append a vs [] ys = refl
versions_after_append a vs (e ∷ xs) ys = versions_after_append a (after_deed vs e.pos (deed_at a e.vector)) xs ys

-- a test that each entry passes which does something at an address
abbrev pub Keeps : Place → (LogEntry → Bool) → LogEntry → Type 0
Keeps a f e = is_some (deed_at a e.vector) ≡ true → f e ≡ true

pub versions_after_filter : (a : Place) (f : LogEntry → Bool) (vs : List Version) (es : List LogEntry) → AllByRecursion (Keeps a f) es → versions_after a vs (filter f es) ≡ versions_after a vs es
versions_after_filter a f vs [] h = refl
versions_after_filter a f vs (e ∷ es) h = by_tests (f e) (deed_at a e.vector) refl refl (λ ws. versions_after_filter a f ws es h.1)
  where
    by_tests : (b : Bool) (d : Option Deed) → f e ≡ b → deed_at a e.vector ≡ d → ((ws : List Version) → versions_after a ws (filter f es) ≡ versions_after a ws es)
        → versions_after a vs (cond b (e ∷ filter f es) (filter f es)) ≡ versions_after a (after_deed vs e.pos d) es
    by_tests true d k g ih = ih (after_deed vs e.pos (deed_at a e.vector)) ∙ ap (λ x. versions_after a (after_deed vs e.pos x) es) g
    by_tests false None k g ih = ih vs
    by_tests false (Some d) k g ih = absurd (true≢false (sym (h.0 (ap is_some g)) ∙ k))

pub each_and : {X : Type 0} (P Q R : X → Type 0) (xs : List X) → ((x : X) → P x → Q x → R x) → AllByRecursion P xs → AllByRecursion Q xs → AllByRecursion R xs
each_and P Q R [] f h k = tt
each_and P Q R (x ∷ xs) f h k = (f x h.0 k.0, each_and P Q R xs f h.1 k.1)

pub each_filter : {X : Type 0} (P : X → Type 0) (f : X → Bool) (xs : List X) → AllByRecursion P xs → AllByRecursion P (filter f xs)
each_filter P f [] h = tt
each_filter P f (x ∷ xs) h = by_test (f x) (each_filter P f xs h.1)
  where
    by_test : (b : Bool) → AllByRecursion P (filter f xs) → AllByRecursion P (cond b (x ∷ filter f xs) (filter f xs))
    by_test true ih = (h.0, ih)
    by_test false ih = ih

pub each_parts : {X : Type 0} (P : X → Type 0) (xs ys : List X) → AllByRecursion P (xs ++ ys) → AllByRecursion P xs × AllByRecursion P ys
each_parts P [] ys h = (tt, h)
each_parts P (x ∷ xs) ys h = let r = each_parts P xs ys h.1 in ((h.0, r.0), r.1)

pub sound_parts : (db : Database) (xs ys : List LogEntry) → SoundFrom db (xs ++ ys) → SoundFrom db xs
sound_parts db [] ys h = tt
sound_parts db (e ∷ xs) ys h = (h.0, h.1, sound_parts (after db e.vector) xs ys h.2)

pub placed_parts : (pos : ℕ) (xs ys : List LogEntry) → Placed pos (xs ++ ys) → Placed pos xs
placed_parts pos [] ys h = tt
placed_parts pos (e ∷ xs) ys h = (h.0, placed_parts (pos + 1) xs ys h.1)

-- the deeds above an SCN are of transactions without an end up to it
pub late_deeds : (log : List LogEntry) (frontier : ℕ) → IsLog log frontier → (q : ℕ) (a : Place)
    → AllByRecursion (λ e. q < e.scn → OfDeed (λ t. is_late q (end_of log t) ≡ true) (deed_at a e.vector)) log
late_deeds log frontier h q a =
    each_weaker (IsLateAt a q (ends_after (λ t. None) log)) _
    (λ e k above. of_deed _ _ (deed_at a e.vector) (λ t. λ late. sym (ap (is_late q) (ends_after_is (λ u. None) log t)) ∙ late) (k above))
    log (late_walk a q 1 frontier no_database (λ t. None) log h.sound (λ t. refl) h.scns)

-- The law, with the versions that some of the entries make: all that do something at the address up to q,
-- and any others.
pub picked_of_some : (log : List LogEntry) (frontier : ℕ) → IsLog log frontier → (q : ℕ) (a : Place) (f : LogEntry → Bool)
    → AllByRecursion (λ e. e.scn ≤ q → Keeps a f e) log
    → picked_by (commits_at log q) (versions_of (filter f log) a) ≡ rows_at log q a
unfolding database
picked_of_some log frontier h q a f keeps =
    ap row_of (latest_parts ∙ latest_low) ∙ sym tied.row ∙ sym (ap (λ es. (walked no_database es).rows a) s.upto)
  where
    s : Splits q log
    s = splits q 1 frontier log h.scns

    tied : IsTied a q (walked no_database s.low) (versions_after a [] s.low) (ends_after (λ t. None) s.low) (0 + length s.low)
    tied = tied_walk a q no_database [] (λ t. None) 0 s.low (record { row = refl; pending = λ t k. refl; ended = λ t. refl; below = λ t e k. absurd (none-some e k); rising = tt; before = tt })
        (sound_parts no_database s.low s.high (subst (SoundFrom no_database) s.whole h.sound))
        (placed_parts 0 s.low s.high (subst (Placed 0) s.whole (placed 0 log h.places)))
        s.are_low

    -- the ends above q do not count
    same_commits : (t : ℕ) → commits_at log q t ≡ counted q (ends_after (λ u. None) s.low t)
    same_commits t =
        ap (λ es. counted q (end_of es t)) s.whole ∙ ap (counted q) (end_of_append s.low s.high t)
        ∙ by_end (end_of s.low t) ∙ sym (ap (counted q) (ends_after_is (λ u. None) s.low t))
      where
        by_end : (x : Option End) → counted q (earlier x (end_of s.high t)) ≡ counted q x
        by_end None = late_counted q (end_of s.high t) (end_of_above q t s.high s.are_high)
        by_end (Some e) = refl

    low_keeps : AllByRecursion (Keeps a f) s.low
    low_keeps = each_and _ _ (Keeps a f) s.low (λ e k l. k l) (each_parts _ s.low s.high (subst (AllByRecursion (λ e. e.scn ≤ q → Keeps a f e)) s.whole keeps)).0 s.are_low

    high_spares : AllByRecursion (Spares (commits_at log q) a) s.high
    high_spares =
        each_and _ _ (Spares (commits_at log q) a) s.high (λ e k l. of_deed _ _ (deed_at a e.vector) (λ t. late_counted q (end_of log t)) (k l))
        (each_parts _ s.low s.high (subst (AllByRecursion (λ e. q < e.scn → OfDeed (λ t. is_late q (end_of log t) ≡ true) (deed_at a e.vector))) s.whole (late_deeds log frontier h q a))).1 s.are_high

    latest_parts : latest_by (commits_at log q) (versions_of (filter f log) a) ≡ latest_by (commits_at log q) (versions_after a [] s.low)
    latest_parts =
        ap (λ es. latest_by (commits_at log q) (versions_of es a)) (ap (filter f) s.whole ∙ filter-append f s.low s.high)
        ∙ ap (latest_by (commits_at log q)) (versions_after_append a [] (filter f s.low) (filter f s.high))
        ∙ entries_keep (commits_at log q) a (versions_after a [] (filter f s.low)) (filter f s.high) (each_filter (Spares (commits_at log q) a) f s.high high_spares)
        ∙ ap (latest_by (commits_at log q)) (versions_after_filter a f [] s.low low_keeps)

    latest_low : latest_by (commits_at log q) (versions_after a [] s.low) ≡ latest_by (λ t. counted q (ends_after (λ u. None) s.low t)) (versions_after a [] s.low)
    latest_low = latest_by_same _ _ same_commits (versions_after a [] s.low)

filter_all : {X : Type 0} (xs : List X) → filter (λ x. true) xs ≡ xs
filter_all [] = refl
filter_all (x ∷ xs) = ap (λ l. x ∷ l) (filter_all xs)

pub picked_is_committed : PickedIsCommitted
picked_is_committed log frontier h q a =
    ap (λ es. picked_by (commits_at log q) (versions_of es a)) (sym (filter_all log))
    ∙ picked_of_some log frontier h q a (λ e. true) (everywhere log)
  where
    everywhere : (es : List LogEntry) → AllByRecursion (λ e. e.scn ≤ q → Keeps a (λ x. true) e) es
    everywhere [] = tt
    everywhere (e ∷ es) = (λ k l. refl, everywhere es)
