-- A row that no transaction changed between two SCNs is the same at both.
use Rattle.std.proofs.Common.{◌≡◌, ℕ, ◌<◌, ◌≤◌, Bool, true, false, nat_le, ◌==◌, ◌&&◌, if◌then◌else◌, List, [], ◌∷◌, ◌++◌, Option, Some, None, refl, sym, ap, ap₂, subst, ◌∙◌, arith, true≢false}
use Rattle.std.specs.List.{AllByRecursion, Contains, cons_option, list_any}
use Rattle.std.proofs.lemmas.Bool.Decides.{nat_tests}
use Rattle.std.proofs.lemmas.List.Elements.{Contains-append_right}
use Rattle.adg_base.specs.Address.{Place, place, same_place}
use Rattle.adg_base.specs.declared.value.Value.{Value}
use Rattle.adg_base.specs.declared.vector.Vector.{Vector}
use Rattle.adg_base.specs.declared.vector.Vector.TheVariants.{Begin, Put, Delete, Undo, Commit, Abort, Create, DropObject, AddColumn, NoInMemory, EndThread}
use Rattle.adg_base.specs.declared.log.LogEntry.{LogEntry}
use Rattle.adg_model.specs.Database.{commits, rows_at, touched_by, touched}
use Rattle.adg_model.proofs.LogLaws.{each_weaker}
use Rattle.row_blocks.specs.declared.version.Version.{Version}
use Rattle.row_blocks.specs.declared.version.End.{End}
use Rattle.row_blocks.specs.Pick.{Commits, candidate, later, counted, row_of, latest_by}
use Rattle.row_blocks.specs.Versions.{Deed, Makes, Strikes, stands, strike, deed_at, after_deed, versions_after, versions_of, end_by, earlier, end_of}
use Rattle.row_blocks.specs.Law.{commits_at}
use Rattle.adg_model.specs.Sound.{IsLog}
use Rattle.row_blocks.proofs.PickedLaw.{picked_is_committed}

contains_first : {X : Type 0} (x : X) (xs : List X) → Contains (x ∷ xs) x
contains_first x xs = (0, omega arith, refl)

contains_later : {X : Type 0} (y : X) (xs : List X) (x : X) → Contains xs x → Contains (y ∷ xs) x
contains_later y xs x c = Contains-append_right (y ∷ []) xs x c

-- ---- the entry of an end

is_equal : (n m : ℕ) → (n == m) ≡ true → n ≡ m
is_equal n m e = grind (arith, nat_tests)

-- an entry of a log that commits a transaction at an SCN
record CommitsAt (log : List LogEntry) (t scn : ℕ) : Type 0 where
  entry : LogEntry
  within : Contains log entry
  commits_it : commits t entry.vector ≡ true
  at : entry.scn ≡ scn

some_end : (x y : End) → Some x ≡ Some y → x ≡ y
some_end x y e = cc

none_some : (y : End) → None ≡ Some y → ⊥
none_some y e = cc

-- a vector that makes a committed end commits
end_commits : (t pos scn : ℕ) (v : Vector) (end : End) → end_by t pos scn v ≡ Some end → end.committed ≡ true → (commits t v ≡ true) × (scn ≡ end.scn)
end_commits t pos scn (Commit txn flag) end e c = by_txn (txn == t) refl
  where
    by_txn : (b : Bool) → (txn == t) ≡ b → ((txn == t) ≡ true) × (scn ≡ end.scn)
    by_txn true h = (h, ap (λ x. x.scn) (some_end (record { pos = pos; scn = scn; committed = true }) end (sym (ap (λ b. if b then Some (record { pos = pos; scn = scn; committed = true }) else None) h) ∙ e)))
    by_txn false h = absurd (none_some end (sym (ap (λ b. if b then Some (record { pos = pos; scn = scn; committed = true }) else None) h) ∙ e))
end_commits t pos scn (Abort txn) end e c = by_txn (txn == t) refl
  where
    by_txn : (b : Bool) → (txn == t) ≡ b → (false ≡ true) × (scn ≡ end.scn)
    by_txn true h = absurd (true≢false (sym c ∙ sym (ap (λ x. x.committed) (some_end (record { pos = pos; scn = scn; committed = false }) end (sym (ap (λ b. if b then Some (record { pos = pos; scn = scn; committed = false }) else None) h) ∙ e)))))
    by_txn false h = absurd (none_some end (sym (ap (λ b. if b then Some (record { pos = pos; scn = scn; committed = false }) else None) h) ∙ e))
end_commits t pos scn (Begin txn) end e c = absurd (none_some end e)
end_commits t pos scn (Put txn o b s row) end e c = absurd (none_some end e)
end_commits t pos scn (Delete txn o b s) end e c = absurd (none_some end e)
end_commits t pos scn (Undo txn o b s) end e c = absurd (none_some end e)
end_commits t pos scn (Create o x f columns) end e c = absurd (none_some end e)
end_commits t pos scn (DropObject o) end e c = absurd (none_some end e)
end_commits t pos scn (AddColumn o k) end e c = absurd (none_some end e)
end_commits t pos scn (NoInMemory o) end e c = absurd (none_some end e)
end_commits t pos scn EndThread end e c = absurd (none_some end e)

commit_of_end : (log : List LogEntry) (t : ℕ) (end : End) → end_of log t ≡ Some end → end.committed ≡ true → CommitsAt log t end.scn
commit_of_end [] t end e c = absurd (none_some end e)
commit_of_end (x ∷ log) t end e c = by_first (end_by t x.pos x.scn x.vector) refl (commit_of_end log t end)
  where
    by_first : (o : Option End) → end_by t x.pos x.scn x.vector ≡ o → (end_of log t ≡ Some end → end.committed ≡ true → CommitsAt log t end.scn) → CommitsAt (x ∷ log) t end.scn
    by_first None h rest =
        let r = rest (sym (ap (λ o. earlier o (end_of log t)) h) ∙ e) c in
        record { entry = r.entry; within = contains_later x log r.entry r.within; commits_it = r.commits_it; at = r.at }
    by_first (Some y) h rest =
        let is : y ≡ end = some_end y end (sym (ap (λ o. earlier o (end_of log t)) h) ∙ e) in
        let k = end_commits t x.pos x.scn x.vector end (h ∙ ap Some is) c in
        record { entry = x; within = contains_first x log; commits_it = k.0; at = k.1 }

-- ---- the versions at an address are of transactions that touched it

abbrev Touches : List LogEntry → Place → ℕ → Type 0
Touches log a t = Contains (touched t log) a

touches_later : (x : LogEntry) (log : List LogEntry) (a : Place) (t : ℕ) → Touches log a t → Touches (x ∷ log) a t
touches_later x log a t h = by_touch (touched_by t x.vector)
  where
    by_touch : (o : Option Place) → Contains (cons_option o (touched t log)) a
    by_touch None = h
    by_touch (Some b) = contains_later b (touched t log) a h

-- each entry of the log touches for its transaction what it touches
abbrev TouchesIn : List LogEntry → Place → LogEntry → Type 0
TouchesIn log a e = (t : ℕ) → touched_by t e.vector ≡ Some a → Touches log a t

each_touches : (log : List LogEntry) (a : Place) → AllByRecursion (TouchesIn log a) log
each_touches [] a = tt
each_touches (x ∷ log) a = (
  (λ t h. subst (λ o. Contains (cons_option o (touched t log)) a) (sym h) (contains_first a (touched t log))),
  each_weaker (TouchesIn log a) (TouchesIn (x ∷ log) a) (λ e k t h. touches_later x log a t (k t h)) log (each_touches log a),
)

abbrev AllTouch : List LogEntry → Place → List Version → Type 0
AllTouch log a vs = AllByRecursion (λ v. Touches log a v.txn) vs

all_push : (P : Version → Type 0) (vs : List Version) (v : Version) → AllByRecursion P vs → P v → AllByRecursion P (vs ++ v ∷ [])
all_push P [] v h k = (k, tt)
all_push P (w ∷ vs) v h k = (h.0, all_push P vs v h.1 k)

strike_touches : (log : List LogEntry) (a : Place) (t : ℕ) (vs : List Version) → AllTouch log a vs → AllTouch log a (strike t vs)
strike_touches log a t [] h = tt
strike_touches log a t (v ∷ vs) h = by_later (list_any (stands t) vs) (strike_touches log a t vs h.1)
  where
    by_later : (b : Bool) → AllTouch log a (strike t vs) → AllTouch log a (if b then v ∷ strike t vs else (if stands t v then record v { struck = true } ∷ vs else v ∷ vs))
    by_later true ih = (h.0, ih)
    by_later false ih = by_stands (stands t v)
      where
        by_stands : (b : Bool) → AllTouch log a (if b then record v { struck = true } ∷ vs else v ∷ vs)
        by_stands true = h
        by_stands false = h

same_is : (a b : Place) → same_place a b ≡ true → b ≡ a
same_is a b e = grind (arith, nat_tests)

some_deed : (x y : Deed) → Some x ≡ Some y → x ≡ y
some_deed x y e = cc

none_deed : (y : Deed) → None ≡ Some y → ⊥
none_deed y e = cc

makes_txn : (t u : ℕ) (r q : Option (List Value)) → Makes t r ≡ Makes u q → t ≡ u
makes_txn t u r q e = cc

strikes_apart : (t u : ℕ) (q : Option (List Value)) → Strikes t ≡ Makes u q → ⊥
strikes_apart t u q e = cc

same_itself : (t : ℕ) → (t == t) ≡ true
same_itself t = grind (arith, nat_tests)

-- what makes a version at an address touches it
deed_touches : (a : Place) (v : Vector) (t : ℕ) (row : Option (List Value)) → deed_at a v ≡ Some (Makes t row) → touched_by t v ≡ Some a
deed_touches a (Put txn o b s r) t row e = by_place (same_place a (place o b s)) refl
  where
    by_place : (x : Bool) → same_place a (place o b s) ≡ x → (if txn == t then Some (place o b s) else None) ≡ Some a
    by_place true h =
        let is : txn ≡ t = makes_txn txn t (Some r) row (some_deed (Makes txn (Some r)) (Makes t row) (sym (ap (λ x. if x then Some (Makes txn (Some r)) else None) h) ∙ e)) in
        ap (λ x. if x == t then Some (place o b s) else None) is ∙ ap (λ x. if x then Some (place o b s) else None) (same_itself t) ∙ ap Some (same_is a (place o b s) h)
    by_place false h = absurd (none_deed (Makes t row) (sym (ap (λ x. if x then Some (Makes txn (Some r)) else None) h) ∙ e))
deed_touches a (Delete txn o b s) t row e = by_place (same_place a (place o b s)) refl
  where
    by_place : (x : Bool) → same_place a (place o b s) ≡ x → (if txn == t then Some (place o b s) else None) ≡ Some a
    by_place true h =
        let is : txn ≡ t = makes_txn txn t None row (some_deed (Makes txn None) (Makes t row) (sym (ap (λ x. if x then Some (Makes txn None) else None) h) ∙ e)) in
        ap (λ x. if x == t then Some (place o b s) else None) is ∙ ap (λ x. if x then Some (place o b s) else None) (same_itself t) ∙ ap Some (same_is a (place o b s) h)
    by_place false h = absurd (none_deed (Makes t row) (sym (ap (λ x. if x then Some (Makes txn None) else None) h) ∙ e))
deed_touches a (Undo txn o b s) t row e = by_place (same_place a (place o b s)) refl
  where
    by_place : (x : Bool) → same_place a (place o b s) ≡ x → (if txn == t then Some (place o b s) else None) ≡ Some a
    by_place true h = absurd (strikes_apart txn t row (some_deed (Strikes txn) (Makes t row) (sym (ap (λ x. if x then Some (Strikes txn) else None) h) ∙ e)))
    by_place false h = absurd (none_deed (Makes t row) (sym (ap (λ x. if x then Some (Strikes txn) else None) h) ∙ e))
deed_touches a (Begin txn) t row e = absurd (none_deed (Makes t row) e)
deed_touches a (Commit txn flag) t row e = absurd (none_deed (Makes t row) e)
deed_touches a (Abort txn) t row e = absurd (none_deed (Makes t row) e)
deed_touches a (Create o x f columns) t row e = absurd (none_deed (Makes t row) e)
deed_touches a (DropObject o) t row e = absurd (none_deed (Makes t row) e)
deed_touches a (AddColumn o k) t row e = absurd (none_deed (Makes t row) e)
deed_touches a (NoInMemory o) t row e = absurd (none_deed (Makes t row) e)
deed_touches a EndThread t row e = absurd (none_deed (Makes t row) e)

after_touches : (log : List LogEntry) (a : Place) (vs : List Version) (e : LogEntry) → AllTouch log a vs → TouchesIn log a e → AllTouch log a (after_deed vs e.pos (deed_at a e.vector))
after_touches log a vs e all h = by_deed (deed_at a e.vector) refl
  where
    by_deed : (d : Option Deed) → deed_at a e.vector ≡ d → AllTouch log a (after_deed vs e.pos d)
    by_deed None k = all
    by_deed (Some (Makes t row)) k = all_push (λ v. Touches log a v.txn) vs (record { pos = e.pos; txn = t; row = row; struck = false }) all (h t (deed_touches a e.vector t row k))
    by_deed (Some (Strikes t)) k = strike_touches log a t vs all

versions_touch : (log : List LogEntry) (a : Place) (vs : List Version) (es : List LogEntry) → AllTouch log a vs → AllByRecursion (TouchesIn log a) es → AllTouch log a (versions_after a vs es)
versions_touch log a vs [] all h = all
versions_touch log a vs (e ∷ es) all h = versions_touch log a (after_deed vs e.pos (deed_at a e.vector)) es (after_touches log a vs e all h.0) h.1

-- ---- the pick is the same

same_pick : (c d : Commits) (vs : List Version) → AllByRecursion (λ v. c v.txn ≡ d v.txn) vs → latest_by c vs ≡ latest_by d vs
same_pick c d [] h = refl
same_pick c d (v ∷ vs) h = ap₂ (λ x y. later (candidate v x) y) h.0 (same_pick c d vs h.1)

-- no transaction that touched an address committed above s and at most q
abbrev pub IsUntouched : List LogEntry → ℕ → ℕ → Place → Type 0
IsUntouched log s q a = (t : ℕ) (e : LogEntry) → Contains log e → commits t e.vector ≡ true → s < e.scn → e.scn ≤ q → Contains (touched t log) a → ⊥

same_counted : (log : List LogEntry) (s q : ℕ) (a : Place) → s ≤ q → IsUntouched log s q a → (t : ℕ) → Touches log a t → counted q (end_of log t) ≡ counted s (end_of log t)
same_counted log s q a within none t touches = by_end (end_of log t) refl
  where
    by_end : (o : Option End) → end_of log t ≡ o → counted q o ≡ counted s o
    by_end None h = refl
    by_end (Some end) h = by_committed end.committed refl
      where
        by_committed : (b : Bool) → end.committed ≡ b → (if end.committed && nat_le end.scn q then Some end.pos else None) ≡ (if end.committed && nat_le end.scn s then Some end.pos else None)
        by_committed false c = ap (λ b. if b && nat_le end.scn q then Some end.pos else None) c ∙ sym (ap (λ b. if b && nat_le end.scn s then Some end.pos else None) c)
        by_committed true c = ap (λ b. if end.committed && b then Some end.pos else None) (by_scn (nat_le end.scn s) refl (nat_le end.scn q) refl)
          where
            by_scn : (x : Bool) → nat_le end.scn s ≡ x → (y : Bool) → nat_le end.scn q ≡ y → nat_le end.scn q ≡ nat_le end.scn s
            by_scn true k true l = l ∙ sym k
            by_scn false k false l = l ∙ sym k
            by_scn true k false l = absurd (grind (arith, nat_tests))
            by_scn false k true l =
                let m = commit_of_end log t end h c in
                let above : s < m.entry.scn = subst (λ n. s < n) (sym m.at) (grind (arith, nat_tests)) in
                let upto : m.entry.scn ≤ q = subst (λ n. n ≤ q) (sym m.at) (grind (arith, nat_tests)) in
                absurd (none t m.entry m.within m.commits_it above upto touches)

-- a row that no transaction touched which committed between two SCNs is the same at both
pub row_unchanged : (log : List LogEntry) (frontier s q : ℕ) (a : Place) → IsLog log frontier → s ≤ q → IsUntouched log s q a → rows_at log q a ≡ rows_at log s a
row_unchanged log frontier s q a is_log within none =
    let vs = versions_of log a in
    let all : AllTouch log a vs = versions_touch log a [] log tt (each_touches log a) in
    sym (picked_is_committed log frontier is_log q a)
    ∙ ap row_of (same_pick (commits_at log q) (commits_at log s) vs (each_weaker (λ v. Touches log a v.txn) (λ v. commits_at log q v.txn ≡ commits_at log s v.txn) (λ v h. same_counted log s q a within none v.txn h) vs all))
    ∙ picked_is_committed log frontier is_log s a
