-- Lemmas on the slots of a block, and on the blocks of a shard.
use Rattle.std.proofs.Common.{◌≡◌, ℕ, ◌==◌, nat_eq, Bool, true, false, cond, ◌&&◌, List, [], slice_index_or, Option, Some, None, refl, sym, ap, ap₂, ◌∙◌, arith}
use Rattle.std.proofs.lemmas.Bool.{eqb-true}
use Rattle.std.proofs.lemmas.Bool.Decides.{nat_tests}
use Rattle.adg_base.specs.Address.{Place, place, same_place}
use Rattle.adg_base.specs.declared.vector.Vector.TheVariants.{Undo}
use Rattle.adg_base.specs.declared.log.LogEntry.{LogEntry}
use Rattle.row_blocks.specs.declared.version.Version.{Version}
use Rattle.row_blocks.specs.Versions.{Deed, Strikes, deed_at, after_deed, end_by, earlier}
use Rattle.row_blocks.specs.Block.{SetsSlot}
use Rattle.row_blocks.specs.Shard.{same_block, at_slot, DoesAt}
use Rattle.row_blocks.specs.Stands.{Kept, SameKept, with_entry}
use Rattle.row_blocks.proofs.Walked.{earlier_none}

-- blocks by their key, before and after a deed at one slot of one block
abbrev pub Blocks : Type 0
Blocks = ℕ × ℕ → Option (List (List Version))

abbrev pub SetsBlock : ℕ × ℕ → Blocks → Blocks → List (List Version) → Type 0
SetsBlock k old new slots = (q : ℕ × ℕ) → new q ≡ cond (same_block k q) (Some slots) (old q)

pub deed_in_slot : (o b s pos : ℕ) (d : Deed) (old new : Blocks) (slots : List (List Version)) → SetsBlock (o, b) old new slots
    → ((n : ℕ) → slice_index_or slots n [] ≡ cond (n == s) (after_deed (at_slot (old (o, b)) s) pos (Some d)) (at_slot (old (o, b)) n))
    → (a : Place) → at_slot (new (a.obj, a.block)) a.slot ≡ after_deed (at_slot (old (a.obj, a.block)) a.slot) pos (cond (same_place a (place o b s)) (Some d) None)
deed_in_slot o b s pos d old new slots sets at a =
    ap (λ x. at_slot x a.slot) (sets (a.obj, a.block)) ∙ by_block (nat_eq o a.obj && nat_eq b a.block) refl
  where
    by_block : (x : Bool) → (nat_eq o a.obj && nat_eq b a.block) ≡ x
        → at_slot (cond x (Some slots) (old (a.obj, a.block))) a.slot ≡ after_deed (at_slot (old (a.obj, a.block)) a.slot) pos (cond (same_place a (place o b s)) (Some d) None)
    by_block false h =
        let n : same_place a (place o b s) ≡ false = grind (arith, nat_tests) in
        rw n refl
    by_block true h =
        let eo : o ≡ a.obj = grind (arith, nat_tests) in
        let eb : b ≡ a.block = grind (arith, nat_tests) in
        let same : same_place a (place o b s) ≡ (a.slot == s) = grind (arith, nat_tests) in
        at a.slot ∙ by_slot (a.slot == s) refl
        ∙ ap₂ (λ x y. after_deed (at_slot (old (x, y)) a.slot) pos (cond (a.slot == s) (Some d) None)) eo eb
        ∙ ap (λ t. after_deed (at_slot (old (a.obj, a.block)) a.slot) pos (cond t (Some d) None)) (sym same)
      where
        by_slot : (y : Bool) → (a.slot == s) ≡ y
            → cond y (after_deed (at_slot (old (o, b)) s) pos (Some d)) (at_slot (old (o, b)) a.slot) ≡ after_deed (at_slot (old (o, b)) a.slot) pos (cond y (Some d) None)
        by_slot true e = ap (λ n. after_deed (at_slot (old (o, b)) n) pos (Some d)) (sym (eqb-true a.slot s e))
        by_slot false e = refl

-- the same block put back
pub same_slots : (k : ℕ × ℕ) (old new : Blocks) (slots : List (List Version)) → SetsBlock k old new slots → old k ≡ Some slots → (q : ℕ × ℕ) → new q ≡ old q
same_slots k old new slots sets found q = sets q ∙ by_block (same_block k q) refl
  where
    by_block : (x : Bool) → same_block k q ≡ x → cond x (Some slots) (old q) ≡ old q
    by_block false h = refl
    by_block true h =
        let e0 : k.0 ≡ q.0 = grind (arith, nat_tests) in
        let e1 : k.1 ≡ q.1 = grind (arith, nat_tests) in
        sym found ∙ ap₂ (λ x y. old (x, y)) e0 e1

-- a slot of a block that is known, and of a fresh one, after a deed
pub AtSlot : ℕ × ℕ → Blocks → ℕ → ℕ → Deed → List (List Version) → Type 0
AtSlot k old s pos d slots = (n : ℕ) → slice_index_or slots n [] ≡ cond (n == s) (after_deed (at_slot (old k) s) pos (Some d)) (at_slot (old k) n)

pub known_slot : (k : ℕ × ℕ) (old : Blocks) (s pos : ℕ) (d : Deed) (known slots : List (List Version)) (versions : List Version)
    → old k ≡ Some known → SetsSlot known slots s versions → versions ≡ after_deed (slice_index_or known s []) pos (Some d) → AtSlot k old s pos d slots
unfolding AtSlot
known_slot k old s pos d known slots versions found sets e n =
    sets n ∙ ap (λ vs. cond (n == s) vs (slice_index_or known n [])) e
    ∙ ap (λ x. cond (n == s) (after_deed (at_slot x s) pos (Some d)) (at_slot x n)) (sym found)

pub fresh_slot : (k : ℕ × ℕ) (old : Blocks) (s pos : ℕ) (d : Deed) (fresh slots : List (List Version)) (versions : List Version)
    → old k ≡ None → ((n : ℕ) → slice_index_or fresh n [] ≡ []) → SetsSlot fresh slots s versions → versions ≡ after_deed (slice_index_or fresh s []) pos (Some d) → AtSlot k old s pos d slots
unfolding AtSlot
fresh_slot k old s pos d fresh slots versions missing none sets e n =
    sets n ∙ ap₂ (λ vs x. cond (n == s) vs x) (e ∙ ap (λ vs. after_deed vs pos (Some d)) (none s)) (none n)
    ∙ ap (λ x. cond (n == s) (after_deed (at_slot x s) pos (Some d)) (at_slot x n)) (sym missing)

-- a deed in one slot, for the shard
pub does_at : (old new : Kept) (o b s pos : ℕ) (d : Deed) (before after : Blocks) (slots : List (List Version))
    → new.number ≡ old.number → new.applied ≡ old.applied → ((t : ℕ) → new.ends t ≡ old.ends t)
    → ((a : Place) → old.versions a ≡ at_slot (before (a.obj, a.block)) a.slot) → ((a : Place) → new.versions a ≡ at_slot (after (a.obj, a.block)) a.slot)
    → SetsBlock (o, b) before after slots → AtSlot (o, b) before s pos d slots → DoesAt old new (place o b s) pos d
unfolding AtSlot
does_at old new o b s pos d before after slots number applied ends was is sets at = record {
  number = number;
  applied = applied;
  versions = λ a k. is a ∙ deed_in_slot o b s pos d before after slots sets at a
      ∙ ap (λ vs. after_deed vs pos (cond (same_place a (place o b s)) (Some d) None)) (sym (was a));
  ends = ends;
}

-- a version that is not struck
pub not_struck : (v : Version) → v.struck ≡ false → ◌≡◌ {A = Version} v (record { pos = v.pos; txn = v.txn; row = v.row; struck = false })
not_struck v h = ap (λ b. record v { struck = b }) h

-- a strike is what an Undo makes of a shard
pub strikes_entry : (old new : Kept) (e : LogEntry) (t o b s : ℕ) → e.vector ≡ Undo t o b s → DoesAt old new (place o b s) e.pos (Strikes t) → SameKept new (with_entry old e)
strikes_entry old new e t o b s is h = record {
  number = h.number;
  applied = h.applied;
  versions = λ a k. h.versions a k ∙ ap (λ v. after_deed (old.versions a) e.pos (deed_at a v)) (sym is);
  ends = λ u. h.ends u ∙ sym (earlier_none (old.ends u)) ∙ ap (λ v. earlier (old.ends u) (end_by u e.pos e.scn v)) (sym is);
}
