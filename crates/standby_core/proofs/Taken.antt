-- What a worker takes of what an entry notes.
use Rattle.std.proofs.Common.{◌≡◌, ℕ, ◌+◌, ◌<◌, ◌≤◌, Bool, true, List, [], ◌∷◌, ◌++◌, Option, Some, None, refl, sym, ap, subst}
use Rattle.std.specs.List.{AllByRecursion}
use Rattle.adg_base.specs.Address.{Place}
use Rattle.adg_base.specs.Area.{Held}
use Rattle.adg_base.specs.declared.node.Node.{Node}
use Rattle.adg_base.specs.declared.node.DdlNode.{DdlNode}
use Rattle.adg_model.specs.declared.mined.Mined.{Mined}
use Rattle.adg_model.specs.declared.mined.Mined.TheVariants as mined
use Rattle.adg_journal.specs.Area.{places_of, is_begun, Sets, HoldsSame, IsArea}
use Rattle.adg_journal.specs.Places.{with_place}
use Rattle.scn_queue.specs.Queue as queue
use Rattle.core_rules.specs.Applying.{end_kind}
use Rattle.standby_core.specs.declared.worker.Worker.{Worker}
use Rattle.standby_core.specs.Mining.{IsBehind, TakesMined, StaysSame}
use Rattle.standby_core.proofs.Areas.{takes_begin, takes_note, takes_nothing}

append_none : {X : Type 0} (xs : List X) → xs ++ [] ≡ xs
append_none [] = refl
append_none (x ∷ xs) = ap (λ l. x ∷ l) (append_none xs)

module _ (scn pos : ℕ) (what : Option Mined) (old : Worker) (table : List DdlNode) (is : IsArea old.area) where
  pub took_begin : (txn : ℕ) (area : List Held) → what ≡ Some (mined.Begin txn) → IsArea area → Sets old.area area txn (Some (record { txn = txn; begun = true; places = places_of old.area txn }))
      → TakesMined scn pos what old (record old { area = area }) table table
  took_begin txn area e is' sets = subst (λ w. TakesMined scn pos w old (record old { area = area }) table table) (sym e)
      (record { share = refl; applied = refl; mined = refl; progress = refl; area = takes_begin old.area area is is' txn sets; is_area = is'; ends = sym (append_none old.ends); ddl = refl })

  pub took_note : (txn : ℕ) (at : Place) (area : List Held) → what ≡ Some (mined.Note txn at) → IsArea area
      → Sets old.area area txn (Some (record { txn = txn; begun = is_begun old.area txn; places = with_place at (places_of old.area txn) })) → TakesMined scn pos what old (record old { area = area }) table table
  took_note txn at area e is' sets = subst (λ w. TakesMined scn pos w old (record old { area = area }) table table) (sym e)
      (record { share = refl; applied = refl; mined = refl; progress = refl; area = takes_note old.area area is is' txn at sets; is_area = is'; ends = sym (append_none old.ends); ddl = refl })

  pub took_end : (txn : ℕ) (flag committed : Bool) (ends : List Node) → what ≡ Some (mined.End txn flag committed)
      → ends ≡ old.ends ++ record { scn = scn; pos = pos; txn = txn; complete = is_begun old.area txn; kind = end_kind flag committed } ∷ [] → TakesMined scn pos what old (record old { ends = ends }) table table
  took_end txn flag committed ends e is' = subst (λ w. TakesMined scn pos w old (record old { ends = ends }) table table) (sym e)
      (record {
        share = refl;
        applied = refl;
        mined = refl;
        progress = refl;
        area = takes_nothing (Some (mined.End txn flag committed)) old.area (λ t a h. absurd cc) (λ t h. absurd cc);
        is_area = is;
        ends = is';
        ddl = refl;
      })

  pub took_ddl : (obj : ℕ) (after : List DdlNode) → what ≡ Some (mined.Ddl obj) → after ≡ queue.entered (λ (n : DdlNode). n.scn) (record { scn = scn; obj = obj }) table → TakesMined scn pos what old old table after
  took_ddl obj after e is' = subst (λ w. TakesMined scn pos w old old table after) (sym e)
      (record {
        share = refl;
        applied = refl;
        mined = refl;
        progress = refl;
        area = takes_nothing (Some (mined.Ddl obj)) old.area (λ t a h. absurd cc) (λ t h. absurd cc);
        is_area = is;
        ends = sym (append_none old.ends);
        ddl = is';
      })

  pub took_none : what ≡ None → TakesMined scn pos what old old table table
  took_none e = subst (λ w. TakesMined scn pos w old old table table) (sym e)
      (record {
        share = refl;
        applied = refl;
        mined = refl;
        progress = refl;
        area = takes_nothing None old.area (λ t a h. absurd cc) (λ t h. absurd cc);
        is_area = is;
        ends = sym (append_none old.ends);
        ddl = refl;
      })

  -- where memory is wanting
  pub stays_area : (area : List Held) → IsArea area → HoldsSame old.area area → StaysSame old (record old { area = area })
  stays_area area is' same = record { share = refl; applied = refl; mined = refl; progress = refl; area = same; is_area = is'; ends = refl }

  pub stays_ends : (ends : List Node) → ends ≡ old.ends → StaysSame old (record old { ends = ends })
  stays_ends ends same = record { share = refl; applied = refl; mined = refl; progress = refl; area = λ t. refl; is_area = is; ends = same }

  pub stays_all : StaysSame old old
  stays_all = record { share = refl; applied = refl; mined = refl; progress = refl; area = λ t. refl; is_area = is; ends = refl }

-- ends that are behind by their SCNs and positions
pub behind_scns : (scn pos : ℕ) (ns : List Node) → IsBehind scn pos ns → AllByRecursion (λ (n : Node). n.scn ≤ scn) ns
behind_scns scn pos [] h = tt
behind_scns scn pos (n ∷ ns) h = (h.0.0, behind_scns scn pos ns h.1)

pub behind_places : (scn pos : ℕ) (ns : List Node) → IsBehind scn pos ns → AllByRecursion (λ (n : Node). n.pos < pos) ns
behind_places scn pos [] h = tt
behind_places scn pos (n ∷ ns) h = (h.0.1, behind_places scn pos ns h.1)

-- one more is mined
pub mined_more : (scn pos : ℕ) (what : Option Mined) (old new : Worker) (table table' : List DdlNode) → TakesMined scn pos what old new table table'
    → TakesMined scn pos what (record old { mined = old.mined + 1 }) (record new { mined = new.mined + 1 }) table table'
mined_more scn pos what old new table table' h =
    record { share = h.share; applied = h.applied; mined = ap (λ n. n + 1) h.mined; progress = h.progress; area = h.area; is_area = h.is_area; ends = h.ends; ddl = h.ddl }
