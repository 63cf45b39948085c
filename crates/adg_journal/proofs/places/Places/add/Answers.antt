use Rattle.std.proofs.Common.{◌≡◌, ◌++◌, ◌∷◌, [], false, IfSome, ap, ◌∙◌, sym, subst}
use Rattle.std.specs.List.{list_any}
use Rattle.indexmap.specs.IndexSet.{insert_key}
use Rattle.adg_journal.specs.Places.{EachOnce, same_place}
use Rattle.adg_journal.proofs.Once.{pushed_once, key_last}
use Rattle.adg_journal.proofs.places.Places.add.Goals.{in-Some+in_ok-insert, in_default}
use Rattle.adg_journal.proofs.places.Places.add.Goals as goal

pub invariant_of-self-2 : goal.invariant_of-self-2
invariant_of-self-2 c =
    let old = c.self.inside.list.items in
    let at = c.args.addr in
    let new : list_any (same_place at) old ≡ false = ap (list_any (same_place at)) c.self.view_is ∙ c.requires in
    let room = ap (λ l. l ++ at ∷ []) c.in_ok-reserve.ensures.items in
    let pushed : c.push_reserved.new.self.items ≡ old ++ at ∷ [] = c.push_reserved.ensures.items ∙ elim c.match-self.branch [
      | in-Some+in_ok-insert w ↦ ap (λ s. s.list.items ++ at ∷ []) w.self-inside-is ∙ room
      | in_default w ↦ ap (λ s. s.list.items ++ at ∷ []) w.self-inside-is ∙ room
    ] in (
      subst EachOnce (sym pushed) (pushed_once at old c.self.invariant.0 new),
      elim c.match-self.branch [
        | in-Some+in_ok-insert w ↦ rw w.self-inside-is (
            let known : w.in-Some.index.value.keys ≡ old = subst (λ i. IfSome i (λ index. index.value.keys ≡ old)) w.in-Some.is c.self.invariant.1 in
            w.in_ok-insert.ensures.keys ∙ ap (λ i. insert_key same_place i.keys at) w.deref_mut.ensures.value ∙ ap (λ ks. insert_key same_place ks at) known ∙ key_last old at new ∙ sym pushed)
        | in_default w ↦ rw w.self-inside-is (rw w.in_default.is tt)
      ],
    )
