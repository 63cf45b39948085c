use Rattle.std.proofs.Common.{◌≡◌, Bool, true, false, cond, List, [], ◌∷◌, ◌++◌, refl, sym, ap, ◌∙◌, subst}
use Rattle.std.specs.List.{list_all}
use Rattle.std.proofs.lemmas.List.{append-nil}
use Rattle.std.proofs.lemmas.List.Elements.{filter-append}
use Rattle.adg_base.specs.declared.command.Condition.{Condition}
use Rattle.adg_base.specs.declared.value.Value.{Value}
use Rattle.adg_model.specs.Query.{meets, filtered}
use Rattle.scan_eval.specs.Gathered.{Gathers}
use Rattle.scan_eval.specs.declared.accumulator.Accumulator.TheInside.{Inside}
use Rattle.scan_eval.proofs.accumulator.Accumulator.add.Goals as goal
use Rattle.scan_eval.proofs.accumulator.Accumulator.add.Goals.{then-meets_all+in-Ok, else-meets_all}

-- the rows that meet the conditions, with one row more
filtered_more : (conditions : List Condition) (rows : List (List Value)) (row : List Value) (b : Bool) → b ≡ list_all (meets row) conditions → filtered conditions (rows ++ row ∷ []) ≡ cond b (filtered conditions rows ++ row ∷ []) (filtered conditions rows)
filtered_more conditions rows row b e =
    filter-append (λ r. list_all (meets r) conditions) rows (row ∷ [])
    ∙ ap (λ (x : Bool). filtered conditions rows ++ cond x (row ∷ []) []) (sym e)
    ∙ by_test b
  where
    by_test : (b : Bool) → filtered conditions rows ++ cond b (row ∷ []) [] ≡ cond b (filtered conditions rows ++ row ∷ []) (filtered conditions rows)
    by_test true = refl
    by_test false = append-nil (filtered conditions rows)

-- what an accumulator keeps of its rows and one more
abbrev Keeps : List Value → List (List Value) → Inside → Type 0
Keeps row rows a = Gathers a.select (filtered a.select.conditions rows) a.gathered

abbrev After : List Value → Inside → Type 0
After row a = Gathers a.select (filtered a.select.conditions (a.seen.rows ++ row ∷ [])) a.gathered

after_all : (row : List Value) (rows : List (List Value)) (a : Inside) → rows ≡ a.seen.rows ++ row ∷ [] → After row a → Keeps row rows a
after_all row rows a e told = subst (λ (rs : List (List Value)). Keeps row rs a) (sym e) told

pub invariant_of-self-2 : goal.invariant_of-self-2
invariant_of-self-2 g c =
    let row = g.R.RowView.values c.args.row.now in
    let was = c.self.inside in
    let select = was.select in
    let now = c.if-meets_all.self-inside in
    after_all row c.of-self-inside.result.rows now c.of-self-inside.ensures (elim c.if-meets_all.branch [
      | then-meets_all+in-Ok w ↦
          let met = w.if-meets_all.ensures ∙ ap (list_all (meets row)) c.as_slice.ensures in
          let more = subst (λ (kept : List (List Value)). Gathers select kept w.add.new.self) (sym (filtered_more select.conditions was.seen.rows row true met)) w.in-Ok.ensures in
          subst (After row) (sym w.self-inside-is) more
      | else-meets_all w ↦
          let met = w.if-meets_all.ensures ∙ ap (list_all (meets row)) c.as_slice.ensures in
          let more = subst (λ (kept : List (List Value)). Gathers select kept was.gathered) (sym (filtered_more select.conditions was.seen.rows row false met)) c.self.invariant in
          subst (After row) (sym w.self-inside-is) more
    ])
