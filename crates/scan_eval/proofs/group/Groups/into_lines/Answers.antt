use Rattle.std.proofs.Common.{◌≡◌, List, [], ◌∷◌, ◌++◌, length, map, sym, ap, ◌∙◌, subst, arith}
use Rattle.std.specs.List.{AllByRecursion}
use Rattle.std.specs.Vec.Iter.{into_iter_items}
use Rattle.std.proofs.lemmas.List.{append-nil, nil_from_length}
use Rattle.std.proofs.lemmas.List.Elements.{recursion_from_All}
use Rattle.scan_eval.specs.declared.group.KeyPlace.{KeyPlace}
use Rattle.scan_eval.specs.declared.tally.Tally.{Tally}
use Rattle.scan_eval.proofs.GroupOrder.{HasLine, lines_at, lines_in_order, printed}
use Rattle.scan_eval.proofs.Writes.{taken_front, of_middle}
use Rattle.scan_eval.proofs.group.Groups.into_lines.Goals as goal

pub line_of-requires : goal.line_of-requires
line_of-requires c =
    let aggregates = c.args.aggregates.now in
    let g = c.args.self in
    let places = c.in_ok-places.places.items in
    let p = c.in-Some.place in
    let rest = into_iter_items c.next.new.self in
    let gives : into_iter_items c.into_iter-place-iterator.result ≡ places = c.into_iter-place-iterator.ensures.into_iter_gives.0 in
    let cut : places ≡ c.loop-place.yielded ++ p ∷ rest =
    sym gives
    ∙ taken_front c.into_iter-place-iterator.result c.loop-place.yielded c.loop-place.place-iterator c.loop-place.yielded_by
    ∙ ap (λ (l : List KeyPlace). c.loop-place.yielded ++ l) c.in-Some.ensures.steps.0 in
    let all = recursion_from_All (HasLine aggregates g) places (lines_at aggregates g places c.requires c.in_ok-places.ensures) in
    let here = of_middle (HasLine aggregates g) c.loop-place.yielded p rest (subst (AllByRecursion (HasLine aggregates g)) cut all) in
    let long = ap length c.as_slice-tallies.ensures.value in
    omega (arith, here.within, long)

pub returns : goal.returns
returns c =
    let aggregates = c.args.aggregates.now in
    let g = c.args.self in
    let places = c.in_ok-places.places.items in
    let gives : into_iter_items c.into_iter-place-iterator.result ≡ places = c.into_iter-place-iterator.ensures.into_iter_gives.0 in
    let left : into_iter_items c.loop-place.place-iterator ≡ [] = nil_from_length (into_iter_items c.loop-place.place-iterator) (sym c.loop-place.place-iterator.rest.ok.0 ∙ c.in-None.ensures.steps.0) in
    let whole : places ≡ c.loop-place.yielded =
    sym gives
    ∙ taken_front c.into_iter-place-iterator.result c.loop-place.yielded c.loop-place.place-iterator c.loop-place.yielded_by
    ∙ ap (λ (l : List KeyPlace). c.loop-place.yielded ++ l) left
    ∙ append-nil c.loop-place.yielded in
    c.from_vec.ensures
    ∙ c.loop-place.invariant
    ∙ ap (λ (ts : List Tally). map (printed aggregates ts) c.loop-place.yielded) c.as_slice-tallies.ensures.value
    ∙ ap (map (printed aggregates g.tallies.items)) (sym whole)
    ∙ lines_in_order aggregates g places c.requires c.in_ok-places.ensures
