use Rattle.std.proofs.Common.{◌≡◌, ℕ, ◌<◌, ◌+◌, ◌^◌, ◌++◌, List, length, map, take, drop, get_or, set, ◌∙◌, ap, ap₂, sym, subst, arith}
use Rattle.std.specs.List.{AllZip, zip}
use Rattle.std.proofs.lemmas.List.{take_all, drop_all, append-nil}
use Rattle.std.proofs.lemmas.List.Elements.{AllZip-get_or}
use Rattle.std.proofs.lemmas.Slice.Zip.{AllZip-long}
use Rattle.scan_eval.specs.declared.tally.Tally.{Tally}
use Rattle.scan_eval.specs.Tally.{with_tally, size_of}
use Rattle.scan_eval.proofs.Writes.{after_front, front_more, zip_front, length_zip_front}
use Rattle.scan_eval.proofs.tally.join_all.Goals as goal

abbrev both : Tally × Tally → Tally
both p = with_tally p.0 p.1

abbrev Fits : Tally → Tally → Type 0
Fits t u = size_of t + size_of u < 2 ^ 64

-- the element at the place where the loop stands is as it was
unwritten : (all others now : List Tally) (i : ℕ) (t : Tally) → AllZip Fits all others → i < length all → now ≡ map both (zip (take i all) (take i others)) ++ drop i all → get_or now i t ≡ get_or all i t
unwritten all others now i t fits within inv =
    let long = AllZip-long Fits all others fits in
    ap (λ (ts : List Tally). get_or ts i t) inv
    ∙ after_front (map both (zip (take i all) (take i others))) all i t (length_zip_front both all others i (omega (arith, within)) (omega (arith, within, long)))

written : (all others now : List Tally) (i : ℕ) (t u : Tally) → AllZip Fits all others → i < length all → now ≡ map both (zip (take i all) (take i others)) ++ drop i all → t ≡ get_or now i t → u ≡ get_or others i u → set now i (with_tally (get_or now i t) u) ≡ map both (zip (take (i + 1) all) (take (i + 1) others)) ++ drop (i + 1) all
written all others now i t u fits within inv is is' =
    let long = AllZip-long Fits all others fits in
    let here = unwritten all others now i t fits within inv in
    let front = map both (zip (take i all) (take i others)) in
    let y = both (get_or all i t, get_or others i u) in
    ap₂ (λ (ts : List Tally) (x : Tally). set ts i x) inv (ap₂ with_tally here is')
    ∙ front_more front all i y (length_zip_front both all others i (omega (arith, within)) (omega (arith, within, long))) within
    ∙ ap (λ (l : List Tally). l ++ drop (i + 1) all) (sym (zip_front both all others i t u within (omega (arith, within, long))))

pub join-requires : goal.join-requires
join-requires c =
    let i = c.loop-index.index in
    let t = c.index-tallies-index.result in
    let u = c.index-others-index.result in
    let here = unwritten c.args.tallies.now c.args.others.now c.loop-index.tallies i t c.requires c.loop-index-test.true c.loop-index.invariant in
    let fits = AllZip-get_or Fits c.args.tallies.now c.args.others.now i t u c.requires c.loop-index-test.true in
    subst (λ (a : Tally). size_of a + size_of u < 2 ^ 64) (sym here) (subst (λ (b : Tally). size_of (get_or c.args.tallies.now i t) + size_of b < 2 ^ 64) (sym c.index-others-index.is) fits)

pub loop-index-preserved : goal.loop-index-preserved
loop-index-preserved c =
    let i = c.loop-index.index in
    ap (λ (x : Tally). set c.loop-index.tallies i x) c.in_ok-join.ensures
    ∙ written c.args.tallies.now c.args.others.now c.loop-index.tallies i c.index-tallies-index.result c.index-others-index.result c.requires c.loop-index-test.true c.loop-index.invariant c.index-tallies-index.is c.index-others-index.is

pub returns : goal.returns
returns c =
    let i = c.loop-index.index in
    let all = c.args.tallies.now in
    let others = c.args.others.now in
    let long = AllZip-long Fits all others c.requires in
    c.loop-index.invariant
    ∙ ap (λ (l : List Tally). map both (zip (take i all) (take i others)) ++ l) (drop_all i all c.loop-index-test.false)
    ∙ append-nil (map both (zip (take i all) (take i others)))
    ∙ ap₂ (λ (a b : List Tally). map both (zip a b)) (take_all i all c.loop-index-test.false) (take_all i others (omega (arith, long, c.loop-index-test.false)))
