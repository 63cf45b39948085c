-- Worklinks that are full, and one more.
use Rattle.std.proofs.Common.{◌≡◌, ℕ, ◌≤◌, ◌<◌, ◌-◌, min, List, [], ◌∷◌, ◌++◌, length, map, take, drop, sym, ap, ◌∙◌, subst, append_assoc, append-nil, arith, length-drop}
use Rattle.std.specs.List.{AllByRecursion, flat_map}
use Rattle.std.proofs.lemmas.List.{map-append, take-append-drop, length-take-le}
use Rattle.std.proofs.lemmas.Grind.{flat_map-append}
use Rattle.adg_base.specs.declared.node.Item.{Item}
use Rattle.adg_model.proofs.LogLaws.{each_append}
use Rattle.worklinks.specs.Chopped.{AreFull, IsReady}
use Rattle.worklinks.specs.declared.worklink.Worklink.{Worklink}

abbrev pub items_in : List Worklink → List (List Item)
items_in links = map (λ link. link.items) links

-- each part has 64 items
abbrev pub AreWhole : List (List Item) → Type 0
AreWhole parts = AllByRecursion (λ part. length part ≡ 64) parts

AreFull-push : (parts : List (List Item)) (part : List Item) → AreWhole parts → 1 ≤ length part → length part ≤ 64 → AreFull (parts ++ part ∷ [])
AreFull-push [] part h some most = (some, most)
AreFull-push (p ∷ []) part h some most = (h.0, (some, most))
AreFull-push (p ∷ q ∷ ps) part h some most = (h.0, AreFull-push (q ∷ ps) part h.1 some most)

-- the worklinks made so far, the items that are left, and all of them
abbrev pub SoFar : ℕ → List Worklink → List Item → List Item → Type 0
SoFar workers links rest all = record {
  items : flat_map (λ link. link.items) links ++ rest ≡ all;
  whole : 0 < length rest → AreWhole (items_in links);
  full : AreFull (items_in links);
  ready : AllByRecursion (IsReady workers) links;
}

pub SoFar-more : (workers : ℕ) (links : List Worklink) (rest later all : List Item) (link : Worklink) (n : ℕ)
    → SoFar workers links rest all → 0 < length rest → n ≡ min (length rest) 64 → link.items ≡ take n rest → later ≡ drop n rest → IsReady workers link
    → SoFar workers (links ++ link ∷ []) later all
SoFar-more workers links rest later all link n so_far some is front back ready =
    let long : length link.items ≡ n = ap length front ∙ length-take-le n rest (omega arith) in
    let less : length later ≡ length rest - n = ap length back ∙ length-drop n rest in
    let parts : items_in (links ++ link ∷ []) ≡ items_in links ++ link.items ∷ [] = map-append (λ (l : Worklink). l.items) links (link ∷ []) in
    let made : flat_map (λ (l : Worklink). l.items) (links ++ link ∷ []) ≡ flat_map (λ (l : Worklink). l.items) links ++ link.items =
    flat_map-append (λ (l : Worklink). l.items) links (link ∷ []) ∙ ap (λ (xs : List Item). flat_map (λ (l : Worklink). l.items) links ++ xs) (append-nil link.items) in
    let left : link.items ++ later ≡ rest = ap (λ (xs : List Item). xs ++ later) front ∙ ap (λ (xs : List Item). take n rest ++ xs) back ∙ take-append-drop n rest in
    let together : flat_map (λ (l : Worklink). l.items) (links ++ link ∷ []) ++ later ≡ all =
    ap (λ (xs : List Item). xs ++ later) made ∙ append_assoc (flat_map (λ (l : Worklink). l.items) links) link.items later ∙ ap (λ (xs : List Item). flat_map (λ (l : Worklink). l.items) links ++ xs) left ∙ so_far.items in
    record {
      items = together;
      whole = λ more. subst AreWhole (sym parts) (each_append (λ (part : List Item). length part ≡ 64) (items_in links) (link.items ∷ []) (so_far.whole some) (omega arith, tt));
      full = subst AreFull (sym parts) (AreFull-push (items_in links) link.items (so_far.whole some) (omega arith) (omega arith));
      ready = each_append (IsReady workers) links (link ∷ []) so_far.ready (ready, tt);
    }
