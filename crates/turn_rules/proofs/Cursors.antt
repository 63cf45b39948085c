-- The cursor of an actor's worklink, where it is known which worklink the actor holds, if it holds one.
use Rattle.std.proofs.Common.{◌≡◌, ℕ, zero, suc, Bool, true, false, cond, List, [], ◌∷◌, Option, Some, None, refl, sym, ap, ◌∙◌, arith}
use Rattle.std.specs.Prelude.{◌==◌}
use Rattle.std.proofs.lemmas.Bool.{eq-eqb, eqb-true}
use Rattle.core_rules.specs.State.{Collected, Stage, Unclaimed, Claimed, Finished, Link, At, is_held_by}
use Rattle.core_rules.specs.Parts.{ClaimsAre, stages_of}
use Rattle.core_rules.proofs.Lists.{at_map}
use Rattle.turn_rules.specs.Picks.{cursor_in, or_next, cursor_of}

-- an actor holds at most one worklink
abbrev HoldsOne : ℕ → List Link → Type 0
HoldsOne actor links = (i j : ℕ) (x y : Link) → At links i x → At links j y → is_held_by actor x.stage ≡ true → is_held_by actor y.stage ≡ true → i ≡ j

holds_one : (workers actor : ℕ) (links : List Link) → ClaimsAre workers (stages_of links) → HoldsOne actor links
holds_one workers actor links h i j x y at_x at_y held_x held_y =
    h.alone i j x.stage y.stage actor (at_map (λ (l : Link). l.stage) links i x at_x) (at_map (λ (l : Link). l.stage) links j y at_y) held_x held_y

-- the stage that tells the cursor
cursor_is : (actor cursor : ℕ) (collected : List Collected) (s : Stage) → s ≡ Claimed actor cursor collected → cursor_in actor s ≡ Some cursor
cursor_is actor cursor collected s e = ap (cursor_in actor) e ∙ ap (λ b. cond b (Some cursor) None) (eq-eqb actor actor refl)

held_is : (actor cursor : ℕ) (collected : List Collected) (s : Stage) → s ≡ Claimed actor cursor collected → is_held_by actor s ≡ true
held_is actor cursor collected s e = ap (is_held_by actor) e ∙ eq-eqb actor actor refl

cursor_held : (actor cursor : ℕ) (s : Stage) → cursor_in actor s ≡ Some cursor → is_held_by actor s ≡ true
cursor_held actor cursor Unclaimed e = absurd cc
cursor_held actor cursor Finished e = absurd cc
cursor_held actor cursor (Claimed holder at collected) e = by_test (holder == actor) refl e
  where
    by_test : (b : Bool) → (holder == actor) ≡ b → cond b (Some at) None ≡ Some cursor → (holder == actor) ≡ true
    by_test true same k = same
    by_test false other k = absurd cc

cursor_among : (actor : ℕ) (links : List Link) → HoldsOne actor links → (n : ℕ) (l : Link) (cursor : ℕ) (collected : List Collected) → At links n l → l.stage ≡ Claimed actor cursor collected → cursor_of actor links ≡ Some cursor
cursor_among actor [] one n l cursor collected at e = let k : None ≡ Some l = at in absurd cc
cursor_among actor (x ∷ ls) one zero l cursor collected at e =
    let k : Some x ≡ Some l = at in
    let same : x ≡ l = cc in
    ap (λ o. or_next o (cursor_of actor ls)) (cursor_is actor cursor collected x.stage (ap (λ (y : Link). y.stage) same ∙ e))
cursor_among actor (x ∷ ls) one (suc n) l cursor collected at e =
    by_first (cursor_among actor ls (λ i j y z at_y at_z held_y held_z. let k : suc i ≡ suc j = one (suc i) (suc j) y z at_y at_z held_y held_z in omega (arith, k)) n l cursor collected at e)
    (cursor_in actor x.stage) refl
  where
    by_first : cursor_of actor ls ≡ Some cursor → (o : Option ℕ) → cursor_in actor x.stage ≡ o → or_next (cursor_in actor x.stage) (cursor_of actor ls) ≡ Some cursor
    by_first rest None f = ap (λ o. or_next o (cursor_of actor ls)) f ∙ rest
    by_first rest (Some other) f =
        let k : 0 ≡ suc n = one zero (suc n) x l refl at (cursor_held actor other x.stage f) (held_is actor cursor collected l.stage e) in
        absurd (omega (arith, k))

-- the cursor of an actor that holds a worklink, and of one that holds none
pub cursor_of_holder : (workers actor : ℕ) (links : List Link) → ClaimsAre workers (stages_of links) → (n : ℕ) (l : Link) (cursor : ℕ) (collected : List Collected) → At links n l → l.stage ≡ Claimed actor cursor collected
    → cursor_of actor links ≡ Some cursor
cursor_of_holder workers actor links h n l cursor collected at e = cursor_among actor links (holds_one workers actor links h) n l cursor collected at e

pub cursor_of_nobody : (actor : ℕ) (links : List Link) → ((n : ℕ) (l : Link) (cursor : ℕ) (collected : List Collected) → At links n l → l.stage ≡ Claimed actor cursor collected → ⊥) → cursor_of actor links ≡ None
cursor_of_nobody actor [] none = refl
cursor_of_nobody actor (x ∷ ls) none = by_stage (cursor_of_nobody actor ls (λ n l cursor collected at e. none (suc n) l cursor collected at e)) x.stage refl
  where
    by_test : cursor_of actor ls ≡ None → (holder cursor : ℕ) (collected : List Collected) → x.stage ≡ Claimed holder cursor collected → (b : Bool) → (holder == actor) ≡ b
        → or_next (cond (holder == actor) (Some cursor) None) (cursor_of actor ls) ≡ None
    by_test rest holder cursor collected e true same = absurd (none zero x cursor collected refl (e ∙ ap (λ a. Claimed a cursor collected) (eqb-true holder actor same)))
    by_test rest holder cursor collected e false other = ap (λ b. or_next (cond b (Some cursor) None) (cursor_of actor ls)) other ∙ rest

    by_stage : cursor_of actor ls ≡ None → (s : Stage) → x.stage ≡ s → or_next (cursor_in actor x.stage) (cursor_of actor ls) ≡ None
    by_stage rest Unclaimed e = ap (λ s. or_next (cursor_in actor s) (cursor_of actor ls)) e ∙ rest
    by_stage rest Finished e = ap (λ s. or_next (cursor_in actor s) (cursor_of actor ls)) e ∙ rest
    by_stage rest (Claimed holder cursor collected) e = ap (λ s. or_next (cursor_in actor s) (cursor_of actor ls)) e ∙ by_test rest holder cursor collected e (holder == actor) refl
