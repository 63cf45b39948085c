-- The least and the greatest value of a list and of another behind it.
use Rattle.std.proofs.Common.{◌≡◌, Bool, true, false, not, ◌&&◌, ◌||◌, if◌then◌else◌, List, [], ◌∷◌, ◌++◌, refl, sym, ap, ap₂, ◌∙◌, true≢false}
use Rattle.std.specs.List.{AllByRecursion}
use Rattle.std.specs.Ordering.{is_lt, is_gt}
use Rattle.std.specs.declared.cmp.Ordering.{Ordering}
use Rattle.std.proofs.lemmas.List.{append-nil}
use Rattle.adg_base.specs.declared.value.Value.{Value}
use Rattle.adg_base.specs.declared.value.Value.TheVariants.{Null, Int, Text}
use Rattle.adg_model.specs.Query.{chosen}
use Rattle.adg_base.specs.Values.{value_cmp, is_null}
use Rattle.scan_eval.specs.Tally.{best, lesser, greater}
use Rattle.adg_base.proofs.ValueOrder.{IsChoice, least_is_choice, greatest_is_choice}

-- one step of a choice
abbrev step : (Ordering → Bool) → Value → Value → Value
step better v w = if better (value_cmp w v) then w else v

chosen_append : (better : Ordering → Bool) (v : Value) (ws us : List Value) → chosen better v (ws ++ us) ≡ chosen better (chosen better v ws) us
chosen_append better v [] us = refl
chosen_append better v (w ∷ ws) us = chosen_append better (step better v w) ws us

step_assoc : (better : Ordering → Bool) → IsChoice better → (v w u : Value) → step better (step better v w) u ≡ step better v (step better w u)
step_assoc better o v w u = by_first (better (value_cmp w v)) refl (better (value_cmp u w)) refl
  where
    by_first : (b : Bool) → better (value_cmp w v) ≡ b → (d : Bool) → better (value_cmp u w) ≡ d → step better (step better v w) u ≡ step better v (step better w u)
    by_first true p true q =
        let last : better (value_cmp u v) ≡ true = by_last (better (value_cmp u v)) refl in
        ap (λ (x : Value). step better x u) (ap (λ (b : Bool). if b then w else v) p)
        ∙ ap (λ (b : Bool). if b then u else w) q
        ∙ sym (ap (λ (x : Value). step better v x) (ap (λ (b : Bool). if b then u else w) q) ∙ ap (λ (b : Bool). if b then u else v) last)
      where
        by_last : (b : Bool) → better (value_cmp u v) ≡ b → better (value_cmp u v) ≡ true
        by_last true e = e
        by_last false e = absurd (true≢false (sym p ∙ o.chain w u v (o.one_way u w q) e))
    by_first true p false q =
        ap (λ (x : Value). step better x u) (ap (λ (b : Bool). if b then w else v) p)
        ∙ ap (λ (b : Bool). if b then u else w) q
        ∙ sym (ap (λ (x : Value). step better v x) (ap (λ (b : Bool). if b then u else w) q) ∙ ap (λ (b : Bool). if b then w else v) p)
    by_first false p true q =
        ap (λ (x : Value). step better x u) (ap (λ (b : Bool). if b then w else v) p)
        ∙ sym (ap (λ (x : Value). step better v x) (ap (λ (b : Bool). if b then u else w) q))
    by_first false p false q =
        ap (λ (x : Value). step better x u) (ap (λ (b : Bool). if b then w else v) p)
        ∙ ap (λ (b : Bool). if b then u else v) (o.chain u w v q p)
        ∙ sym (ap (λ (x : Value). step better v x) (ap (λ (b : Bool). if b then u else w) q) ∙ ap (λ (b : Bool). if b then w else v) p)

chosen_step : (better : Ordering → Bool) → IsChoice better → (v w : Value) (us : List Value) → chosen better (step better v w) us ≡ step better v (chosen better w us)
chosen_step better o v w [] = refl
chosen_step better o v w (u ∷ us) =
    ap (λ (x : Value). chosen better x us) (step_assoc better o v w u) ∙ chosen_step better o v (step better w u) us

-- of two lists that are not empty
both_lists : (better : Ordering → Bool) → IsChoice better → (v : Value) (vs : List Value) (w : Value) (ws : List Value) → best better ((v ∷ vs) ++ (w ∷ ws)) ≡ step better (best better (v ∷ vs)) (best better (w ∷ ws))
both_lists better o v vs w ws = chosen_append better v vs (w ∷ ws) ∙ chosen_step better o (chosen better v vs) w ws

greater_of_null : (x : Value) → greater Null x ≡ x
greater_of_null Null = refl
greater_of_null (Int n) = refl
greater_of_null (Text t) = refl

greater_with_null : (x : Value) → greater x Null ≡ x
greater_with_null Null = refl
greater_with_null (Int n) = refl
greater_with_null (Text t) = refl

pub greatest_append : (vs ws : List Value) → best is_gt (vs ++ ws) ≡ greater (best is_gt vs) (best is_gt ws)
greatest_append [] ws = sym (greater_of_null (best is_gt ws))
greatest_append (v ∷ vs) [] = ap (best is_gt) (append-nil (v ∷ vs)) ∙ sym (greater_with_null (best is_gt (v ∷ vs)))
greatest_append (v ∷ vs) (w ∷ ws) = both_lists is_gt greatest_is_choice v vs w ws

-- values that are there
abbrev pub AreThere : List Value → Type 0
AreThere vs = AllByRecursion (λ v. is_null v ≡ false) vs

chosen_is_there : (better : Ordering → Bool) (v : Value) (vs : List Value) → is_null v ≡ false → AreThere vs → is_null (chosen better v vs) ≡ false
chosen_is_there better v [] e a = e
chosen_is_there better v (w ∷ ws) e a = chosen_is_there better (step better v w) ws (one_of (better (value_cmp w v))) a.1
  where
    one_of : (b : Bool) → is_null (if b then w else v) ≡ false
    one_of true = a.0
    one_of false = e

lesser_of_null : (x : Value) → lesser Null x ≡ x
lesser_of_null Null = refl
lesser_of_null (Int n) = refl
lesser_of_null (Text t) = refl

lesser_is_step : (v w : Value) → is_null v ≡ false → is_null w ≡ false → lesser v w ≡ step is_lt v w
lesser_is_step v w e f = ap₂ (λ (a b : Bool). if not a && (b || is_lt (value_cmp w v)) then w else v) f e

pub least_append : (vs ws : List Value) → AreThere vs → AreThere ws → best is_lt (vs ++ ws) ≡ lesser (best is_lt vs) (best is_lt ws)
least_append [] ws a b = sym (lesser_of_null (best is_lt ws))
least_append (v ∷ vs) [] a b = ap (best is_lt) (append-nil (v ∷ vs))
least_append (v ∷ vs) (w ∷ ws) a b =
    both_lists is_lt least_is_choice v vs w ws
    ∙ sym (lesser_is_step (best is_lt (v ∷ vs)) (best is_lt (w ∷ ws)) (chosen_is_there is_lt v vs a.0 a.1) (chosen_is_there is_lt w ws b.0 b.1))
