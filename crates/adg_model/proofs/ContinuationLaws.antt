-- What deliveries add to a sound log continues it.
use Rattle.std.proofs.Common.{◌≡◌, ℕ, ◌+◌, ◌<◌, ◌≤◌, Bool, true, false, cond, nat_le, List, [], ◌∷◌, ◌++◌, length, refl, sym, ap, ◌∙◌, subst, arith}
use Rattle.std.proofs.lemmas.Bool.{leb-true}
use Rattle.std.specs.List.{AllByRecursion}
use Rattle.adg_base.specs.declared.log.LogEntry.{LogEntry}
use Rattle.adg_model.specs.Log.{frontier, entries_from, in_order, numbered, upto, merged_log}
use Rattle.adg_model.specs.Sound.{IsSound, ScnsWithin}
use Rattle.adg_model.specs.Laws.{LogContinues}
use Rattle.adg_model.proofs.LogLaws.{ScnsRise, each_weaker, each_numbered, each_in_order, scns_rise_in_order}
use Rattle.adg_model.proofs.DeliveryLaws.{log_grows_by_delivery}

-- positions that were given stay when they are given again
numbered_again : (pos : ℕ) (es : List LogEntry) → numbered pos (numbered pos es) ≡ numbered pos es
numbered_again pos [] = refl
numbered_again pos (e ∷ es) = ap (λ l. record e { pos = pos } ∷ l) (numbered_again (pos + 1) es)

tail_same : (a b : LogEntry) (x y : List LogEntry) → a ∷ x ≡ b ∷ y → x ≡ y
tail_same a b x y e = cc

-- so they do in the part of a numbered list that follows others
numbered_rest : (pos : ℕ) (es before rest : List LogEntry) → numbered pos es ≡ before ++ rest → numbered (pos + length before) rest ≡ rest
numbered_rest pos es [] rest h =
    let here : pos + 0 ≡ pos = omega arith in
    ap (λ (n : ℕ). numbered n rest) here ∙ ap (numbered pos) (sym h) ∙ numbered_again pos es ∙ h
numbered_rest pos [] (b ∷ bs) rest h = absurd cc
numbered_rest pos (e ∷ es) (b ∷ bs) rest h =
    let later = numbered_rest (pos + 1) es bs rest (tail_same (record e { pos = pos }) b (numbered (pos + 1) es) (bs ++ rest) h) in
    let there : pos + length (b ∷ bs) ≡ pos + 1 + length bs = omega arith in
    ap (λ (n : ℕ). numbered n rest) there ∙ later

scns_rise_numbered : (pos : ℕ) (es : List LogEntry) → ScnsRise es → ScnsRise (numbered pos es)
scns_rise_numbered pos [] h = tt
scns_rise_numbered pos (e ∷ es) h = (each_numbered (λ scn. e.scn ≤ scn) (pos + 1) es h.0, scns_rise_numbered (pos + 1) es h.1)

scns_rise_tail : (xs ys : List LogEntry) → ScnsRise (xs ++ ys) → ScnsRise ys
scns_rise_tail [] ys h = h
scns_rise_tail (x ∷ xs) ys h = scns_rise_tail xs ys h.1

each_tail : (P : LogEntry → Type 0) (xs ys : List LogEntry) → AllByRecursion P (xs ++ ys) → AllByRecursion P ys
each_tail P [] ys h = h
each_tail P (x ∷ xs) ys h = each_tail P xs ys h.1

upto_within : (scn : ℕ) (es : List LogEntry) → AllByRecursion (λ e. e.scn ≤ scn) (upto scn es)
upto_within scn [] = tt
upto_within scn (e ∷ es) = by_test (nat_le e.scn scn) refl (upto_within scn es)
  where
    by_test : (b : Bool) → nat_le e.scn scn ≡ b → AllByRecursion (λ x. x.scn ≤ scn) (upto scn es) → AllByRecursion (λ x. x.scn ≤ scn) (cond b (e ∷ upto scn es) (upto scn es))
    by_test true t ih = (leb-true e.scn scn t, ih)
    by_test false t ih = ih

scns_within : (low high : ℕ) (es : List LogEntry) → ScnsRise es → AllByRecursion (λ e. low ≤ e.scn) es → AllByRecursion (λ e. e.scn ≤ high) es → ScnsWithin low high es
scns_within low high [] r l h = tt
scns_within low high (e ∷ es) r l h = (l.0, h.0, scns_within e.scn high es r.1 r.0 h.1)

pub log_continues : LogContinues
unfolding merged_log
log_continues ds more old new n h k sound =
    let grown = log_grows_by_delivery ds more old new n h k in
    let rest = grown.0 in
    let kept = upto (frontier new) (entries_from 1 new) in
    let rise : ScnsRise (merged_log new) = scns_rise_numbered 0 (in_order kept) (scns_rise_in_order kept) in
    let below : AllByRecursion (λ e. e.scn ≤ frontier new) (merged_log new) = each_numbered (λ scn. scn ≤ frontier new) 0 (in_order kept) (each_in_order (λ e. e.scn ≤ frontier new) kept (upto_within (frontier new) (entries_from 1 new))) in
    let places : numbered (0 + length (merged_log old)) rest ≡ rest = numbered_rest 0 (in_order kept) (merged_log old) rest grown.1 in
    let here : length (merged_log old) ≡ 0 + length (merged_log old) = omega arith in (
      rest,
      grown.1,
      record {
        sound = subst IsSound grown.1 sound;
        places = ap (λ (n : ℕ). numbered n rest) here ∙ places;
        scns = scns_within (frontier old + 1) (frontier new) rest
            (scns_rise_tail (merged_log old) rest (subst ScnsRise grown.1 rise))
            (each_weaker (λ e. frontier old < e.scn) (λ e. frontier old + 1 ≤ e.scn) (λ e j. omega (arith, j)) rest grown.2)
            (each_tail (λ e. e.scn ≤ frontier new) (merged_log old) rest (subst (AllByRecursion (λ e. e.scn ≤ frontier new)) grown.1 below));
        forward = grown.3;
      },
    )
