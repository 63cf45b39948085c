-- Entries are dealt out to the shares of the workers, and taken back.
use Rattle.std.proofs.Common.{◌≡◌, ℕ, suc, ◌+◌, ◌<◌, ◌≤◌, ◌%◌, Bool, true, false, cond, List, [], ◌∷◌, ◌++◌, append_assoc, map, take, length, Some, None, ◌⊎◌, inl, inr, refl, sym, ap, ◌∙◌, subst, arith}
use Rattle.std.specs.Prelude.{slice_set, ◌==◌}
use Rattle.std.proofs.lemmas.Bool.{eq-eqb, eqb-true, cases_lt}
use Rattle.std.proofs.lemmas.List.{length-set}
use Rattle.std.proofs.Math.Seq.{take-append_seam}
use Rattle.adg_base.specs.Shard.{shard_of_vector}
use Rattle.adg_base.specs.declared.log.LogEntry.{LogEntry}
use Rattle.core_rules.specs.Share.{share, is_shared_by}
use Rattle.core_rules.specs.State.{At}
use Rattle.core_rules.proofs.Lists.{at_same, at_within, at_map, at_set_cases, is_true}
use Rattle.standby_core.specs.declared.worker.Worker.{Worker}
use Rattle.standby_core.specs.Each.{EachAt}
use Rattle.standby_core.specs.Received.{GetsShare, AreDealt, HasMore, IsCutBack, AreCutBack}
use Rattle.standby_core.proofs.Each.{each_right, each_weaker}
use Rattle.standby_core.proofs.Received.{share_more}

-- lists that are equal place by place are equal
abbrev pub IsSame : ℕ → Worker → Worker → Type 0
IsSame n x y = y ≡ x

pub same_lists : (xs ys : List Worker) → EachAt IsSame xs ys → ys ≡ xs
same_lists [] [] h = refl
same_lists [] (y ∷ ys) h = let e : 0 ≡ suc (length ys) = h.same_length in absurd (omega arith)
same_lists (x ∷ xs) [] h = let e : suc (length xs) ≡ 0 = h.same_length in absurd (omega arith)
same_lists (x ∷ xs) (y ∷ ys) h =
    let first : y ≡ x = h.each 0 x y refl refl in
    let e : suc (length xs) ≡ suc (length ys) = h.same_length in
    let rest : ys ≡ xs = same_lists xs ys (record { same_length = omega arith; each = λ n u v at_u at_v. h.each (suc n) u v at_u at_v }) in
    ap (λ l. y ∷ l) rest ∙ ap (λ z. z ∷ xs) first

-- no entries
pub dealt_none : (ws : List Worker) → AreDealt [] ws ws
dealt_none ws = record { same_length = refl; each = λ n x y at_x at_y. at_same ws n y x at_y at_x ∙ none x }
  where
    none : (x : Worker) → x ≡ record x { share = x.share ++ [] }
    none x = ap (λ s. record x { share = s }) (sym (append_nil x.share))
      where
        append_nil : (l : List LogEntry) → l ++ [] ≡ l
        append_nil [] = refl
        append_nil (z ∷ zs) = ap (λ k. z ∷ k) (append_nil zs)

-- one entry: it goes into the share that it is of
one_share : (workers worker : ℕ) (e : LogEntry) → (b : Bool) → is_shared_by workers worker (shard_of_vector e.vector) ≡ b → share workers worker (e ∷ []) ≡ cond b (e ∷ []) []
one_share workers worker e b h = ap (λ (x : Bool). cond x (e ∷ []) []) h

pub dealt_one : (ws : List Worker) (e : LogEntry) (number : ℕ) (x : Worker) → shard_of_vector e.vector ≡ Some number → At ws (number % length ws) x
    → AreDealt (e ∷ []) ws (slice_set ws (number % length ws) (record x { share = x.share ++ e ∷ [] }))
dealt_one ws e number x own at = record { same_length = sym (length-set ws (number % length ws) (record x { share = x.share ++ e ∷ [] })); each = each }
  where
    tested : (n : ℕ) → is_shared_by (length ws) n (shard_of_vector e.vector) ≡ ((number % length ws) == n)
    tested n = ap (is_shared_by (length ws) n) own

    each : (n : ℕ) (u v : Worker) → At ws n u → At (slice_set ws (number % length ws) (record x { share = x.share ++ e ∷ [] })) n v → GetsShare (length ws) (e ∷ []) n u v
    each n u v at_u at_v = by (at_set_cases ws (number % length ws) n v (record x { share = x.share ++ e ∷ [] }) at_v)
      where
        by : ((n ≡ number % length ws) × (v ≡ record x { share = x.share ++ e ∷ [] })) ⊎ ((n ≡ number % length ws → ⊥) × At ws n v) → v ≡ record u { share = u.share ++ share (length ws) n (e ∷ []) }
        by (inl k) =
            let same : x ≡ u = at_same ws n x u (subst (λ m. At ws m x) (sym k.0) at) at_u in
            let mine : share (length ws) n (e ∷ []) ≡ e ∷ [] = one_share (length ws) n e true (tested n ∙ eq-eqb (number % length ws) n (sym k.0)) in
            k.1 ∙ ap (λ (y : Worker). record y { share = y.share ++ e ∷ [] }) same ∙ ap (λ l. record u { share = u.share ++ l }) (sym mine)
        by (inr k) =
            let other : share (length ws) n (e ∷ []) ≡ [] = not_mine (is_true (is_shared_by (length ws) n (shard_of_vector e.vector))) in
            (dealt_none ws).each n u v at_u k.1 ∙ ap (λ l. record u { share = u.share ++ l }) (sym other)
          where
            not_mine : (is_shared_by (length ws) n (shard_of_vector e.vector) ≡ true) ⊎ (is_shared_by (length ws) n (shard_of_vector e.vector) ≡ false) → share (length ws) n (e ∷ []) ≡ []
            not_mine (inl t) = absurd (k.0 (sym (eqb-true (number % length ws) n (sym (tested n) ∙ t))))
            not_mine (inr f) = one_share (length ws) n e false f

pub dealt_other : (ws : List Worker) (e : LogEntry) → shard_of_vector e.vector ≡ None → AreDealt (e ∷ []) ws ws
dealt_other ws e none = record {
  same_length = refl;
  each = λ n u v at_u at_v.
      (dealt_none ws).each n u v at_u at_v ∙ ap (λ l. record u { share = u.share ++ l }) (sym (one_share (length ws) n e false (ap (is_shared_by (length ws) n) none)));
}

-- some entries, and then some more
pub dealt_more : (es more : List LogEntry) (xs ys zs : List Worker) → AreDealt es xs ys → AreDealt more ys zs → AreDealt (es ++ more) xs zs
dealt_more es more xs ys zs h k = record { same_length = h.same_length ∙ k.same_length; each = each }
  where
    each : (n : ℕ) (x z : Worker) → At xs n x → At zs n z → GetsShare (length xs) (es ++ more) n x z
    each n x z at_x at_z =
        let y = each_right (GetsShare (length xs) es) xs ys h n x at_x in
        let first : y.0 ≡ record x { share = x.share ++ share (length xs) n es } = y.2 in
        let second : z ≡ record y.0 { share = y.0.share ++ share (length ys) n more } = k.each n y.0 z y.1 at_z in
        second
        ∙ ap (λ (w : Worker). record w { share = w.share ++ share (length ys) n more }) first
        ∙ ap (λ m. record x { share = (x.share ++ share (length xs) n es) ++ share m n more }) (sym h.same_length)
        ∙ ap (λ l. record x { share = l }) (append_assoc x.share (share (length xs) n es) (share (length xs) n more) ∙ ap (λ l. x.share ++ l) (sym (share_more (length xs) n es more)))

pub dealt_some : (es : List LogEntry) (xs ys : List Worker) → AreDealt es xs ys → EachAt HasMore xs ys
dealt_some es xs ys h = each_weaker (GetsShare (length xs) es) HasMore xs ys (λ n x y at_x at_y k. record { more = share (length xs) n es; same = k }) h

-- what was dealt is taken back
pub cut_restores : (xs ys zs : List Worker) (counts : List ℕ) → EachAt HasMore xs ys → counts ≡ map (λ (w : Worker). length w.share) xs → AreCutBack counts ys zs → zs ≡ xs
cut_restores xs ys zs counts more count cut = same_lists xs zs (record { same_length = more.same_length ∙ cut.same_length; each = each })
  where
    each : (n : ℕ) (x z : Worker) → At xs n x → At zs n z → z ≡ x
    each n x z at_x at_z =
        let y = each_right HasMore xs ys more n x at_x in
        let k : At counts n (length x.share) = subst (λ l. At l n (length x.share)) (sym count) (at_map (λ (w : Worker). length w.share) xs n x at_x) in
        let longer : y.0 ≡ record x { share = x.share ++ y.2.more } = y.2.same in
        let shorter : z ≡ record y.0 { share = take (length x.share) y.0.share } = cut.each n y.0 z y.1 at_z (length x.share) k in
        shorter ∙ ap (λ (w : Worker). record w { share = take (length x.share) w.share }) longer ∙ ap (λ l. record x { share = l }) (take-append_seam x.share y.2.more)

-- the shares up to a place are cut back
pub record IsCutUpto (counts : List ℕ) (i n : ℕ) (x y : Worker) : Type 0 where
  pub done : n < i → IsCutBack counts n x y
  pub rest : i ≤ n → y ≡ x

abbrev pub AreCutUpto : List ℕ → ℕ → List Worker → List Worker → Type 0
AreCutUpto counts i xs ys = EachAt (IsCutUpto counts i) xs ys

pub cut_none : (counts : List ℕ) (xs : List Worker) → AreCutUpto counts 0 xs xs
cut_none counts xs = record { same_length = refl; each = λ n x y at_x at_y. record { done = λ l. absurd (omega arith); rest = λ l. at_same xs n y x at_y at_x } }

pub cut_all : (counts : List ℕ) (xs ys : List Worker) → length counts ≡ length xs → AreCutUpto counts (length counts) xs ys → AreCutBack counts xs ys
cut_all counts xs ys count h = record { same_length = h.same_length; each = λ n x y at_x at_y k at_k. (h.each n x y at_x at_y).done (at_within counts n k at_k) k at_k }

pub cut_more : (counts : List ℕ) (i count : ℕ) (x : Worker) (xs ys : List Worker) → At counts i count → At ys i x → AreCutUpto counts i xs ys
    → AreCutUpto counts (i + 1) xs (slice_set ys i (record x { share = take count x.share }))
cut_more counts i count x xs ys at_count at_x h = record { same_length = h.same_length ∙ sym (length-set ys i (record x { share = take count x.share })); each = each }
  where
    each : (n : ℕ) (u v : Worker) → At xs n u → At (slice_set ys i (record x { share = take count x.share })) n v → IsCutUpto counts (i + 1) n u v
    each n u v at_u at_v = by (at_set_cases ys i n v (record x { share = take count x.share }) at_v)
      where
        by : ((n ≡ i) × (v ≡ record x { share = take count x.share })) ⊎ ((n ≡ i → ⊥) × At ys n v) → IsCutUpto counts (i + 1) n u v
        by (inl k) = record {
          done = λ l m at_m.
              let place : n ≡ i = k.0 in
              let same : x ≡ u = (h.each n u x at_u (subst (λ j. At ys j x) (sym k.0) at_x)).rest (omega arith) in
              let number : count ≡ m = at_same counts i count m at_count (subst (λ j. At counts j m) k.0 at_m) in
              k.1 ∙ ap (λ (w : Worker). record w { share = take count w.share }) same ∙ ap (λ j. record u { share = take j u.share }) number;
          rest = λ l. let place : n ≡ i = k.0 in absurd (omega arith);
        }
        by (inr k) = record {
          done = λ l. (h.each n u v at_u k.1).done (below l);
          rest = λ l. (h.each n u v at_u k.1).rest (omega arith);
        }
          where
            below : n < i + 1 → n < i
            below l = by_order (cases_lt n i)
              where
                by_order : (n < i) ⊎ (i ≤ n) → n < i
                by_order (inl m) = m
                by_order (inr m) = absurd (k.0 (omega arith))
