-- The loops over the transfers.
use Rattle.std.proofs.Common.{◌≡◌, ℕ, suc, ◌+◌, ◌-◌, ◌*◌, ◌<◌, ◌≤◌, List, [], ◌∷◌, ◌++◌, map, min, refl, sym, ap, ap₂, ◌∙◌, subst, arith}
use Rattle.std.specs.Prelude.{ℤ}
use Rattle.std.specs.List.{range_with_len}
use Rattle.feed_gen.specs.declared.writing.Writing.{Writing}
use Rattle.feed_gen.specs.declared.transfer.Transfer.{Transfer}
use Rattle.feed_gen.specs.declared.second.Second.{Second}
use Rattle.feed_gen.specs.declared.second.Kept.{Kept}
use Rattle.feed_gen.specs.declared.bank.Bank.{Bank}
use Rattle.feed_gen.specs.Draws.{draws, drawn}
use Rattle.feed_gen.specs.Tables.{thread_of}
use Rattle.feed_gen.specs.Transfers.{settled, debited, credited, second_of, first_record, number_of, kept_by, with_kept, left_over, transfer_writings, after_transfer, transfers, after_transfers}
use Rattle.feed_gen.specs.Generated.{portion_of, transfer_draft, last_draft, transfer_drafts}
use Rattle.feed_gen.specs.Written.{Written, with_writings, with_draft, with_drafts}
use Rattle.feed_gen.specs.Bounds.{IsGood}
use Rattle.feed_gen.proofs.Written.{with_writings_then, with_no_writings}
use Rattle.feed_gen.proofs.Small.{transfers_len}
use Rattle.feed_gen.proofs.Good.{good_after, made_after, good_many, made_many}

-- one transfer, from what its parts give
module _ (bank : Bank) (t : Transfer) (drawn_is : t ≡ drawn bank.source) (thread : ℕ) (thread_is : thread ≡ thread_of t.table) where
  pub bank_is : (source : ℕ) (balances : List ℤ) (kept : Kept) (s : Second) → source ≡ draws 6 bank.source → balances ≡ settled bank.balances t → s ≡ second_of (number_of bank) t (credited bank.balances t) → kept ≡ with_kept thread s bank.kept
      → ◌≡◌ {A = Bank} (record { source = source; balances = balances; kept = kept; made = bank.made + 1 }) (after_transfer bank)
  unfolding after_transfer
  bank_is source balances kept s source_is balances_is s_is kept_is = rw (kept_is, balances_is, s_is, thread_is, drawn_is, source_is) refl

  pub feed_is : (w v x : Written) (first : Writing) → v ≡ with_writings w (left_over thread (kept_by thread bank.kept)) → first ≡ first_record (number_of bank) t (debited bank.balances t) → x ≡ with_writings v (first ∷ []) → x ≡ with_writings w (transfer_writings bank)
  unfolding transfer_writings
  feed_is w v x first v_is first_is x_is =
      let all = λ (t : Transfer). left_over (thread_of t.table) (kept_by (thread_of t.table) bank.kept) ++ first_record (number_of bank) t (debited bank.balances t) ∷ [] in
      x_is ∙ ap₂ (λ v f. with_writings v (f ∷ [])) v_is first_is
      ∙ with_writings_then w (left_over thread (kept_by thread bank.kept)) (first_record (number_of bank) t (debited bank.balances t) ∷ [])
      ∙ ap (λ n. with_writings w (left_over n (kept_by n bank.kept) ++ first_record (number_of bank) t (debited bank.balances t) ∷ [])) thread_is
      ∙ ap (λ t. with_writings w (all t)) drawn_is

-- many of them
pub record Runs (count i : ℕ) (first bank : Bank) (w v : Written) : Type 0 where
  pub good : IsGood bank
  pub made : bank.made ≡ first.made + i
  pub bank_is : after_transfers (count - i) bank ≡ after_transfers count first
  pub feed_is : with_writings v (transfers (count - i) bank) ≡ with_writings w (transfers count first)

pub runs_first : (count : ℕ) (first : Bank) (w : Written) → IsGood first → Runs count 0 first first w w
runs_first count first w h =
    let e : count - 0 ≡ count = omega arith in
    record { good = h; made = omega arith; bank_is = ap (λ n. after_transfers n first) e; feed_is = ap (λ n. with_writings w (transfers n first)) e }

pub runs_more : (count i : ℕ) (first bank after : Bank) (w v x : Written) → i < count → Runs count i first bank w v → after ≡ after_transfer bank → x ≡ with_writings v (transfer_writings bank) → Runs count (i + 1) first after w x
runs_more count i first bank after w v x lt h after_is x_is =
    let e : count - i ≡ suc (count - (i + 1)) = omega arith in
    record {
      good = subst IsGood (sym after_is) (good_after bank h.good);
      made = ap (λ (b : Bank). b.made) after_is ∙ omega (arith, made_after bank, h.made);
      bank_is = ap (after_transfers (count - (i + 1))) after_is ∙ sym (ap (λ n. after_transfers n bank) e) ∙ h.bank_is;
      feed_is = ap₂ (λ x b. with_writings x (transfers (count - (i + 1)) b)) x_is after_is
          ∙ with_writings_then v (transfer_writings bank) (transfers (count - (i + 1)) (after_transfer bank))
          ∙ sym (ap (λ n. with_writings v (transfers n bank)) e)
          ∙ h.feed_is;
    }

pub runs_room : (count i : ℕ) (first bank : Bank) (w v : Written) → Runs count i first bank w v → v.records ≤ w.records + 2 * count
runs_room count i first bank w v h =
    omega (arith, ap (λ (x : Written). x.records) h.feed_is, transfers_len count first)

pub runs_end_bank : (count i : ℕ) (first bank : Bank) (w v : Written) → i ≡ count → Runs count i first bank w v → bank ≡ after_transfers count first
runs_end_bank count i first bank w v e h =
    let none : count - i ≡ 0 = omega arith in
    sym (ap (λ n. after_transfers n bank) none) ∙ h.bank_is

pub runs_end_feed : (count i : ℕ) (first bank : Bank) (w v : Written) → i ≡ count → Runs count i first bank w v → v ≡ with_writings w (transfers count first)
runs_end_feed count i first bank w v e h =
    let none : count - i ≡ 0 = omega arith in
    sym (with_no_writings v) ∙ sym (ap (λ n. with_writings v (transfers n bank)) none) ∙ h.feed_is

-- the portions
pub record GoesOn (txns i n : ℕ) (bank : Bank) (v : Written) (all : Written) : Type 0 where
  pub good : IsGood bank
  pub made : bank.made ≡ min txns (500 * i)
  pub room : v.records ≤ 60 + 2 * bank.made
  pub whole : with_drafts v (transfer_drafts (2 + i) (map (portion_of txns) (range_with_len i (n - i))) bank) ≡ all

goes_one : (txns i n : ℕ) (bank after : Bank) (v x all : Written) → i < n → GoesOn txns i n bank v all → after ≡ after_transfers (portion_of txns i) bank → x ≡ with_draft v (transfer_draft (2 + i) (portion_of txns i) bank) → GoesOn txns (i + 1) n after x all
goes_one txns i n bank after v x all lt h after_is x_is =
    let e : n - i ≡ suc (n - (i + 1)) = omega arith in
    let d : 2 + (i + 1) ≡ 2 + i + 1 = omega arith in
    let made : after.made ≡ bank.made + portion_of txns i = ap (λ (b : Bank). b.made) after_is ∙ made_many (portion_of txns i) bank in
    let rest = map (portion_of txns) (range_with_len (i + 1) (n - (i + 1))) in
    record {
      good = subst IsGood (sym after_is) (good_many (portion_of txns i) bank h.good);
      made = omega (arith, h.made, made);
      room = omega (arith, h.room, made, ap (λ (w : Written). w.records) x_is, transfers_len (portion_of txns i) bank);
      whole = ap₂ (λ x b. with_drafts x (transfer_drafts (2 + (i + 1)) rest b)) x_is after_is
          ∙ ap (λ k. with_drafts (with_draft v (transfer_draft (2 + i) (portion_of txns i) bank)) (transfer_drafts k rest (after_transfers (portion_of txns i) bank))) d
          ∙ sym (ap (λ k. with_drafts v (transfer_drafts (2 + i) (map (portion_of txns) (range_with_len i k)) bank)) e)
          ∙ h.whole;
    }

pub goes_more : (txns i n count : ℕ) (bank after : Bank) (v x all : Written) → i < n → count ≡ portion_of txns i → GoesOn txns i n bank v all → after ≡ after_transfers count bank → x ≡ with_draft v (transfer_draft (2 + i) count bank) → GoesOn txns (i + 1) n after x all
goes_more txns i n count bank after v x all lt count_is h after_is x_is =
    goes_one txns i n bank after v x all lt h (after_is ∙ ap (λ k. after_transfers k bank) count_is) (x_is ∙ ap (λ k. with_draft v (transfer_draft (2 + i) k bank)) count_is)

pub goes_first : (txns n : ℕ) (bank : Bank) (v : Written) → IsGood bank → bank.made ≡ 0 → v.records ≤ 60 → GoesOn txns 0 n bank v (with_drafts v (transfer_drafts 2 (map (portion_of txns) (range_with_len 0 n)) bank))
goes_first txns n bank v good none room =
    let e : n - 0 ≡ n = omega arith in
    record { good = good; made = omega (arith, none); room = omega (arith, room); whole = ap (λ k. with_drafts v (transfer_drafts 2 (map (portion_of txns) (range_with_len 0 k)) bank)) e }

pub goes_end : (txns i n : ℕ) (bank : Bank) (v x all : Written) → n ≤ i → GoesOn txns i n bank v all → x ≡ with_draft v (last_draft bank.kept) → x ≡ all
goes_end txns i n bank v x all le h x_is =
    let none : n - i ≡ 0 = omega arith in
    x_is ∙ sym (ap (λ k. with_drafts v (transfer_drafts (2 + i) (map (portion_of txns) (range_with_len i k)) bank)) none) ∙ h.whole
