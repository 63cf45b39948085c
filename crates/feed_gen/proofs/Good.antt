-- What is drawn and what the bank holds keep to their bounds.
use Rattle.std.proofs.Common.{◌≡◌, ℕ, zero, suc, ◌+◌, ◌*◌, ◌<◌, ◌≤◌, Bool, true, false, cond, List, Some, get_or, set, refl, sym, ◌∙◌, subst, arith, inl, inr, replicate, length-set, get_or-set_same, get_or-set_other}
use Rattle.std.specs.Prelude.{ℤ, pos, negsuc, ◌≤ℤ◌, ◌+ℤ◌, ◌-ℤ◌, ◌==◌}
use Rattle.std.proofs.lemmas.Int.{ints}
use Rattle.std.proofs.lemmas.Bool.{cases_eq}
use Rattle.std.proofs.lemmas.List.{length-replicate}
use Rattle.feed_gen.specs.declared.transfer.Transfer.{Transfer}
use Rattle.feed_gen.specs.declared.second.Second.{Second}
use Rattle.feed_gen.specs.declared.second.Kept.{Kept}
use Rattle.feed_gen.specs.declared.bank.Bank.{Bank}
use Rattle.feed_gen.specs.Draws.{below, drawn}
use Rattle.feed_gen.specs.Tables.{thread_of, first_balance}
use Rattle.feed_gen.specs.Transfers.{place_of, balance_of, with_balance, debited, standing, credited, settled, second_of, with_kept, number_of, after_transfer, after_transfers, opened, first_balances}
use Rattle.feed_gen.specs.Bounds.{IsTransfer, IsSecond, AreKept, IsWithin, AreWithin, IsGood}

pub drawn_good : (source : ℕ) → IsTransfer (drawn source)
unfolding below
drawn_good source = record { table = (omega arith, omega arith); from = omega arith; to = omega arith; amount = omega arith }

pub second_good : (txn : ℕ) (t : Transfer) (balance : ℤ) → IsTransfer t → IsSecond (second_of txn t balance)
second_good txn t balance h = record { table = h.table; from = h.from; to = h.to }

pub kept_good : (thread : ℕ) (s : Second) (kept : Kept) → IsSecond s → AreKept kept → AreKept (with_kept thread s kept)
kept_good thread s kept h k = by_thread (thread == 1) (thread == 2)
  where
    by_thread : (a b : Bool) → AreKept (cond a (record kept { one = Some s }) (cond b (record kept { two = Some s }) (record kept { three = Some s })))
    by_thread true b = record { one = h; two = k.two; three = k.three }
    by_thread false true = record { one = k.one; two = h; three = k.three }
    by_thread false false = record { one = k.one; two = k.two; three = h }

-- ---- balances

within_more : (low high : ℕ) (b : ℤ) → low ≤ high → IsWithin low b → IsWithin high b
within_more low high b le h = record { low = omega (arith, ints, h.low); high = omega (arith, ints, h.high) }

pub all_within_more : (low high : ℕ) (bs : List ℤ) → low ≤ high → AreWithin low bs → AreWithin high bs
all_within_more low high bs le h = record { rows = h.rows; each = λ k. within_more low high (get_or bs k (pos 0)) le (h.each k) }

within_set : (most i : ℕ) (b : ℤ) (bs : List ℤ) → i < 2000 → IsWithin most b → AreWithin most bs → AreWithin most (set bs i b)
within_set most i b bs lt here h = record { rows = length-set bs i b ∙ h.rows; each = at }
  where
    at : (k : ℕ) → IsWithin most (get_or (set bs i b) k (pos 0))
    at k =
        elim (cases_eq k i) [
          | inl e ↦ subst (λ n. IsWithin most (get_or (set bs i b) n (pos 0))) (sym e) (subst (IsWithin most) (sym (get_or-set_same bs i b (pos 0) (omega (arith, h.rows)))) here)
          | inr ne ↦ subst (IsWithin most) (sym (get_or-set_other bs i k b (pos 0) ne)) (h.each k)
        ]

debited_within : (most : ℕ) (b : ℤ) (amount : ℕ) → amount < 100 → IsWithin most b → (negsuc (most + 100) ≤ℤ (b -ℤ pos amount)) × ((b -ℤ pos amount) ≤ℤ pos most)
debited_within most b amount few h = (omega (arith, ints, h.low), omega (arith, ints, h.high))

credited_within : (most : ℕ) (b : ℤ) (amount : ℕ) → amount < 100 → negsuc (most + 100) ≤ℤ b → b ≤ℤ pos most → IsWithin (most + 100) (b +ℤ pos amount)
credited_within most b amount few low high = record { low = omega (arith, ints, low); high = omega (arith, ints, high) }

module _ (most : ℕ) (bs : List ℤ) (t : Transfer) (good : IsTransfer t) (h : AreWithin most bs) where
  pub debited_good : (negsuc (most + 100) ≤ℤ debited bs t) × (debited bs t ≤ℤ pos most)
  debited_good = debited_within most (balance_of bs t.table t.from) t.amount good.amount (h.each (place_of t.table t.from))

  pub standing_good : (negsuc (most + 100) ≤ℤ standing bs t) × (standing bs t ≤ℤ pos most)
  standing_good = by_row (t.to == t.from)
    where
      other : IsWithin (most + 100) (balance_of bs t.table t.to)
      other = within_more most (most + 100) _ (omega arith) (h.each (place_of t.table t.to))

      by_row : (b : Bool) → (negsuc (most + 100) ≤ℤ cond b (debited bs t) (balance_of bs t.table t.to)) × (cond b (debited bs t) (balance_of bs t.table t.to) ≤ℤ pos most)
      by_row true = debited_good
      by_row false = (other.low, (h.each (place_of t.table t.to)).high)

  pub credited_good : IsWithin (most + 100) (credited bs t)
  credited_good = credited_within most (standing bs t) t.amount good.amount standing_good.0 standing_good.1

  pub settled_good : AreWithin (most + 100) (settled bs t)
  settled_good = by_fate t.aborts
    where
      before : AreWithin (most + 100) bs
      before = all_within_more most (most + 100) bs (omega arith) h

      taken : IsWithin (most + 100) (debited bs t)
      taken = record { low = debited_good.0; high = omega (arith, ints, debited_good.1) }

      midway : AreWithin (most + 100) (with_balance t.table t.from (debited bs t) bs)
      midway = within_set (most + 100) (place_of t.table t.from) (debited bs t) bs (omega (arith, good.table.0, good.table.1, good.from)) taken before

      by_fate : (b : Bool) → AreWithin (most + 100) (cond b bs (with_balance t.table t.to (credited bs t) (with_balance t.table t.from (debited bs t) bs)))
      by_fate true = before
      by_fate false = within_set (most + 100) (place_of t.table t.to) (credited bs t) _ (omega (arith, good.table.0, good.table.1, good.to)) credited_good midway

-- ---- the bank

pub good_after : (bank : Bank) → IsGood bank → IsGood (after_transfer bank)
unfolding after_transfer
good_after bank h =
    let t = drawn bank.source in
    let good = drawn_good bank.source in
    let e : 1000 + 100 * bank.made + 100 ≡ 1000 + 100 * (bank.made + 1) = omega arith in
    record {
      kept = kept_good (thread_of t.table) (second_of (number_of bank) t (credited bank.balances t)) bank.kept (second_good (number_of bank) t (credited bank.balances t) good) h.kept;
      balances = subst (λ n. AreWithin n (settled bank.balances t)) e (settled_good (1000 + 100 * bank.made) bank.balances t good h.balances);
    }

pub made_after : (bank : Bank) → (after_transfer bank).made ≡ bank.made + 1
unfolding after_transfer
made_after bank = refl

-- the balances at first
each_same : (n k : ℕ) (b d : ℤ) (most : ℕ) → IsWithin most b → IsWithin most d → IsWithin most (get_or (replicate n b) k d)
each_same zero k b d most h e = e
each_same (suc n) zero b d most h e = h
each_same (suc n) (suc k) b d most h e = each_same n k b d most h e

pub first_within : AreWithin 1000 first_balances
unfolding first_balances
first_within = record {
  rows = length-replicate 2000 first_balance;
  each = λ k. each_same 2000 k first_balance (pos 0) 1000 (record { low = omega (arith, ints); high = omega (arith, ints) }) (record { low = omega (arith, ints); high = omega (arith, ints) });
}

pub opened_good : (seed : ℕ) → IsGood (opened seed)
opened_good seed = record { kept = record { one = tt; two = tt; three = tt }; balances = first_within }

pub made_many : (n : ℕ) (bank : Bank) → (after_transfers n bank).made ≡ bank.made + n
made_many zero bank = omega arith
made_many (suc n) bank = omega (arith, made_many n (after_transfer bank), made_after bank)

pub good_many : (n : ℕ) (bank : Bank) → IsGood bank → IsGood (after_transfers n bank)
good_many zero bank h = h
good_many (suc n) bank h = good_many n (after_transfer bank) (good_after bank h)
