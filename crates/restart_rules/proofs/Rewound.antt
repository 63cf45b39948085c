-- Where a list in the order of its SCNs is parted at an SCN.
use Rattle.std.proofs.Common.{◌≡◌, ℕ, zero, suc, ◌+◌, ◌<◌, ◌≤◌, Bool, true, false, cond, List, [], ◌∷◌, length, sym, ap, ◌∙◌, refl, arith}
use Rattle.std.specs.Prelude.{nat_lt, nat_le}
use Rattle.std.specs.List.{AllWithin}
use Rattle.std.specs.List.Sorted.{IsPartitionPoint}
use Rattle.std.proofs.lemmas.Bool.{leb-true, leb-false, lt-ltb, le-ltb}
use Rattle.adg_base.specs.declared.log.LogEntry.{LogEntry}
use Rattle.restart_rules.specs.Rewind.{first_above}

-- what a binary search finds is the place of the first entry above the SCN
pub found_first : (q : ℕ) (entries : List LogEntry) (i : ℕ) → i ≤ length entries
    → IsPartitionPoint (λ (e : LogEntry). nat_le e.scn q ≡ true) (λ (e : LogEntry). nat_le e.scn q ≡ false) entries i → i ≡ first_above q entries
found_first q [] i l h = omega arith
found_first q (e ∷ es) zero l h =
    let above : q < e.scn = leb-false e.scn q (h.1 0 e (omega arith) (omega arith)) in
    sym (ap (λ b. cond b 0 (first_above q es + 1)) (lt-ltb q e.scn above))
found_first q (e ∷ es) (suc i) l h =
    let upto : e.scn ≤ q = leb-true e.scn q (h.0 0 e (omega arith) (omega arith)) in
    let rest : i ≡ first_above q es = found_first q es i (omega arith) (λ k d low high. h.0 (suc k) d (omega arith) (omega arith), λ k d low high. h.1 (suc k) d (omega arith) (omega arith)) in
    let step : suc i ≡ first_above q es + 1 = omega arith in
    step ∙ sym (ap (λ b. cond b 0 (first_above q es + 1)) (le-ltb q e.scn upto))
