-- The order of a log: positions count from 0, SCNs do not fall, and none is above the frontier.
use Rattle.std.proofs.Common.{◌≡◌, ℕ, zero, suc, ◌+◌, ◌≤◌, List, [], ◌∷◌, ◌++◌, Some, None, ap, ◌∙◌, subst, arith}
use Rattle.std.specs.List.{Contains, AllByRecursion}
use Rattle.adg_base.specs.declared.log.LogEntry.{LogEntry}
use Rattle.adg_model.specs.Log.{numbered}
use Rattle.adg_model.specs.Sound.{ScnsWithin, IsLog}
use Rattle.adg_model.proofs.LogLaws.{ScnsRise}
use Rattle.core_rules.specs.State.{At}
use Rattle.core_rules.proofs.Lists.{each_at, each_contains}

-- a position is the first one and the number of entries before it
position_from : (pos : ℕ) (es : List LogEntry) (n : ℕ) (e : LogEntry) → numbered pos es ≡ es → At es n e → e.pos ≡ pos + n
position_from pos [] n e h a = let c : None ≡ Some e = a in absurd cc
position_from pos (x ∷ xs) zero e h a =
    let placed : LogEntry = record x { pos = pos } in
    let given : placed ∷ numbered (pos + 1) xs ≡ x ∷ xs = h in
    let here : placed ≡ x = cc in
    let same : Some x ≡ Some e = a in
    let is : x ≡ e = cc in
    let there : pos ≡ e.pos = ap (λ (y : LogEntry). y.pos) (here ∙ is) in
    omega arith
position_from pos (x ∷ xs) (suc n) e h a =
    let placed : LogEntry = record x { pos = pos } in
    let given : placed ∷ numbered (pos + 1) xs ≡ x ∷ xs = h in
    let rest : numbered (pos + 1) xs ≡ xs = cc in
    let there : e.pos ≡ pos + 1 + n = position_from (pos + 1) xs n e rest a in
    omega arith

pub positions : (log : List LogEntry) (frontier : ℕ) → IsLog log frontier → (n : ℕ) (e : LogEntry) → At log n e → e.pos ≡ n
positions log frontier h n e a = let there : e.pos ≡ 0 + n = position_from 0 log n e h.places a in omega arith

-- SCNs within two others
pub scns_above : (low high : ℕ) (es : List LogEntry) → ScnsWithin low high es → AllByRecursion (λ e. low ≤ e.scn) es
scns_above low high [] h = tt
scns_above low high (x ∷ xs) h = (h.0, later low x.scn xs h.0 (scns_above x.scn high xs h.2))
  where
    later : (low scn : ℕ) (ys : List LogEntry) → low ≤ scn → AllByRecursion (λ e. scn ≤ e.scn) ys → AllByRecursion (λ e. low ≤ e.scn) ys
    later low scn [] l k = tt
    later low scn (y ∷ ys) l k = let below : scn ≤ y.scn = k.0 in (omega arith, later low scn ys l k.1)

pub scns_below : (low high : ℕ) (es : List LogEntry) → ScnsWithin low high es → AllByRecursion (λ e. e.scn ≤ high) es
scns_below low high [] h = tt
scns_below low high (x ∷ xs) h = (h.1, scns_below x.scn high xs h.2)

pub scns_rise : (low high : ℕ) (es : List LogEntry) → ScnsWithin low high es → ScnsRise es
scns_rise low high [] h = tt
scns_rise low high (x ∷ xs) h = (scns_above x.scn high xs h.2, scns_rise x.scn high xs h.2)

-- entries within two SCNs, and behind them entries from the upper one on
pub scns_append : (low mid high : ℕ) (xs ys : List LogEntry) → ScnsWithin low mid xs → ScnsWithin (mid + 1) high ys → low ≤ mid + 1 → mid ≤ high
    → ScnsWithin low high (xs ++ ys)
scns_append low mid high [] [] h k l m = tt
scns_append low mid high [] (y ∷ ys) h k l m = let first : mid + 1 ≤ y.scn = k.0 in (omega arith, k.1, k.2)
scns_append low mid high (x ∷ xs) ys h k l m =
    let below : x.scn ≤ mid = h.1 in
    (h.0, omega arith, scns_append x.scn mid high xs ys h.2 k (omega arith) m)

rises_in : (es : List LogEntry) (i j : ℕ) (e f : LogEntry) → ScnsRise es → i ≤ j → At es i e → At es j f → e.scn ≤ f.scn
rises_in [] i j e f h l a b = let c : None ≡ Some e = a in absurd cc
rises_in (x ∷ xs) zero zero e f h l a b =
    let first : Some x ≡ Some e = a in
    let second : Some x ≡ Some f = b in
    let same : e ≡ f = cc in
    let scn : e.scn ≡ f.scn = ap (λ (y : LogEntry). y.scn) same in
    omega arith
rises_in (x ∷ xs) zero (suc j) e f h l a b =
    let first : Some x ≡ Some e = a in
    let is : x ≡ e = cc in
    let r : x.scn ≤ f.scn = each_at (λ (y : LogEntry). x.scn ≤ y.scn) xs j f h.0 b in
    subst (λ (y : LogEntry). y.scn ≤ f.scn) is r
rises_in (x ∷ xs) (suc i) zero e f h l a b = absurd (omega arith)
rises_in (x ∷ xs) (suc i) (suc j) e f h l a b = rises_in xs i j e f h.1 (omega arith) a b

pub rises : (log : List LogEntry) (frontier : ℕ) → IsLog log frontier → (i j : ℕ) (e f : LogEntry) → i ≤ j → At log i e → At log j f → e.scn ≤ f.scn
rises log frontier h i j e f l a b = rises_in log i j e f (scns_rise 1 frontier log h.scns) l a b

pub received : (log : List LogEntry) (frontier : ℕ) → IsLog log frontier → (e : LogEntry) → Contains log e → e.scn ≤ frontier
received log frontier h e k = each_contains (λ (y : LogEntry). y.scn ≤ frontier) log e (scns_below 1 frontier log h.scns) k
