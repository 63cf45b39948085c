-- Where Apply, Mine and Raise can happen there is a state that they make.
use Rattle.std.proofs.Common.{◌≡◌, ℕ, ◌+◌, ◌<◌, ◌≤◌, ◌%◌, max, true, false, List, [], ◌∷◌, length, Option, Some, None, ◌⊎◌, inl, inr, refl, sym, ap, ◌∙◌, subst, arith, true≢false, mod-lt}
use Rattle.std.specs.Prelude.{slice_set}
use Rattle.std.specs.List.{Contains}
use Rattle.adg_base.specs.Address.{Place}
use Rattle.adg_base.specs.Area.{Held, HoldsPlace, HoldsBegin}
use Rattle.adg_base.specs.Shard.{shard_of_vector}
use Rattle.adg_base.specs.declared.vector.Vector.{Vector}
use Rattle.adg_base.specs.declared.vector.Vector.TheVariants.{Begin, Put, Delete, Undo, Commit, Abort, Create, DropObject, AddColumn, NoInMemory, EndThread}
use Rattle.adg_base.specs.declared.log.LogEntry.{LogEntry}
use Rattle.adg_model.specs.declared.mined.Mined.{Mined}
use Rattle.adg_model.specs.declared.mined.Mined.TheVariants as mined
use Rattle.adg_model.specs.Mined.{mined_of}
use Rattle.core_rules.specs.Share.{is_shared_by}
use Rattle.core_rules.specs.State.{CoreState, Shard, At, share_of}
use Rattle.core_rules.specs.Applying.{CanApply, Applies, CanMine, Mines, AreaTakes, CanRaise, Raises}
use Rattle.core_rules.specs.Invariant.{Invariant}
use Rattle.core_rules.proofs.Lists.{Has, has, contains, at_exists, at_contains}
use Rattle.core_rules.proofs.Shares.{share_own}

-- the shard of an entry is one of 64
shard_within : (v : Vector) (n : ℕ) → shard_of_vector v ≡ Some n → n < 64
shard_within (Begin txn) n h = let e : txn % 64 ≡ n = cc in let l = mod-lt txn {m = 64} (omega arith) in omega arith
shard_within (Commit txn flag) n h = let e : txn % 64 ≡ n = cc in let l = mod-lt txn {m = 64} (omega arith) in omega arith
shard_within (Abort txn) n h = let e : txn % 64 ≡ n = cc in let l = mod-lt txn {m = 64} (omega arith) in omega arith
shard_within (Put txn o b s row) n h = let e : (o + b) % 64 ≡ n = cc in let l = mod-lt (o + b) {m = 64} (omega arith) in omega arith
shard_within (Delete txn o b s) n h = let e : (o + b) % 64 ≡ n = cc in let l = mod-lt (o + b) {m = 64} (omega arith) in omega arith
shard_within (Undo txn o b s) n h = let e : (o + b) % 64 ≡ n = cc in let l = mod-lt (o + b) {m = 64} (omega arith) in omega arith
shard_within (Create o x f columns) n h = let e : o % 64 ≡ n = cc in let l = mod-lt o {m = 64} (omega arith) in omega arith
shard_within (DropObject o) n h = let e : o % 64 ≡ n = cc in let l = mod-lt o {m = 64} (omega arith) in omega arith
shard_within (AddColumn o k) n h = let e : o % 64 ≡ n = cc in let l = mod-lt o {m = 64} (omega arith) in omega arith
shard_within (NoInMemory o) n h = let e : o % 64 ≡ n = cc in let l = mod-lt o {m = 64} (omega arith) in omega arith
shard_within EndThread n h = let e : None ≡ Some n = h in absurd cc

-- an entry of a share has a shard
has_shard : (workers w : ℕ) (o : Option ℕ) → is_shared_by workers w o ≡ true → (n : ℕ) × (o ≡ Some n)
has_shard workers w None h = absurd (true≢false (sym h))
has_shard workers w (Some n) h = (n, refl)

pub possible_apply : (c : CoreState) (worker : ℕ) → Invariant c → CanApply c worker → (new : CoreState) × Applies c worker new
possible_apply c worker v can = (
  record c {
    workers = slice_set c.workers worker (record can.was { applied = can.was.applied + 1 });
    shards = slice_set c.shards shard.0 (record at.0 { applied = max at.0.applied (entry.0.pos + 1) });
  },
  record { was = can.was; found = can.found; entry = entry.0; next = entry.1; place = shard.0; own = shard.1; shard = at.0; at = at.1; effect = refl },
)
  where
    entry : (e : LogEntry) × At (share_of c worker) can.was.applied e
    entry = at_exists (share_of c worker) can.was.applied can.left

    shard : (n : ℕ) × (shard_of_vector entry.0.vector ≡ Some n)
    shard = has_shard (length c.workers) worker (shard_of_vector entry.0.vector)
        (share_own (length c.workers) worker c.log entry.0 (at_contains (share_of c worker) can.was.applied entry.0 entry.1))

    at : (s : Shard) × At c.shards shard.0 s
    at = at_exists c.shards shard.0 (let l : shard.0 < 64 = shard_within entry.0.vector shard.0 shard.1 in let n : length c.shards ≡ 64 = v.shards.count in omega arith)

-- an area with one more beginning or address
abbrev pub with_begin : ℕ → List Held → List Held
with_begin t area = record { txn = t; begun = true; places = [] } ∷ area

abbrev pub with_note : ℕ → Place → List Held → List Held
with_note t a area = record { txn = t; begun = false; places = a ∷ [] } ∷ area

abbrev pub area_with : Option Mined → List Held → List Held
area_with (Some (mined.Begin t)) area = with_begin t area
area_with (Some (mined.Note t a)) area = with_note t a area
area_with (Some (mined.End t flag committed)) area = area
area_with (Some (mined.Ddl obj)) area = area
area_with None area = area

-- what a longer area holds
place_more : (h : Held) (area : List Held) (t : ℕ) (a : Place) → HoldsPlace area t a → HoldsPlace (h ∷ area) t a
place_more h area t a k = record { held = k.held; within = contains (h ∷ area) k.held (inr (has area k.held k.within)); of = k.of; noted = k.noted }

begin_more : (h : Held) (area : List Held) (t : ℕ) → HoldsBegin area t → HoldsBegin (h ∷ area) t
begin_more h area t k = record { held = k.held; within = contains (h ∷ area) k.held (inr (has area k.held k.within)); of = k.of; noted = k.noted }

-- an area that takes nothing
takes_nothing : (what : Option Mined) (area : List Held) → ((t : ℕ) (a : Place) → what ≡ Some (mined.Note t a) → ⊥) → ((t : ℕ) → what ≡ Some (mined.Begin t) → ⊥) → AreaTakes what area area
takes_nothing what area no_note no_begin = record {
  places_kept = λ t a h. h;
  places_new = λ t a h. absurd (no_note t a h);
  places_only = λ t a h. inl h;
  begins_kept = λ t h. h;
  begins_new = λ t h. absurd (no_begin t h);
  begins_only = λ t h. inl h;
}

takes_begin : (t : ℕ) (area : List Held) → AreaTakes (Some (mined.Begin t)) area (with_begin t area)
takes_begin t area = record {
  places_kept = place_more first area;
  places_new = λ u a h. absurd cc;
  places_only = λ u a h. inl (places u a h (has (first ∷ area) h.held h.within));
  begins_kept = begin_more first area;
  begins_new = λ u h. let same : t ≡ u = cc in record { held = first; within = contains (first ∷ area) first (inl refl); of = same; noted = refl };
  begins_only = λ u h. begins u h (has (first ∷ area) h.held h.within);
}
  where
    first : Held
    first = record { txn = t; begun = true; places = [] }

    places : (u : ℕ) (a : Place) → (h : HoldsPlace (first ∷ area) u a) → Has (first ∷ area) h.held → HoldsPlace area u a
    places u a h (inr k) = record { held = h.held; within = contains area h.held k; of = h.of; noted = h.noted }
    places u a h (inl e) =
        let none : Contains [] a = subst (λ (x : Held). Contains x.places a) (sym e) h.noted in
        absurd (has [] a none)

    begins : (u : ℕ) → (h : HoldsBegin (first ∷ area) u) → Has (first ∷ area) h.held → HoldsBegin area u ⊎ (Some (mined.Begin t) ≡ Some (mined.Begin u))
    begins u h (inr k) = inl (record { held = h.held; within = contains area h.held k; of = h.of; noted = h.noted })
    begins u h (inl e) = let same : t ≡ u = ap (λ (x : Held). x.txn) e ∙ h.of in inr (ap (λ n. Some (mined.Begin n)) same)

takes_note : (t : ℕ) (p : Place) (area : List Held) → AreaTakes (Some (mined.Note t p)) area (with_note t p area)
takes_note t p area = record {
  places_kept = place_more first area;
  places_new = λ u a h. let same : t ≡ u = cc in let one : p ≡ a = cc in record { held = first; within = contains (first ∷ area) first (inl refl); of = same; noted = contains (p ∷ []) a (inl one) };
  places_only = λ u a h. places u a h (has (first ∷ area) h.held h.within);
  begins_kept = begin_more first area;
  begins_new = λ u h. absurd cc;
  begins_only = λ u h. inl (begins u h (has (first ∷ area) h.held h.within));
}
  where
    first : Held
    first = record { txn = t; begun = false; places = p ∷ [] }

    places : (u : ℕ) (a : Place) → (h : HoldsPlace (first ∷ area) u a) → Has (first ∷ area) h.held → HoldsPlace area u a ⊎ (Some (mined.Note t p) ≡ Some (mined.Note u a))
    places u a h (inr k) = inl (record { held = h.held; within = contains area h.held k; of = h.of; noted = h.noted })
    places u a h (inl e) = by_place (has (p ∷ []) a (subst (λ (x : Held). Contains x.places a) (sym e) h.noted))
      where
        by_place : Has (p ∷ []) a → HoldsPlace area u a ⊎ (Some (mined.Note t p) ≡ Some (mined.Note u a))
        by_place (inr k) = absurd k
        by_place (inl one) = let same : t ≡ u = ap (λ (x : Held). x.txn) e ∙ h.of in inr (cc)

    begins : (u : ℕ) → (h : HoldsBegin (first ∷ area) u) → Has (first ∷ area) h.held → HoldsBegin area u
    begins u h (inr k) = record { held = h.held; within = contains area h.held k; of = h.of; noted = h.noted }
    begins u h (inl e) = absurd (true≢false (sym h.noted ∙ sym (ap (λ (x : Held). x.begun) e)))

pub area_takes : (what : Option Mined) (area : List Held) → AreaTakes what area (area_with what area)
area_takes None area = takes_nothing None area (λ t a h. absurd cc) (λ t h. absurd cc)
area_takes (Some (mined.Begin t)) area = takes_begin t area
area_takes (Some (mined.Note t a)) area = takes_note t a area
area_takes (Some (mined.End t flag committed)) area = takes_nothing (Some (mined.End t flag committed)) area (λ u a h. absurd cc) (λ u h. absurd cc)
area_takes (Some (mined.Ddl obj)) area = takes_nothing (Some (mined.Ddl obj)) area (λ u a h. absurd cc) (λ u h. absurd cc)

pub possible_mine : (c : CoreState) (worker : ℕ) → Invariant c → CanMine c worker → (new : CoreState) × Mines c worker new
possible_mine c worker v can = (
  _,
  record {
    was = can.was;
    found = can.found;
    behind = can.behind;
    entry = entry.0;
    next = entry.1;
    area = area_with (mined_of c.log entry.0) can.was.area;
    noted = area_takes (mined_of c.log entry.0) can.was.area;
    effect = refl;
  },
)
  where
    within : can.was.mined < length (share_of c worker)
    within =
        let counts = (v.workers worker can.was can.found).counts in
        let applied : can.was.applied ≤ length (share_of c worker) = counts.within in
        let behind : can.was.mined < can.was.applied = can.behind in
        omega arith

    entry : (e : LogEntry) × At (share_of c worker) can.was.mined e
    entry = at_exists (share_of c worker) can.was.mined within

pub possible_raise : (c : CoreState) (worker through : ℕ) → CanRaise c worker through → (new : CoreState) × Raises c worker through new
possible_raise c worker through can = (_, record { was = can.was; found = can.found; above = can.above; received = can.received; mined = can.mined; effect = refl })
