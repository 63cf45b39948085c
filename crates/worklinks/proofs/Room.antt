-- The room of a worklink lasts for what its flush collects.
use Rattle.std.proofs.Common.{ℕ, ◌+◌, ◌*◌, ◌<◌, ◌≤◌, arith}
use Rattle.std.proofs.Math.Nat.{mul-le-mul_left}

-- Each of the areas before the cursor gave out at most one list for each item, and the area at the cursor
-- at most one for each item before this one: so there is room for one more.
pub room_left : (lists items workers cursor before : ℕ) → lists ≤ cursor * items + before → before < items → cursor < workers → lists < items * workers
room_left lists items workers cursor before kept within is_worker =
    let more : items * (cursor + 1) ≤ items * workers = mul-le-mul_left items (omega arith) in
    omega arith
