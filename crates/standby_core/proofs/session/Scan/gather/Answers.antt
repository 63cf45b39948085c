use Rattle.std.proofs.Common.{◌≡◌, ◌+◌, ◌<◌, ◌≤◌, ◌^◌, length, arith}
use Rattle.standby_core.proofs.NextExtent.{gathered_few, counted_few}
use Rattle.standby_core.proofs.session.Scan.gather.Goals as goal

-- src/extent.rt:63:9
pub join-requires-clause-room : goal.join-requires-clause-room
join-requires-clause-room c =
    let few : length c.in_ok-rows.rows.rows ≤ 1024 = gathered_few _ _ _ _ _ c.in_ok-rows.ensures in
    let room : length c.args.self.now.accumulator.rows + 1024 < 2 ^ 64 = c.requires.room in
    omega arith

-- src/extent.rt:65:9
pub overflow_add-self-2 : goal.overflow_add-self-2
overflow_add-self-2 c =
    let few : c.in_ok-rows.counts.from_columns + c.in_ok-rows.counts.from_blocks ≤ 1024 = counted_few _ _ _ _ _ c.in_ok-rows.ensures in
    let split : c.args.self.now.col + c.args.self.now.row ≡ length c.args.self.now.accumulator.rows = c.requires.split in
    let room : length c.args.self.now.accumulator.rows + 1024 < 2 ^ 64 = c.requires.room in
    omega arith

-- src/extent.rt:66:9
pub overflow_add-self-3 : goal.overflow_add-self-3
overflow_add-self-3 c =
    let few : c.in_ok-rows.counts.from_columns + c.in_ok-rows.counts.from_blocks ≤ 1024 = counted_few _ _ _ _ _ c.in_ok-rows.ensures in
    let split : c.args.self.now.col + c.args.self.now.row ≡ length c.args.self.now.accumulator.rows = c.requires.split in
    let room : length c.args.self.now.accumulator.rows + 1024 < 2 ^ 64 = c.requires.room in
    omega arith
