use Rattle.std.proofs.Common.{◌≡◌, ◌+◌, arith}
use Rattle.row_blocks.specs.Shard.{shown}
use Rattle.row_blocks.proofs.Stands.{stands_for_more}
use Rattle.row_blocks.proofs.shard.Shard.apply.Goals as goal

pub returns-clause-stands : goal.returns-clause-stands
returns-clause-stands c r h =
    let p = c.in_ok-play.ensures.ok in
    let behind : c.new-self.result ≡ c.args.entry.now.pos + 1 = omega arith in
    stands_for_more (shown c.args.self.now) _ c.args.entry.now (record { number = p.number; applied = behind; versions = p.versions; ends = p.ends })
