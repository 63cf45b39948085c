use Rattle.std.proofs.Common.{◌≡◌, ◌<◌, length, ap, ◌∙◌, arith}
use Rattle.std.proofs.lemmas.Option.{get_or_from_slice_get}
use Rattle.column_units.specs.Shard.{Units}
use Rattle.core_rules.proofs.Lists.{at_exists}
use Rattle.standby_core.specs.Restarting.{IsEmptied}
use Rattle.standby_core.proofs.Walked.{walk_goes_on, walk_ends}
use Rattle.standby_core.proofs.restart.drop_units.Goals as goal

-- src/restart.rt:90:5
pub loop-shard-preserved : goal.loop-shard-preserved
loop-shard-preserved c =
    let long : length c.loop-shard.shards ≡ length c.args.shards.now = c.loop-shard.auto.shards in
    let below : c.loop-shard.shard-index < length c.args.shards.now = c.loop-shard-test.true in
    let was = at_exists c.loop-shard.shards c.loop-shard.shard-index (omega arith) in
    walk_goes_on IsEmptied c.loop-shard.shard-index c.args.shards.now c.loop-shard.shards was.0 c.new.result c.loop-shard.invariant was.1 (record {
      number = c.new.ensures.number ∙ c.number.ensures ∙ ap (λ (u : Units). u.number) (get_or_from_slice_get c.loop-shard.shards c.loop-shard.shard-index was.0 c.shard-item.result was.1);
      empty = c.new.ensures.empty;
    })

-- src/restart.rt:87:1
pub returns : goal.returns
returns c = walk_ends IsEmptied c.loop-shard.shard-index c.args.shards.now c.loop-shard.shards c.loop-shard.invariant c.loop-shard-test.false
