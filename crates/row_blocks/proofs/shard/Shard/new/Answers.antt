use Rattle.std.proofs.Common.{◌≡◌, None, refl, ap, arith}
use Rattle.std.specs.HashMap as hash
use Rattle.std.proofs.lemmas.Grind.{common_steps}
use Rattle.row_blocks.specs.Shard.{at_slot, same_block}
use Rattle.row_blocks.proofs.Together.{new_stands}
use Rattle.row_blocks.proofs.shard.Shard.new.Goals as goal

pub returns-clause-stands : goal.returns-clause-stands
returns-clause-stands c =
    new_stands _ c.args.number (record {
      number = refl;
      applied = c.new.ensures;
      versions = λ a h. let e : hash.get same_block c.new-2.result (a.obj, a.block) ≡ None = grind (arith, common_steps) in ap (λ x. at_slot x a.slot) e;
      ends = c.new-3.ensures;
    })
