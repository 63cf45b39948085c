use Rattle.std.proofs.Common.{◌≡◌, ℕ, Some, is_some, refl, sym, ap, subst}
use Rattle.std.specs.HashMap as hash
use Rattle.row_blocks.specs.Versions.{Strikes}
use Rattle.row_blocks.specs.Shard.{shown, same_block}
use Rattle.row_blocks.proofs.Slots.{SetsBlock, known_slot, does_at}
use Rattle.row_blocks.proofs.shard.Shard.strike.Goals as goal

pub returns-in-Some-clause-strikes : goal.returns-in-Some-clause-strikes
returns-in-Some-clause-strikes c pos =
    let o = c.args.obj in
    let b = c.args.block in
    let known = c.in-Some.known.now in
    let slots = c.strike.new.self in
    let from = c.args.self.now.blocks in
    let to = c.get_mut.follows.lender slots in
    let found : hash.get same_block from (o, b) ≡ Some known = subst (λ (k : ℕ). hash.get same_block from (k, b) ≡ Some known) c.get.ensures.value (sym c.in-Some.ensures.value) in
    let sets : SetsBlock (o, b) (hash.get same_block from) (hash.get same_block to) slots =
    subst (λ (k : ℕ). SetsBlock (k, b) (hash.get same_block from) (hash.get same_block to) slots) c.get.ensures.value
    ((c.get_mut.follows.holds slots).3 (ap is_some (sym c.in-Some.ensures.value))).0 in
    does_at (shown c.args.self.now) _ o b c.args.slot pos (Strikes c.args.txn) (hash.get same_block from) (hash.get same_block to) slots refl refl (λ t. refl) (λ a. refl) (λ a. refl) sets
    (known_slot (o, b) (hash.get same_block from) c.args.slot pos (Strikes c.args.txn) known slots _ found c.strike.ensures refl)
