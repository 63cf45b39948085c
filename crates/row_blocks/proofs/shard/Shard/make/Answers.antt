use Rattle.std.proofs.Common.{◌≡◌, ℕ, cond, [], ◌∷◌, ◌++◌, slice_index_or, Some, None, is_some, refl, sym, ap, subst, ◌∙◌}
use Rattle.std.specs.HashMap as hash
use Rattle.row_blocks.specs.Versions.{Makes}
use Rattle.row_blocks.specs.Shard.{shown, same_block, at_slot}
use Rattle.row_blocks.proofs.Slots.{SetsBlock, known_slot, fresh_slot, same_slots, does_at, not_struck}
use Rattle.row_blocks.proofs.ShardLists.{on_err}
use Rattle.row_blocks.proofs.shard.Shard.make.Goals as goal

pub returns-in-Some-clause-ok : goal.returns-in-Some-clause-ok
returns-in-Some-clause-ok c =
    let o = c.args.obj in
    let b = c.args.block in
    let v = c.args.version in
    let known = c.in-Some.known.now in
    let slots = c.push.new.self in
    let from = c.args.self.now.blocks in
    let to = c.get_mut.follows.lender slots in
    let found : hash.get same_block from (o, b) ≡ Some known = subst (λ (k : ℕ). hash.get same_block from (k, b) ≡ Some known) c.get.ensures.value (sym c.in-Some.ensures.value) in
    let sets : SetsBlock (o, b) (hash.get same_block from) (hash.get same_block to) slots =
    subst (λ (k : ℕ). SetsBlock (k, b) (hash.get same_block from) (hash.get same_block to) slots) c.get.ensures.value
    ((c.get_mut.follows.holds slots).3 (ap is_some (sym c.in-Some.ensures.value))).0 in
    does_at (shown c.args.self.now) _ o b c.args.slot v.pos (Makes v.txn v.row) (hash.get same_block from) (hash.get same_block to) slots refl refl (λ t. refl) (λ a. refl) (λ a. refl) sets
    (known_slot (o, b) (hash.get same_block from) c.args.slot v.pos (Makes v.txn v.row) known slots _ found c.in_ok-push.ensures.ok
    (ap (λ x. slice_index_or known c.args.slot [] ++ x ∷ []) (not_struck v c.requires)))

pub returns-in_err-push-clause-err : goal.returns-in_err-push-clause-err
returns-in_err-push-clause-err c =
    let o = c.args.obj in
    let b = c.args.block in
    let slots = c.push.new.self in
    let from = c.args.self.now.blocks in
    let to = c.get_mut.follows.lender slots in
    let found : hash.get same_block from (c.get.result, b) ≡ Some slots = sym c.in-Some.ensures.value ∙ ap Some (sym c.in_err-push.ensures.err) in
    let same : (q : ℕ × ℕ) → hash.get same_block to q ≡ hash.get same_block from q =
    same_slots (c.get.result, b) (hash.get same_block from) (hash.get same_block to) slots
    ((c.get_mut.follows.holds slots).3 (ap is_some (sym c.in-Some.ensures.value))).0 found in
    on_err c.from_residual.result (record { number = refl; applied = refl; versions = λ a h. ap (λ x. at_slot x a.slot) (same (a.obj, a.block)); ends = λ t. refl })

pub returns-clause-ok : goal.returns-clause-ok
returns-clause-ok c =
    let o = c.args.obj in
    let b = c.args.block in
    let v = c.args.version in
    let slots = c.push-2.new.self in
    let from = c.args.self.now.blocks in
    let to = c.insert.new.self in
    let missing : hash.get same_block from (o, b) ≡ None = subst (λ (k : ℕ). hash.get same_block from (k, b) ≡ None) c.get.ensures.value (sym c.in_default.ensures.value) in
    let sets : SetsBlock (o, b) (hash.get same_block from) (hash.get same_block to) slots =
    subst (λ (k : ℕ). SetsBlock (k, b) (hash.get same_block from) (hash.get same_block to) slots) c.get.ensures.value
    (λ q. c.in_ok-insert.ensures.updates.0 q ∙ ap (λ m. cond (same_block (c.get.result, b) q) (Some slots) (hash.get same_block m q)) c.get_mut.follows.holds-at-none) in
    does_at (shown c.args.self.now) _ o b c.args.slot v.pos (Makes v.txn v.row) (hash.get same_block from) (hash.get same_block to) slots refl refl (λ t. refl) (λ a. refl) (λ a. refl) sets
    (fresh_slot (o, b) (hash.get same_block from) c.args.slot v.pos (Makes v.txn v.row) c.new-fresh.result slots _ missing c.new-fresh.ensures c.in_ok-push-2.ensures.ok
    (ap (λ x. slice_index_or c.new-fresh.result c.args.slot [] ++ x ∷ []) (not_struck v c.requires)))
