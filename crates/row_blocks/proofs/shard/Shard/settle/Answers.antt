use Rattle.std.proofs.Common.{inl, refl}
use Rattle.row_blocks.proofs.Settling.{known_put, either_by}
use Rattle.row_blocks.proofs.shard.Shard.settle.Goals as goal

pub returns-clause-settled : goal.returns-clause-settled
returns-clause-settled c a =
    either_by c.insert.result c.insert.ensures.updates c.insert.ensures.err
    (λ u. known_put a c.args.addr c.args.settled _ _ (u.0 a))
    (λ u. inl (rw u refl))
