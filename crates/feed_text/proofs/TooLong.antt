-- What is too long for a record is none.
use Rattle.std.proofs.Common.{inl, inr, arith}
use Rattle.adg_base.specs.declared.vector.RedoRecord.{RedoRecord}
use Rattle.adg_model.specs.Records.{IsRecord}
use Rattle.change_vectors.specs.Room.{IsTooLong}

pub too_long : (r : RedoRecord) → IsTooLong r → IsRecord r → ⊥
too_long r (inl many) is = omega (arith, is.raw.count)
too_long r (inr long) is = omega (arith, is.raw.len)
