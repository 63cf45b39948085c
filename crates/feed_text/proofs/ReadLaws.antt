-- Pieces of a source that were read one after another.
use Rattle.std.proofs.Common.{◌≡◌, ℕ, List, ◌++◌, sym, subst}
use Rattle.std.specs.Prelude.{Option}
use Rattle.std.specs.Io.KnownBytes.{Consumes}
use Rattle.std.proofs.KnownBytes.{Consumes-trans}

pub read_more : (a b c : Option (List ℕ)) (old new part : List ℕ) → Consumes a b old → Consumes b c part → new ≡ old ++ part → Consumes a c new
read_more a b c old new part p q e = subst (Consumes a c) (sym e) (Consumes-trans a b c old part p q)
