use Rattle.std.proofs.Common.{◌≡◌, length, drop}
use Rattle.adg_model.specs.Sound.{fits_row}
use Rattle.dictionary.proofs.row.fits_row.Given as goal

abbrev pub invariant-loop-i : goal.invariant-loop-i
invariant-loop-i l = (length l.values ≡ length l.kinds) × (fits_row (drop l.i l.values) (drop l.i l.kinds) ≡ fits_row l.values l.kinds)
