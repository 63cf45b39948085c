use Rattle.std.proofs.Common.{sym}
use Rattle.dictionary.proofs.Rows.{fits_row_length}
use Rattle.dictionary.proofs.row.fits_row.Goals as goal

pub returns-then-values-kinds : goal.returns-then-values-kinds
returns-then-values-kinds c = sym (fits_row_length c.args.values.now c.args.kinds.now c.if-values-kinds.true)
