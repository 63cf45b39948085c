use Rattle.std.proofs.Common.{◌++◌, ◌∷◌, []}
use Rattle.scan_eval.proofs.group.Groups.add.Given as goal

abbrev pub ghost-of : goal.ghost-of
ghost-of g a = a.what.now.0.now.rows ++ g.R.RowView.values a.what.now.1.now ∷ []
