use Rattle.std.proofs.Common.{◌++◌, get_or}
use Rattle.adg_base.specs.declared.value.Value.TheVariants.{Null}
use Rattle.adg_model.specs.Query.{rows_with}
use Rattle.scan_eval.proofs.group.Groups.join_key.Given as goal

abbrev pub ghost-of : goal.ghost-of
ghost-of a = a.what.now.0.now.rows ++ rows_with a.what.now.1.now.column (get_or a.what.now.1.now.keys.items a.what.now.2 Null) a.what.now.1.now.seen.rows
