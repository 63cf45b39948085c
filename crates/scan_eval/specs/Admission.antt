-- Which queries a definition lets have an answer.
use Rattle.std.specs.Prelude.{◌≡◌, if◌then◌else◌, Result, Ok, Err, IfErr}
use Rattle.adg_base.specs.declared.command.Select.{Select}
use Rattle.adg_model.specs.Database.{Table}
use Rattle.adg_model.specs.Query.{has_columns, has_types}
use Rattle.scan_eval.specs.declared.admission.QueryRefused.{QueryRefused}
use Rattle.scan_eval.specs.declared.admission.QueryRefused.TheVariants.{NoColumn, WrongType, Memory}

-- the columns that a query names are looked at first, then the kinds
abbrev pub admission : Select → Table → Result (Unit {0}) QueryRefused
admission select table =
    if has_columns select table then (if has_types select table then Ok tt else Err WrongType) else Err NoColumn

-- a result has the refusal that a definition gives; without one only memory may be wanting
abbrev pub Follows : {X : Type 0} → Result (Unit {0}) QueryRefused → Result X QueryRefused → Type 0
Follows (Err refused) result = result ≡ Err refused
Follows (Ok _) result = IfErr result (λ refused. refused ≡ Memory)
