use Rattle.std.proofs.Common.{Some, sym, ap, ◌∙◌}
use Rattle.adg_base.specs.declared.command.What.{What}
use Rattle.adg_base.specs.declared.command.What.TheVariants.{Aggregates}
use Rattle.adg_model.specs.Query.{aggregates_of}
use Rattle.scan_eval.proofs.accumulator.Gathered.new.Goals as goal

pub returns-in-Aggregates-Some : goal.returns-in-Aggregates-Some
returns-in-Aggregates-Some c =
    let made = c.new-in-Aggregates-Some.ensures in
    let what = c.args.select.now.what in
    record {
      asked = c.in-Aggregates-Some.is-0 ∙ ap (λ (w : What). Aggregates (aggregates_of w)) (sym c.in-Aggregates-Some.is-0);
      grouped = c.in-Aggregates-Some.is-1 ∙ ap Some (sym made.column);
      groups = made.groups (aggregates_of what);
      rows = made.seen;
    }
