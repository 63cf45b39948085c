use Rattle.std.proofs.Common.{ℕ, Bool, nat_le, List, option_to_list, sym, ◌∙◌, ap}
use Rattle.std.specs.List.{list_all}
use Rattle.adg_base.specs.declared.command.Aggregate.{Aggregate}
use Rattle.adg_base.specs.declared.command.What.{What}
use Rattle.adg_model.specs.Query.{columns_in, column_of}
use Rattle.adg_model.proofs.PlainMeaning.{all_in_columns}
use Rattle.adg_model.proofs.admission.has_asked.Goals as goal

pub returns-in-Aggregates : goal.returns-in-Aggregates
returns-in-Aggregates c =
    let within : ℕ → Bool = λ k. nat_le k c.args.width in
    c.have_columns.ensures
    ∙ ap (λ (xs : List Aggregate). list_all (λ x. list_all within (option_to_list (column_of x))) xs) c.as_slice.ensures
    ∙ sym (all_in_columns within c.in-Aggregates.aggregates)
    ∙ ap (λ (w : What). list_all within (columns_in w)) (sym c.in-Aggregates.is)
