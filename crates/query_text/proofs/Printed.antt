-- What is printed is the spelling.
use Rattle.std.proofs.Common.{◌≡◌, ℕ, List, [], ◌∷◌, ◌++◌, Some, refl, sym, ap, ◌∙◌, append_assoc, codes}
use Rattle.std.specs.Fmt.{decimal}
use Rattle.std.proofs.lemmas.List.{append-nil}
use Rattle.adg_base.specs.declared.command.Aggregate.{Aggregate}
use Rattle.adg_base.specs.declared.command.Command.{Command}
use Rattle.adg_base.specs.declared.command.Select.{Select}
use Rattle.adg_model.specs.Command.{aggregate_bytes, aggregates_bytes, command_bytes, group_bytes, select_bytes, IsCommand, Spells}
use Rattle.adg_model.proofs.CommandLaws.{one_command}
use Rattle.query_text.specs.Listed.{listed_bytes}
use Rattle.query_text.specs.Parts.{query_bytes}
use Rattle.query_text.proofs.Selects.{select_is}

behind_first : (a : Aggregate) (more : List Aggregate) → aggregate_bytes a ++ listed_bytes (codes ", ") more ≡ aggregates_bytes (a ∷ more)
behind_first a [] = append-nil (aggregate_bytes a)
behind_first a (b ∷ more) = ap (λ l. aggregate_bytes a ++ (codes ", " ++ l)) (behind_first b more) ∙ sym (append_assoc (aggregate_bytes a) (codes ", ") (aggregates_bytes (b ∷ more)))

listed_is : (listed : List Aggregate) → listed_bytes [] listed ≡ aggregates_bytes listed
listed_is [] = refl
listed_is (a ∷ more) = behind_first a more

pub aggregates_written : (out before : List ℕ) (listed lent : List Aggregate) → lent ≡ listed → out ≡ before ++ listed_bytes [] lent → out ≡ before ++ aggregates_bytes listed
aggregates_written out before listed lent same e = e ∙ ap (λ l. before ++ listed_bytes [] l) same ∙ ap (λ l. before ++ l) (listed_is listed)

pub select_written : (out middle before : List ℕ) (s : Select) → middle ≡ before ++ codes "SELECT " → out ≡ middle ++ query_bytes s → out ≡ before ++ select_bytes s
select_written out middle before s e f = f ∙ ap (λ l. l ++ query_bytes s) e ∙ append_assoc before (codes "SELECT ") (query_bytes s) ∙ ap (λ l. before ++ l) (select_is s)

pub group_written : (out middle before : List ℕ) (column : ℕ) → middle ≡ before ++ codes " GROUP BY c" → out ≡ middle ++ decimal column → out ≡ before ++ group_bytes (Some column)
group_written out middle before column e f = f ∙ ap (λ l. l ++ decimal column) e ∙ append_assoc before (codes " GROUP BY c") (decimal column)

pub print_of_one : (c other : Command) → IsCommand c → Spells (command_bytes c) other → other ≡ c
print_of_one c other good spells = one_command other c spells.0 good (sym spells.1)
