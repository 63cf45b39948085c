-- The texts of the commands.
use Rattle.std.proofs.Common.{◌≡◌, ℕ, ◌+◌, ◌<◌, ◌≤◌, [], ◌∷◌, ◌++◌, length, ap, arith, append-nil}
use Rattle.std.specs.Prelude.{codes, decimal}
use Rattle.std.proofs.lemmas.List.{length-append}
use Rattle.std.proofs.lemmas.Fmt.{decimal_digit, length-decimal-le}
use Rattle.adg_model.specs.Command.{command_bytes}
use Rattle.feed_gen.specs.declared.question.Question.{Question}
use Rattle.feed_gen.specs.declared.question.Question.TheVariants.{Populate, Sums, CountsAndSums}
use Rattle.feed_gen.specs.Commands.{command_of, sums, counts_and_sums}

first_column : decimal 1 ≡ 49 ∷ []
first_column = decimal_digit 1 (omega arith)

second_column : decimal 2 ≡ 50 ∷ []
second_column = decimal_digit 2 (omega arith)

pub sums_text : (table : ℕ) → command_bytes (sums table) ≡ codes "SELECT SUM(c2) FROM t" ++ decimal table ++ codes " GROUP BY c1"
sums_text table = rw (second_column, first_column) (ap (λ l. codes "SELECT SUM(c2) FROM t" ++ (l ++ codes " GROUP BY c1")) (append-nil (decimal table)))

pub counts_and_sums_text : (table : ℕ) → command_bytes (counts_and_sums table) ≡ codes "SELECT COUNT, SUM(c2) FROM t" ++ decimal table ++ codes " GROUP BY c1"
counts_and_sums_text table = rw (second_column, first_column) (ap (λ l. codes "SELECT COUNT, SUM(c2) FROM t" ++ (l ++ codes " GROUP BY c1")) (append-nil (decimal table)))

-- they are short
sums_len : (table : ℕ) → length (codes "SELECT SUM(c2) FROM t" ++ decimal table ++ codes " GROUP BY c1") ≡ 33 + length (decimal table)
sums_len table = omega (arith, length-append (decimal table) (codes " GROUP BY c1"))

counts_len : (table : ℕ) → length (codes "SELECT COUNT, SUM(c2) FROM t" ++ decimal table ++ codes " GROUP BY c1") ≡ 40 + length (decimal table)
counts_len table = omega (arith, length-append (decimal table) (codes " GROUP BY c1"))

pub text_few : (question : Question) (table : ℕ) → table < 256 → length (command_bytes (command_of question table)) ≤ 64
text_few Populate table lt = omega (arith, length-decimal-le 3 table (omega arith) (omega arith) (omega arith))
text_few Sums table lt = omega (arith, ap length (sums_text table), sums_len table, length-decimal-le 3 table (omega arith) (omega arith) (omega arith))
text_few CountsAndSums table lt = omega (arith, ap length (counts_and_sums_text table), counts_len table, length-decimal-le 3 table (omega arith) (omega arith) (omega arith))
