use Rattle.std.proofs.Common.{◌≡◌, ◌++◌, take, drop, codes}
use Rattle.std.specs.List.{AllByRecursion}
use Rattle.adg_model.specs.Command.{IsCondition}
use Rattle.query_text.specs.Parts.{tests_bytes}
use Rattle.query_text.proofs.print.put_tests.Given as goal

abbrev pub invariant-loop-test : goal.invariant-loop-test
invariant-loop-test l = record {
  written : l.out.items ++ tests_bytes l.word (drop l.test-index l.tests) ≡ l.initial.out.items ++ tests_bytes (codes " WHERE c") l.tests;
  good : AllByRecursion IsCondition (take l.test-index l.tests);
}
