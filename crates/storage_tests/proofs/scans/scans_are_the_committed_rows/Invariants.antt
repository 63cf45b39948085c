use Rattle.storage_tests.proofs.scans.scans_are_the_committed_rows.Given as goal

abbrev pub ghosts-assert_cases : goal.ghosts-assert_cases
ghosts-assert_cases g a = record { name = a.blank.name; parts = a.blank.parts }
