use Rattle.storage_tests.proofs.blocks.picks_committed_rows.Given as goal

abbrev pub ghosts-assert_rows : goal.ghosts-assert_rows
ghosts-assert_rows g a = record { name = a.blank.name; parts = a.blank.parts }
