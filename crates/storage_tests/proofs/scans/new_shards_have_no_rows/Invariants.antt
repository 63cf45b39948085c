use Rattle.storage_tests.proofs.scans.new_shards_have_no_rows.Given as goal

abbrev pub ghosts-assert_new_shards : goal.ghosts-assert_new_shards
ghosts-assert_new_shards g a = record { name = a.blank.name; parts = a.blank.parts }
