use Rattle.base_tests.proofs.base_types.ends_and_shards.Given as goal

abbrev pub ghosts-tick_twice : goal.ghosts-tick_twice
ghosts-tick_twice g a = record { name = a.blank.name; parts = a.blank.parts }
