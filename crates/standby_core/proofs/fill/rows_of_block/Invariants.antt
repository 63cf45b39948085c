use Rattle.standby_core.proofs.fill.rows_of_block.Given as goal

abbrev pub ghosts-counted_rows : goal.ghosts-counted_rows
ghosts-counted_rows a = record { name = a.blank.name; parts = a.blank.parts }
