use Rattle.standby_core.proofs.session.Scan.gather.Given as goal

abbrev pub ghosts-next_rows : goal.ghosts-next_rows
ghosts-next_rows a = record { name = a.blank.name; parts = a.blank.parts }
