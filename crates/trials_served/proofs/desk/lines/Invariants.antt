use Rattle.trials_served.proofs.desk.lines.Given as goal

abbrev pub ghosts-lines_named : goal.ghosts-lines_named
ghosts-lines_named g a = record { world = a.world.now }
