use Rattle.trials_served.proofs.desk.run.Given as goal

abbrev pub ghosts-run_named : goal.ghosts-run_named
ghosts-run_named g a = record { world = a.world.now }
