use Rattle.trials_served.proofs.desk.asked.Given as goal

abbrev pub ghosts-asked_named : goal.ghosts-asked_named
ghosts-asked_named g a = record { world = a.world.now }
