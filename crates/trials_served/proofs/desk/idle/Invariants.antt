use Rattle.trials_served.proofs.desk.idle.Given as goal

abbrev pub ghosts-idle_named : goal.ghosts-idle_named
ghosts-idle_named g a = record { world = a.world.now }
