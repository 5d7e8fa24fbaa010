use Rattle.trials_served.proofs.desk.called.Given as goal

abbrev pub ghosts-called_named : goal.ghosts-called_named
ghosts-called_named g a = record { world = a.world.now }
