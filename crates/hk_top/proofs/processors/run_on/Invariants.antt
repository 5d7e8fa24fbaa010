use Rattle.hk_top.proofs.processors.run_on.Given as goal

-- the name is that of the world
abbrev pub ghosts-run_named : goal.ghosts-run_named
ghosts-run_named g a = record { world = a.world.now }
