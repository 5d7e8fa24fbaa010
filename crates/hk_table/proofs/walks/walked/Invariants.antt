use Rattle.hk_table.proofs.walks.walked.Given as goal

abbrev pub ghosts-walked_on : goal.ghosts-walked_on
ghosts-walked_on a = record { name = a.blank.name; parts = a.blank.parts }
