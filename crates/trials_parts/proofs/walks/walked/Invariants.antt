use Rattle.trials_parts.proofs.walks.walked.Given as goal

abbrev pub ghosts-walked_on : goal.ghosts-walked_on
ghosts-walked_on a = record { name = a.blank.name; parts = a.blank.parts }
