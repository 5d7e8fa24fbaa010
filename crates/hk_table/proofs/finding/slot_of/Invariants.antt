use Rattle.hk_table.proofs.finding.slot_of.Given as goal

abbrev pub ghosts-slot_on : goal.ghosts-slot_on
ghosts-slot_on a = record { name = a.blank.name; parts = a.blank.parts }
