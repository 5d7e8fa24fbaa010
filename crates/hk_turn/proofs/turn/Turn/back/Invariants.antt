use Rattle.std.proofs.Common.{◌≡◌}
use Rattle.hk_turn.proofs.turn.Turn.back.Given as goal

-- the list that is noted: the one found
abbrev pub ghosts-give_back : goal.ghosts-give_back
ghosts-give_back g a = record { noted = λ l. l ≡ a.seat.me.0.found }
