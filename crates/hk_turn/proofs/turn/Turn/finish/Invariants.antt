use Rattle.std.proofs.Common.{◌≡◌, ◌++◌, ◌∷◌, []}
use Rattle.hk_turn.proofs.turn.Turn.finish.Given as goal

-- the list that is noted: the one found, with the entry
abbrev pub ghosts-give_back_with : goal.ghosts-give_back_with
ghosts-give_back_with g a = record { noted = λ l. l ≡ a.seat.me.0.found ++ a._entry.now ∷ [] }
