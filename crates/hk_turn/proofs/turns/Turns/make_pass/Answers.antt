use Rattle.std.proofs.Common.{rules, arith}
use Rattle.hk_turn.proofs.SplitStep.{split_of_first_seat}
use Rattle.hk_turn.proofs.turns.Turns.make_pass.Goals as goal

pub split_seat-seat-requires : goal.split_seat-seat-requires
split_seat-seat-requires g c =
    (c.requires.first.0, search rules, split_of_first_seat _ _ _ _ _ _ _ _ c.requires.first.1 c.requires.number.0 c.requires.number.1 (omega arith))
