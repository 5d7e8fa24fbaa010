use Rattle.std.proofs.Common.{rules, arith}
use Rattle.hk_turn.proofs.PassViews.{weight_is}
use Rattle.hk_turn.proofs.LoadStep.{load_keeps_rule}
use Rattle.hk_turn.proofs.turns.Turns.length.Goals as goal

pub load-word-requires : goal.load-word-requires
load-word-requires g c =
    let one = weight_is _ _ c.into_seat-seat.ensures.2 c.args.pass.one in
    (search rules, search rules, load_keeps_rule _ _ _ _ _ _ (omega arith))
