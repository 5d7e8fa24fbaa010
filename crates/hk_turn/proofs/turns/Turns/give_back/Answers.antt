use Rattle.std.proofs.Common.{rules, ◌∙◌}
use Rattle.hk_turn.proofs.GiveBackStep.{give_back_of_holder}
use Rattle.hk_turn.proofs.turns.Turns.give_back.Goals as goal

pub store-requires : goal.store-requires
store-requires g c = (
  c.exchange.ensures.0 ∙ c.requires.seat.0,
  search rules,
  give_back_of_holder _ _ _ g.J.Noting.noted _ _ _ _ _ _ _ c.requires.seat.1 c.requires.holder
      c.exchange.ensures.3 c.requires.list,
)
