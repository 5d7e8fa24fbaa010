use Rattle.std.proofs.Common.{rules, ◌∙◌, ◌<◌, sym, subst}
use Rattle.hk_turn.specs.Steps.{AtSeat}
use Rattle.hk_turn.proofs.TryStep.{try_keeps_rule}
use Rattle.hk_turn.proofs.turns.Turns.win.Goals as goal

pub compare_exchange-found-requires : goal.compare_exchange-found-requires
compare_exchange-found-requires g c =
    let same = c.loop.invariant.2 in (
      c.loop.invariant.1 ∙ c.requires.seat.0,
      search rules,
      try_keeps_rule _ _ _ _ _ _ _
          (subst (λ (m : AtSeat g.row.T.Denot g.row.T-Entry.Denot). 0 < m.0.weight) (sym same) c.requires.seat.1) c.if-word-eq0.true,
    )
