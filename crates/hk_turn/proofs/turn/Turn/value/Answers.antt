use Rattle.std.proofs.Common.{refl, []}
use mir.Syntax.{named}
use Rattle.hk_turn.specs.contracts.turn.Turn.{the_row}
use Rattle.hk_turn.proofs.turn.Turn.value.Goals as goal

-- two turns with the same fields are one value
pub returns : goal.returns
returns g c = ((refl, λ w. (the_row (record { mir = named 1; lft = [] }) g.row.T g.row.T-Entry g.T.Story).coded.inj _ _ refl), record { lends = tt; value = refl })
