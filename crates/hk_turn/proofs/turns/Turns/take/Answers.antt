use Rattle.std.proofs.Common.{rules, ap, ◌∙◌, sym, ℕ, Some, ◌∷◌, List, Option}
use Rattle.atomic_table.specs.Table.{rest}
use Rattle.hk_turn.proofs.turns.Turns.take.Goals as goal

pub exchange-requires : goal.exchange-requires
exchange-requires g c =
    let won = c.win-even.ensures.won in
    let e = won.3 in
    (search rules, (Some won.0, e ∙ ap (λ (l : List (ℕ × Option g.row.T.Denot)). (0, Some won.0) ∷ l) (sym (ap rest e))))
