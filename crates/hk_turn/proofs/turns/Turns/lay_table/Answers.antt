use Rattle.std.proofs.Common.{rules, sym, subst, List, Option, Some, ◌≡◌, [], ◌∷◌}
use Rattle.atomic_table.specs.Table.{opening}
use Rattle.hk_turn.specs.Rule.{KeepsRule}
use Rattle.hk_turn.specs.Views.{opening_view}
use Rattle.hk_turn.proofs.Opening.{opening_keeps_rule}
use Rattle.hk_turn.proofs.turns.Turns.lay_table.Goals as goal

pub new-requires : goal.new-requires
new-requires g c =
    let e : c.push_reserved.new.self.items ≡ Some c.args.value ∷ [] = search rules in
    subst (λ (xs : List (Option g.row.T.Denot)). KeepsRule g.T.Story.stands g.T.Story.owner c.args.seats (opening (0 ∷ []) xs (opening_view c.args.seats))) (sym e)
    (opening_keeps_rule g.T.Story.stands g.T.Story.owner c.args.seats c.args.value c.requires.stands c.requires.seats)
