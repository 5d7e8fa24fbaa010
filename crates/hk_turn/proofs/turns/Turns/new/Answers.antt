use Rattle.std.proofs.Common.{rules, arith, sym, subst, ◌≡◌, [], ◌∷◌, ◌++◌}
use Rattle.hk_turn.specs.Turns.{AreNewPasses}
use Rattle.hk_turn.proofs.NewPasses.{new_more}
use Rattle.hk_turn.proofs.turns.Turns.new.Goals as goal

pub loop-number-preserved : goal.loop-number-preserved
loop-number-preserved g c =
    let e : c.push_reserved.new.self.items ≡ c.loop-number.passes.items ++ c.make_pass.result ∷ [] = search rules in (
      search rules,
      search rules,
      search rules,
      subst (AreNewPasses c.in_ok-turns.turns 1) (sym e) (new_more c.in_ok-turns.turns 1 c.loop-number.passes.items c.make_pass.result c.loop-number.number (omega arith)
          c.loop-number.invariant.3 c.make_pass.ensures.new),
    )
