use Rattle.hk_table.proofs.EndMoves.{cleared_numbered}
use Rattle.hk_table.proofs.stacks.Stacks.clear.Goals as goal

pub invariant_of-self : goal.invariant_of-self
invariant_of-self c = cleared_numbered c.self.inside.all.items c.empty_at.new.all.items c.self.inside.next c.args.proc.0 c.self.invariant c.empty_at.ensures
