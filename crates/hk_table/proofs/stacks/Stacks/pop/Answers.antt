use Rattle.hk_table.proofs.FrameMoves.{popped_numbered}
use Rattle.hk_table.proofs.stacks.Stacks.pop.Goals as goal

pub invariant_of-self : goal.invariant_of-self
invariant_of-self c = popped_numbered c.self.inside.all.items c.pop_off.new.all.items c.self.inside.next c.args.proc.0 c.pop_off.result c.self.invariant c.pop_off.ensures
