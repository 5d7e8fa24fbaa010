use Rattle.std.proofs.Common.{List, subst, sym}
use Rattle.hk_spaces.specs.declared.stack.StackFrame.{StackFrame}
use Rattle.hk_table.specs.Stacked.{with_top_of, AreNumbered}
use Rattle.hk_table.proofs.SlotWrites.{top_same, numbered_same}
use Rattle.hk_table.proofs.stacks.Stacks.set_top.Goals as goal

pub invariant_of-self : goal.invariant_of-self
invariant_of-self c =
    subst (λ (stacks : List (List StackFrame)). AreNumbered stacks c.self.inside.next) (sym c.put_top_of.ensures)
    (numbered_same c.self.inside.all.items (with_top_of c.self.inside.all.items c.args.proc.0 c.args.slot.0 c.args.entry) c.self.inside.next
    (top_same c.self.inside.all.items c.args.proc.0 c.args.slot.0 c.args.entry) c.self.invariant)
