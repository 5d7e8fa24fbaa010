use Rattle.std.proofs.Common.{◌∙◌, arith}
use Rattle.hk_table.proofs.Bases.{next_stack, base_numbered}
use Rattle.hk_table.proofs.OpenCounts.{base_small}
use Rattle.hk_table.proofs.stacks.Stacks.open.Goals as goal

pub loop-n-preserved : goal.loop-n-preserved
loop-n-preserved c =
    c.in_ok-push.ensures.items
    ∙ next_stack c.tasks-tasks.result.now c.loop-n.n c.index-tasks-n.result c.loop-n.all.items c.in_ok-base_stack.field-0 (omega (arith, c.loop-n-test.true)) c.index-tasks-n.is
    c.loop-n.invariant c.in_ok-base_stack.ensures

pub invariant_of-result : goal.invariant_of-result
invariant_of-result c = base_numbered c.tasks-tasks.result.now c.loop-n.n c.loop-n.all.items c.loop-n-test.false c.loop-n.invariant

pub returns-clause-small : goal.returns-clause-small
returns-clause-small c =
    base_small c.args.world.now c.tasks-tasks.result.now c.loop-n.n c.loop-n.all.items c.tasks-tasks.ensures.valid c.tasks-tasks.ensures.value c.loop-n-test.false
    c.loop-n.invariant
