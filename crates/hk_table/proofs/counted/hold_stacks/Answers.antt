use Rattle.std.proofs.Common.{arith}
use Rattle.hk_table.specs.Held.{CanHold, Holds}
use Rattle.hk_table.specs.Settled.{stack_names}
use Rattle.hk_table.proofs.StackNames.{some_item, next_can, later_can, later_done, all_done}
use Rattle.hk_table.proofs.Stepping.{holding}
use Rattle.hk_table.proofs.counted.hold_stacks.Goals as goal

pub loop-n-init : goal.loop-n-init
loop-n-init c = record { can = c.requires; more = λ final done. done }

pub hold_stack-requires : goal.hold_stack-requires
hold_stack-requires c =
    next_can stack_names (λ names t. CanHold c.args.objects.now.slots names t) (λ names t u. Holds c.args.objects.now.slots names t u) (holding c.args.objects.now.slots)
    c.args.stacks.now c.loop-n.n c.index-stacks-n.result c.loop-n.counts
    (some_item c.args.stacks.now c.loop-n.n c.index-stacks-n.result c.loop-n-test.true c.index-stacks-n.is) c.loop-n.invariant.can

pub loop-n-preserved : goal.loop-n-preserved
loop-n-preserved c =
    let here = some_item c.args.stacks.now c.loop-n.n c.index-stacks-n.result c.loop-n-test.true c.index-stacks-n.is in
    record {
      can = later_can stack_names (λ names t. CanHold c.args.objects.now.slots names t) (λ names t u. Holds c.args.objects.now.slots names t u)
          (holding c.args.objects.now.slots) c.args.stacks.now c.loop-n.n c.index-stacks-n.result c.loop-n.counts c.hold_stack.new.counts here c.hold_stack.ensures
          c.loop-n.invariant.can;
      more = λ final later. c.loop-n.invariant.more final
          (later_done stack_names (λ names t. CanHold c.args.objects.now.slots names t) (λ names t u. Holds c.args.objects.now.slots names t u)
          (holding c.args.objects.now.slots) c.args.stacks.now c.loop-n.n c.index-stacks-n.result c.loop-n.counts c.hold_stack.new.counts final here c.hold_stack.ensures
          later);
    }

pub returns : goal.returns
returns c = c.loop-n.invariant.more c.loop-n.counts (all_done stack_names (λ names t. CanHold c.args.objects.now.slots names t)
    (λ names t u. Holds c.args.objects.now.slots names t u) (holding c.args.objects.now.slots) c.args.stacks.now c.loop-n.n c.loop-n.counts (omega arith))
