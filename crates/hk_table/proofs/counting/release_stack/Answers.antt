use Rattle.std.proofs.Common.{arith}
use Rattle.hk_reclaim.specs.Naming.{named_in}
use Rattle.hk_spaces.specs.declared.stack.StackFrame.{StackFrame}
use Rattle.hk_table.specs.Held.{CanRelease, Releases}
use Rattle.hk_table.proofs.StackNames.{next_can, later_can, later_done, all_done}
use Rattle.hk_table.proofs.Stepping.{releasing}
use Rattle.hk_table.proofs.counting.release_stack.Goals as goal

pub loop-at-init : goal.loop-at-init
loop-at-init c = record { can = c.requires; more = λ final done. done }

pub release_space-requires : goal.release_space-requires
release_space-requires c =
    next_can (λ (g : StackFrame). named_in g.space) (λ names t. CanRelease c.args.objects.now.slots names t) (λ names t u. Releases c.args.objects.now.slots names t u)
    (releasing c.args.objects.now.slots) c.args.stack.now c.loop-at.at c.frame.result.now c.loop-at.counts c.frame.ensures c.loop-at.invariant.can

pub loop-at-preserved : goal.loop-at-preserved
loop-at-preserved c =
    record {
      can = later_can (λ (g : StackFrame). named_in g.space) (λ names t. CanRelease c.args.objects.now.slots names t) (λ names t u. Releases c.args.objects.now.slots names t u)
          (releasing c.args.objects.now.slots) c.args.stack.now c.loop-at.at c.frame.result.now c.loop-at.counts c.release_space.new.counts c.frame.ensures c.release_space.ensures
          c.loop-at.invariant.can;
      more = λ final later. c.loop-at.invariant.more final
          (later_done (λ (g : StackFrame). named_in g.space) (λ names t. CanRelease c.args.objects.now.slots names t) (λ names t u. Releases c.args.objects.now.slots names t u)
          (releasing c.args.objects.now.slots) c.args.stack.now c.loop-at.at c.frame.result.now c.loop-at.counts c.release_space.new.counts final c.frame.ensures c.release_space.ensures later);
    }

pub returns : goal.returns
returns c = c.loop-at.invariant.more c.loop-at.counts (all_done (λ (g : StackFrame). named_in g.space) (λ names t. CanRelease c.args.objects.now.slots names t)
    (λ names t u. Releases c.args.objects.now.slots names t u) (releasing c.args.objects.now.slots) c.args.stack.now c.loop-at.at c.loop-at.counts
    (omega (arith, c.depth-at-end.ensures.value)))
