use Rattle.std.proofs.Common.{Option, sym, subst}
use Rattle.hk_reclaim.specs.Naming.{named_in}
use Rattle.hk_spaces.specs.declared.stack.StackFrame.{StackFrame}
use Rattle.hk_table.specs.Held.{CanHold, Holds}
use Rattle.hk_table.specs.Stacked.{slots_of}
use Rattle.hk_table.proofs.Stepping.{holding}
use Rattle.hk_table.proofs.frames.hold_top.Goals as goal

pub hold_space-requires : goal.hold_space-requires
hold_space-requires c =
    subst (λ (top : Option StackFrame). CanHold c.args.objects.now.slots (named_in (slots_of top)) c.args.counts.now) (sym c.in-Some.ensures.top) c.requires

pub returns-in-Some : goal.returns-in-Some
returns-in-Some c =
    subst (λ (top : Option StackFrame). Holds c.args.objects.now.slots (named_in (slots_of top)) c.args.counts.now c.hold_space.new.counts) c.in-Some.ensures.top
    c.hold_space.ensures

pub returns-in_default : goal.returns-in_default
returns-in_default c =
    subst (λ (top : Option StackFrame). Holds c.args.objects.now.slots (named_in (slots_of top)) c.args.counts.now c.args.counts.now) c.in_default.ensures.top
    ((holding c.args.objects.now.slots).nothing c.args.counts.now)
