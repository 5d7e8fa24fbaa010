use Rattle.std.proofs.Common.{◌≡◌, ◌≤◌, List, [], length, sym, subst}
use Rattle.std.specs.Prelude.{slice_index_or}
use Rattle.std.proofs.lemmas.List.{get_or_past}
use Rattle.hk_spaces.specs.declared.stack.StackFrame.{StackFrame}
use Rattle.hk_table.specs.Held.{CanRelease, Releases}
use Rattle.hk_table.specs.Settled.{stack_names}
use Rattle.hk_table.proofs.Stepping.{releasing}
use Rattle.hk_table.proofs.StackNames.{stack_is}
use Rattle.hk_table.proofs.frames.release_frames.Goals as goal

pub release_stack-requires : goal.release_stack-requires
release_stack-requires c =
    subst (λ (fs : List StackFrame). CanRelease c.args.objects.now.slots (stack_names fs) c.args.counts.now)
    (sym (stack_is c.as_slice.result.now c.args.stacks.now.stacks c.args.proc.0 c.in-Some.stack.now c.as_slice.ensures.value c.in-Some.ensures.lookup.3.0
    c.in-Some.ensures.lookup.1)) c.requires

pub returns-in-Some : goal.returns-in-Some
returns-in-Some c =
    subst (λ (fs : List StackFrame). Releases c.args.objects.now.slots (stack_names fs) c.args.counts.now c.release_stack.new.counts)
    (stack_is c.as_slice.result.now c.args.stacks.now.stacks c.args.proc.0 c.in-Some.stack.now c.as_slice.ensures.value c.in-Some.ensures.lookup.3.0 c.in-Some.ensures.lookup.1)
    c.release_stack.ensures

pub returns-in_default : goal.returns-in_default
returns-in_default c =
    let past : slice_index_or c.args.stacks.now.stacks c.args.proc.0 [] ≡ [] =
    get_or_past c.args.stacks.now.stacks c.args.proc.0 [] (subst (λ (ss : List (List StackFrame)). length ss ≤ c.args.proc.0) c.as_slice.ensures.value
    c.in_default.ensures.lookup.3) in
    subst (λ (fs : List StackFrame). Releases c.args.objects.now.slots (stack_names fs) c.args.counts.now c.args.counts.now) (sym past)
    ((releasing c.args.objects.now.slots).nothing c.args.counts.now)
