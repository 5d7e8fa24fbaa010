use Rattle.std.proofs.Common.{◌≡◌, ◌<◌, length, sym, subst}
use Rattle.hk_spaces.specs.Slots.{called_frame}
use Rattle.hk_table.specs.Stacked.{Stacked}
use Rattle.hk_table.proofs.FrameMoves.{pushed_numbered}
use Rattle.hk_table.proofs.stacks.Stacks.push.Goals as goal

pub invariant_of-self-2 : goal.invariant_of-self-2
invariant_of-self-2 c =
    let st : Stacked = record { stacks = c.self.inside.all.items; next = c.self.inside.next } in
    pushed_numbered st c.args.proc.0 (called_frame c.args.space.now c.args.linkage) c.push_on.new.all.items
    (subst (λ (v : Stacked). c.args.proc.0 < length v.stacks) (sym c.self.view_is) c.requires.proc) c.self.invariant
    (subst (λ (v : Stacked). c.args.linkage.inc ≡ v.next) (sym c.self.view_is) c.requires.number) c.in_ok-push_on.ensures.ok
