use Rattle.std.proofs.Common.{◌≡◌, ◌∙◌, ℕ, ◌+◌, Some, ap, subst, sym}
use Rattle.hk_bound.specs.Taking.{Slots, MadeBy, Has, Follows, made_has}
use Rattle.hk_bound.specs.Columns.{proc_at, cell}
use Rattle.hk_bound.proofs.gaps.Table.has_made.Goals as goal

pub returns-then-maker-process-clause-had : goal.returns-then-maker-process-clause-had
returns-then-maker-process-clause-had c =
    let w = c.args.self.now.world.now in
    λ h. subst (λ (m : ℕ). Follows w (Has (Slots (proc_at c.args.process)) (MadeBy (proc_at m)))) (sym c.if-maker-process.true)
    (made_has (proc_at c.args.process) c.requires.process)

pub returns-in-Some-clause-had : goal.returns-in-Some-clause-had
returns-in-Some-clause-had c =
    let w = c.args.self.now.world.now in
    let rows = c.args.self.now.rows.now in
    let e : cell rows c.args.process (c.object_count.result + c.args.maker) ≡ Some c.in-Some.field-0 = sym c.get.ensures ∙ c.in-Some.is in
    λ h. ((c.requires.known.follow c.args.process (c.object_count.result + c.args.maker) c.in-Some.field-0 e).made c.args.maker c.requires.maker
    (ap (λ (n : ℕ). n + c.args.maker) c.object_count.ensures.value)).had
