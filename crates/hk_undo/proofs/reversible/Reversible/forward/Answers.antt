use Rattle.std.proofs.Common.{◌≡◌, refl, subst, false}
use Rattle.hk_model.specs.Processors.{may_step}
use Rattle.hk_model.specs.Running.{Machine}
use Rattle.hk_program.proofs.Events.{not_reached}
use Rattle.hk_program.proofs.StepCases.{no_processor, no_step}
use Rattle.hk_undo.proofs.reversible.Reversible.forward.Goals as goal

pub returns-then-cpu-ge-CPU_LIMIT-clause-none : goal.returns-then-cpu-ge-CPU_LIMIT-clause-none
returns-then-cpu-ge-CPU_LIMIT-clause-none c = (no_processor c.args.world.now c.args.self.now c.args.cpu c.if-cpu-ge-CPU_LIMIT.true, refl)

pub returns-then-limit_reached-clause-none : goal.returns-then-limit_reached-clause-none
returns-then-limit_reached-clause-none c =
    let may = not_reached _ (may_step c.self.inside.kernel) c.limit_reached.ensures c.if-limit_reached.true in
    (no_step c.args.world.now c.args.self.now c.args.cpu (subst (λ (m : Machine). may_step m.state ≡ false) c.self.view_is may), refl)
