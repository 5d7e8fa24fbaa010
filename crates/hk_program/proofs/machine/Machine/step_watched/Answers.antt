use Rattle.std.proofs.Common.{◌≡◌, refl, subst}
use Rattle.std.specs.Prelude.{false}
use Rattle.hk_model.specs.Processors.{may_step}
use Rattle.hk_model.specs.Running.{Machine}
use Rattle.hk_program.proofs.Events.{not_reached, dispatch_sound}
use Rattle.hk_program.proofs.Machines.{step_sound}
use Rattle.hk_program.proofs.StepCases.{no_processor, no_step}
use Rattle.hk_program.proofs.machine.Machine.step_watched.Goals as goal

pub returns-then-cpu-ge-CPU_LIMIT-clause-none : goal.returns-then-cpu-ge-CPU_LIMIT-clause-none
returns-then-cpu-ge-CPU_LIMIT-clause-none g c _ = (no_processor c.args.world.now c.args.self.now c.args.cpu c.if-cpu-ge-CPU_LIMIT.true, refl)

pub returns-then-limit_reached-clause-none : goal.returns-then-limit_reached-clause-none
returns-then-limit_reached-clause-none g c _ =
    let may = not_reached _ (may_step (g.K.Kernel.state c.self.inside.kernel)) c.limit_reached.ensures c.if-limit_reached.true in
    (no_step c.args.world.now c.args.self.now c.args.cpu (subst (λ (m : Machine). may_step m.state ≡ false) c.self.view_is may), refl)

pub returns-in_ok-event-in-Some-clause-sound : goal.returns-in_ok-event-in-Some-clause-sound
returns-in_ok-event-in-Some-clause-sound g c =
    step_sound c.args.world.now c.args.self.now c.args.cpu c.event.new.line c.event.new.self c.requires c.in_ok-event-in-Some.ensures.made

pub returns-in-None-clause-sound : goal.returns-in-None-clause-sound
returns-in-None-clause-sound g c =
    dispatch_sound c.args.world.now c.args.self.now c.dispatch.new.self c.args.cpu c.dispatch.new.line c.dispatch.result c.requires c.dispatch.ensures.given c.dispatch.ensures.none
