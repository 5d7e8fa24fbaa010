use Rattle.std.proofs.Common.{sym, subst}
use Rattle.hk_program.specs.Machines.{IsSound}
use Rattle.hk_program.proofs.Events.{opening_is}
use Rattle.hk_program.proofs.Machines.{opened_sound}
use Rattle.hk_program.proofs.machine.Machine.open.Goals as goal

pub returns-clause-sound : goal.returns-clause-sound
returns-clause-sound g c =
    subst (IsSound c.args.world.now)
    (sym (opening_is c.args.world.now (g.K.Kernel.state c.args.kernel) c.in_ok-contexts.contexts.items c.requires (rw (← c.tasks.ensures.value) c.in_ok-contexts.ensures)))
    (opened_sound c.args.world.now c.tasks.ensures.valid)
