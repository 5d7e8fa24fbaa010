use Rattle.hk_turn.specs.Passes.{seen_list}
use Rattle.hk_procs.specs.Notes.{cpu_of}
use Rattle.hk_procs.proofs.EmptyWorlds.{empty_makes_nothing}
use Rattle.trials_turns.proofs.workers.QuietDesk.call.Goals as goal

pub unreachable-requires : goal.unreachable-requires
unreachable-requires g c = empty_makes_nothing (cpu_of c.args._pass) (seen_list c.args._pass) c.args._proc c.args._next _ c.requires.own.0 c.requires.shown
