use Rattle.hk_turn.specs.Passes.{seen_list}
use Rattle.hk_procs.specs.Notes.{cpu_of}
use Rattle.hk_procs.proofs.EmptyWorlds.{empty_answers_over}
use Rattle.trials_turns.proofs.workers.QuietDesk.ask.Goals as goal

pub returns-clause-answer : goal.returns-clause-answer
returns-clause-answer g c = empty_answers_over (cpu_of c.args.pass) (seen_list c.args.pass) c.requires.own.0
