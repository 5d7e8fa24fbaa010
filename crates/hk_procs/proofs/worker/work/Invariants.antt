use Rattle.std.specs.Prelude.{◌≡◌}
use Rattle.hk_turn.specs.Passes.{pass_number, seen_list}
use Rattle.hk_procs.specs.Notes.{cpu_of}
use Rattle.hk_procs.specs.Ends.{Holds}
use Rattle.hk_procs.proofs.worker.work.Given as goal

abbrev pub invariant-loop : goal.invariant-loop
invariant-loop g l =
    ((goal.iterator-loop g).can_next l.iterator' × (goal.iterator-loop g).is_finite l.iterator')
    × g.D.Desk.belongs l.desk l.pass × (pass_number l.pass ≡ pass_number l.initial.pass)
    × Holds g.D.Desk.world (cpu_of l.pass) (seen_list l.pass) l.held
