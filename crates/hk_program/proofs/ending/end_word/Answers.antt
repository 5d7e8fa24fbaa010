use Rattle.std.proofs.Common.{ap, refl, sym, ◌∙◌}
use Rattle.hk_model.specs.declared.snapshot.Snapshot.{Snapshot}
use Rattle.hk_model.specs.Processors.{has_ended, is_waiting}
use Rattle.hk_program.proofs.Endings.{all_runs, any_run, not_over}
use Rattle.hk_program.proofs.ending.end_word.Goals as goal

pub returns-then-not-over : goal.returns-then-not-over
returns-then-not-over g c =
    let state = g.K.Kernel.state c.args.kernel.now in
    let over = sym c.over.ensures ∙ c.if-not-over.true in
    rw (c.first_word.ensures, c.limit_reached-full.ensures, over, not_over state over) refl

pub returns : goal.returns
returns g c =
    let runs = ap (λ (s : Snapshot). s.processes) c.in_ok-snapshot.ensures in
    let processes = (g.K.Kernel.state c.args.kernel.now).processes in
    let over = sym c.over.ensures ∙ c.if-not-over.false in
    rw (
      c.first_word-2.ensures,
      c.all_ended-done.ensures,
      c.one_waits-stuck.ensures,
      c.limit_reached-full.ensures,
      c.as_slice-processes.ensures,
      runs,
      all_runs
          has_ended processes,
      any_run is_waiting processes,
      over,
    ) refl
