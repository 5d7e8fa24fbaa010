-- Another current incarnation changes no place.
use Rattle.std.proofs.Common.{◌∙◌, ap, refl, arith, List}
use Rattle.hk_model.specs.declared.objects.Process.{Process}
use Rattle.hk_running.specs.Runners.{with_current}
use Rattle.hk_running.proofs.RunnerLemmas.{placed_current, current_written}
use Rattle.hk_running.proofs.processes.Processes.set_current.Goals as goal

pub invariant_of-self : goal.invariant_of-self
invariant_of-self c =
    placed_current c.self.inside.all.items c.self.inside.places c.self.inside.live c.args.proc.0 (record { run = c.index_mut.result.now.run; current = c.args.inc })
    c.index_mut.result.now c.self.invariant (omega (arith, c.self.inside.all.ok.0)) c.index_mut.ensures.value refl

pub returns-then-at-len : goal.returns-then-at-len
returns-then-at-len c =
    current_written c.self.inside.all.items c.args.proc c.args.inc c.index_mut.result.now (omega (arith, c.self.inside.all.ok.0)) c.index_mut.ensures.value
    ∙ ap (λ (ps : List Process). with_current ps c.args.proc c.args.inc) c.self.view_is
