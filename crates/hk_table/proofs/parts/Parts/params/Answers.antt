use Rattle.std.proofs.Common.{refl}
use Rattle.hk_objects.specs.Shelf.{params_of}
use Rattle.hk_table.proofs.PartReads.{read_is, missing_is}
use Rattle.hk_table.proofs.parts.Parts.params.Goals as goal

pub returns-in-Some-clause-value : goal.returns-in-Some-clause-value
returns-in-Some-clause-value c =
    rw (← c.self.view_is)
    (read_is c.self.inside.objects.slots c.self.inside.queues.waiting c.in-Some.slot.0 c.args.name c.in-Some.ensures.apart c.in-Some.ensures.found (λ b. params_of b.procedure)
    (λ o. o.params)
    (λ b procs. refl) c.params.result.now c.params.ensures.params)

pub returns-in-None-clause-value : goal.returns-in-None-clause-value
returns-in-None-clause-value c = rw (← c.self.view_is) (missing_is c.self.inside.objects.slots c.self.inside.queues.waiting c.args.name (λ o. o.params) c.in-None.ensures.none)
