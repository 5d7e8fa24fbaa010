use Rattle.std.proofs.Common.{refl}
use Rattle.hk_table.proofs.PartReads.{read_is, missing_is}
use Rattle.hk_table.proofs.parts.Parts.entries.Goals as goal

pub returns-in-Some-clause-value : goal.returns-in-Some-clause-value
returns-in-Some-clause-value c =
    rw (← c.self.view_is)
    (read_is c.self.inside.objects.slots c.self.inside.queues.waiting c.in-Some.slot.0 c.args.name c.in-Some.ensures.apart c.in-Some.ensures.found (λ b. b.entries) (λ o. o.entries)
    (λ b procs. refl) c.entries.result.now c.entries.ensures.entries)

pub returns-in-None-clause-value : goal.returns-in-None-clause-value
returns-in-None-clause-value c = rw (← c.self.view_is) (missing_is c.self.inside.objects.slots c.self.inside.queues.waiting c.args.name (λ o. o.entries) c.in-None.ensures.none)
