use Rattle.std.proofs.Common.{refl}
use Rattle.hk_objects.specs.Shelf.{code_of}
use Rattle.hk_table.proofs.PartReads.{read_is, missing_is}
use Rattle.hk_table.proofs.parts.Parts.code_of.Goals as goal

pub returns-in-Some : goal.returns-in-Some
returns-in-Some c =
    rw (← c.self.view_is)
    (read_is c.self.inside.objects.slots c.self.inside.queues.waiting c.in-Some.slot.0 c.args.name c.in-Some.ensures.apart c.in-Some.ensures.found (λ b. code_of b.procedure)
    (λ o. o.code)
    (λ b procs. refl) c.code.result c.code.ensures)

pub returns-in-None : goal.returns-in-None
returns-in-None c = rw (← c.self.view_is) (missing_is c.self.inside.objects.slots c.self.inside.queues.waiting c.args.name (λ o. o.code) c.in-None.ensures.none)
