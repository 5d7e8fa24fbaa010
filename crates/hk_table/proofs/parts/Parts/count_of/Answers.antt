use Rattle.std.proofs.Common.{refl}
use Rattle.hk_table.proofs.PartReads.{read_is, missing_is}
use Rattle.hk_table.proofs.parts.Parts.count_of.Goals as goal

pub returns-in-Some : goal.returns-in-Some
returns-in-Some c =
    rw (← c.self.view_is)
    (read_is c.self.inside.objects.slots c.self.inside.queues.waiting c.in-Some.slot.0 c.args.name c.in-Some.ensures.apart c.in-Some.ensures.found (λ b. b.count) (λ o. o.count)
    (λ b procs. refl) c.count.result c.count.ensures)

pub returns-in-None : goal.returns-in-None
returns-in-None c = rw (← c.self.view_is) (missing_is c.self.inside.objects.slots c.self.inside.queues.waiting c.args.name (λ o. o.count) c.in-None.ensures.none)
