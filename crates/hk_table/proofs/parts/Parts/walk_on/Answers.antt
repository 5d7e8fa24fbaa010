use Rattle.std.proofs.Common.{◌<◌, length, arith}
use Rattle.hk_table.proofs.WalkSteps.{walk_refused, walk_told}
use Rattle.hk_table.proofs.parts.Parts.walk_on.Goals as goal

pub returns-in-Err-clause-value : goal.returns-in-Err-clause-value
returns-in-Err-clause-value c =
    let some : 0 < length c.args.rest.now = grind (arith, c.if-is_empty.ensures) in
    walk_refused c.args.self.now c.args.first c.args.rest.now c.in-Err.refusal some c.in-Err.ensures

pub returns-in-Ok-clause-value : goal.returns-in-Ok-clause-value
returns-in-Ok-clause-value c =
    rw (← c.self.view_is) (walk_told c.self.inside.objects c.self.inside.queues c.self.inside.processes c.self.inside.stacks c.self.inside.first_new c.self.inside.events
    c.self.inside.limit c.args.first c.in-Ok.from c.args.rest.now c.walked.result c.in-Ok.ensures c.walked.ensures.value)
