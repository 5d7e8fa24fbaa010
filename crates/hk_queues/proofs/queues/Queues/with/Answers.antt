use Rattle.std.proofs.Common.{ℕ, [], ap, ◌∙◌, replicate}
use Rattle.hk_links.specs.Chained.{Chained}
use Rattle.hk_queues.proofs.Lists.{queued_empty}
use Rattle.hk_queues.proofs.queues.Queues.with.Goals as goal

pub returns-in-Ok : goal.returns-in-Ok
returns-in-Ok c =
    let size = c.in-Some.ensures.1 in
    queued_empty c.in-Ok.chains c.args.processes c.min.result c.args.semaphores
    (c.in-Ok.ensures ∙ ap (λ (k : ℕ). let v : Chained = record { cells = c.min.result; lists = replicate k [] } in v) size)
