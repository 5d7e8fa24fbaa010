use Rattle.hk_audit.proofs.LineCuts.{body_none, halves_refused}
use Rattle.hk_audit.proofs.reading.read_body.Goals as goal

pub returns-in-Some-clause-none : goal.returns-in-Some-clause-none
returns-in-Some-clause-none c =
    body_none c.line_in.result c.args.body.now c.in-Some.event.now c.in-Some.reply.now c.in-Some.ensures.only c.in-Some.ensures.some c.line_in.ensures.none

pub returns-in-None-clause-none : goal.returns-in-None-clause-none
returns-in-None-clause-none c = halves_refused c.args.body.now c.in-None.ensures.none
