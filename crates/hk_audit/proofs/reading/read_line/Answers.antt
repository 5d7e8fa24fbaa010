use Rattle.hk_format.specs.AuditLines.{line_body}
use Rattle.hk_audit.proofs.LineCuts.{text_some, text_none}
use Rattle.hk_audit.proofs.reading.read_line.Goals as goal

pub returns-in-Some-clause-some : goal.returns-in-Some-clause-some
returns-in-Some-clause-some c = text_some c.read_body.result c.in-Some.body.now c.args.bytes.now c.in-Some.ensures.some c.read_body.ensures.some

pub returns-in-Some-clause-none : goal.returns-in-Some-clause-none
returns-in-Some-clause-none c = text_none c.read_body.result c.in-Some.body.now c.args.bytes.now c.in-Some.ensures.some c.read_body.ensures.none

pub returns-in-None-clause-none : goal.returns-in-None-clause-none
returns-in-None-clause-none c = λ line h e. c.in-None.ensures.none (line_body line) e
