use Rattle.hk_audit.proofs.LineCuts.{stripped_start}
use Rattle.hk_audit.proofs.reading.behind.Goals as goal

pub returns-clause-some : goal.returns-clause-some
returns-clause-some c = (stripped_start (λ t. t.now) c.strip_prefix.result c.args.text.now c.args.start.now c.strip_prefix.ensures.cases).0

pub returns-clause-none : goal.returns-clause-none
returns-clause-none c = (stripped_start (λ t. t.now) c.strip_prefix.result c.args.text.now c.args.start.now c.strip_prefix.ensures.cases).1
