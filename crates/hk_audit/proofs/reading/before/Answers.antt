use Rattle.hk_audit.proofs.LineCuts.{stripped_end}
use Rattle.hk_audit.proofs.reading.before.Goals as goal

pub returns-clause-some : goal.returns-clause-some
returns-clause-some c = (stripped_end (λ t. t.now) c.strip_suffix.result c.args.text.now c.args.end.now c.strip_suffix.ensures.cases).0

pub returns-clause-none : goal.returns-clause-none
returns-clause-none c = (stripped_end (λ t. t.now) c.strip_suffix.result c.args.text.now c.args.end.now c.strip_suffix.ensures.cases).1
