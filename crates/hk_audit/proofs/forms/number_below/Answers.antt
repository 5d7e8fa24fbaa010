use Rattle.std.proofs.Common.{sym, ◌∙◌}
use Rattle.hk_audit.proofs.SeenForms.{below_taken, below_late, below_refused}
use Rattle.hk_audit.proofs.forms.number_below.Goals as goal

pub returns-then-n-bound-clause-value : goal.returns-then-n-bound-clause-value
returns-then-n-bound-clause-value c = below_taken c.args.bound c.args.text.now c.in-Some.n (sym c.numeral.ensures ∙ c.in-Some.is) c.if-n-bound.true

pub returns-else-n-bound-clause-value : goal.returns-else-n-bound-clause-value
returns-else-n-bound-clause-value c = below_late c.args.bound c.args.text.now c.in-Some.n (sym c.numeral.ensures ∙ c.in-Some.is) c.if-n-bound.false

pub returns-in-None-clause-value : goal.returns-in-None-clause-value
returns-in-None-clause-value c = below_refused c.args.bound c.args.text.now (sym c.numeral.ensures ∙ c.in-None.is)
