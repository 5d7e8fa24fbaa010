use Rattle.std.proofs.Common.{sym, ◌∙◌}
use Rattle.hk_model.specs.Limits.{inc_bound}
use Rattle.hk_audit.proofs.SeenForms.{inc_taken, below_refused}
use Rattle.hk_audit.proofs.forms.inc.Goals as goal

pub returns-in-Some : goal.returns-in-Some
returns-in-Some c = inc_taken c.args.text.now c.in-Some.n (sym c.numeral.ensures ∙ c.in-Some.is)

pub returns-in-None : goal.returns-in-None
returns-in-None c = below_refused inc_bound c.args.text.now (sym c.numeral.ensures ∙ c.in-None.is)
