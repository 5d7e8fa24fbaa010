use Rattle.std.proofs.Common.{sym, ◌∙◌}
use Rattle.hk_audit.proofs.SeenForms.{right_taken, right_refused}
use Rattle.hk_audit.proofs.forms.right.Goals as goal

pub returns-in-Some : goal.returns-in-Some
returns-in-Some c = right_taken c.args.text.now c.in-Some.right (sym c.right_in.ensures ∙ c.in-Some.is)

pub returns-in-None : goal.returns-in-None
returns-in-None c = right_refused c.args.text.now (sym c.right_in.ensures ∙ c.in-None.is)
