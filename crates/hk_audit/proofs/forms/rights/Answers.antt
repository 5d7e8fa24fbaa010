use Rattle.std.proofs.Common.{sym, ◌∙◌}
use Rattle.hk_audit.proofs.SeenForms.{rights_taken, rights_refused}
use Rattle.hk_audit.proofs.forms.rights.Goals as goal

pub returns-in-Some : goal.returns-in-Some
returns-in-Some c = rights_taken c.args.text.now c.in-Some.rights (sym c.rights_in.ensures ∙ c.in-Some.is)

pub returns-in-None : goal.returns-in-None
returns-in-None c = rights_refused c.args.text.now (sym c.rights_in.ensures ∙ c.in-None.is)
