use Rattle.std.proofs.Common.{sym, ◌∙◌}
use Rattle.hk_audit.proofs.SeenForms.{one_taken, several_taken, path_refused}
use Rattle.hk_audit.proofs.forms.path.Goals as goal

pub returns-in-Some : goal.returns-in-Some
returns-in-Some c = one_taken c.args.text.now c.in-Some.n c.one_index.result (sym c.numeral.ensures ∙ c.in-Some.is) c.one_index.ensures

pub returns-in-Some-path_in : goal.returns-in-Some-path_in
returns-in-Some-path_in c = several_taken c.args.text.now c.in-Some-path_in.path (sym c.numeral.ensures ∙ c.in-None.is) (sym c.path_in.ensures ∙ c.in-Some-path_in.is)

pub returns-in-None-path_in : goal.returns-in-None-path_in
returns-in-None-path_in c = path_refused c.args.text.now (sym c.numeral.ensures ∙ c.in-None.is) (sym c.path_in.ensures ∙ c.in-None-path_in.is)
