use Rattle.std.proofs.Common.{sym, ◌∙◌}
use Rattle.hk_audit.proofs.SeenForms.{word32_taken, word32_late, word32_refused}
use Rattle.hk_audit.proofs.forms.word32.Goals as goal

pub returns-then-n-le4294967295 : goal.returns-then-n-le4294967295
returns-then-n-le4294967295 c = word32_taken c.args.text.now c.in-Some.n (sym c.numeral.ensures ∙ c.in-Some.is) c.if-n-le4294967295.true

pub returns-else-n-le4294967295 : goal.returns-else-n-le4294967295
returns-else-n-le4294967295 c = word32_late c.args.text.now c.in-Some.n (sym c.numeral.ensures ∙ c.in-Some.is) c.if-n-le4294967295.false

pub returns-in-None : goal.returns-in-None
returns-in-None c = word32_refused c.args.text.now (sym c.numeral.ensures ∙ c.in-None.is)
