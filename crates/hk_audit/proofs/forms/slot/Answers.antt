use Rattle.std.proofs.Common.{sym, ◌∙◌}
use Rattle.hk_audit.proofs.SeenForms.{slot_taken, slot_late, slot_refused}
use Rattle.hk_audit.proofs.forms.slot.Goals as goal

pub returns-then-n-lt256 : goal.returns-then-n-lt256
returns-then-n-lt256 c = slot_taken c.args.text.now c.in-Some.n (sym c.numeral.ensures ∙ c.in-Some.is) c.if-n-lt256.true

pub returns-else-n-lt256 : goal.returns-else-n-lt256
returns-else-n-lt256 c = slot_late c.args.text.now c.in-Some.n (sym c.numeral.ensures ∙ c.in-Some.is) c.if-n-lt256.false

pub returns-in-None : goal.returns-in-None
returns-in-None c = slot_refused c.args.text.now (sym c.numeral.ensures ∙ c.in-None.is)
