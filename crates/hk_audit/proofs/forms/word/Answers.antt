use Rattle.std.proofs.Common.{sym, ◌∙◌}
use Rattle.hk_audit.proofs.SeenForms.{word_taken, word_refused}
use Rattle.hk_audit.proofs.forms.word.Goals as goal

pub returns-then-begins_low-clause-ok : goal.returns-then-begins_low-clause-ok
returns-then-begins_low-clause-ok c = word_taken c.args.text.now (sym c.begins_low.ensures ∙ c.if-begins_low.true)

pub returns-else-begins_low-clause-refused : goal.returns-else-begins_low-clause-refused
returns-else-begins_low-clause-refused c = word_refused c.args.text.now (sym c.begins_low.ensures ∙ c.if-begins_low.false)
