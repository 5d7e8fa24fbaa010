use Rattle.std.proofs.Common.{sym, ◌∙◌}
use Rattle.hk_text.proofs.FormsTold.{read_form, read_plain, read_pointed}
use Rattle.hk_text.proofs.pieces.kind_of.Goals as goal

pub returns-in-Ok : goal.returns-in-Ok
returns-in-Ok c = read_form c.args.text.now c.in-Ok.kind c.in-Ok.ensures

pub returns-then-has_point : goal.returns-then-has_point
returns-then-has_point c = rw (read_pointed c.args.text.now (sym c.has_point.ensures ∙ c.if-has_point.true)) c.path.ensures

pub returns-else-has_point : goal.returns-else-has_point
returns-else-has_point c = rw (read_plain c.args.text.now (sym c.has_point.ensures ∙ c.if-has_point.false)) c.in-Err.ensures
