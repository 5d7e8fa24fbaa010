use Rattle.std.proofs.Common.{sym, ◌∙◌}
use Rattle.hk_reclaim.proofs.Leaving.{leaving_owed, leaving_takes, leaving_keeps, made_stands}
use Rattle.hk_reclaim.proofs.made.take_off_if.Goals as goal

pub take_off_names-requires-clause-stands : goal.take_off_names-requires-clause-stands
take_off_names-requires-clause-stands c = made_stands c.args.first_new c.args.objects.now.slots c.args.slot (sym c.requires.so ∙ c.if-so.true)

pub take_off_names-requires-clause-left : goal.take_off_names-requires-clause-left
take_off_names-requires-clause-left c = leaving_owed _ _ _ c.args.slot (sym c.requires.so ∙ c.if-so.true) c.requires.left

pub returns-then-so-clause-left : goal.returns-then-so-clause-left
returns-then-so-clause-left c = λ outside. leaving_takes _ _ outside _ _ c.args.slot (sym c.requires.so ∙ c.if-so.true) c.take_off_names.ensures.left

pub returns-else-so-clause-left : goal.returns-else-so-clause-left
returns-else-so-clause-left c = λ outside. leaving_keeps _ _ outside _ c.args.slot (sym c.requires.so ∙ c.if-so.false)
