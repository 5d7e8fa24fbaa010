use Rattle.std.proofs.Common.{sym, ◌∙◌}
use Rattle.hk_reclaim.proofs.Sweeping.{lost_owed, sweep_keeps, sweep_loses}
use Rattle.hk_reclaim.proofs.sweep.release_if.Goals as goal

pub release_names-requires-clause-counted : goal.release_names-requires-clause-counted
release_names-requires-clause-counted c = lost_owed _ c.args.so c.args.slot _ (c.requires.stands c.if-so.true) c.requires.counted

pub returns-then-so-clause-counted : goal.returns-then-so-clause-counted
returns-then-so-clause-counted c = λ flag e h.
    sweep_loses c.args.objects.now.slots flag c.args.slot _ _ (sym e ∙ c.if-so.true) (c.requires.stands c.if-so.true) c.release_names.ensures.counted h

pub returns-else-so-clause-counted : goal.returns-else-so-clause-counted
returns-else-so-clause-counted c = λ flag e h. sweep_keeps c.args.objects.now.slots flag c.args.slot _ (sym e ∙ c.if-so.false) h
