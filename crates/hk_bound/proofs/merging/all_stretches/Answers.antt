use Rattle.std.proofs.Common.{subst, sym}
use Rattle.hk_bound.specs.Each.{Each}
use Rattle.hk_bound.specs.Merges.{IsStretch}
use Rattle.hk_bound.proofs.Merges.{each_push}
use Rattle.hk_bound.proofs.merging.all_stretches.Goals as goal

pub loop-number-preserved : goal.loop-number-preserved
loop-number-preserved c =
    subst (Each (IsStretch c.args.forms.now)) (sym (c.in_ok-push.ensures {u = tt}).items)
    (each_push (IsStretch c.args.forms.now) c.loop-number.stretches.items c.stretch_of.result c.loop-number.invariant c.stretch_of.ensures)
