use Rattle.std.proofs.Common.{ap, refl, sym, subst}
use Rattle.hk_reclaim.specs.Tally.{Tally}
use Rattle.hk_table.specs.Held.{AreHeld}
use Rattle.hk_table.proofs.Holding.{some_inside, outside_here, outside_nowhere}
use Rattle.hk_table.proofs.counting.release_name_inside.Goals as goal

pub release_inside-requires-clause-held : goal.release_inside-requires-clause-held
release_inside-requires-clause-held c = some_inside c.args.objects.now.slots c.args.counts.now c.in-Some.slot.0 c.args.name c.in-Some.ensures.found c.requires

pub returns-in-Some : goal.returns-in-Some
returns-in-Some c = (
  ap (λ (t : Tally). t.first_new) c.release_inside.ensures,
  λ outer owed h.
      subst (λ (t : Tally). AreHeld c.args.objects.now.slots outer owed t) (sym c.release_inside.ensures)
      (outside_here c.args.objects.now.slots outer owed c.args.counts.now c.in-Some.slot.0 c.args.name c.in-Some.ensures.apart c.in-Some.ensures.found c.in-Some.ensures.low h),
)

pub returns-in_default : goal.returns-in_default
returns-in_default c = (refl, λ outer owed h. outside_nowhere c.args.objects.now.slots outer owed c.args.counts.now c.args.name c.in_default.ensures.none h)
