use Rattle.std.proofs.Common.{[], ◌∷◌, ap, refl, sym, subst}
use Rattle.hk_reclaim.specs.Tally.{Tally, owing}
use Rattle.hk_table.specs.Held.{AreHeld}
use Rattle.hk_table.proofs.Holding.{few_total, inside_here, inside_nowhere}
use Rattle.hk_table.proofs.counting.hold_name_inside.Goals as goal

pub hold_inside-requires-clause-few : goal.hold_inside-requires-clause-few
hold_inside-requires-clause-few c = few_total c.args.objects.now.slots c.args.counts.now c.in-Some.slot.0 c.args.name c.in-Some.ensures.found c.requires

pub returns-in-Some : goal.returns-in-Some
returns-in-Some c = (
  ap (λ (t : Tally). t.first_new) c.hold_inside.ensures,
  λ outer owed h.
      subst (λ (t : Tally). AreHeld c.args.objects.now.slots outer (owing owed (c.args.name ∷ [])) t) (sym c.hold_inside.ensures)
      (inside_here c.args.objects.now.slots outer owed c.args.counts.now c.in-Some.slot.0 c.args.name c.in-Some.ensures.apart c.in-Some.ensures.found c.in-Some.ensures.low h),
)

pub returns-in_default : goal.returns-in_default
returns-in_default c = (refl, λ outer owed h. inside_nowhere c.args.objects.now.slots outer owed c.args.counts.now c.args.name c.in_default.ensures.none h)
