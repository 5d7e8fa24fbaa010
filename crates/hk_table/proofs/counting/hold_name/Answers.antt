use Rattle.std.proofs.Common.{◌<◌, ◌≤◌, [], ◌∷◌, ap, refl, sym, subst}
use Rattle.hk_model.specs.declared.names.Name.{Name}
use Rattle.hk_reclaim.specs.Tally.{Tally, owing}
use Rattle.hk_table.specs.Held.{AreHeld}
use Rattle.hk_table.proofs.Holding.{few_total, held_here, held_nowhere, held_opening}
use Rattle.hk_table.proofs.counting.hold_name.Goals as goal

pub hold_outside-requires-clause-few : goal.hold_outside-requires-clause-few
hold_outside-requires-clause-few c = few_total c.args.objects.now.slots c.args.counts.now c.in-Some.slot.0 c.args.name c.in-Some.ensures.found c.requires

pub returns-then-name-first_new : goal.returns-then-name-first_new
returns-then-name-first_new c =
    let opens : c.args.name.0 < c.args.counts.now.first_new.0 = subst (λ (f : Name). c.args.name.0 < f.0) c.first_new.ensures c.if-name-first_new.true in
    (refl, λ outer owed h. held_opening c.args.objects.now.slots outer owed c.args.counts.now c.args.name opens h)

pub returns-in-Some : goal.returns-in-Some
returns-in-Some c =
    let made : c.args.counts.now.first_new.0 ≤ c.args.name.0 = subst (λ (f : Name). f.0 ≤ c.args.name.0) c.first_new.ensures c.if-name-first_new.false in (
      ap (λ (t : Tally). t.first_new) c.hold_outside.ensures,
      λ outer owed h.
          subst (λ (t : Tally). AreHeld c.args.objects.now.slots (owing outer (c.args.name ∷ [])) owed t) (sym c.hold_outside.ensures)
          (held_here c.args.objects.now.slots outer owed c.args.counts.now c.in-Some.slot.0 c.args.name c.in-Some.ensures.apart c.in-Some.ensures.found
          c.in-Some.ensures.low made h),
    )

pub returns-in_default : goal.returns-in_default
returns-in_default c = (refl, λ outer owed h. held_nowhere c.args.objects.now.slots outer owed c.args.counts.now c.args.name c.in_default.ensures.none h)
