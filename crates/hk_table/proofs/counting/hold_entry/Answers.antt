use Rattle.hk_table.specs.Held.{CanHold, Holds}
use Rattle.hk_table.proofs.Stepping.{holding, one_can, one_done, none_done}
use Rattle.hk_table.proofs.counting.hold_entry.Goals as goal

pub hold_name-requires : goal.hold_name-requires
hold_name-requires c = one_can (λ names t. CanHold c.args.objects.now.slots names t) (λ names t u. Holds c.args.objects.now.slots names t u) (holding c.args.objects.now.slots)
    c.args.entry.now c.in-Some.name c.args.counts.now c.in-Some.ensures c.requires

pub returns-in-Some : goal.returns-in-Some
returns-in-Some c = one_done (λ names t. CanHold c.args.objects.now.slots names t) (λ names t u. Holds c.args.objects.now.slots names t u) (holding c.args.objects.now.slots)
    c.args.entry.now c.in-Some.name c.args.counts.now c.hold_name.new.counts c.in-Some.ensures c.hold_name.ensures

pub returns-in_default : goal.returns-in_default
returns-in_default c = none_done (λ names t. CanHold c.args.objects.now.slots names t) (λ names t u. Holds c.args.objects.now.slots names t u)
    (holding c.args.objects.now.slots) c.args.entry.now c.args.counts.now c.in_default.ensures
