use Rattle.hk_table.specs.Held.{CanReleaseInside, ReleasesInside}
use Rattle.hk_table.proofs.Stepping.{releasing_inside, one_can, one_done, none_done}
use Rattle.hk_table.proofs.counting.release_entry_inside.Goals as goal

pub release_name_inside-requires : goal.release_name_inside-requires
release_name_inside-requires c = one_can (λ names t. CanReleaseInside c.args.objects.now.slots names t) (λ names t u. ReleasesInside c.args.objects.now.slots names t u)
    (releasing_inside c.args.objects.now.slots) c.args.entry.now c.in-Some.name c.args.counts.now c.in-Some.ensures c.requires

pub returns-in-Some : goal.returns-in-Some
returns-in-Some c = one_done (λ names t. CanReleaseInside c.args.objects.now.slots names t) (λ names t u. ReleasesInside c.args.objects.now.slots names t u)
    (releasing_inside c.args.objects.now.slots) c.args.entry.now c.in-Some.name c.args.counts.now c.release_name_inside.new.counts c.in-Some.ensures c.release_name_inside.ensures

pub returns-in_default : goal.returns-in_default
returns-in_default c = none_done (λ names t. CanReleaseInside c.args.objects.now.slots names t) (λ names t u. ReleasesInside c.args.objects.now.slots names t u)
    (releasing_inside c.args.objects.now.slots) c.args.entry.now c.args.counts.now c.in_default.ensures
