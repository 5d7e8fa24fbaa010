use Rattle.hk_table.specs.Held.{CanRelease, Releases}
use Rattle.hk_table.proofs.Stepping.{releasing, one_can, one_done, none_done}
use Rattle.hk_table.proofs.counting.release_entry.Goals as goal

pub release_name-requires : goal.release_name-requires
release_name-requires c = one_can (λ names t. CanRelease c.args.objects.now.slots names t) (λ names t u. Releases c.args.objects.now.slots names t u)
    (releasing c.args.objects.now.slots) c.args.entry.now c.in-Some.name c.args.counts.now c.in-Some.ensures c.requires

pub returns-in-Some : goal.returns-in-Some
returns-in-Some c = one_done (λ names t. CanRelease c.args.objects.now.slots names t) (λ names t u. Releases c.args.objects.now.slots names t u)
    (releasing c.args.objects.now.slots) c.args.entry.now c.in-Some.name c.args.counts.now c.release_name.new.counts c.in-Some.ensures c.release_name.ensures

pub returns-in_default : goal.returns-in_default
returns-in_default c = none_done (λ names t. CanRelease c.args.objects.now.slots names t) (λ names t u. Releases c.args.objects.now.slots names t u)
    (releasing c.args.objects.now.slots) c.args.entry.now c.args.counts.now c.in_default.ensures
