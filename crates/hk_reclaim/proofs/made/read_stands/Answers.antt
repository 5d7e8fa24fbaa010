use Rattle.std.proofs.Common.{arith}
use Rattle.hk_reclaim.proofs.Leaving.{made_all}
use Rattle.hk_reclaim.proofs.made.read_stands.Goals as goal

pub returns-clause-stands : goal.returns-clause-stands
returns-clause-stands c =
    let i = c.loop-i.invariant in
    made_all c.args.first_new c.args.objects.now.slots c.loop-i.stands c.args.size i.size c.requires.room (λ k low. i.read k (omega arith))
