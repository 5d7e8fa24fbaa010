use Rattle.std.proofs.Common.{◌≡◌, ◌-◌, length, arith}
use Rattle.hk_reclaim.proofs.per_slot.lengthen.Goals as goal

pub returns-clause-items : goal.returns-clause-items
returns-clause-items g c =
    let e : c.loop-next._next - length c.args.front.now.items ≡ c.args.to - length c.args.front.now.items = omega arith in
    rw (← e) c.loop-next.invariant.items
