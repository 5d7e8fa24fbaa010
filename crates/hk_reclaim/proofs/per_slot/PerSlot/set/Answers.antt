use Rattle.std.proofs.Common.{◌<◌, ◌∙◌, ap, length, set, subst, sym}
use Rattle.hk_reclaim.proofs.Unrolling.{unrolled_written, unrolled_length}
use Rattle.hk_reclaim.proofs.per_slot.PerSlot.set.Goals as goal

pub returns : goal.returns
returns g c =
    let low : c.args.slot < c.self.inside.size = subst (λ n. c.args.slot < n)
    (unrolled_length c.self.inside.front.items c.self.inside.size c.self.inside.rest c.self.invariant.within)
    (subst (λ xs. c.args.slot < length xs) (sym c.self.view_is) c.requires) in
    unrolled_written c.self.inside.front.items c.lengthen.new.front.items c.self.inside.size c.args.slot c.self.inside.rest c.args.value low c.self.invariant.within
    c.lengthen.ensures.items
    ∙ ap (λ xs. set xs c.args.slot c.args.value) c.self.view_is
